use Rattle.std.proofs.Common.{◌∙◌, arith, sym}
use Rattle.tables.proofs.Quadrants.{half-near, half-past}
use Rattle.constants.proofs.angles.half_turn.Goals as goal

pub returns-then-part-quarter : goal.returns-then-part-quarter
returns-then-part-quarter c = c.within_turn-part.ensures ∙ sym (half-near c.args.quarter c.args.angle (omega arith))

pub returns-else-part-quarter : goal.returns-else-part-quarter
returns-else-part-quarter c =
    rw c.within_turn-part.ensures (sym (half-past c.args.quarter c.args.angle (omega arith)))
