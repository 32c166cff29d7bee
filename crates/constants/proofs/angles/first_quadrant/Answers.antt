use Rattle.std.proofs.Common.{◌-◌, ◌*◌, ◌∙◌, arith, sym, ap}
use Rattle.tables.proofs.Quadrants.{half_le, quadrant-near, quadrant-past}
use Rattle.constants.proofs.angles.first_quadrant.Goals as goal

pub overflow_sub-result : goal.overflow_sub-result
overflow_sub-result c = omega (arith, half_le c.args.quarter c.args.angle, c.half_turn-half.ensures)

pub returns-then-half-quarter : goal.returns-then-half-quarter
returns-then-half-quarter c =
    let f = quadrant-near c.args.quarter c.args.angle (omega arith) in
    (c.half_turn-half.ensures ∙ sym f.0, sym f.1)

pub returns-else-half-quarter : goal.returns-else-half-quarter
returns-else-half-quarter c =
    let f = quadrant-past c.args.quarter c.args.angle (omega arith) in
    (ap (λ h. 2 * c.args.quarter - h) c.half_turn-half.ensures ∙ sym f.0, sym f.1)
