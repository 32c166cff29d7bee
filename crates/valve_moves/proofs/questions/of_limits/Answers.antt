-- A record within its limits has its position in the travel.
use Rattle.std.proofs.Common.{sym, ◌∙◌}
use Rattle.valve_moves.proofs.QuestionLaws.{limits-travel}
use Rattle.valve_moves.proofs.questions.of_limits.Goals as goal

pub move_fits-requires : goal.move_fits-requires
move_fits-requires c = limits-travel _ (sym c.in_limits.ensures ∙ c.if-in_limits.true)
