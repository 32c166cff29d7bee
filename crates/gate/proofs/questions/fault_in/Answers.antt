use Rattle.std.proofs.Common.{sym}
use Rattle.gate.proofs.BlockLaws.{dead-found, beyond-found, none_found}
use Rattle.gate.proofs.questions.fault_in.Goals as goal

pub returns-in-Some : goal.returns-in-Some
returns-in-Some c = dead-found _ _ (sym c.in-Some.ensures)

pub returns-in-Some-first_beyond : goal.returns-in-Some-first_beyond
returns-in-Some-first_beyond c = beyond-found _ (sym c.in_default.ensures) _ (sym c.in-Some-first_beyond.ensures)

pub returns : goal.returns
returns c = none_found _ (sym c.in_default.ensures) (sym c.in_default-first_beyond.ensures)
