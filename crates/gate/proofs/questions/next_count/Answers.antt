use Rattle.std.proofs.Common.{arith}
use Rattle.runs.proofs.Refusals.{count_kept, count-raised}
use Rattle.gate.proofs.AskedLaws.{done-is, refusal_is}
use Rattle.gate.proofs.questions.next_count.Goals as goal

pub overflow_add-result : goal.overflow_add-result
overflow_add-result c = record { fits = omega (arith, c.requires (done-is c.in-Ok.is)) }

pub returns-in-Ok : goal.returns-in-Ok
returns-in-Ok c = count-raised _ _ (done-is c.in-Ok.is)

pub returns-in-Err : goal.returns-in-Err
returns-in-Err c = count_kept _ _ (refusal_is c.in-Err.is)
