-- An answer's number is small.
use Rattle.std.proofs.Common.{arith}
use Rattle.valves.proofs.AnswerLaws.{told-small}
use Rattle.lapped.proofs.valve.tell.Goals as goal

pub overflow_cast-result : goal.overflow_cast-result
overflow_cast-result c = record { fits = omega (arith, c.number.ensures, told-small c.args.answer) }
