-- The first held value that is not zero, its place counted through the run.
use Rattle.std.proofs.Common.{pos, arith, sym, ap}
use Rattle.runs.specs.Answers.{told}
use Rattle.runs.proofs.Searches.{beyond-at}
use Rattle.asking_back.specs.Own.Ready.{told_held}
use Rattle.asking_back.proofs.asking.finish_answer.Goals as goal

pub overflow_add-result : goal.overflow_add-result
overflow_add-result c = record { fits = omega (arith, c.requires.0, c.requires.1, beyond-at (pos 0) c.args.held.now _ (sym c.in-Some.ensures)) }

pub returns-in-Some : goal.returns-in-Some
unfolding told told_held
returns-in-Some c = ap (told_held c.args.offset) c.in-Some.ensures

pub returns-in-None : goal.returns-in-None
unfolding told told_held
returns-in-None c = ap (told_held c.args.offset) c.in-None.ensures
