-- The answer of all calls is that of the calls left.
use Rattle.std.proofs.Common.{ℕ, ◌-◌, ◌*◌, ◌/◌, List, ◌++◌, ℤ, length}
use Rattle.runs.specs.Record.{zeros}
use Rattle.runs.specs.WholeBack.{first_answer}
use Rattle.asking_back.proofs.Undoing.{AnswerLeft}
use Rattle.asking_back.proofs.asking.answer_of.Given as goal

-- an output of no concern: only its length is asked
abbrev pub outs : ℕ → List ℤ → List ℤ
outs width frames = zeros width ++ zeros (length frames - width)

abbrev pub invariant-loop-count : goal.invariant-loop-count
invariant-loop-count l =
    AnswerLeft (first_answer l.width l.frames (zeros (length l.frames - l.width))) l.width (l.count * l.width) l.count (length l.frames / l.width - l.count) l.frames (outs l.width l.frames) l.held
