use Rattle.std.proofs.Common.{◌≡◌, drop}
use Rattle.runs.specs.Answers.{first_beyond}
use Rattle.gate.proofs.questions.first_beyond.Given as goal

abbrev pub invariant-loop-i : goal.invariant-loop-i
invariant-loop-i l = first_beyond l.limit l.x 0 ≡ first_beyond l.limit (drop l.i l.x) l.i
