use Rattle.std.proofs.Common.{◌≡◌, drop}
use Rattle.runs.specs.Gate.{first_dead}
use Rattle.gate.proofs.questions.first_dead.Given as goal

abbrev pub invariant-loop-i : goal.invariant-loop-i
invariant-loop-i l = first_dead l.x 0 ≡ first_dead (drop l.i l.x) l.i
