use Rattle.std.proofs.Common.{◌≤◌}
use Rattle.gate.proofs.GateLaws.{Counted}
use Rattle.gate.proofs.questions.in_range.Given as goal

abbrev pub invariant-loop-v : goal.invariant-loop-v
invariant-loop-v l = (l.out ≤ l.v-index) × Counted l.limit l.x l.v-index l.out
