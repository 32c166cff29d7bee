use Rattle.std.proofs.Common.{◌≡◌, ℕ, ◌<◌, pos}
use Rattle.integers.specs.Places.{at}
use Rattle.gate.proofs.questions.clear.Given as goal

abbrev pub invariant-loop-v : goal.invariant-loop-v
invariant-loop-v l = (l.any ≡ pos 0 → (k : ℕ) → k < l.v-index → at l.x k ≡ pos 0) × (((k : ℕ) → at l.x k ≡ pos 0) → l.any ≡ pos 0)
