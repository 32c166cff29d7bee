use Rattle.std.proofs.Common.{◌≡◌, ◌*◌, ◌^◌, take, pos, neg_ℤ, ◌≤ℤ◌}
use Rattle.integers.specs.Vectors.{sum_of}
use Rattle.slices.proofs.vectors.sum.Given as goal

abbrev pub invariant-loop-n : goal.invariant-loop-n
invariant-loop-n l =
    (l.total ≡ sum_of (take l.n l.x)) × (neg_ℤ (pos (2 ^ 31 * l.n)) ≤ℤ l.total) × (l.total ≤ℤ pos (2 ^ 31 * l.n))
