-- The sums of a row of secants and of a row of cosines: only by them does the way back at width 128 fit a word.
use mathlib.Core.Bool.{Bool}
use Prim.Native.Nat.{ℕ, ◌*◌, ◌^◌, ◌≤◌, ◌<◌}
use lib.Dec.{T, leb, leb→le}
use Rattle.integers.specs.Vectors.{sum_abs}
use Rattle.tables.specs.Widths.{by_width, half_width}
use Rattle.tables.specs.Angles.{half_turn, reflected, below_zero, signed}
use Rattle.tables.specs.Numbers.{sines, secants, secants8, secants32, secants128, cosine_of, secant_of}
use Rattle.tables.proofs.ByWidth.{at_each}
use Rattle.steps.specs.Places.{tab}
use Rattle.steps.specs.Steps.{cosine, odd_of, secant}
use Rattle.integers.specs.Tests.{every_below}
use Rattle.integers.proofs.Tested.{below_at}

abbrev fits : ℕ → ℕ → ℕ → Bool
fits N M m = leb (sum_abs (tab (secant N m) M 0)) (4 * M * 2 ^ 28)

fit : (N : ℕ) → T (every_below (half_width N) (fits N (half_width N)))
unfolding half_width by_width secant odd_of secant_of secants secants8 secants32 secants128 half_turn reflected below_zero signed tab
fit = at_each (λ N M. T (every_below M (fits N M))) 4 16 64 0 tt tt tt (λ N x y z. tt)

pub secant-row : (N m : ℕ) → m < half_width N → sum_abs (tab (secant N m) (half_width N) 0) ≤ 4 * half_width N * 2 ^ 28
secant-row N m h = leb→le _ _ (below_at (half_width N) (fits N (half_width N)) (fit N) m h)

abbrev cosines-fit : ℕ → ℕ → ℕ → Bool
cosines-fit N M m = leb (sum_abs (tab (cosine N m) M 0)) (11 * M * 2 ^ 24)

cosine-fit : (N : ℕ) → T (every_below (half_width N) (cosines-fit N (half_width N)))
unfolding half_width by_width cosine cosine_of sines half_turn reflected below_zero signed tab
cosine-fit = at_each (λ N M. T (every_below M (cosines-fit N M))) 4 16 64 0 tt tt tt (λ N x y z. tt)

pub cosine-row : (N m : ℕ) → m < half_width N → sum_abs (tab (cosine N m) (half_width N) 0) ≤ 11 * half_width N * 2 ^ 24
cosine-row N m h = leb→le _ _ (below_at (half_width N) (cosines-fit N (half_width N)) (cosine-fit N) m h)
