-- The sizes of the table numbers.
use mathlib.Core.Bool.{Bool, true, false, cond}
use mathlib.Core.List.{[]}
use Prim.Native.Nat.{ℕ, ◌-◌, ◌/◌, ◌%◌, ◌≤◌, ◌^◌, zero-le}
use lib.Dec.{eqb}
use lib.IntN.{ℤ, nat_abs}
use lib.ListN.{get_or}
use Rattle.integers.proofs.Tested.{every-le}
use Rattle.tables.specs.Widths.{half_width}
use Rattle.tables.specs.Angles.{reflected, below_zero}
use Rattle.tables.specs.Numbers.{sines, half_tangents, half_tangents8, half_tangents32, half_tangents128, secants, secants8, secants32, secants128, cosine_of, secant_of}
use Rattle.tables.proofs.ByWidth.{at_each}
use Rattle.tables.proofs.Quadrants.{signed-size}

pub sines-le : (j : ℕ) → get_or sines j 0 ≤ 2 ^ 28
unfolding sines
sines-le = every-le (2 ^ 28) sines tt

pub half-tangents-le : (n m : ℕ) → get_or (half_tangents n) m 0 ≤ 2 ^ 27
unfolding half_tangents half_tangents8 half_tangents32 half_tangents128
half-tangents-le =
    at_each (λ n xs. (m : ℕ) → get_or xs m 0 ≤ 2 ^ 27) half_tangents8 half_tangents32 half_tangents128 []
    (every-le (2 ^ 27) half_tangents8 tt) (every-le (2 ^ 27) half_tangents32 tt) (every-le (2 ^ 27) half_tangents128 tt) (λ n x y z m. zero-le)

pub secants-le : (n i : ℕ) → get_or (secants n) i 0 ≤ 11000000000
unfolding secants secants8 secants32 secants128
secants-le =
    at_each (λ n xs. (i : ℕ) → get_or xs i 0 ≤ 11000000000) secants8 secants32 secants128 []
    (every-le (11000000000) secants8 tt) (every-le (11000000000) secants32 tt) (every-le (11000000000) secants128 tt) (λ n x y z i. zero-le)

pub cosine-size : (j : ℕ) → nat_abs (cosine_of j) ≤ 2 ^ 28
unfolding cosine_of
cosine-size j = rw (signed-size (below_zero 256 j) _) (sines-le (256 - reflected 256 j))

pub secant-size : (n : ℕ) (r : ℤ) → nat_abs (secant_of n r) ≤ 11000000000
unfolding secant_of
secant-size n r =
    let k = reflected (half_width n) (nat_abs r) in
    rw (signed-size (below_zero (half_width n) (nat_abs r)) _) (by (eqb (k % 2) 1) (k / 2))
  where
    by : (b : Bool) (i : ℕ) → cond b (get_or (secants n) i 0) 0 ≤ 11000000000
    by true i = secants-le n i
    by false i = zero-le
