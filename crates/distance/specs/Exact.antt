-- The exact coefficient k, boxed: document 01, "The exact coefficient k". N is the width, M is N/2. No table of 2^28 is read here.
use Rattle.std.specs.Prelude.{Bool, true, false, cond, List, ◌++◌, ℕ, ◌+◌, ◌*◌, ◌/◌, ◌^◌, ℤ, neg_ℤ, ◌*ℤ◌}
use Rattle.std.specs.Int.Signed.{le_z}
use Rattle.tables.specs.Widths.{by_width}
use Rattle.tables.specs.Angles.{reflected, below_zero}
use Rattle.tables.specs.Boxes.{Box, negated, cosine_box}
use Rattle.steps.specs.Places.{at, sum}

-- ---- The box of the cosine at any multiple x of π/1024, of which the right angle has 512: the box in the first quadrant, with its ends negated
-- and exchanged where the cosine is below zero.
unfoldable pub signed_box : Bool → Box → Box
signed_box true b = negated b
signed_box false b = b

unfoldable pub any_cosine : ℕ → Box
any_cosine x = signed_box (below_zero 512 x) (cosine_box (reflected 512 x))

-- a sine is the cosine a right angle before, which is the cosine three quarters of a turn on
unfoldable pub any_sine : ℕ → Box
any_sine x = any_cosine (x + 1536)

-- ---- Coefficient k is −Σ x(n)·sin((2n+1)π/(4N))·cos((2n+1+N)(2k+1)π/(4N))/√M, where x is the block before and this block, 2N readings.
-- These are the two angles, in multiples of π/1024: π/(4N) is 256/N of them.
unfoldable pub sine_angle : ℕ → ℕ → ℕ
sine_angle N n = (2 * n + 1) * (256 / N)

unfoldable pub cosine_angle : ℕ → ℕ → ℕ → ℕ
cosine_angle N k n = (2 * n + 1 + N) * (2 * k + 1) * (256 / N)

-- One end of a term x·s·c: over both ends of s and both of c the least of the four products, or the greatest; `pick` says which.
unfoldable pub lesser : ℤ → ℤ → ℤ
lesser a b = cond (le_z a b) a b

unfoldable pub greater : ℤ → ℤ → ℤ
greater a b = cond (le_z a b) b a

unfoldable pub term : (ℤ → ℤ → ℤ) → ℤ → Box → Box → ℤ
term pick x s c =
    pick
    (pick (x *ℤ s.low *ℤ c.low) (x *ℤ s.low *ℤ c.high))
    (pick (x *ℤ s.high *ℤ c.low) (x *ℤ s.high *ℤ c.high))

unfoldable pub total : (ℤ → ℤ → ℤ) → ℕ → ℕ → List ℤ → List ℤ → ℤ
total pick N k previous current = sum (2 * N) (λ n. term pick (at (previous ++ current) n) (any_sine (sine_angle N n)) (any_cosine (cosine_angle N k n)))

-- the sum is negated, so the greatest sum gives the least coefficient, and the least sum the greatest one
unfoldable pub least : ℕ → ℕ → List ℤ → List ℤ → ℤ
least N k previous current = neg_ℤ (total greater N k previous current)

unfoldable pub greatest : ℕ → ℕ → List ℤ → List ℤ → ℤ
greatest N k previous current = neg_ℤ (total lesser N k previous current)

-- √M is 2, 4 or 8; both ends are numerators over 2^120·√M, since a sine and a cosine are each at scale 2^60
unfoldable pub root_m : ℕ → ℕ
root_m = by_width 2 4 8 0

unfoldable pub denominator : ℕ → ℕ
denominator N = 2 ^ 120 * root_m N
