-- What is shown of one frame, over the width N as a letter. The crate distance_theorems proves it (proofs/Theorems).
use Rattle.std.specs.Prelude.{◌≡◌, List, ◌++◌, ℕ, ◌+◌, ◌*◌, ◌≤◌, ◌<◌, ℤ, pos, nat_abs, ◌-ℤ◌, ◌*ℤ◌, length}
use Rattle.integers.specs.Vectors.{AllAbs}
use Rattle.tables.specs.Widths.{by_width, half_width}
use Rattle.steps.specs.Places.{at}
use Rattle.steps.specs.Limits.{reading_limit, rotated_limit, coefficient_limit}
use Rattle.steps.specs.Steps.{lower, held, stages, frame}
use Rattle.distance.specs.Exact.{least, greatest, root_m, denominator}

-- N is 8, 32 or 128: the half width of any other number is 0
abbrev pub IsWidth : ℕ → Type 0
IsWidth N = 0 < half_width N

-- N readings, each within R
pub record Block (N R : ℕ) (x : List ℤ) : Type 0 where
  pub long : length x ≡ N
  pub within : AllAbs R x

-- coefficient k of the frame that the steps make of the block before and this one
unfoldable pub coefficient : ℕ → List ℤ → List ℤ → ℕ → ℤ
coefficient N previous current k = at (frame N (held N previous) current) k

-- both ends of the exact coefficient k lie within d of the number c
pub record Near (d N : ℕ) (previous current : List ℤ) (k : ℕ) (c : ℤ) : Type 0 where
  pub least-near : nat_abs (pos (denominator N) *ℤ c -ℤ least N k previous current) ≤ d * denominator N
  pub greatest-near : nat_abs (pos (denominator N) *ℤ c -ℤ greatest N k previous current) ≤ d * denominator N

-- for every two blocks of readings within R: a block of zeros is one, before the first and after the last (proofs/ZeroBlock)
abbrev pub DistanceAt : ℕ → ℕ → ℕ → Type 0
DistanceAt N R d = (previous current : List ℤ) → Block N R previous → Block N R current → (k : ℕ) → k < N → Near d N previous current k (coefficient N previous current k)

abbrev pub Distance : ℕ → (ℕ → ℕ) → Type 0
Distance R d = (N : ℕ) → IsWidth N → DistanceAt N R (d N)

-- ---- 1. The distance that the paper asks for (section "The exact coefficient k"): 5√M + 2.
unfoldable pub promised : ℕ → ℕ
promised N = 5 * root_m N + 2

abbrev pub Promised : Type 0
Promised = Distance reading_limit promised

-- ---- 2. The least whole numbers for which the same test passes; and what change request 14 asks of readings within ±32,766.
unfoldable pub shown : ℕ → ℕ
shown = by_width 7 11 20 0

abbrev pub Shown : Type 0
Shown = Distance reading_limit shown

unfoldable pub requested : ℕ → ℕ
requested = by_width 10 18 34 0

abbrev pub Requested : Type 0
Requested = Distance 32766 requested

-- ---- 3. The size of a frame: folded values within B give coefficients within G-as-B + E, with G in hundredths.
unfoldable pub gain : ℕ → ℕ
gain = by_width 256 510 1019 0

unfoldable pub rounding : ℕ → ℕ
rounding = by_width 4 7 11 0

abbrev pub SizesAt : ℕ → ℕ → ℕ → Type 0
SizesAt N G E = (B : ℕ) (f : List ℤ) → length f ≡ N → AllAbs B f → (k : ℕ) → k < N → 100 * nat_abs (at (stages N f) k) ≤ G * B + 100 * E

abbrev pub Sizes : Type 0
Sizes = (N : ℕ) → IsWidth N → SizesAt N (gain N) (rounding N)

-- readings in range fold to values within 46,342
abbrev pub FoldedInRange : Type 0
FoldedInRange =
    (N : ℕ) → IsWidth N → (previous current : List ℤ) → Block N reading_limit previous → Block N reading_limit current
    → AllAbs rotated_limit (lower N current ++ held N previous)

-- and their frame is one that question 9 of the gate lets pass on the way back
abbrev pub FrameSizes : Type 0
FrameSizes =
    (N : ℕ) → IsWidth N → (previous current : List ℤ) → Block N reading_limit previous → Block N reading_limit current
    → (k : ℕ) → k < N → nat_abs (coefficient N previous current k) ≤ coefficient_limit
