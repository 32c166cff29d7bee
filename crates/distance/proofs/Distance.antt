-- From the tests to the statements, over the width as a letter.
use mathlib.Core.Path.{◌≡◌, sym, ◌∙◌, ap}
use mathlib.Core.Bool.{Bool}
use mathlib.Core.List.{List, ◌++◌}
use Prim.Native.Nat.{ℕ, ◌+◌, ◌*◌, ◌≤◌, ◌<◌}
use native.Mathlib.Omega.{arith}
use native.Mathlib.Nat.{mul-le-mul_right}
use lib.Dec.{T, lit≤}
use lib.ListN.{length, length-append}
use lib.IntN.{ℤ, nat_abs}
use Rattle.integers.specs.Vectors.{AllAbs}
use Rattle.integers.proofs.Products.{all_append, all-mono}
use Rattle.integers.proofs.Tested.{and_left, and_right}
use Rattle.tables.specs.Widths.{by_width, half_width}
use Rattle.tables.proofs.ByWidth.{at_each}
use Rattle.steps.specs.Places.{at}
use Rattle.steps.specs.Limits.{reading_limit, rotated_limit, coefficient_limit}
use Rattle.steps.specs.Steps.{lower, held, stages, frame}
use Rattle.steps.specs.RowForm.{weave, row_tables_of, row_held, row_frame}
use Rattle.steps.proofs.Rotation.{lower-size, held-size}
use Rattle.steps.proofs.Lengths.{length-lower, length-held, width-half}
use Rattle.steps.proofs.RowLengths.{good, M-of}
use Rattle.steps.proofs.RowForms.{held_rows, stages-rows, frame-rows}
use Rattle.distance.specs.Exact.{any_sine, any_cosine, lesser, greater, total, least, greatest, root_m, denominator}
use Rattle.distance.specs.Statement.{IsWidth, Block, coefficient, Near, DistanceAt, promised, Promised, shown, Shown, requested, Requested, gain, rounding, SizesAt, Sizes, FoldedInRange, FrameSizes}
use Rattle.distance.proofs.Carried.{Row, row_of, columns, current_row, previous_row, near_by, sized_by, sine_boxes, cosine_boxes, passes}
use Rattle.distance.proofs.Ends.{picks-greater, picks-lesser}
use Rattle.distance.proofs.Sound.{size-sound, end-sound}
use Rattle.distance.proofs.Runs.{limits, passes_at, Passes}

-- ---- at one width
module _ (N : ℕ) (twice : half_width N + half_width N ≡ N) where
  twice-rows : (row_tables_of N).M + (row_tables_of N).M ≡ N
  twice-rows = ap (λ m. m + m) (M-of N) ∙ twice

  module _ (k : ℕ) where
    -- the two parts of the test
    abbrev row : Row
    row = row_of (row_tables_of N) (columns (row_tables_of N)) k

    abbrev folded : List ℤ
    folded = weave row.a row.b

    abbrev near_test : Bool
    near_test = near_by (denominator N) (sine_boxes N any_cosine) (cosine_boxes N any_cosine k) (limits N) row (current_row (row_tables_of N) folded) (previous_row (row_tables_of N) folded)

    abbrev size_test : Bool
    size_test = sized_by (limits N) row folded

    near-part : T (passes_at N k) → T near_test
    unfolding passes
    near-part t = and_left near_test size_test t

    size-part : T (passes_at N k) → T size_test
    unfolding passes
    size-part t = and_right near_test size_test t

    near-at : T (passes_at N k) → (previous current : List ℤ) → Block N reading_limit previous → Block N reading_limit current → Near (shown N) N previous current k (coefficient N previous current k)
    unfolding least greatest total any_sine coefficient limits
    near-at t previous current p c =
        let w = row_tables_of N in
        let ends = end-sound w (good N) k previous current (p.long ∙ sym twice-rows) (c.long ∙ sym twice-rows) N twice-rows any_cosine (limits N) p.within c.within in
        let rows = frame-rows N twice (held N previous) current (length-held N previous) c.long ∙ ap (λ h. row_frame w h current) (held_rows N twice previous p.long) in
        let same : at (row_frame w (row_held w previous) current) k ≡ at (frame N (held N previous) current) k = ap (λ f. at f k) (sym rows) in
        record {
          least-near = rw same at (ends greater picks-greater (near-part t));
          greatest-near = rw same at (ends lesser picks-lesser (near-part t));
        }

    size-at : T (passes_at N k) → (B : ℕ) (f : List ℤ) → length f ≡ N → AllAbs B f → 100 * nat_abs (at (stages N f) k) ≤ gain N * B + 100 * rounding N
    unfolding limits
    size-at t B f l b = rw (stages-rows N twice f l) (size-sound (row_tables_of N) (good N) k (limits N) (size-part t) B f (l ∙ sym twice-rows) b)

  pub distance-at : Passes N 0 N → DistanceAt N reading_limit (shown N)
  distance-at t previous current p c k h = near-at k (t k (omega arith) h) previous current p c

  pub sizes-at : Passes N 0 N → SizesAt N (gain N) (rounding N)
  sizes-at t B f l b k h = size-at k (t k (omega arith) h) B f l b

-- ---- at every width
pub every-width : (P : ℕ → Type 0) → P 8 → P 32 → P 128 → (N : ℕ) → IsWidth N → P N
unfolding half_width
every-width P a b c = at_each (λ n M. 0 < M → P n) 4 16 64 0 (λ h. a) (λ h. b) (λ h. c) (λ n x y z h. absurd (omega arith))

shown-promised : (N : ℕ) → IsWidth N → shown N ≤ promised N
unfolding shown promised root_m by_width
shown-promised = every-width (λ n. shown n ≤ promised n) (lit≤ tt) (lit≤ tt) (lit≤ tt)

shown-requested : (N : ℕ) → IsWidth N → shown N ≤ requested N
unfolding shown requested by_width
shown-requested = every-width (λ n. shown n ≤ requested n) (lit≤ tt) (lit≤ tt) (lit≤ tt)

frame-fits : (N : ℕ) → IsWidth N → gain N * rotated_limit + 100 * rounding N ≤ 100 * coefficient_limit
unfolding gain rounding by_width
frame-fits = every-width (λ n. gain n * rotated_limit + 100 * rounding n ≤ 100 * coefficient_limit) (lit≤ tt) (lit≤ tt) (lit≤ tt)

-- a longer distance, and readings in a narrower range
weaker : {d e N k : ℕ} {previous current : List ℤ} {c : ℤ} → d ≤ e → Near d N previous current k c → Near e N previous current k c
weaker {N} l n =
    let m = mul-le-mul_right (denominator N) l in
    record { least-near = omega (arith, n.least-near); greatest-near = omega (arith, n.greatest-near) }

wider : {N R S : ℕ} {x : List ℤ} → R ≤ S → Block N R x → Block N S x
wider {x} l b = record { long = b.long; within = all-mono x l b.within }

pub folded-values : FoldedInRange
folded-values N i previous current p c = all_append rotated_limit (lower N current) (held N previous) (lower-size N current c.within) (held-size N previous p.within)

module _ (passes-all : (N : ℕ) → IsWidth N → Passes N 0 N) where
  pub shown_of : Shown
  shown_of N i = distance-at N (width-half N i) (passes-all N i)

  pub promised-of : Promised
  promised-of N i previous current p c k h = weaker (shown-promised N i) (shown_of N i previous current p c k h)

  pub requested-of : Requested
  requested-of N i previous current p c k h = weaker (shown-requested N i) (shown_of N i previous current (wider (lit≤ tt) p) (wider (lit≤ tt) c) k h)

  pub sizes-of : Sizes
  sizes-of N i = sizes-at N (width-half N i) (passes-all N i)

  pub frame-sizes-of : FrameSizes
  unfolding coefficient frame
  frame-sizes-of N i previous current p c k h =
      let F = lower N current ++ held N previous in
      let l : length F ≡ N = omega (arith, length-append (lower N current) (held N previous), length-lower N current, length-held N previous, width-half N i) in
      omega (arith, sizes-of N i rotated_limit F l (folded-values N i previous current p c) k h, frame-fits N i)
