-- The tests as the checker runs them, on the boxes as numbers, and what each says at its coefficients.
use mathlib.Core.Path.{◌≡◌, refl, sym, ap, subst, fun_ext}
use mathlib.Core.Bool.{Bool, true, false}
use Prim.Native.Nat.{ℕ, ◌+◌, ◌-◌, ◌≤◌, ◌<◌}
use native.Mathlib.Omega.{arith}
use borrow.Author.Tests.{ltb-true, ltb-false}
use lib.Dec.{T, ltb, lit<}
use Rattle.integers.proofs.Tested.{below_at}
use Rattle.tables.specs.Widths.{by_width, half_width}
use Rattle.tables.specs.Angles.{half_turn, reflected, below_zero, signed}
use Rattle.tables.specs.Boxes.{Box, negated}
use Rattle.tables.specs.BoxEnds.{lows, highs}
use Rattle.tables.specs.Numbers.{sines, half_tangents, half_tangents8, half_tangents32, half_tangents128, secants, secants8, secants32, secants128, cosine_of, sine_of, half_tangent_of, secant_of}
use Rattle.tables.proofs.BoxTable.{box_at, cosine-box-is}
use Rattle.tables.proofs.Quadrants.{reflected-le}
use Rattle.steps.specs.Places.{tab}
use Rattle.steps.specs.Limits.{reading_limit}
use Rattle.steps.specs.Steps.{root_log, tangent, sine, cosine, odd_of, secant}
use Rattle.steps.specs.RowForm.{RowTables, stage3_entry, row_tables_of}
use Rattle.distance.specs.Exact.{signed_box, any_cosine}
use Rattle.distance.specs.Statement.{shown, gain, rounding}
use Rattle.distance.proofs.Carried.{Limits, columns, sine_boxes, passes, all_from, tested}

unfoldable pub limits : ℕ → Limits
unfolding shown gain rounding
limits N = record { reading = reading_limit; distance = shown N; gain = gain N; rounding = rounding N }

-- the box of a cosine from the ends as numbers
unfoldable pub read_cosine : ℕ → Box
unfolding signed_box negated below_zero reflected half_turn box_at lows highs
read_cosine x = signed_box (below_zero 512 x) (box_at (reflected 512 x))

read-cosine : (x : ℕ) → read_cosine x ≡ any_cosine x
unfolding read_cosine any_cosine
read-cosine x = ap (signed_box (below_zero 512 x)) (sym (cosine-box-is (reflected 512 x) (reflected-le 512 x (lit< tt))))

-- the rows of a width, with every table open
unfoldable pub open_rows : ℕ → RowTables
unfolding row_tables_of half_width by_width root_log tab tangent sine cosine odd_of secant stage3_entry sines half_tangents half_tangents8 half_tangents32 half_tangents128 secants secants8 secants32 secants128 cosine_of sine_of half_tangent_of secant_of signed below_zero reflected half_turn
open_rows N = row_tables_of N

-- n coefficients from k on
unfoldable pub tested_at : ℕ → ℕ → ℕ → Bool
unfolding tested read_cosine limits open_rows
tested_at N n k = tested N (open_rows N) read_cosine (limits N) n k

-- coefficient k passes, and every coefficient from `from` below `to`
abbrev pub passes_at : ℕ → ℕ → Bool
passes_at N k = passes N (row_tables_of N) any_cosine (columns (row_tables_of N)) (sine_boxes N any_cosine) (limits N) k

abbrev pub Passes : ℕ → ℕ → ℕ → Type 0
Passes N from to = (k : ℕ) → from ≤ k → k < to → T (passes_at N k)

pub passed : (N n k : ℕ) → T (tested_at N n k) → Passes N k (k + n)
unfolding tested_at tested all_from open_rows
passed N n k t i a b =
    subst (λ j. T (passes_at N j)) (omega arith)
    (below_at n (λ j. passes_at N (k + j)) (subst (λ box. T (tested N (row_tables_of N) box (limits N) n k)) (fun_ext read-cosine) t) (i - k) (omega arith))

pub both : (N from middle to : ℕ) → Passes N from middle → Passes N middle to → Passes N from to
both N from middle to f g k a b = by (ltb k middle) refl
  where
    by : (t : Bool) → ltb k middle ≡ t → T (passes_at N k)
    by true e = f k a (ltb-true k middle e)
    by false e = g k (ltb-false k middle e) b
