-- The lines of the sums on the page.
use mathlib.Core.Path.{◌≡◌, refl, sym, ap, ◌∙◌}
use mathlib.Core.List.{List, [], ◌∷◌, ◌++◌, append_assoc}
use Prim.Native.Nat.{ℕ, zero, suc, ◌+◌, ◌<◌}
use native.Mathlib.Omega.{arith}
use lib.IntN.{ℤ, pos, negsuc, nat_abs}
use lib.ListN.{length, drop, length-append}
use Rattle.integers.specs.Places.{at}
use Rattle.text_runs.specs.Decimal.{decimal, printed}
use Rattle.text_runs.specs.Lines.{comma, line_feed}
use Rattle.reels.specs.Page.{sum_line, sum_lines}
use Rattle.reels.specs.Limits.{SumWithin}

-- a line as the code puts it
abbrev pub sum_digits : ℕ → ℕ → List ℕ
sum_digits k n = decimal k ++ (comma ∷ (decimal n ++ line_feed ∷ []))

pub sum-line-is : (f k : ℕ) (s : ℤ) → SumWithin f s → sum_digits k (nat_abs s) ≡ sum_line k s
unfolding SumWithin sum_line printed
sum-line-is f k (pos n) w = sym (append_assoc (decimal k) (comma ∷ decimal n) (line_feed ∷ []))
sum-line-is f k (negsuc n) w = absurd w

pub sum-line-long : (f k : ℕ) (s : ℤ) → SumWithin f s → length (sum_line k s) ≡ length (decimal k) + (length (decimal (nat_abs s)) + 2)
sum-line-long f k s w =
    ap length (sym (sum-line-is f k s w))
    ∙ omega (arith, length-append (decimal k) (comma ∷ (decimal (nat_abs s) ++ line_feed ∷ [])), length-append (decimal (nat_abs s)) (line_feed ∷ []))

-- the lines of the sums from place i on
pub lines_next : (sums : List ℤ) (k i : ℕ) → i < length sums → sum_lines k (drop i sums) ≡ sum_line k (at sums i) ++ sum_lines (suc k) (drop (suc i) sums)
unfolding sum_lines
lines_next [] k i h = absurd (omega arith)
lines_next (s ∷ sums) k zero h = refl
lines_next (s ∷ sums) k (suc i) h = lines_next sums k i (omega arith)

pub lines_none : (sums : List ℤ) (k i : ℕ) → i ≡ length sums → sum_lines k (drop i sums) ≡ []
unfolding sum_lines
lines_none [] k zero e = refl
lines_none [] k (suc i) e = refl
lines_none (s ∷ sums) k zero e = absurd (omega arith)
lines_none (s ∷ sums) k (suc i) e = lines_none sums k i (omega arith)
