-- One coefficient as a row, carried backwards through the steps with exact whole numbers; and the tests that the checker computes of it.
use mathlib.Core.Bool.{Bool, ◌&&◌}
use mathlib.Core.List.{List, [], ◌∷◌, ◌++◌}
use Prim.Native.Nat.{ℕ, max, ◌+◌, ◌-◌, ◌*◌, ◌^◌}
use lib.Dec.{leb}
use lib.IntN.{ℤ, pos, nat_abs, ◌+ℤ◌, ◌*ℤ◌}
use lib.ListN.{take, drop}
use Rattle.integers.specs.Vectors.{plus, scalar_mul, sum_abs}
use Rattle.integers.specs.Tests.{every_below}
use Rattle.tables.specs.Boxes.{Box}
use Rattle.steps.specs.Places.{tab}
use Rattle.steps.specs.RowForm.{rev, onto, times, negated_row, alt, weave, RowTables}
use Rattle.distance.specs.Exact.{sine_angle, cosine_angle, denominator, root_m}
use Rattle.distance.proofs.Transposed.{unit, zeros}
use Rattle.distance.proofs.Columns.{cols, mul_parts, mul_sparse}

-- | p · coefficient − (a · x + b · y) | ≤ e, for the state (x, y)
pub record Row : Type 0 where
  pub a : List ℤ
  pub b : List ℤ
  pub p : ℕ
  pub e : ℕ

-- ---- before a step that adds to the second list the rounded amounts z / 2^k of the first, where b · z is gs · x
unfoldable pub down_b : ℕ → List ℤ → Row → Row
down_b k gs r = record { a = plus (scalar_mul (pos (2 ^ k)) r.a) gs; b = scalar_mul (pos (2 ^ k)) r.b; p = 2 ^ k * r.p; e = 2 ^ k * r.e + 2 ^ (k - 1) * sum_abs r.b }

-- the first list by the second
unfoldable pub down_a : ℕ → List ℤ → Row → Row
down_a k gs r = record { a = scalar_mul (pos (2 ^ k)) r.a; b = plus (scalar_mul (pos (2 ^ k)) r.b) gs; p = 2 ^ k * r.p; e = 2 ^ k * r.e + 2 ^ (k - 1) * sum_abs r.a }

-- ---- before the lifts of the rotation
unfoldable pub row_b : RowTables → Row → Row
unfolding down_b times
row_b w r = down_b 28 (times w.tan r.b) r

unfoldable pub row_a : RowTables → Row → Row
unfolding down_a times
row_a w r = down_a 28 (times w.sin r.a) r

unfoldable pub row_rot : RowTables → Row → Row
unfolding row_a row_b
row_rot w r = row_b w (row_a w (row_b w r))

-- ---- the frame's place k, on the top and the bottom reversed
unfoldable pub row_at : RowTables → ℕ → Row
unfolding unit rev onto
row_at w k = let u = unit (w.M + w.M) k in record { a = take w.M u; b = rev (drop w.M u); p = 1; e = 0 }

unfoldable pub turned : Row → Row
unfolding rev onto
turned r = record { a = r.a; b = rev r.b; p = r.p; e = r.e }

-- ---- before the stages; ct is the columns of C. Behind stages 4 and 5 the row has one place that is not 0.
unfoldable pub row3 : RowTables → Row → Row
unfolding down_b mul_sparse
row3 w r = down_b (28 + 2 * w.l) (mul_sparse w.M r.b w.a3) r

unfoldable pub signed : Row → Row
unfolding alt negated_row
signed r = record { a = negated_row (alt r.a); b = r.b; p = r.p; e = r.e }

unfoldable pub row2 : RowTables → List (List ℤ) → Row → Row
unfolding down_a signed mul_parts
row2 w ct r = signed (down_a (28 + w.l) (mul_parts ct r.a) r)

unfoldable pub added : Row → Row
added r = record { a = plus r.a r.b; b = r.b; p = r.p; e = r.e }

unfoldable pub row1 : RowTables → List (List ℤ) → Row → Row
unfolding down_b added alt mul_parts
row1 w ct r = added (down_b (27 + w.l) (alt (mul_parts ct r.b)) r)

-- on the even and the odd folded places
unfoldable pub row_of : RowTables → List (List ℤ) → ℕ → Row
unfolding row_at row_b row_a turned row3 row2 row1
row_of w ct k = row1 w ct (row2 w ct (row3 w (turned (row_a w (row_b w (row_at w k))))))

unfoldable pub columns : RowTables → List (List ℤ)
unfolding cols
columns w = cols w.M w.cs

-- ---- before the fold: a row f on the folded places is one on this block's a and one on the b of the block before
unfoldable pub low_row : RowTables → List ℤ → Row
unfolding rev onto
low_row w f = record { a = rev (take w.M f); b = zeros w.M; p = 1; e = 0 }

unfoldable pub high_row : RowTables → List ℤ → Row
high_row w f = record { a = zeros w.M; b = drop w.M f; p = 1; e = 0 }

unfoldable pub current_row : RowTables → List ℤ → Row
unfolding row_rot low_row
current_row w f = row_rot w (low_row w f)

unfoldable pub previous_row : RowTables → List ℤ → Row
unfolding row_rot high_row
previous_row w f = row_rot w (high_row w f)

unfoldable pub flat : Row → List ℤ
unfolding rev onto
flat r = r.a ++ rev r.b

-- ---- an entry against the four products of the ends, at the scales q and p
unfoldable pub far : ℤ → ℤ → Box → Box → ℤ → ℕ
far q p s c x =
    let y = q *ℤ x in
    max
    (max (nat_abs (y +ℤ p *ℤ (s.low *ℤ c.low))) (nat_abs (y +ℤ p *ℤ (s.low *ℤ c.high))))
    (max (nat_abs (y +ℤ p *ℤ (s.high *ℤ c.low))) (nat_abs (y +ℤ p *ℤ (s.high *ℤ c.high))))

unfoldable pub fars : ℤ → ℤ → List Box → List Box → List ℤ → ℕ
unfolding far
fars q p [] cs xs = 0
fars q p (s ∷ ss) [] xs = 0
fars q p (s ∷ ss) (c ∷ cs) [] = 0
fars q p (s ∷ ss) (c ∷ cs) (x ∷ xs) = far q p s c x + fars q p ss cs xs

-- ---- the test of one coefficient
pub record Limits : Type 0 where
  pub reading : ℕ
  pub distance : ℕ
  pub gain : ℕ  -- hundredths
  pub rounding : ℕ

unfoldable pub near_by : ℕ → List Box → List Box → Limits → Row → Row → Row → Bool
unfolding fars flat
near_by q ss cs lim r c v =
    let p = c.p * r.p in
    leb (lim.reading * fars (pos q) (pos p) ss cs (flat v ++ flat c) + q * (c.p * r.e + (c.e + v.e))) (lim.distance * (q * p))

unfoldable pub sized_by : Limits → Row → List ℤ → Bool
sized_by lim r f = leb (100 * sum_abs f) (lim.gain * r.p) && leb r.e (lim.rounding * r.p)

-- the boxes that the readings are multiplied by; `box` gives the cosine at any multiple of π/1024
unfoldable pub sine_boxes : ℕ → (ℕ → Box) → List Box
unfolding tab sine_angle
sine_boxes N box = tab (λ n. box (sine_angle N n + 1536)) (2 * N) 0

unfoldable pub cosine_boxes : ℕ → (ℕ → Box) → ℕ → List Box
unfolding tab cosine_angle
cosine_boxes N box k = tab (λ n. box (cosine_angle N k n)) (2 * N) 0

unfoldable pub passes : ℕ → RowTables → (ℕ → Box) → List (List ℤ) → List Box → Limits → ℕ → Bool
unfolding row_of weave current_row previous_row near_by sized_by cosine_boxes denominator root_m
passes N w box ct ss lim k =
    let r = row_of w ct k in
    let f = weave r.a r.b in
    near_by (denominator N) ss (cosine_boxes N box k) lim r (current_row w f) (previous_row w f) && sized_by lim r f

-- ---- n tests from k on, of one f
unfoldable pub all_from : (ℕ → Bool) → ℕ → ℕ → Bool
all_from f n k = every_below n (λ i. f (k + i))

-- of n coefficients (the columns and the boxes of the sines made once)
unfoldable pub tested : ℕ → RowTables → (ℕ → Box) → Limits → ℕ → ℕ → Bool
unfolding passes columns sine_boxes all_from
tested N w box lim n k = all_from (passes N w box (columns w) (sine_boxes N box) lim) n k
