-- The secant matrix is one list, with the even places first and then the odd ones from the end.
use mathlib.Core.Path.{◌≡◌, refl, sym, ap, subst, ◌∙◌}
use mathlib.Core.Bool.{Bool, true, false, cond}
use mathlib.Core.List.{List, [], ◌++◌}
use Prim.Native.Nat.{ℕ, ◌+◌, ◌-◌, ◌*◌, ◌/◌, ◌%◌, ◌≤◌, ◌<◌}
use native.Mathlib.Nat.{le_refl, le_trans, mul-le-mul}
use native.Mathlib.Omega.{arith}
use borrow.Author.Tests.{lt-ltb, le-ltb, eqb-true, eqb-false}
use lib.Dec.{T, eqb, ltb, lit≤}
use lib.IntN.{ℤ, pos, neg_ℤ, nat_abs, ◌*ℤ◌, *ℤ_comm}
use lib.ListN.{length, get_or, take}
use Rattle.integers.specs.Places.{tab, places, at, Within}
use Rattle.integers.specs.Tests.{every_below}
use Rattle.integers.proofs.Order.{nat_abs-negℤ, nat_abs-*ℤ}
use Rattle.integers.proofs.Tested.{every-le}
use Rattle.integers.proofs.Ring.{*ℤ-assoc, negℤ-*ℤ, one-*ℤ}
use Rattle.integers.proofs.PlaceLaws.{length-places, at_places, within-places, sum-ext}
use Rattle.tables.specs.Widths.{by_width, half_width, scale}
use Rattle.tables.specs.Angles.{half_turn, reflected, below_zero, signed}
use Rattle.tables.specs.Numbers.{secants, secants8, secants32, secants128, secant_of}
use Rattle.tables.proofs.ByWidth.{at_each, half-width-le}
use Rattle.tables.proofs.Quadrants.{signed-size}
use Rattle.steps.specs.Steps.{secant, odd_of}
use Rattle.steps.proofs.Lengths.{width-half}
use Rattle.width_tables.specs.Filled.{secant_list, product_room}
use Rattle.products.specs.Own.Products.{product, ProductFits}
use Rattle.products.specs.Own.Whole.{LeafLists, ProductInput}
use Rattle.rows.specs.Orders.{secant_in, secant_out}
use Rattle.rows.specs.Sums.{secant_sums, SecantRows}
use Rattle.integers.proofs.Permutations.{back, back_at}
use Rattle.rows.proofs.Turned.{matrix, same_at, Turned, sum-scaled, turned-sum}
use Rattle.rows.proofs.ProductLaws.{given, left, left-small}

-- ---- the order
place : ℕ → ℕ → ℕ
place M j = cond (ltb (2 * j) M) (2 * j) (2 * M - 1 - 2 * j)

out : ℕ → ℕ → ℕ
out M m = cond (eqb (m % 2) 0) (m / 2) (M - 1 - m / 2)

sign : ℕ → ℕ → ℤ
sign M j = cond (ltb (2 * j) M) (pos 1) (neg_ℤ (pos 1))

all_in : (N : ℕ) → T (every_below (half_width N) (back (place (half_width N)) (out (half_width N)) (half_width N)))
unfolding half_width by_width place out
all_in = at_each (λ N M. T (every_below M (back (place M) (out M) M))) 4 16 64 0 tt tt tt (λ N x y z. tt)

all-out : (N : ℕ) → T (every_below (half_width N) (back (out (half_width N)) (place (half_width N)) (half_width N)))
unfolding half_width by_width place out
all-out = at_each (λ N M. T (every_below M (back (out M) (place M) M))) 4 16 64 0 tt tt tt (λ N x y z. tt)

-- ---- the matrix
abbrev turned : ℕ → ℕ → ℕ → ℕ → ℤ
turned N M m j = sign M (out M m) *ℤ (secant_of N (pos (2 * (out M m + j) + 1)) *ℤ sign M j)

abbrev secants_in : ℕ → ℕ → ℕ → ℕ → ℤ
secants_in N M m j = secant N m (place M j)

matrices : (N : ℕ) → matrix (half_width N) (turned N (half_width N)) ≡ matrix (half_width N) (secants_in N (half_width N))
unfolding tab secant odd_of secant_of secants secants8 secants32 secants128 half_width by_width half_turn reflected below_zero signed place out sign
matrices = at_each (λ N M. matrix M (turned N M) ≡ matrix M (secants_in N M)) 4 16 64 0 refl refl refl (λ N x y z. refl)

scale-first : (c s t r : ℤ) → s *ℤ ((c *ℤ t) *ℤ r) ≡ c *ℤ (s *ℤ (t *ℤ r))
scale-first c s t r = ap (λ z. s *ℤ z) (*ℤ-assoc c t r) ∙ sym (*ℤ-assoc s c (t *ℤ r)) ∙ ap (λ z. z *ℤ (t *ℤ r)) (*ℤ_comm s c) ∙ *ℤ-assoc c s (t *ℤ r)

secant-turned : (N : ℕ) → 0 < half_width N → Turned (half_width N) (place (half_width N)) (out (half_width N)) (sign (half_width N)) (λ m n. pos (scale N * scale N) *ℤ secant N m n) (secant_list N)
unfolding secant_list
secant-turned N wide =
    let M = half_width N in record {
      in-out = back_at (place M) (out M) M (all_in N);
      out-in = back_at (out M) (place M) M (all-out N);
      is = λ m j h k.
          let l : out M m + j < N = omega (arith, (back_at (out M) (place M) M (all-out N) m h).0, width-half N wide) in
          ap (λ c. sign M (out M m) *ℤ (c *ℤ sign M j)) (at_places N (λ k. pos (scale N * scale N) *ℤ secant_of N (pos (2 * k + 1))) (out M m + j) l)
          ∙ scale-first (pos (scale N * scale N)) (sign M (out M m)) (secant_of N (pos (2 * (out M m + j) + 1))) (sign M j)
          ∙ ap (λ z. pos (scale N * scale N) *ℤ z) (same_at M (turned N M) (secants_in N M) (matrices N) m j h k);
    }

-- ---- the sizes of its numbers
table-le : (N i : ℕ) → scale N * scale N * get_or (secants N) i 0 ≤ 11300000000
unfolding scale secants by_width secants8 secants32 secants128
table-le =
    at_each (λ N xs. (i : ℕ) → scale N * scale N * get_or xs i 0 ≤ 11300000000) secants8 secants32 secants128 []
    (λ i. times-le 16 701455651 (every-le 701455651 secants8 tt i) (lit≤ tt)) (λ i. times-le 4 2738658311 (every-le 2738658311 secants32 tt i) (lit≤ tt))
    (λ i. times-le 1 10938142553 (every-le 10938142553 secants128 tt i) (lit≤ tt)) (λ N x y z i. omega arith)
  where
    times-le : (c most : ℕ) {a : ℕ} → a ≤ most → c * most ≤ 11300000000 → c * a ≤ 11300000000
    times-le c most h l = le_trans (mul-le-mul (le_refl c) h) l

scaled-size : (N : ℕ) (r : ℤ) → nat_abs (pos (scale N * scale N) *ℤ secant_of N r) ≤ 11300000000
unfolding secant_of
scaled-size N r =
    let k = reflected (half_width N) (nat_abs r) in
    rw (nat_abs-*ℤ (pos (scale N * scale N)) (secant_of N r), signed-size (below_zero (half_width N) (nat_abs r)) _) (by (eqb (k % 2) 1) (k / 2))
  where
    by : (b : Bool) (i : ℕ) → scale N * scale N * cond b (get_or (secants N) i 0) 0 ≤ 11300000000
    by true i = table-le N i
    by false i = omega arith

-- ---- what is taken in that order, and what is found in it
minus_one : (z : ℤ) → neg_ℤ (pos 1) *ℤ z ≡ neg_ℤ z
minus_one z = negℤ-*ℤ (pos 1) z ∙ ap neg_ℤ (one-*ℤ z)

taken_in_lem : (M : ℕ) (x : ℕ → ℤ) (j : ℕ) → secant_in M x j ≡ sign M j *ℤ x (place M j)
unfolding secant_in place sign
taken_in_lem M x j = by (ltb (2 * j) M) refl
  where
    by : (t : Bool) → ltb (2 * j) M ≡ t → secant_in M x j ≡ sign M j *ℤ x (place M j)
    by true e = rw e (sym (one-*ℤ (x (2 * j))))
    by false e = rw e (sym (minus_one (x (2 * M - 1 - 2 * j))))

taken_out : (M : ℕ) (z : ℕ → ℤ) (m : ℕ) → m < M → secant_out M z m ≡ sign M (out M m) *ℤ z (out M m)
unfolding secant_out out sign
taken_out M z m h = by (eqb (m % 2) 0) refl
  where
    by : (t : Bool) → eqb (m % 2) 0 ≡ t → secant_out M z m ≡ sign M (out M m) *ℤ z (out M m)
    by true e = rw (e, lt-ltb (2 * (m / 2)) M (omega (arith, eqb-true (m % 2) 0 e))) (sym (one-*ℤ (z (m / 2))))
    by false e = rw (e, le-ltb (2 * (M - 1 - m / 2)) M (omega (arith, eqb-false (m % 2) 0 e))) (sym (minus_one (z (M - 1 - m / 2))))

taken-size : (M B : ℕ) {x : List ℤ} → Within B x → (j : ℕ) → nat_abs (secant_in M (at x) j) ≤ B
unfolding secant_in
taken-size M B {x} w j = by (ltb (2 * j) M)
  where
    by : (t : Bool) → nat_abs (cond t (at x (2 * j)) (neg_ℤ (at x (2 * M - 1 - 2 * j)))) ≤ B
    by true = w.size (2 * j)
    by false = rw (nat_abs-negℤ (at x (2 * M - 1 - 2 * j))) (w.size (2 * M - 1 - 2 * j))

-- ---- the product with a list that was taken so
module _ (N m : ℕ) (wide : 0 < half_width N) (half : m ≡ half_width N) {lists x new : List ℤ} (rest : List ℤ)
    (q : LeafLists m (secant_list N) lists) (w : Within 6000000 x) (is : new ≡ places m (secant_in (half_width N) (at x)))
    (room : product_room N ≤ length (new ++ rest)) where
  sizes : ProductFits m (secant_list N) new
  unfolding secant_list
  sizes = record {
    most-list = 11300000000;
    most = 6000000;
    some = omega arith;
    list-within = within-places N _ _ (λ k l. scaled-size N (pos (2 * k + 1)));
    within = subst (Within 6000000) (sym is) (within-places m _ _ (λ j l. taken-size (half_width N) 6000000 w j));
    fits = omega (arith, half, half-width-le N);
  }

  long : length new ≡ m
  long = ap length is ∙ length-places m _

  pub secant-given : ProductInput m lists (new ++ rest)
  secant-given = given N m half rest q sizes long room

  pub secant-rows : (y : List ℤ) → ((L : List ℤ) → LeafLists m L lists → take m y ≡ places m (product m (at L) (at (take m (new ++ rest))))) → SecantRows N x y
  unfolding secant_sums
  secant-rows y e = record {
    rows = λ i h.
        taken_out (half_width N) (at y) i h
        ∙ turned-sum (secant-turned N wide) (at x) (at new) (at y)
        (λ j k. ap (λ l. at l j) is ∙ at_places m _ j (omega arith) ∙ taken_in_lem (half_width N) (at x) j)
        (left N m half rest q sizes long room y e) i h
        ∙ sum-ext (half_width N) _ _ (λ n l. *ℤ-assoc (pos (scale N * scale N)) (secant N i n) (at x n))
        ∙ sym (sum-scaled (half_width N) (pos (scale N * scale N)) (λ n. secant N i n *ℤ at x n))
        ∙ ap (λ z. pos (scale N * scale N) *ℤ z) (sym (at_places (half_width N) _ i h));
    small = left-small N m half rest q sizes long room y e;
  }
