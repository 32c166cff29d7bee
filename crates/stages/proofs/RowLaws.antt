-- What the parts of a width's tables and the row sums are to the lifts: an order, each row's sum, and sizes.
use mathlib.Core.Path.{◌≡◌, sym, ap, ap₂, subst, ◌∙◌}
use mathlib.Core.Bool.{cond}
use mathlib.Core.List.{List}
use Prim.Native.Nat.{ℕ, ◌-◌, ◌*◌, ◌/◌, ◌%◌, ◌^◌, ◌≤◌, ◌<◌}
use native.Mathlib.Nat.{le_refl}
use native.Mathlib.Omega.{arith}
use lib.Dec.{T, eqb, ltb, ltb→lt, lit≤}
use lib.IntN.{ℤ, pos, neg_ℤ, nat_abs, ◌*ℤ◌}
use lib.ListN.{length, take}
use lib.Seq.{get_or-take}
use Rattle.integers.specs.Floor.{above}
use Rattle.integers.specs.Places.{places, at, sum, Within}
use Rattle.integers.specs.Tests.{every_below}
use Rattle.integers.proofs.Tested.{below_at}
use Rattle.integers.proofs.Order.{nat_abs-*ℤ-le}
use Rattle.integers.proofs.Ring.{*ℤ-assoc}
use Rattle.integers.proofs.PlaceLaws.{length-places, at_places, places-at, within-places}
use Rattle.tables.specs.Widths.{by_width, half_width, scale}
use Rattle.tables.proofs.ByWidth.{at_each}
use Rattle.steps.specs.Steps.{cosine, secant}
use Rattle.width_tables.specs.Orders.{sign_in, places_out, place_out}
use Rattle.width_tables.specs.Filled.{product_room}
use Rattle.rows.specs.Orders.{Order, row_at, secant_out}
use Rattle.rows.specs.Sums.{cosine_sums, secant_sums, alternated, CosineRows, SecantRows}
use Rattle.lifts.specs.Own.Moves.{Scaled, Thirds}
use Rattle.lifts.proofs.MoveLaws.{alternate-size}
use Rattle.stages.proofs.StageSizes.{cosine-sum-size, secant-sum-size}

-- ---- the order of a width
out_below : (N : ℕ) → T (every_below (half_width N) (λ m. ltb (place_out N m) (half_width N)))
unfolding half_width by_width places_out place_out
out_below = at_each (λ N M. T (every_below M (λ m. ltb (place_out N m) M))) 4 16 64 0 tt tt tt (λ N x y z. tt)

place-out-below : (N m : ℕ) → m < half_width N → place_out N m < half_width N
place-out-below N m h = ltb→lt _ _ (below_at (half_width N) _ (out_below N) m h)

pub room-for-half : (N : ℕ) → half_width N ≤ product_room N
unfolding half_width product_room by_width
room-for-half = at_each (λ N M. M ≤ by_width 4 36 324 0 N) 4 16 64 0 (lit≤ tt) (lit≤ tt) (lit≤ tt) (λ N x y z. omega arith)

module _ (N : ℕ) {back flips : List ℤ} (b : back ≡ places (half_width N) (λ m. pos (place_out N m))) (f : flips ≡ places (half_width N) (λ m. pos (scale N) *ℤ sign_in N (place_out N m))) where
  abbrev M : ℕ
  M = half_width N

  back_at : (m : ℕ) → m < M → at back m ≡ pos (place_out N m)
  back_at m h = ap (λ l. at l m) b ∙ at_places M _ m h

  place_is : (m : ℕ) → m < M → above (at back m) ≡ place_out N m
  unfolding above
  place_is m h = ap above (back_at m h)

  pub order_is : (n : ℕ) → n ≡ M → Order n back flips
  order_is n e = record {
    places-long = ap length b ∙ length-places M _ ∙ sym e;
    signs-long = ap length f ∙ length-places M _ ∙ sym e;
    natural = λ k h. let l : k < M = omega arith in back_at k l ∙ ap pos (sym (place_is k l));
    inside = λ k h. let l : k < M = omega arith in omega (arith, place_is k l, place-out-below N k l);
  }

  -- a row's sum, at the scale of all widths
  pub row_is : (x y : List ℤ) → CosineRows N x y → (m : ℕ) → m < M → row_at back flips y m ≡ pos (scale N) *ℤ at (cosine_sums N x) m
  row_is x y r m h =
      ap₂ ◌*ℤ◌ (ap (λ l. at l m) f ∙ at_places M _ m h) (ap (at y) (place_is m h))
      ∙ *ℤ-assoc (pos (scale N)) (sign_in N (place_out N m)) (at y (place_out N m))
      ∙ ap (λ v. pos (scale N) *ℤ v) (r.rows m h)

-- ---- the part of a room that has the sums
within-long : (B n : ℕ) (xs : List ℤ) → length xs ≡ n → ((i : ℕ) → i < n → nat_abs (at xs i) ≤ B) → Within B xs
within-long B n xs l h = subst (Within B) (places-at n xs l) (within-places n B (at xs) h)

module _ {N : ℕ} {x : List ℤ} where
  pub cosine-part : {y : List ℤ} → CosineRows N x y → CosineRows N x (take (half_width N) y)
  cosine-part {y} r = record {
    rows = λ m h. ap (λ z. sign_in N (place_out N m) *ℤ z) (get_or-take (half_width N) y (place_out N m) (pos 0) (place-out-below N m h)) ∙ r.rows m h;
    small = λ i h. rw (get_or-take (half_width N) y i (pos 0) h) (r.small i h);
  }

  pub secant-part : {z : List ℤ} → SecantRows N x z → SecantRows N x (take (half_width N) z)
  unfolding secant_out
  secant-part {z} r = record {
    rows = λ m h. ap₂ (λ a b. cond (eqb (m % 2) 0) a (neg_ℤ b)) (get_or-take (half_width N) z (m / 2) (pos 0) (omega arith)) (get_or-take (half_width N) z (half_width N - 1 - m / 2) (pos 0) (omega arith)) ∙ r.rows m h;
    small = λ i h. rw (get_or-take (half_width N) z i (pos 0) h) (r.small i h);
  }

  secant-within : {y : List ℤ} → length y ≡ half_width N → SecantRows N x y → Within (2 ^ 62) y
  secant-within {y} l r = within-long (2 ^ 62) (half_width N) y l r.small

-- ---- the sizes, by the widths
abbrev Fits : ℕ → ℕ → Type 0
Fits s M = (s * (11 * M * 2 ^ 24 * 268000000) ≤ 2 ^ 62) × (s * (11 * M * 2 ^ 24 * 4000000) ≤ 2 ^ 56) × (s * s * (4 * M * 2 ^ 28 * 4000000) ≤ 2 ^ 60)

scale-fits : (N : ℕ) → Fits (scale N) (half_width N)
unfolding half_width scale by_width
scale-fits =
    at_each (λ N M. Fits (by_width 4 2 1 0 N) M) 4 16 64 0
    (lit≤ tt, lit≤ tt, lit≤ tt) (lit≤ tt, lit≤ tt, lit≤ tt) (lit≤ tt, lit≤ tt, lit≤ tt) (λ N x y z. (omega arith, omega arith, omega arith))

pub alternated-within : (B : ℕ) (x : List ℤ) → Within B x → Within B (alternated x)
alternated-within B x w = within-places (length x) B _ (λ n l. rw (alternate-size n (at x n)) (w.size n))

module _ (N B : ℕ) (x : List ℤ) (w : Within B x) (m : ℕ) (h : m < half_width N) where
  cosine-at-size : nat_abs (at (cosine_sums N x) m) ≤ 11 * half_width N * 2 ^ 24 * B
  unfolding cosine_sums
  cosine-at-size = rw (at_places (half_width N) (λ m. sum (half_width N) (λ n. cosine N m n *ℤ at x n)) m h) (cosine-sum-size N B x w m h)

  secant-at-size : nat_abs (at (secant_sums N x) m) ≤ 4 * half_width N * 2 ^ 28 * B
  unfolding secant_sums
  secant-at-size = rw (at_places (half_width N) (λ m. sum (half_width N) (λ n. secant N m n *ℤ at x n)) m h) (secant-sum-size N B x w m h)

module _ (N : ℕ) {back flips : List ℤ} (b : back ≡ places (half_width N) (λ m. pos (place_out N m))) (f : flips ≡ places (half_width N) (λ m. pos (scale N) *ℤ sign_in N (place_out N m))) where
  module _ {x y : List ℤ} (l : length y ≡ half_width N) (r : CosineRows N x y) where
    pub scaled-is : Within 268000000 x → Scaled back flips y
    scaled-is w = record {
      small = λ i h. let k : i < half_width N = omega arith in
          subst (λ v. nat_abs v ≤ 2 ^ 62) (sym (row_is N b f x y r i k))
          (omega (arith, (scale-fits N).0, nat_abs-*ℤ-le (pos (scale N)) (at (cosine_sums N x) i) (le_refl (scale N)) (cosine-at-size N 268000000 x w i k)));
    }

    pub thirds-are : {z : List ℤ} → length z ≡ half_width N → SecantRows N x z → Within 4000000 x → Thirds z back flips y
    thirds-are {z} lz q w = record {
      within-z = secant-within lz q;
      secant = λ i h. let k : i < half_width N = omega arith in
          subst (λ v. nat_abs v ≤ 2 ^ 60) (sym (ap (λ n. secant_out n (at z) i) l ∙ q.rows i k))
          (omega (arith, (scale-fits N).2, nat_abs-*ℤ-le (pos (scale N * scale N)) (at (secant_sums N x) i) (le_refl (scale N * scale N)) (secant-at-size N 4000000 x w i k)));
      cosine = λ i h. let k : i < half_width N = omega arith in
          subst (λ v. nat_abs v ≤ 2 ^ 56) (sym (row_is N b f x y r i k))
          (omega (arith, (scale-fits N).1, nat_abs-*ℤ-le (pos (scale N)) (at (cosine_sums N x) i) (le_refl (scale N)) (cosine-at-size N 4000000 x w i k)));
    }
