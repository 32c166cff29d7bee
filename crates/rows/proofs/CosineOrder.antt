-- The cosine matrix is one list in the order of the powers of 3: its row sums by the product with that list.
use mathlib.Core.Path.{◌≡◌, refl, sym, ap, ap₂, subst, ◌∙◌}
use mathlib.Core.Bool.{Bool, true, false, cond}
use mathlib.Core.List.{List, ◌++◌}
use Prim.Native.Nat.{ℕ, ◌+◌, ◌%◌, ◌^◌, ◌≤◌, ◌<◌}
use native.Mathlib.Omega.{arith}
use lib.Dec.{eqb}
use lib.IntN.{ℤ, pos, nat_abs, ◌*ℤ◌}
use lib.ListN.{length, take}
use Rattle.integers.specs.Floor.{above}
use Rattle.integers.specs.Places.{tab, places, at, Within}
use Rattle.integers.proofs.Order.{nat_abs-*ℤ-le}
use Rattle.integers.proofs.Ring.{negℤ-*ℤ, *ℤ-negℤ}
use Rattle.integers.proofs.PlaceLaws.{length-places, at_places, within-places}
use Rattle.tables.specs.Widths.{by_width, half_width}
use Rattle.tables.specs.Angles.{half_turn, reflected, below_zero, signed}
use Rattle.tables.specs.Numbers.{sines, cosine_of}
use Rattle.tables.proofs.ByWidth.{at_each, half-width-le}
use Rattle.tables.proofs.Sizes.{cosine-size}
use Rattle.tables.proofs.Quadrants.{signed-size}
use Rattle.steps.specs.Steps.{cosine, alternate}
use Rattle.steps.proofs.Lengths.{width-half}
use Rattle.products.specs.Own.Products.{product, ProductFits}
use Rattle.products.specs.Own.Whole.{LeafLists, ProductInput}
use Rattle.width_tables.specs.Orders.{angle_at, place_in, sign_in, places_out, place_out}
use Rattle.width_tables.specs.Filled.{cosine_list, product_room}
use Rattle.rows.specs.Orders.{Order, row_at}
use Rattle.rows.specs.Sums.{cosine_sums, alternated, CosineRows}
use Rattle.rows.proofs.Turned.{matrix, same_at, Turned, turned-sum}
use Rattle.width_tables.proofs.OrderLaws.{in-out, out-in}
use Rattle.rows.proofs.ProductLaws.{given, left, left-small}

-- ---- the matrix
abbrev turned : ℕ → ℕ → ℕ → ℤ
turned N m j = sign_in N (place_out N m) *ℤ (cosine_of (angle_at N (place_out N m + j)) *ℤ sign_in N j)

abbrev cosines : ℕ → ℕ → ℕ → ℤ
cosines N m j = cosine N m (place_in N j)

matrices : (N : ℕ) → matrix (half_width N) (turned N) ≡ matrix (half_width N) (cosines N)
unfolding tab cosine cosine_of sines half_width by_width half_turn reflected below_zero signed angle_at place_in sign_in places_out place_out
matrices = at_each (λ N M. matrix M (turned N) ≡ matrix M (cosines N)) 4 16 64 0 refl refl refl (λ N x y z. refl)

cosine-turned : (N : ℕ) → 0 < half_width N → Turned (half_width N) (place_in N) (place_out N) (sign_in N) (cosine N) (cosine_list N)
unfolding cosine_list
cosine-turned N wide = record {
  in-out = in-out N;
  out-in = out-in N;
  is = λ m j h k.
      let l : place_out N m + j < N = omega (arith, (out-in N m h).0, width-half N wide) in
      ap (λ c. sign_in N (place_out N m) *ℤ (c *ℤ sign_in N j)) (at_places N (λ e. cosine_of (angle_at N e)) (place_out N m + j) l)
      ∙ same_at (half_width N) (turned N) (cosines N) (matrices N) m j h k;
}

-- ---- the order with its signs, plain or alternated
abbrev pub sign_for : Bool → ℕ → ℕ → ℤ
sign_for b N j = cond b (alternate (place_in N j) (sign_in N j)) (sign_in N j)

sign-size : (b : Bool) (N j : ℕ) → nat_abs (sign_for b N j) ≤ 1
unfolding alternate sign_in
sign-size true N j = rw (signed-size (eqb (place_in N j % 2) 1) (sign_in N j), signed-size (below_zero 256 (angle_at N j)) (pos 1)) (omega arith)
sign-size false N j = rw (signed-size (below_zero 256 (angle_at N j)) (pos 1)) (omega arith)

signed-over : (b : Bool) (s x : ℤ) → signed b s *ℤ x ≡ s *ℤ signed b x
unfolding signed
signed-over true s x = negℤ-*ℤ s x ∙ sym (*ℤ-negℤ s x)
signed-over false s x = refl

-- alternated signs are those of the alternated list
sign-over : (b : Bool) (N : ℕ) (x : List ℤ) → length x ≡ half_width N → (j : ℕ) → j < half_width N
    → sign_for b N j *ℤ at x (place_in N j) ≡ sign_in N j *ℤ at (cond b (alternated x) x) (place_in N j)
unfolding alternate
sign-over true N x e j h =
    signed-over (eqb (place_in N j % 2) 1) (sign_in N j) (at x (place_in N j))
    ∙ ap (λ z. sign_in N j *ℤ z) (sym (at_places (length x) _ (place_in N j) (omega (arith, e, (in-out N j h).0))))
sign-over false N x e j h = refl

-- ---- what is gathered, and the product with it
module _ (b : Bool) (N : ℕ) {ps ss : List ℤ} (p : ps ≡ places (half_width N) (λ j. pos (place_in N j))) (s : ss ≡ places (half_width N) (sign_for b N)) where
  place_at : (j : ℕ) → j < half_width N → at ps j ≡ pos (place_in N j)
  place_at j h = ap (λ l. at l j) p ∙ at_places (half_width N) _ j h

  above_at : (j : ℕ) → j < half_width N → above (at ps j) ≡ place_in N j
  unfolding above
  above_at j h = ap above (place_at j h)

  signs-within : Within 1 ss
  signs-within = subst (Within 1) (sym s) (within-places (half_width N) _ _ (λ j h. sign-size b N j))

  pub cosine-order : Order (half_width N) ps ss
  cosine-order = record {
    places-long = ap length p ∙ length-places (half_width N) _;
    signs-long = ap length s ∙ length-places (half_width N) _;
    natural = λ j h. place_at j h ∙ ap pos (sym (above_at j h));
    inside = λ j h. rw (above_at j h) (in-out N j h).0;
  }

  -- a number in its order is no larger than the list's
  pub row-size : {B : ℕ} {x : List ℤ} → Within B x → (m : ℕ) → nat_abs (row_at ps ss x m) ≤ B
  row-size {B} {x} w m = omega (arith, nat_abs-*ℤ-le (at ss m) (at x (above (at ps m))) (signs-within.size m) (w.size (above (at ps m))))

  module _ (m : ℕ) (wide : 0 < half_width N) (half : m ≡ half_width N) {lists x new : List ℤ} (rest : List ℤ)
      (q : LeafLists m (cosine_list N) lists) (xl : length x ≡ half_width N) (w : Within 268000000 x) (is : new ≡ places m (row_at ps ss x))
      (room : product_room N ≤ length (new ++ rest)) where
    sizes : ProductFits m (cosine_list N) new
    unfolding cosine_list
    sizes = record {
      most-list = 2 ^ 28;
      most = 268000000;
      some = omega arith;
      list-within = within-places N _ _ (λ e l. cosine-size (angle_at N e));
      within = subst (Within 268000000) (sym is) (within-places m _ _ (λ j l. row-size w j));
      fits = omega (arith, half, half-width-le N);
    }

    long : length new ≡ m
    long = ap length is ∙ length-places m _

    gathered : (j : ℕ) → j < half_width N → at new j ≡ sign_in N j *ℤ at (cond b (alternated x) x) (place_in N j)
    gathered j h =
        ap (λ l. at l j) is ∙ at_places m _ j (omega arith)
        ∙ ap₂ (λ z i. z *ℤ at x i) (ap (λ l. at l j) s ∙ at_places (half_width N) _ j h) (above_at j h)
        ∙ sign-over b N x xl j h

    pub cosine-given : ProductInput m lists (new ++ rest)
    cosine-given = given N m half rest q sizes long room

    pub cosine-rows : (y : List ℤ) → ((L : List ℤ) → LeafLists m L lists → take m y ≡ places m (product m (at L) (at (take m (new ++ rest))))) → CosineRows N (cond b (alternated x) x) y
    unfolding cosine_sums
    cosine-rows y e = record {
      rows = λ i h.
          turned-sum (cosine-turned N wide) (at (cond b (alternated x) x)) (at new) (at y) gathered (left N m half rest q sizes long room y e) i h
          ∙ sym (at_places (half_width N) _ i h);
      small = left-small N m half rest q sizes long room y e;
    }
