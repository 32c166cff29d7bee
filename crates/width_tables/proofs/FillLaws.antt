-- What is filled into the list of a width, part by part, and the whole list.
use mathlib.Core.Path.{◌≡◌, sym, ap, ap₂, subst, ◌∙◌}
use mathlib.Core.List.{List}
use Prim.Native.Nat.{ℕ, ◌+◌, ◌-◌, ◌*◌, ◌/◌, ◌≤◌, ◌<◌}
use native.Mathlib.Omega.{arith}
use borrow.Rule.Slice.PartMut.{mid_of, put_mid, take_put}
use lib.IntN.{ℤ, pos, neg_ℤ, ◌*ℤ◌}
use lib.ListN.{length, take}
use Rattle.integers.specs.Places.{places, at}
use Rattle.integers.proofs.PlaceLaws.{length-places, places-ext}
use Rattle.tables.specs.Widths.{half_width, scale}
use Rattle.tables.specs.Numbers.{sines, cosine_of, sine_of, half_tangent_of}
use Rattle.steps.specs.Steps.{tangent, sine, alternate}
use Rattle.products.specs.Own.Whole.{LeafLists}
use Rattle.width_tables.specs.Orders.{place_in, sign_in, place_out, Ordered}
use Rattle.width_tables.specs.Filled.{part, leaves_long, tables_long, cosine_list, secant_list, Filled, LiftsFilled, ListsFilled}
use Rattle.width_tables.proofs.OrderLaws.{out-in}
use Rattle.width_tables.proofs.PartLaws.{Measured, measured, part-long, part-is, part_same, put-part, put-long, put-before, put-behind}

-- ---- tangents and sines
sine-is : (N m : ℕ) → cosine_of (128 / N + 768 + m * (2 * (128 / N))) ≡ sine N m
unfolding sine sine_of
sine-is N m = ap cosine_of (angle (128 / N))
  where
    angle : (x : ℕ) → x + 768 + m * (2 * x) ≡ (2 * m + 1) * x + 768
    angle x = omega arith

module _ (N h : ℕ) (t ys : List ℤ) (z : 0 < half_width N) (half : h ≡ half_width N) (long : length t ≡ tables_long N) (tangents-are : ys ≡ places (half_width N) (λ m. neg_ℤ (half_tangent_of N m))) where
  abbrev M : ℕ
  M = half_width N

  abbrev t₁ : List ℤ
  t₁ = put_mid 0 h t ys

  m : Measured N M
  m = measured N z

  tangents-long : length ys ≡ h
  tangents-long = ap length tangents-are ∙ length-places M _ ∙ sym half

  tangents-fit : 0 + h ≤ length t
  tangents-fit = omega (arith, m)

  lent-long : length t₁ ≡ length t
  lent-long = put-long 0 h t ys tangents-fit tangents-long

  pub sines-end : N ≤ length t₁
  sines-end = omega (arith, m, lent-long)

  sines-fit : h + (N - h) ≤ length t₁
  sines-fit = omega (arith, m, lent-long)

  rest-half : N - h ≡ M
  rest-half = omega (arith, m)

  part-half : length (mid_of h (N - h) t₁) ≡ M
  part-half = part-long h (N - h) t₁ sines-fit ∙ rest-half

  pub lifts-made : (zs : List ℤ) → zs ≡ places (length (mid_of h (N - h) t₁)) (λ e. cosine_of (128 / N + 768 + e * (2 * (128 / N)))) → LiftsFilled N t (put_mid h (N - h) t₁ zs)
  unfolding tangent
  lifts-made zs d =
      let sines-long = ap length d ∙ length-places _ _ ∙ part-half ∙ sym rest-half in
      record {
        long = put-long h (N - h) t₁ zs sines-fit sines-long ∙ lent-long;
        tangents = ap (λ n. take n (put_mid h (N - h) t₁ zs)) (sym half) ∙ take_put h (N - h) t₁ zs (omega (arith, sines-fit)) ∙ put-part 0 h t ys tangents-fit tangents-long ∙ tangents-are;
        sines = ap₂ (λ a n. part a n (put_mid h (N - h) t₁ zs)) (sym half) (sym rest-half) ∙ put-part h (N - h) t₁ zs sines-fit sines-long ∙ d ∙ ap (λ n. places n (λ e. cosine_of (128 / N + 768 + e * (2 * (128 / N))))) part-half ∙ places-ext M _ _ (λ m l. sine-is N m);
        behind = λ p l. put-behind h (N - h) t₁ zs sines-fit sines-long p (omega (arith, m)) ∙ put-behind 0 h t ys tangents-fit tangents-long p (omega (arith, m));
      }

-- both put into the list
module _ (N : ℕ) {a b k l : ℕ} (t xs ys : List ℤ) (long : length t ≡ tables_long N) (z : 0 < half_width N)
    (from : a ≡ 7 * half_width N) (middle : b ≡ 7 * half_width N + leaves_long N) (first : k ≡ leaves_long N) (second : l ≡ leaves_long N)
    (long-x : length xs ≡ leaves_long N) (long-y : length ys ≡ leaves_long N) where
  lx : length xs ≡ k
  lx = long-x ∙ sym first

  ly : length ys ≡ l
  ly = long-y ∙ sym second

  first_fits : a + k ≤ length t
  first_fits = omega (arith, (measured N z).long)

  first-long : length (put_mid a k t xs) ≡ length t
  first-long = put-long a k t xs first_fits lx

  second_fits : b + l ≤ length (put_mid a k t xs)
  second_fits = omega (arith, (measured N z).long, first-long)

  abbrev t₃ : List ℤ
  t₃ = put_mid b l (put_mid a k t xs) ys

  all-long : length t₃ ≡ length t
  all-long = put-long b l (put_mid a k t xs) ys second_fits ly ∙ first-long

  pub lists-made : LeafLists (half_width N) (cosine_list N) xs → LeafLists (half_width N) (secant_list N) ys → ListsFilled N t t₃
  lists-made c s = record {
    long = all-long;
    cosines = subst (LeafLists (half_width N) (cosine_list N)) (sym
        (ap₂ (λ x y. part x y t₃) (sym from) (sym first)
        ∙ part_same a k t₃ (put_mid a k t xs) (omega (arith, all-long, first_fits)) (omega (arith, first-long, first_fits)) (λ p g q. put-before b l (put_mid a k t xs) ys second_fits ly p (omega arith))
        ∙ put-part a k t xs first_fits lx)) c;
    secants = subst (LeafLists (half_width N) (secant_list N)) (sym (ap₂ (λ x y. part x y t₃) (sym middle) (sym second) ∙ put-part b l (put_mid a k t xs) ys second_fits ly)) s;
    before = λ p q. put-before b l (put_mid a k t xs) ys second_fits ly p (omega arith) ∙ put-before a k t xs first_fits lx p (omega arith);
  }

-- ---- the whole list
module _ (N : ℕ) {t₀ t₁ t₂ t₃ : List ℤ} (z : 0 < half_width N) (whole : length t₀ ≡ tables_long N)
    (lifts : LiftsFilled N t₀ t₁) (order : Ordered N (half_width N) t₁ t₂) (lists : ListsFilled N t₂ t₃) where
  abbrev H : ℕ
  H = half_width N

  ordered-long : length t₂ ≡ tables_long N
  ordered-long = order.long ∙ lifts.long ∙ whole

  listed-long : length t₃ ≡ 7 * H + 2 * leaves_long N
  listed-long = lists.long ∙ ordered-long ∙ (measured N z).long

  lifted-long : length t₁ ≡ 7 * H + 2 * leaves_long N
  lifted-long = lifts.long ∙ whole ∙ (measured N z).long

  -- what each step left alone
  before-lists : (q : ℕ) → q < 7 * H → at t₃ q ≡ at t₂ q
  before-lists q l = lists.before q l

  before-order : (q : ℕ) → q < 2 * H → at t₃ q ≡ at t₁ q
  before-order q l = before-lists q (omega arith) ∙ order.before q l

  pub filled-made : Filled N t₃
  filled-made = record {
    long = listed-long ∙ sym (measured N z).long;
    tangents = part_same 0 H t₃ t₁ (omega (arith, listed-long)) (omega (arith, lifted-long)) (λ q a b. before-order q (omega arith)) ∙ lifts.tangents;
    sines = part_same H H t₃ t₁ (omega (arith, listed-long)) (omega (arith, lifted-long)) (λ q a b. before-order q (omega arith)) ∙ lifts.sines;
    places-in = part-is (2 * H) H t₃ (omega (arith, listed-long)) (λ j. pos (place_in N j)) (λ i l. before-lists (2 * H + i) (omega arith) ∙ order.places i l);
    signs = part-is (3 * H) H t₃ (omega (arith, listed-long)) (sign_in N) (λ i l. before-lists (3 * H + i) (omega arith) ∙ order.signs i l);
    alternated = part-is (4 * H) H t₃ (omega (arith, listed-long)) (λ j. alternate (place_in N j) (sign_in N j)) (λ i l. before-lists (4 * H + i) (omega arith) ∙ order.alternated i l);
    places-out = part-is (5 * H) H t₃ (omega (arith, listed-long)) (λ m. pos (place_out N m)) (λ i l. before-lists (5 * H + i) (omega arith) ∙ order.places-out i l (out-in N i l).0);
    signs-out = part-is (6 * H) H t₃ (omega (arith, listed-long)) (λ m. pos (scale N) *ℤ sign_in N (place_out N m)) (λ i l. before-lists (6 * H + i) (omega arith) ∙ order.signs-out i l (out-in N i l).0);
    cosines = lists.cosines;
    secants = lists.secants;
  }
