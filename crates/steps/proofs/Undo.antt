-- Each step back undoes the step, and each step the step back, for all whole numbers.
use mathlib.Core.Path.{◌≡◌, refl, sym, ◌∙◌, ap}
use mathlib.Core.Bool.{Bool, true, false, cond}
use mathlib.Core.List.{List}
use Prim.Native.Nat.{ℕ, ◌+◌, ◌-◌, ◌*◌, ◌/◌, ◌%◌, ◌<◌}
use native.Mathlib.Omega.{arith}
use borrow.Author.Tests.{ltb-true, ltb-false, eqb-true, eqb-false, lt-ltb, le-ltb, eq-eqb, ne_eqb}
use lib.Dec.{eqb, ltb}
use lib.IntN.{ℤ, neg_ℤ, ◌+ℤ◌, ◌-ℤ◌, neg_ℤ-neg_ℤ, +ℤ-neg_ℤ_cancel, -ℤ-+ℤ_cancel}
use lib.ListN.{length, take, drop, take-append-drop}
use lib.Seq.{take_at, drop_at}
use Rattle.tables.specs.Widths.{half_width}
use Rattle.tables.specs.Angles.{signed}
use Rattle.steps.specs.Places.{places, at}
use Rattle.steps.specs.Steps.{alternate, tangent_amount, sine_amount, rotated_a, rotated_b, unrotated_a, unrotated_b, lower, held, unfolded, top_of, bottom_of, interleaved, amount1, amount2, amount3, stage1, stage2, stage3, stage4, stage5, stages, unstage1, unstage2, unstage3, unstage4, unstage5, unstages}
use Rattle.steps.proofs.Lists.{len_take, len-drop}
use Rattle.steps.proofs.Lengths.{length-bottom, length-stage1, length-stage2, length-stage3, length-stage4, length-top, length-unfolded, length-unstage1, length-unstage2, length-unstage3, length-unstage4, length-unstage5, length-unstages}
use Rattle.integers.proofs.PlaceLaws.{at_places, places_is, undone}

-- ---- the rotation: three steps, each undone by the opposite with the same amount
module _ (s t : ℤ → ℤ) where
  abbrev turn_a : (ℤ → ℤ → ℤ) → ℤ → ℤ → ℤ
  turn_a op a b = op a (s (op b (t a)))

  abbrev turn_b : (ℤ → ℤ → ℤ) → ℤ → ℤ → ℤ
  turn_b op a b = op (op b (t a)) (t (turn_a op a b))

  module _ (op back : ℤ → ℤ → ℤ) (u : (z r : ℤ) → back (op z r) r ≡ z) (a b : ℤ) where
    returned-A : turn_a back (turn_a op a b) (turn_b op a b) ≡ a
    returned-A = rw (u (op b (t a)) (t (turn_a op a b))) (u a (s (op b (t a))))

    returned-B : turn_b back (turn_a op a b) (turn_b op a b) ≡ b
    returned-B = rw (returned-A, u (op b (t a)) (t (turn_a op a b))) (u b (t a))

module _ (N m : ℕ) (a b : ℤ) where
  pub unrotated-rotated-A : unrotated_a N m (rotated_a N m a b) (rotated_b N m a b) ≡ a
  unfolding unrotated_a rotated_a rotated_b
  unrotated-rotated-A = returned-A (sine_amount N m) (tangent_amount N m) ◌+ℤ◌ ◌-ℤ◌ +ℤ-neg_ℤ_cancel a b

  pub unrotated-rotated-B : unrotated_b N m (rotated_a N m a b) (rotated_b N m a b) ≡ b
  unfolding unrotated_a unrotated_b rotated_a rotated_b
  unrotated-rotated-B = returned-B (sine_amount N m) (tangent_amount N m) ◌+ℤ◌ ◌-ℤ◌ +ℤ-neg_ℤ_cancel a b

  pub rotated-unrotated-A : rotated_a N m (unrotated_a N m a b) (unrotated_b N m a b) ≡ a
  unfolding rotated_a unrotated_a unrotated_b
  rotated-unrotated-A = returned-A (sine_amount N m) (tangent_amount N m) ◌-ℤ◌ ◌+ℤ◌ -ℤ-+ℤ_cancel a b

  pub rotated-unrotated-B : rotated_b N m (unrotated_a N m a b) (unrotated_b N m a b) ≡ b
  unfolding rotated_a rotated_b unrotated_a unrotated_b
  rotated-unrotated-B = returned-B (sine_amount N m) (tangent_amount N m) ◌-ℤ◌ ◌+ℤ◌ -ℤ-+ℤ_cancel a b

-- ---- the stages
minus-d : (m : ℕ) (z : ℤ) → neg_ℤ (alternate m (neg_ℤ (alternate m z))) ≡ z
unfolding alternate signed
minus-d m z = by (eqb (m % 2) 1)
  where
    by : (b : Bool) → neg_ℤ (signed b (neg_ℤ (signed b z))) ≡ z
    by true = simp neg_ℤ-neg_ℤ
    by false = neg_ℤ-neg_ℤ z

both-added : (z a r : ℤ) → z +ℤ a +ℤ r -ℤ r -ℤ a ≡ z
both-added z a r = rw (+ℤ-neg_ℤ_cancel (z +ℤ a) r) (+ℤ-neg_ℤ_cancel z a)

both-taken : (z a r : ℤ) → z -ℤ r -ℤ a +ℤ a +ℤ r ≡ z
both-taken z a r = rw (-ℤ-+ℤ_cancel (z -ℤ r) a) (-ℤ-+ℤ_cancel z r)

module _ (N : ℕ) (top bottom : List ℤ) where
  pub unstage1-stage1 : length bottom ≡ half_width N → unstage1 N top (stage1 N top bottom) ≡ bottom
  unfolding unstage1 stage1
  unstage1-stage1 = undone (half_width N) (λ m z. z +ℤ at top m +ℤ amount1 N top m) (λ m z. z -ℤ amount1 N top m -ℤ at top m) (λ m z. both-added z (at top m) (amount1 N top m)) bottom

  pub stage1-unstage1 : length bottom ≡ half_width N → stage1 N top (unstage1 N top bottom) ≡ bottom
  unfolding unstage1 stage1
  stage1-unstage1 = undone (half_width N) (λ m z. z -ℤ amount1 N top m -ℤ at top m) (λ m z. z +ℤ at top m +ℤ amount1 N top m) (λ m z. both-taken z (at top m) (amount1 N top m)) bottom

  pub unstage2-stage2 : length top ≡ half_width N → unstage2 N (stage2 N top bottom) bottom ≡ top
  unfolding unstage2 stage2
  unstage2-stage2 =
      undone (half_width N) (λ m z. neg_ℤ (alternate m z) +ℤ amount2 N bottom m) (λ m z. neg_ℤ (alternate m (z -ℤ amount2 N bottom m)))
      (λ m z. rw (+ℤ-neg_ℤ_cancel (neg_ℤ (alternate m z)) (amount2 N bottom m)) (minus-d m z)) top

  pub stage2-unstage2 : length top ≡ half_width N → stage2 N (unstage2 N top bottom) bottom ≡ top
  unfolding unstage2 stage2
  stage2-unstage2 =
      undone (half_width N) (λ m z. neg_ℤ (alternate m (z -ℤ amount2 N bottom m))) (λ m z. neg_ℤ (alternate m z) +ℤ amount2 N bottom m)
      (λ m z. rw (minus-d m (z -ℤ amount2 N bottom m)) (-ℤ-+ℤ_cancel z (amount2 N bottom m))) top

  -- stages 3 to 5 only add an amount
  gained : (r : ℕ → ℤ) (xs : List ℤ) → length xs ≡ half_width N → places (half_width N) (λ m. at (places (half_width N) (λ m. at xs m +ℤ r m)) m -ℤ r m) ≡ xs
  gained r = undone (half_width N) (λ m z. z +ℤ r m) (λ m z. z -ℤ r m) (λ m z. +ℤ-neg_ℤ_cancel z (r m))

  lost : (r : ℕ → ℤ) (xs : List ℤ) → length xs ≡ half_width N → places (half_width N) (λ m. at (places (half_width N) (λ m. at xs m -ℤ r m)) m +ℤ r m) ≡ xs
  lost r = undone (half_width N) (λ m z. z -ℤ r m) (λ m z. z +ℤ r m) (λ m z. -ℤ-+ℤ_cancel z (r m))

  pub unstage3-stage3 : length bottom ≡ half_width N → unstage3 N top (stage3 N top bottom) ≡ bottom
  unfolding unstage3 stage3
  unstage3-stage3 = gained (amount3 N top) bottom

  pub stage3-unstage3 : length bottom ≡ half_width N → stage3 N top (unstage3 N top bottom) ≡ bottom
  unfolding unstage3 stage3
  stage3-unstage3 = lost (amount3 N top) bottom

  pub unstage4-stage4 : length top ≡ half_width N → unstage4 N (stage4 N top bottom) bottom ≡ top
  unfolding unstage4 stage4
  unstage4-stage4 = gained (λ m. sine_amount N m (at bottom (half_width N - 1 - m))) top

  pub stage4-unstage4 : length top ≡ half_width N → stage4 N (unstage4 N top bottom) bottom ≡ top
  unfolding unstage4 stage4
  stage4-unstage4 = lost (λ m. sine_amount N m (at bottom (half_width N - 1 - m))) top

  pub unstage5-stage5 : length bottom ≡ half_width N → unstage5 N top (stage5 N top bottom) ≡ bottom
  unfolding unstage5 stage5
  unstage5-stage5 = gained (λ i. let m = half_width N - 1 - i in tangent_amount N m (at top m)) bottom

  pub stage5-unstage5 : length bottom ≡ half_width N → stage5 N top (unstage5 N top bottom) ≡ bottom
  unfolding unstage5 stage5
  stage5-unstage5 = lost (λ i. let m = half_width N - 1 - i in tangent_amount N m (at top m)) bottom

-- ---- what is at a place of a fold
module _ (N : ℕ) (half : half_width N + half_width N ≡ N) where
  lower-at : (x : List ℤ) (n : ℕ) → n < half_width N → at (lower N x) (half_width N - 1 - n) ≡ rotated_a N n (at x n) (at x (N - 1 - n))
  unfolding lower
  lower-at x n h =
      let e : half_width N - 1 - (half_width N - 1 - n) ≡ n = omega arith in
      at_places (half_width N) _ (half_width N - 1 - n) (omega arith) ∙ rw e

  held_at : (x : List ℤ) (n : ℕ) → n < half_width N → at (held N x) n ≡ rotated_b N n (at x n) (at x (N - 1 - n))
  unfolding held
  held_at x n h = at_places (half_width N) _ n h

  unfolded-front : (low high : List ℤ) (n : ℕ) → n < half_width N → at (unfolded N low high) n ≡ unrotated_a N n (at low (half_width N - 1 - n)) (at high n)
  unfolding unfolded
  unfolded-front low high n h = at_places N _ n (omega arith) ∙ rw (lt-ltb n (half_width N) h)

  unfolded-back : (low high : List ℤ) (n : ℕ) → n < half_width N → at (unfolded N low high) (N - 1 - n) ≡ unrotated_b N n (at low (half_width N - 1 - n)) (at high n)
  unfolding unfolded
  unfolded-back low high n h =
      let e : N - 1 - (N - 1 - n) ≡ n = omega arith in
      at_places N _ (N - 1 - n) (omega arith) ∙ rw (le-ltb (N - 1 - n) (half_width N) (omega arith), e)

  pub unfolded-fold : (x : List ℤ) → length x ≡ N → unfolded N (lower N x) (held N x) ≡ x
  unfolding unfolded
  unfolded-fold x l = places_is N _ x l (λ j h. by j h (ltb j (half_width N)) refl)
    where
      by : (j : ℕ) → j < N → (b : Bool) → ltb j (half_width N) ≡ b
          → cond b (unrotated_a N j (at (lower N x) (half_width N - 1 - j)) (at (held N x) j))
          (unrotated_b N (N - 1 - j) (at (lower N x) (half_width N - 1 - (N - 1 - j))) (at (held N x) (N - 1 - j))) ≡ at x j
      by j h true e = let k = ltb-true _ _ e in rw (lower-at x j k, held_at x j k) (unrotated-rotated-A N j (at x j) (at x (N - 1 - j)))
      by j h false e =
          let n = N - 1 - j in
          let k : n < half_width N = omega (arith, ltb-false j (half_width N) e) in
          let i : N - 1 - n ≡ j = omega arith in
          rw (lower-at x n k, held_at x n k, unrotated-rotated-B N n (at x n) (at x (N - 1 - n)), i)

  pub lower-unfolded : (low high : List ℤ) → length low ≡ half_width N → lower N (unfolded N low high) ≡ low
  unfolding lower
  lower-unfolded low high l =
      places_is (half_width N) _ low l (λ i h.
      let n = half_width N - 1 - i in
      let k : n < half_width N = omega arith in
      let e : half_width N - 1 - n ≡ i = omega arith in
      rw (unfolded-front low high n k, unfolded-back low high n k, rotated-unrotated-A N n (at low (half_width N - 1 - n)) (at high n), e))

  pub held-unfolded : (low high : List ℤ) → length high ≡ half_width N → held N (unfolded N low high) ≡ high
  unfolding held
  held-unfolded low high l =
      places_is (half_width N) _ high l (λ n h.
      rw (unfolded-front low high n h, unfolded-back low high n h) (rotated-unrotated-B N n (at low (half_width N - 1 - n)) (at high n)))

  pub fold-injective : (x y : List ℤ) → length x ≡ N → length y ≡ N → lower N x ≡ lower N y → held N x ≡ held N y → x ≡ y
  fold-injective x y l m e f = sym (unfolded-fold x l) ∙ rw (e, f) (unfolded-fold y m)

  pub fold-onto : (low high : List ℤ) → length low ≡ half_width N → length high ≡ half_width N → (x : List ℤ) × (length x ≡ N) × (lower N x ≡ low) × (held N x ≡ high)
  fold-onto low high l m = (unfolded N low high, length-unfolded N low high, lower-unfolded low high l, held-unfolded low high m)

  -- ---- even and odd places
  pub top-interleaved : (top bottom : List ℤ) → length top ≡ half_width N → top_of N (interleaved N top bottom) ≡ top
  unfolding top_of interleaved
  top-interleaved top bottom l =
      places_is (half_width N) _ top l (λ m h.
      let e : 2 * m / 2 ≡ m = omega arith in
      at_places N _ (2 * m) (omega arith) ∙ rw (eq-eqb (2 * m % 2) 0 (omega arith), e))

  pub bottom-interleaved : (top bottom : List ℤ) → length bottom ≡ half_width N → bottom_of N (interleaved N top bottom) ≡ bottom
  unfolding bottom_of interleaved
  bottom-interleaved top bottom l =
      places_is (half_width N) _ bottom l (λ m h.
      let e : (2 * m + 1) / 2 ≡ m = omega arith in
      at_places N _ (2 * m + 1) (omega arith) ∙ rw (ne_eqb ((2 * m + 1) % 2) 0 (omega arith), e))

  pub interleaved-parts : (f : List ℤ) → length f ≡ N → interleaved N (top_of N f) (bottom_of N f) ≡ f
  unfolding interleaved top_of bottom_of
  interleaved-parts f l = places_is N _ f l (λ i h. by i h (eqb (i % 2) 0) refl)
    where
      by : (i : ℕ) → i < N → (b : Bool) → eqb (i % 2) 0 ≡ b → cond b (at (top_of N f) (i / 2)) (at (bottom_of N f) (i / 2)) ≡ at f i
      by i h true e = at_places (half_width N) _ (i / 2) (omega arith) ∙ ap (at f) (omega (arith, eqb-true (i % 2) 0 e))
      by i h false e = at_places (half_width N) _ (i / 2) (omega arith) ∙ ap (at f) (omega (arith, eqb-false (i % 2) 0 e))

  -- ---- the five stages
  pub unstages-stages : (f : List ℤ) → length f ≡ N → unstages N (stages N f) ≡ f
  unfolding unstages stages
  unstages-stages f l =
      let top = top_of N f in
      let bottom = bottom_of N f in
      let bottom₁ = stage1 N top bottom in
      let top₂ = stage2 N top bottom₁ in
      let bottom₃ = stage3 N top₂ bottom₁ in
      let top₄ = stage4 N top₂ bottom₃ in
      let bottom₅ = stage5 N top₄ bottom₃ in
      rw (
        take_at top₄ bottom₅ (half_width N) (length-stage4 N top₂ bottom₃),
        drop_at top₄ bottom₅ (half_width N) (length-stage4 N top₂ bottom₃),
        unstage5-stage5 N top₄ bottom₃ (length-stage3 N top₂ bottom₁),
        unstage4-stage4 N top₂ bottom₃ (length-stage2 N top bottom₁),
        unstage3-stage3 N top₂ bottom₁ (length-stage1 N top bottom),
        unstage2-stage2 N top bottom₁ (length-top N f),
        unstage1-stage1 N top bottom (length-bottom N f),
      )
      (interleaved-parts f l)

  pub stages-unstages : (c : List ℤ) → length c ≡ N → stages N (unstages N c) ≡ c
  unfolding unstages stages
  stages-unstages c l =
      let M = half_width N in
      let top₄ = take M c in
      let bottom₃ = unstage5 N top₄ (drop M c) in
      let top₂ = unstage4 N top₄ bottom₃ in
      let bottom₁ = unstage3 N top₂ bottom₃ in
      let top = unstage2 N top₂ bottom₁ in
      let bottom = unstage1 N top bottom₁ in
      rw (
        top-interleaved top bottom (length-unstage2 N top₂ bottom₁),
        bottom-interleaved top bottom (length-unstage1 N top bottom₁),
        stage1-unstage1 N top bottom₁ (length-unstage3 N top₂ bottom₃),
        stage2-unstage2 N top₂ bottom₁ (length-unstage4 N top₄ bottom₃),
        stage3-unstage3 N top₂ bottom₃ (length-unstage5 N top₄ (drop M c)),
        stage4-unstage4 N top₄ bottom₃ (len_take {n = M} c (l ∙ sym half)),
        stage5-unstage5 N top₄ (drop M c) (len-drop {n = M} c (l ∙ sym half)),
      )
      (take-append-drop M c)

  pub stages-injective : (f g : List ℤ) → length f ≡ N → length g ≡ N → stages N f ≡ stages N g → f ≡ g
  stages-injective f g l m e = sym (unstages-stages f l) ∙ rw e (unstages-stages g m)

  pub stages-onto : (c : List ℤ) → length c ≡ N → (f : List ℤ) × (length f ≡ N) × (stages N f ≡ c)
  stages-onto c l = (unstages N c, length-unstages N c, stages-unstages c l)
