-- The steps forward place by place are the steps over rows, at every width N that is twice its half.
use mathlib.Core.Path.{◌≡◌, refl, sym, ◌∙◌, ap, ap₂}
use mathlib.Core.List.{List, ◌++◌}
use Prim.Native.Nat.{ℕ, ◌+◌, ◌-◌, ◌*◌, ◌<◌}
use native.Mathlib.Omega.{arith}
use lib.ListN.{length, take, drop, length-append}
use lib.Seq.{get_or-take, get_or-drop}
use lib.IntN.{ℤ, pos, neg_ℤ, ◌+ℤ◌, ◌*ℤ◌}
use Rattle.integers.specs.Floor.{round}
use Rattle.integers.specs.Vectors.{plus, mul_vec}
use Rattle.integers.proofs.PlaceLaws.{at_places, places_is, places-ext, sum-ext}
use Rattle.integers.proofs.Products.{get_d-plus}
use Rattle.tables.specs.Widths.{half_width}
use Rattle.steps.specs.Places.{places, at, sum}
use Rattle.steps.specs.Steps.{root_log, tangent, sine, cosine, secant, alternate, tangent_amount, sine_amount, rotated_a, rotated_b, lower, held, top_of, bottom_of, amount1, amount2, amount3, stage1, stage2, stage3, stage4, stage5, stages, frame}
use Rattle.steps.specs.RowForm.{rev, negated_row, alt, evens, odds, lift, RowTables, stage3_entry, row_tables_of, tan_amounts, sin_amounts, rot_a, rot_b, row_lower, row_held, row_stage1, row_stage2, row_stage3, row_stage4, row_stage5, row_stages, row_frame}
use Rattle.steps.proofs.Lists.{Len, len-lift, len-plus, len-mul, len-rev, len-alt, len-evens, len-odds, len_take, len-drop, len-negative}
use Rattle.steps.proofs.ListPlaces.{at-rev, at-rev-back, at-times, at-negative, at-lift, at-alt, at-evens, at-odds, at_mul}
use Rattle.steps.proofs.Lengths.{length-lower, length-top, length-bottom, length-stage1, length-stage2, length-stage3, length-stage4}
use Rattle.steps.proofs.RowLengths.{good, lift_b, len-tangents, len-sines, len-lift_b, len-rot_a, len-rot_b}
use Rattle.steps.proofs.ThirdStage.{third-sum}

-- ---- a lift by its places
lift-are : (k n : ℕ) (f : ℕ → ℤ) (y a : List ℤ) → Len n y → Len n a → ((m : ℕ) → m < n → f m ≡ at y m +ℤ round k (at a m)) → places n f ≡ lift k y a
lift-are k n f y a h l e = places_is n f (lift k y a) (len-lift k y a h l) (λ m z. e m z ∙ sym (at-lift k n y a m h l z))

rev-are : (n : ℕ) (f : ℕ → ℤ) (xs : List ℤ) → Len n xs → ((m : ℕ) → m < n → f m ≡ at xs m) → places n (λ i. f (n - 1 - i)) ≡ rev xs
rev-are n f xs l e = places_is n (λ i. f (n - 1 - i)) (rev xs) (len-rev xs l) (λ i h. e (n - 1 - i) (omega arith) ∙ sym (at-rev n xs i l h))

-- ys with amounts given in the other order
turned-are : (n : ℕ) (g : ℕ → ℤ) (ys xs : List ℤ) → Len n ys → Len n xs → ((m : ℕ) → m < n → at (rev ys) m +ℤ g m ≡ at xs m)
    → places n (λ i. at ys i +ℤ g (n - 1 - i)) ≡ rev xs
turned-are n g ys xs k l e =
    places-ext n _ (λ i. at (rev ys) (n - 1 - i) +ℤ g (n - 1 - i)) (λ i h. ap (λ y. y +ℤ g (n - 1 - i)) (sym (at-rev-back n ys i k h)))
    ∙ rev-are n (λ m. at (rev ys) m +ℤ g m) xs l e

-- ---- the amounts of a stage
module _ (N : ℕ) where
  at-tangents : (a : List ℤ) (m : ℕ) → m < half_width N → round 28 (at (tan_amounts (row_tables_of N) a) m) ≡ tangent_amount N m (at a m)
  unfolding tan_amounts row_tables_of tangent_amount
  at-tangents a m h = ap (round 28) (at-times (row_tables_of N).tan a m ∙ ap (λ t. t *ℤ at a m) (at_places (half_width N) (λ m. neg_ℤ (tangent N m)) m h))

  at-sines : (b : List ℤ) (m : ℕ) → m < half_width N → round 28 (at (sin_amounts (row_tables_of N) b) m) ≡ sine_amount N m (at b m)
  unfolding sin_amounts row_tables_of sine_amount
  at-sines b m h = ap (round 28) (at-times (row_tables_of N).sin b m ∙ ap (λ t. t *ℤ at b m) (at_places (half_width N) (sine N) m h))

  at-cosines : (x : List ℤ) (m : ℕ) → m < half_width N → at (mul_vec (row_tables_of N).cs x) m ≡ sum (half_width N) (λ n. cosine N m n *ℤ at x n)
  unfolding row_tables_of
  at-cosines x m h = at_mul (cosine N) (half_width N) x m h

  amount1-is : (top : List ℤ) (m : ℕ) → m < half_width N → amount1 N top m ≡ round (27 + root_log N) (at (mul_vec (row_tables_of N).cs (alt top)) m)
  unfolding amount1
  amount1-is top m h =
      ap (round (27 + root_log N))
      (sum-ext (half_width N) (λ n. cosine N m n *ℤ alternate n (at top n)) (λ n. cosine N m n *ℤ at (alt top) n) (λ n l. ap (λ z. cosine N m n *ℤ z) (sym (at-alt top n)))
      ∙ sym (at-cosines (alt top) m h))

  amount2-is : (bottom : List ℤ) (m : ℕ) → m < half_width N → amount2 N bottom m ≡ round (28 + root_log N) (at (mul_vec (row_tables_of N).cs bottom) m)
  unfolding amount2
  amount2-is bottom m h = ap (round (28 + root_log N)) (sym (at-cosines bottom m h))

  amount3-is : (top : List ℤ) (m : ℕ) → m < half_width N → amount3 N top m ≡ round (28 + 2 * root_log N) (at (mul_vec (row_tables_of N).a3 top) m)
  unfolding amount3 row_tables_of
  amount3-is top m h =
      let M = half_width N in
      let l = root_log N in
      ap (round (28 + 2 * l))
      (third-sum M l m (secant N m) (cosine N m) (tangent N) (at top) h
      ∙ sym (at_mul (λ m n. stage3_entry M l m n (secant N m n) (cosine N m n) (tangent N n)) M top m h))

-- ---- the five stages
module _ (N : ℕ) (top bottom : List ℤ) (ht : length top ≡ half_width N) (hb : length bottom ≡ half_width N) where
  pub stage1-rows : stage1 N top bottom ≡ row_stage1 (row_tables_of N) top bottom
  unfolding stage1 row_stage1 row_tables_of
  stage1-rows =
      lift-are (27 + root_log N) (half_width N) _ (plus bottom top) (mul_vec (row_tables_of N).cs (alt top)) (len-plus bottom top hb ht) (len-mul (row_tables_of N).cs (alt top) (good N).cs-len)
      (λ m h. ap₂ ◌+ℤ◌ (sym (get_d-plus bottom top m (hb ∙ sym ht))) (amount1-is N top m h))

  pub stage2-rows : stage2 N top bottom ≡ row_stage2 (row_tables_of N) top bottom
  unfolding stage2 row_stage2 row_tables_of
  stage2-rows =
      lift-are (28 + root_log N) (half_width N) _ (negated_row (alt top)) (mul_vec (row_tables_of N).cs bottom) (len-negative (alt top) (len-alt top ht)) (len-mul (row_tables_of N).cs bottom (good N).cs-len)
      (λ m h. ap₂ ◌+ℤ◌ (ap neg_ℤ (sym (at-alt top m)) ∙ sym (at-negative (alt top) m)) (amount2-is N bottom m h))

  pub stage3-rows : stage3 N top bottom ≡ row_stage3 (row_tables_of N) top bottom
  unfolding stage3 row_stage3 row_tables_of
  stage3-rows =
      lift-are (28 + 2 * root_log N) (half_width N) _ bottom (mul_vec (row_tables_of N).a3 top) hb (len-mul (row_tables_of N).a3 top (good N).a3-len)
      (λ m h. ap (λ a. at bottom m +ℤ a) (amount3-is N top m h))

  sine-reversed : (m : ℕ) → m < half_width N → sine_amount N m (at bottom (half_width N - 1 - m)) ≡ round 28 (at (sin_amounts (row_tables_of N) (rev bottom)) m)
  sine-reversed m h = ap (sine_amount N m) (sym (at-rev (half_width N) bottom m hb h)) ∙ sym (at-sines N (rev bottom) m h)

  pub stage4-rows : stage4 N top bottom ≡ row_stage4 (row_tables_of N) top bottom
  unfolding stage4 row_stage4 row_tables_of
  stage4-rows =
      lift-are 28 (half_width N) _ top (sin_amounts (row_tables_of N) (rev bottom)) ht (len-sines (row_tables_of N) (good N) (rev bottom) (len-rev bottom hb))
      (λ m h. ap (λ a. at top m +ℤ a) (sine-reversed m h))

  pub stage5-rows : stage5 N top bottom ≡ row_stage5 (row_tables_of N) top bottom
  unfolding stage5 row_stage5 row_tables_of
  stage5-rows =
      let a = tan_amounts (row_tables_of N) top in
      let lr = len-rev bottom hb in
      let la = len-tangents (row_tables_of N) (good N) top ht in
      turned-are (half_width N) (λ m. tangent_amount N m (at top m)) bottom (lift 28 (rev bottom) a) hb (len-lift 28 (rev bottom) a lr la)
      (λ m h. ap (λ z. at (rev bottom) m +ℤ z) (sym (at-tangents N top m h)) ∙ sym (at-lift 28 (half_width N) (rev bottom) a m lr la h))

-- ---- the rotation of all pairs
module _ (N : ℕ) (a b : List ℤ) (ha : length a ≡ half_width N) (hb : length b ≡ half_width N) where
  -- b with the first amount
  abbrev lifted : List ℤ
  lifted = lift_b (row_tables_of N) a b

  at-lift_b : (a b : List ℤ) → length a ≡ half_width N → length b ≡ half_width N → (m : ℕ) → m < half_width N → at (lift_b (row_tables_of N) a b) m ≡ at b m +ℤ tangent_amount N m (at a m)
  unfolding row_tables_of
  at-lift_b a b h l m z = at-lift 28 (half_width N) b (tan_amounts (row_tables_of N) a) m l (len-tangents (row_tables_of N) (good N) a h) z ∙ ap (λ t. at b m +ℤ t) (at-tangents N a m z)

  at-rot_a : (m : ℕ) → m < half_width N → at (rot_a (row_tables_of N) a b) m ≡ rotated_a N m (at a m) (at b m)
  unfolding rot_a rotated_a row_tables_of
  at-rot_a m h =
      at-lift 28 (half_width N) a (sin_amounts (row_tables_of N) lifted) m ha (len-sines (row_tables_of N) (good N) lifted (len-lift_b (row_tables_of N) (good N) a b ha hb)) h
      ∙ ap (λ z. at a m +ℤ z) (at-sines N lifted m h ∙ ap (sine_amount N m) (at-lift_b a b ha hb m h))

  at-rot_b : (m : ℕ) → m < half_width N → at (rot_b (row_tables_of N) a b) m ≡ rotated_b N m (at a m) (at b m)
  unfolding rot_b rotated_b row_tables_of
  at-rot_b m h =
      let r = rot_a (row_tables_of N) a b in
      at-lift_b r lifted (len-rot_a (row_tables_of N) (good N) a b ha hb) (len-lift_b (row_tables_of N) (good N) a b ha hb) m h
      ∙ ap₂ ◌+ℤ◌ (at-lift_b a b ha hb m h) (ap (tangent_amount N m) (at-rot_a m h))

-- ---- the fold
module _ (N : ℕ) (twice : half_width N + half_width N ≡ N) where
  pub top-rows : (f : List ℤ) → length f ≡ N → top_of N f ≡ evens f
  unfolding top_of
  top-rows f l = places_is (half_width N) _ (evens f) (len-evens f (l ∙ sym twice)) (λ m h. sym (at-evens f m))

  pub bottom-rows : (f : List ℤ) → length f ≡ N → bottom_of N f ≡ odds f
  unfolding bottom_of
  bottom-rows f l = places_is (half_width N) _ (odds f) (len-odds f (l ∙ sym twice)) (λ m h. sym (at-odds f m))

  module _ (x : List ℤ) (l : length x ≡ N) where
    abbrev front : List ℤ
    front = take (half_width N) x

    abbrev behind : List ℤ
    behind = rev (drop (half_width N) x)

    len-front : Len (half_width N) front
    len-front = len_take x (l ∙ sym twice)

    len-behind : Len (half_width N) behind
    len-behind = len-rev (drop (half_width N) x) (len-drop x (l ∙ sym twice))

    at_front : (n : ℕ) → n < half_width N → at front n ≡ at x n
    at_front n h = get_or-take (half_width N) x n (pos 0) h

    at-behind : (n : ℕ) → n < half_width N → at behind n ≡ at x (N - 1 - n)
    at-behind n h =
        let i : half_width N + (half_width N - 1 - n) ≡ N - 1 - n = omega arith in
        at-rev (half_width N) (drop (half_width N) x) n (len-drop x (l ∙ sym twice)) h ∙ get_or-drop (half_width N) x (half_width N - 1 - n) (pos 0) ∙ ap (at x) i

    pub lower-rows : lower N x ≡ row_lower (row_tables_of N) x
    unfolding lower row_lower row_tables_of
    lower-rows =
        rev-are (half_width N) (λ n. rotated_a N n (at x n) (at x (N - 1 - n))) (rot_a (row_tables_of N) front behind) (len-rot_a (row_tables_of N) (good N) front behind len-front len-behind)
        (λ n h. ap₂ (rotated_a N n) (sym (at_front n h)) (sym (at-behind n h)) ∙ sym (at-rot_a N front behind len-front len-behind n h))

    pub held_rows : held N x ≡ row_held (row_tables_of N) x
    unfolding held row_held row_tables_of
    held_rows =
        places_is (half_width N) _ (rot_b (row_tables_of N) front behind) (len-rot_b (row_tables_of N) (good N) front behind len-front len-behind)
        (λ n h. ap₂ (rotated_b N n) (sym (at_front n h)) (sym (at-behind n h)) ∙ sym (at-rot_b N front behind len-front len-behind n h))

  -- ---- all stages
  pub stages-rows : (f : List ℤ) → length f ≡ N → stages N f ≡ row_stages (row_tables_of N) f
  unfolding stages row_stages
  stages-rows f l =
      let w = row_tables_of N in
      let top = top_of N f in
      let bottom = bottom_of N f in
      let bottom₁ = stage1 N top bottom in
      let top₂ = stage2 N top bottom₁ in
      let bottom₃ = stage3 N top₂ bottom₁ in
      let top₄ = stage4 N top₂ bottom₃ in
      let l₁ = length-stage1 N top bottom in
      let l₂ = length-stage2 N top bottom₁ in
      let l₃ = length-stage3 N top₂ bottom₁ in
      let e = top-rows f l in
      let e₁ = stage1-rows N top bottom (length-top N f) (length-bottom N f) ∙ ap₂ (row_stage1 w) e (bottom-rows f l) in
      let e₂ = stage2-rows N top bottom₁ (length-top N f) l₁ ∙ ap₂ (row_stage2 w) e e₁ in
      let e₃ = stage3-rows N top₂ bottom₁ l₂ l₁ ∙ ap₂ (row_stage3 w) e₂ e₁ in
      let e₄ = stage4-rows N top₂ bottom₃ l₂ l₃ ∙ ap₂ (row_stage4 w) e₂ e₃ in
      ap₂ ◌++◌ e₄ (stage5-rows N top₄ bottom₃ (length-stage4 N top₂ bottom₃) l₃ ∙ ap₂ (row_stage5 w) e₄ e₃)

  pub frame-rows : (before block : List ℤ) → length before ≡ half_width N → length block ≡ N → frame N before block ≡ row_frame (row_tables_of N) before block
  unfolding frame row_frame
  frame-rows before block k l =
      stages-rows (lower N block ++ before) (omega (arith, length-append (lower N block) before, length-lower N block))
      ∙ ap (λ f. row_stages (row_tables_of N) (f ++ before)) (lower-rows block l)
