-- What the lifts come to: each stage of Steps, by one scale for all widths.
use mathlib.Core.Path.{◌≡◌, refl, sym, ap, ap₂, ◌∙◌}
use mathlib.Core.Bool.{Bool, true, false, cond}
use mathlib.Core.List.{List}
use Prim.Native.Nat.{ℕ, ◌+◌, ◌-◌, ◌*◌, ◌^◌, ◌<◌}
use native.Mathlib.Omega.{arith}
use lib.IntN.{ℤ, pos, neg_ℤ, ◌+ℤ◌, ◌-ℤ◌, ◌*ℤ◌}
use lib.ListN.{length}
use Rattle.integers.specs.Floor.{round}
use Rattle.integers.specs.Places.{places, at, sum}
use Rattle.integers.proofs.Differences.{dif, zs}
use Rattle.integers.proofs.Rounding.{round-scaled}
use Rattle.integers.proofs.Ring.{ring, *ℤ-assoc}
use Rattle.integers.proofs.PlaceLaws.{at_places, places-ext, sum-ext}
use Rattle.tables.specs.Widths.{by_width, half_width, scale}
use Rattle.tables.proofs.ByWidth.{at_each, no_other}
use Rattle.steps.specs.Steps.{root_log, cosine, secant, alternate, amount1, amount2, amount3, tangent, sine, tangent_amount, sine_amount, stage1, stage2, stage3, stage4, stage5, unstage1, unstage2, unstage3, unstage4, unstage5}
use Rattle.rows.specs.Sums.{cosine_sums, secant_sums, alternated}
use Rattle.slices.specs.Own.Moves.{moved}
use Rattle.lifts.specs.Own.Moves.{flipped, stage2_at, amount, stage3_amount}
use Rattle.width_tables.specs.Own.Parts.{TwoHalves}

-- ---- one scale for all widths
round-first : (N : ℕ) → 0 < half_width N → (v : ℤ) → round 30 (pos (scale N) *ℤ v) ≡ round (27 + root_log N) v
unfolding scale root_log by_width
round-first =
    at_each (λ N l. 0 < half_width N → (v : ℤ) → round 30 (pos (scale N) *ℤ v) ≡ round (27 + l) v) 1 2 3 0
    (λ z v. round-scaled 28 2 v (omega arith)) (λ z v. round-scaled 29 1 v (omega arith)) (λ z v. round-scaled 30 0 v (omega arith)) (λ N x y w z. absurd (no_other N z x y w))

round-second : (N : ℕ) → 0 < half_width N → (v : ℤ) → round 31 (pos (scale N) *ℤ v) ≡ round (28 + root_log N) v
unfolding scale root_log by_width
round-second =
    at_each (λ N l. 0 < half_width N → (v : ℤ) → round 31 (pos (scale N) *ℤ v) ≡ round (28 + l) v) 1 2 3 0
    (λ z v. round-scaled 29 2 v (omega arith)) (λ z v. round-scaled 30 1 v (omega arith)) (λ z v. round-scaled 31 0 v (omega arith)) (λ N x y w z. absurd (no_other N z x y w))

-- what stage 3 adds, in parts of 2^34, is that of Steps times a power of two
module _ (S C T : ℤ) where
  abbrev plain : ℕ → ℕ → ℤ
  plain r M = neg_ℤ S -ℤ pos r *ℤ C +ℤ pos M *ℤ T

  times-out : (c r M : ℕ) → neg_ℤ (pos c *ℤ S) -ℤ pos (c * r) *ℤ C +ℤ pos (c * M) *ℤ T ≡ pos c *ℤ plain r M
  times-out c r M = rw (dif S, dif C, dif T) (simp zs (omega arith))

  third-is : (s c r M : ℕ) → s * s ≡ c → 16 * s ≡ c * r → 64 ≡ c * M → stage3_amount (pos (s * s) *ℤ S) (pos s *ℤ C) T ≡ pos c *ℤ plain r M
  unfolding amount
  third-is s c r M e f g =
      ap (λ v. neg_ℤ (pos (s * s) *ℤ S) -ℤ v +ℤ pos 64 *ℤ T) (sym (*ℤ-assoc (pos 16) (pos s) C))
      ∙ ap₂ (λ a b. neg_ℤ (pos a *ℤ S) -ℤ pos b *ℤ C +ℤ pos 64 *ℤ T) e f
      ∙ ap (λ d. neg_ℤ (pos c *ℤ S) -ℤ pos (c * r) *ℤ C +ℤ pos d *ℤ T) g
      ∙ times-out c r M

round-third : (N : ℕ) → 0 < half_width N → (S C T : ℤ) → round 34 (stage3_amount (pos (scale N * scale N) *ℤ S) (pos (scale N) *ℤ C) T) ≡ round (28 + 2 * root_log N) (plain S C T (2 * 2 ^ root_log N) (half_width N))
unfolding half_width scale root_log by_width
round-third =
    at_each (λ N l. 0 < half_width N → (S C T : ℤ) → round 34 (stage3_amount (pos (scale N * scale N) *ℤ S) (pos (scale N) *ℤ C) T) ≡ round (28 + 2 * l) (plain S C T (2 * 2 ^ l) (half_width N))) 1 2 3 0
    (λ z S C T. ap (round 34) (third-is S C T 4 16 4 4 refl refl refl) ∙ round-scaled 30 4 (plain S C T 4 4) (omega arith))
    (λ z S C T. ap (round 34) (third-is S C T 2 4 8 16 refl refl refl) ∙ round-scaled 32 2 (plain S C T 8 16) (omega arith))
    (λ z S C T. ap (round 34) (third-is S C T 1 1 16 64 refl refl refl) ∙ round-scaled 34 0 (plain S C T 16 64) (omega arith))
    (λ N x y w z. absurd (no_other N z x y w))

minus-inside : (s c p t x : ℤ) → neg_ℤ s -ℤ c +ℤ p *ℤ (neg_ℤ t *ℤ x) ≡ neg_ℤ s -ℤ c -ℤ p *ℤ (t *ℤ x)
minus-inside s c p t x = simp ring

both-off : (x y z : ℤ) → x -ℤ (y +ℤ z) ≡ x -ℤ z -ℤ y
both-off x y z = simp ring

both-on : (x y z : ℤ) → x +ℤ (y +ℤ z) ≡ x +ℤ y +ℤ z
both-on x y z = simp ring

-- a list by the places of another: what stands there may be said in another way
respoken : (n : ℕ) (y : List ℤ) (f g : ℕ → ℤ) → length y ≡ n → ((i : ℕ) → i < n → f i ≡ g i) → places (length y) f ≡ places n g
respoken n y f g l h = ap (λ k. places k f) l ∙ places-ext n f g h

-- ---- the stages, with rows as the lifts read them
module _ (N : ℕ) (z : 0 < half_width N) (top bottom : List ℤ) (h : TwoHalves N top bottom) where
  abbrev M : ℕ
  M = half_width N

  module _ (row : ℕ → ℤ) (r : (m : ℕ) → m < M → row m ≡ pos (scale N) *ℤ at (cosine_sums N (alternated top)) m) where
    amount1-is : (m : ℕ) → m < M → round 30 (row m) ≡ amount1 N top m
    unfolding amount1 cosine_sums
    amount1-is m l =
        ap (round 30) (r m l ∙ ap (λ v. pos (scale N) *ℤ v) (at_places M _ m l ∙ sum-ext M _ _ (λ n k. ap (λ v. cosine N m n *ℤ v) (at_places (length top) _ n (omega (arith, h.top-long))))))
        ∙ round-first N z _

    abbrev lifted1 : Bool → List ℤ
    lifted1 undo = places (length bottom) (λ i. moved undo (at bottom i) (at top i +ℤ round 30 (row i)))

    same1 : (undo : Bool) → lifted1 undo ≡ cond undo (unstage1 N top bottom) (stage1 N top bottom)
    unfolding stage1 unstage1 moved
    same1 true = respoken M bottom _ _ h.bottom-long (λ m l. ap (λ v. at bottom m -ℤ (at top m +ℤ v)) (amount1-is m l) ∙ both-off (at bottom m) (at top m) (amount1 N top m))
    same1 false = respoken M bottom _ _ h.bottom-long (λ m l. ap (λ v. at bottom m +ℤ (at top m +ℤ v)) (amount1-is m l) ∙ both-on (at bottom m) (at top m) (amount1 N top m))

    pub stage1-is : (undo : Bool) {out : List ℤ} → out ≡ lifted1 undo → out ≡ cond undo (unstage1 N top bottom) (stage1 N top bottom)
    stage1-is undo e = e ∙ same1 undo

  module _ (row : ℕ → ℤ) (r : (m : ℕ) → m < M → row m ≡ pos (scale N) *ℤ at (cosine_sums N bottom) m) where
    amount2-is : (m : ℕ) → m < M → round 31 (row m) ≡ amount2 N bottom m
    unfolding amount2 cosine_sums
    amount2-is m l = ap (round 31) (r m l ∙ ap (λ v. pos (scale N) *ℤ v) (at_places M _ m l)) ∙ round-second N z _

    abbrev lifted2 : Bool → List ℤ
    lifted2 undo = places (length top) (λ i. stage2_at undo i (at top i) (round 31 (row i)))

    same2 : (undo : Bool) → lifted2 undo ≡ cond undo (unstage2 N top bottom) (stage2 N top bottom)
    unfolding stage2 unstage2 stage2_at flipped
    same2 true = respoken M top _ _ h.top-long (λ m l. ap (λ v. neg_ℤ (alternate m (at top m -ℤ v))) (amount2-is m l))
    same2 false = respoken M top _ _ h.top-long (λ m l. ap (λ v. neg_ℤ (alternate m (at top m)) +ℤ v) (amount2-is m l))

    pub stage2-is : (undo : Bool) {out : List ℤ} → out ≡ lifted2 undo → out ≡ cond undo (unstage2 N top bottom) (stage2 N top bottom)
    stage2-is undo e = e ∙ same2 undo

  module _ (sec cos : ℕ → ℤ) (p : (m : ℕ) → m < M → sec m ≡ pos (scale N * scale N) *ℤ at (secant_sums N top) m) (q : (m : ℕ) → m < M → cos m ≡ pos (scale N) *ℤ at (cosine_sums N top) m)
      (c : List ℤ) (t : c ≡ places M (λ m. neg_ℤ (tangent N m))) where
    -- −t·top from the end
    tangents-at : (m : ℕ) → m < M → at c (length bottom - 1 - m) *ℤ at top (length bottom - 1 - m) ≡ neg_ℤ (tangent N (M - 1 - m)) *ℤ at top (M - 1 - m)
    tangents-at m l =
        ap (λ n. at c (n - 1 - m) *ℤ at top (n - 1 - m)) h.bottom-long
        ∙ ap (λ v. v *ℤ at top (M - 1 - m)) (ap (λ xs. at xs (M - 1 - m)) t ∙ at_places M _ (M - 1 - m) (omega arith))

    amount3-is : (m : ℕ) → m < M → round 34 (stage3_amount (sec m) (cos m) (at c (length bottom - 1 - m) *ℤ at top (length bottom - 1 - m))) ≡ amount3 N top m
    unfolding amount3 secant_sums cosine_sums
    amount3-is m l =
        let S = sum M (λ n. secant N m n *ℤ at top n) in
        let C = sum M (λ n. cosine N m n *ℤ at top n) in
        let T = tangent N (M - 1 - m) in
        let x = at top (M - 1 - m) in
        ap₂ (λ a b. round 34 (stage3_amount a b (at c (length bottom - 1 - m) *ℤ at top (length bottom - 1 - m))))
        (p m l ∙ ap (λ v. pos (scale N * scale N) *ℤ v) (at_places M _ m l)) (q m l ∙ ap (λ v. pos (scale N) *ℤ v) (at_places M _ m l))
        ∙ ap (λ v. round 34 (stage3_amount (pos (scale N * scale N) *ℤ S) (pos (scale N) *ℤ C) v)) (tangents-at m l)
        ∙ round-third N z S C (neg_ℤ T *ℤ x)
        ∙ ap (round (28 + 2 * root_log N)) (minus-inside S (pos (2 * 2 ^ root_log N) *ℤ C) (pos M) T x)

    abbrev lifted3 : Bool → List ℤ
    lifted3 undo = places (length bottom) (λ i. moved undo (at bottom i) (round 34 (stage3_amount (sec i) (cos i) (at c (length bottom - 1 - i) *ℤ at top (length bottom - 1 - i)))))

    same3 : (undo : Bool) → lifted3 undo ≡ cond undo (unstage3 N top bottom) (stage3 N top bottom)
    unfolding stage3 unstage3 moved
    same3 true = respoken M bottom _ _ h.bottom-long (λ m l. ap (λ v. at bottom m -ℤ v) (amount3-is m l))
    same3 false = respoken M bottom _ _ h.bottom-long (λ m l. ap (λ v. at bottom m +ℤ v) (amount3-is m l))

    pub stage3-is : (undo : Bool) {out : List ℤ} → out ≡ lifted3 undo → out ≡ cond undo (unstage3 N top bottom) (stage3 N top bottom)
    stage3-is undo e = e ∙ same3 undo

-- ---- lifts that read a list from its end: at place i of n numbers c is read at `place n i`
module _ (N : ℕ) (top bottom : List ℤ) (h : TwoHalves N top bottom) (c : List ℤ) where
  lifted_by : (undo : Bool) (place : ℕ → ℕ → ℕ) (x y : List ℤ) (f : ℕ → ℤ) → ((i : ℕ) → i < half_width N → place (half_width N) i < half_width N) → length y ≡ half_width N → c ≡ places (half_width N) f
      → places (length y) (λ i. moved undo (at y i) (round 28 (at c (place (length y) i) *ℤ at x (length y - 1 - i))))
      ≡ places (half_width N) (λ i. moved undo (at y i) (round 28 (f (place (half_width N) i) *ℤ at x (half_width N - 1 - i))))
  lifted_by undo place x y f inside l t =
      let M = half_width N in
      ap (λ n. places n (λ i. moved undo (at y i) (round 28 (at c (place n i) *ℤ at x (n - 1 - i))))) l
      ∙ places-ext M _ _ (λ i k. ap (λ z. moved undo (at y i) (round 28 (z *ℤ at x (M - 1 - i)))) (ap (λ xs. at xs (place M i)) t ∙ at_places M f _ (inside i k)))

  abbrev lifted4 : Bool → List ℤ
  lifted4 undo = places (length top) (λ i. moved undo (at top i) (round 28 (at c i *ℤ at bottom (length top - 1 - i))))

  same4 : c ≡ places (half_width N) (sine N) → (undo : Bool) → lifted4 undo ≡ cond undo (unstage4 N top bottom) (stage4 N top bottom)
  unfolding stage4 unstage4 sine_amount moved
  same4 t true = lifted_by true (λ n i. i) bottom top (sine N) (λ i k. k) h.top-long t
  same4 t false = lifted_by false (λ n i. i) bottom top (sine N) (λ i k. k) h.top-long t

  pub stage4-is : c ≡ places (half_width N) (sine N) → (undo : Bool) {out : List ℤ} → out ≡ lifted4 undo → out ≡ cond undo (unstage4 N top bottom) (stage4 N top bottom)
  stage4-is t undo e = e ∙ same4 t undo

  abbrev lifted5 : Bool → List ℤ
  lifted5 undo = places (length bottom) (λ i. moved undo (at bottom i) (round 28 (at c (length bottom - 1 - i) *ℤ at top (length bottom - 1 - i))))

  same5 : c ≡ places (half_width N) (λ m. neg_ℤ (tangent N m)) → (undo : Bool) → lifted5 undo ≡ cond undo (unstage5 N top bottom) (stage5 N top bottom)
  unfolding stage5 unstage5 tangent_amount moved
  same5 t true = lifted_by true (λ n i. n - 1 - i) top bottom (λ m. neg_ℤ (tangent N m)) (λ i k. omega arith) h.bottom-long t
  same5 t false = lifted_by false (λ n i. n - 1 - i) top bottom (λ m. neg_ℤ (tangent N m)) (λ i k. omega arith) h.bottom-long t

  pub stage5-is : c ≡ places (half_width N) (λ m. neg_ℤ (tangent N m)) → (undo : Bool) {out : List ℤ} → out ≡ lifted5 undo → out ≡ cond undo (unstage5 N top bottom) (stage5 N top bottom)
  stage5-is t undo e = e ∙ same5 t undo
