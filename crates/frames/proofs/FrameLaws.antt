-- What is read from and written to a frame's list: its halves, and the stages over both.
use mathlib.Core.Path.{◌≡◌, refl, sym, ap, ap₂, subst, ◌∙◌}
use mathlib.Core.List.{List, [], ◌∷◌, ◌++◌}
use Prim.Native.Nat.{ℕ, zero, suc, ◌+◌, ◌-◌, ◌*◌, ◌^◌, ◌≤◌, ◌<◌}
use native.Mathlib.Omega.{arith}
use borrow.Author.Rules.{part_to_end}
use lib.IntN.{ℤ, pos, nat_abs}
use lib.ListN.{length, take, drop, length-drop}
use lib.Seq.{get_or-drop}
use Rattle.integers.specs.Places.{places, at, Within}
use Rattle.integers.proofs.PlaceLaws.{places-ext, within-places, within-up}
use Rattle.tables.specs.Widths.{half_width}
use Rattle.steps.specs.Limits.{folded_limit}
use Rattle.steps.specs.Steps.{top_of, bottom_of, stages, unstages, interleaved}
use Rattle.steps.proofs.Lengths.{width-half}
use Rattle.slices.specs.Own.Moves.{woven_at}
use Rattle.slices.proofs.Parts.{part-long}
use Rattle.stages.proofs.FrameSizes.{within4, within5}
use Rattle.stages.specs.Own.Stages.{bottom1, top2, bottom3, top4, bottom5, unbottom5, untop4, unbottom3, untop2, unbottom1}

module _ (N : ℕ) (f : List ℤ) where
  abbrev M : ℕ
  M = half_width N

  pub read-evens : places M (λ i. at f (2 * i + 0)) ≡ top_of N f
  unfolding top_of
  read-evens = places-ext M _ _ (λ i l. ap (at f) (omega arith))

  pub read-odds : places M (λ i. at f (2 * i + 1)) ≡ bottom_of N f
  unfolding bottom_of
  read-odds = refl

  pub stages-halves : top4 N (top_of N f) (bottom_of N f) ++ bottom5 N (top_of N f) (bottom_of N f) ≡ stages N f
  unfolding stages top4 bottom5 bottom3 top2 bottom1
  stages-halves = refl

  unstages-halves : places N (woven_at (untop2 N (take M f) (drop M f)) (unbottom1 N (take M f) (drop M f))) ≡ unstages N f
  unfolding unstages interleaved woven_at untop2 unbottom1 unbottom3 untop4 unbottom5
  unstages-halves = refl

-- its halves, as the code lends them
module _ {N : ℕ} (f : List ℤ) {half : ℕ} (wide : 0 < half_width N) (long : length f ≡ N) (e : half ≡ half_width N) where
  pub half_le : half ≤ length f
  half_le = omega (arith, e, long, width-half N wide)

  pub lower_is : take half f ≡ take (half_width N) f
  lower_is = ap (λ n. take n f) e

  pub lower-long : length (take half f) ≡ half_width N
  lower-long = sym (part-long half f half_le) ∙ e

  pub upper_is : take (length f - half) (drop half f) ≡ drop (half_width N) f
  upper_is = part_to_end f half ∙ ap (λ n. drop n f) e

  pub upper-long : length (take (length f - half) (drop half f)) ≡ half_width N
  upper-long = ap length upper_is ∙ omega (arith, length-drop (half_width N) f, long, width-half N wide)

  -- the stages undone on both
  pub unstages_is : {low high top bottom : List ℤ} → low ≡ take half f → high ≡ take (length f - half) (drop half f) → (top ≡ untop2 N low high) × (bottom ≡ unbottom1 N low high)
      → places N (woven_at top bottom) ≡ unstages N f
  unstages_is l h u =
      ap₂ (λ (x y : List ℤ). places N (woven_at x y)) (u.0 ∙ ap₂ (untop2 N) (l ∙ lower_is) (h ∙ upper_is)) (u.1 ∙ ap₂ (unbottom1 N) (l ∙ lower_is) (h ∙ upper_is))
      ∙ unstages-halves N f

-- limits on the parts of a list
taken : (B n : ℕ) (f : List ℤ) (i : ℕ) → Within B f → nat_abs (at (take n f) i) ≤ B
taken B zero f i h = omega arith
taken B (suc n) [] i h = omega arith
taken B (suc n) (x ∷ f) zero h = h.size 0
taken B (suc n) (x ∷ f) (suc i) h = taken B n f i (record { size = λ j. h.size (suc j) })

module _ (N B : ℕ) (f : List ℤ) (h : Within B f) where
  pub top_within : Within B (top_of N f)
  unfolding top_of
  top_within = within-places (half_width N) B _ (λ m l. h.size (2 * m))

  pub bottom-within : Within B (bottom_of N f)
  unfolding bottom_of
  bottom-within = within-places (half_width N) B _ (λ m l. h.size (2 * m + 1))

  pub take_within : (n : ℕ) → Within B (take n f)
  take_within n = record { size = λ i. taken B n f i h }

  pub drop-within : (n : ℕ) → Within B (drop n f)
  drop-within n = record { size = λ i. rw (get_or-drop n f i (pos 0)) (h.size (n + i)) }

appended : (B : ℕ) (xs ys : List ℤ) → Within B xs → Within B ys → (i : ℕ) → nat_abs (at (xs ++ ys) i) ≤ B
appended B [] ys h k i = k.size i
appended B (x ∷ xs) ys h k zero = h.size 0
appended B (x ∷ xs) ys h k (suc i) = appended B xs ys (record { size = λ j. h.size (suc j) }) k i

-- a coefficient of folded values in range fits 32 bits
pub stages-within : (N : ℕ) (f : List ℤ) → length f ≡ N → half_width N + half_width N ≡ N → Within folded_limit f → Within (2 ^ 30) (stages N f)
stages-within N f l e h =
    let t = top_within N folded_limit f h in
    let b = bottom-within N folded_limit f h in
    subst (Within (2 ^ 30)) (stages-halves N f)
    (record { size = appended (2 ^ 30) _ _ (within-up (within4 N _ _ t b) (omega arith)) (within-up (within5 N _ _ t b) (omega arith)) })
