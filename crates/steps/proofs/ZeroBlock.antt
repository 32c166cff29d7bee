-- A block of zeros folds to zeros and holds zeros, so that the frame of a first block, with nothing held, is the one behind a block of zeros.
use mathlib.Core.Path.{◌≡◌, refl, sym, ◌∙◌, ap, ap₂}
use Prim.Native.Nat.{ℕ, zero, suc, ◌-◌}
use lib.IntN.{pos, neg_ℤ, *ℤ-zero}
use lib.ListN.{replicate, length-replicate}
use Rattle.integers.specs.Floor.{round}
use Rattle.integers.proofs.Rounding.{round-zero}
use Rattle.integers.proofs.PlaceLaws.{places_is}
use Rattle.tables.specs.Widths.{half_width}
use Rattle.steps.specs.Places.{at}
use Rattle.steps.specs.Steps.{tangent, sine, tangent_amount, sine_amount, rotated_a, rotated_b, lower, held}

at-zeros : (n i : ℕ) → at (replicate n (pos 0)) i ≡ pos 0
at-zeros zero i = refl
at-zeros (suc n) zero = refl
at-zeros (suc n) (suc i) = at-zeros n i

module _ (N : ℕ) where
  tangent-zero : (m : ℕ) → tangent_amount N m (pos 0) ≡ pos 0
  unfolding tangent_amount
  tangent-zero m = ap (round 28) (*ℤ-zero (neg_ℤ (tangent N m))) ∙ round-zero 28

  sine-zero : (m : ℕ) → sine_amount N m (pos 0) ≡ pos 0
  unfolding sine_amount
  sine-zero m = ap (round 28) (*ℤ-zero (sine N m)) ∙ round-zero 28

  rotated-a-zero : (m : ℕ) → rotated_a N m (pos 0) (pos 0) ≡ pos 0
  unfolding rotated_a
  rotated-a-zero m = rw (tangent-zero m, sine-zero m)

  rotated-b-zero : (m : ℕ) → rotated_b N m (pos 0) (pos 0) ≡ pos 0
  unfolding rotated_b
  rotated-b-zero m = rw (rotated-a-zero m, tangent-zero m)

  pub lower-zeros : (n : ℕ) → lower N (replicate n (pos 0)) ≡ replicate (half_width N) (pos 0)
  unfolding lower
  lower-zeros n =
      places_is (half_width N) _ (replicate (half_width N) (pos 0)) (length-replicate (half_width N) (pos 0))
      (λ i h. ap₂ (rotated_a N (half_width N - 1 - i)) (at-zeros n _) (at-zeros n _) ∙ rotated-a-zero (half_width N - 1 - i) ∙ sym (at-zeros (half_width N) i))

  pub held-zeros : (n : ℕ) → held N (replicate n (pos 0)) ≡ replicate (half_width N) (pos 0)
  unfolding held
  held-zeros n =
      places_is (half_width N) _ (replicate (half_width N) (pos 0)) (length-replicate (half_width N) (pos 0))
      (λ i h. ap₂ (rotated_b N i) (at-zeros n _) (at-zeros n _) ∙ rotated-b-zero i ∙ sym (at-zeros (half_width N) i))
