-- A sign by its tests, and that it keeps a number's size.
use mathlib.Core.Path.{◌≡◌, ◌∙◌}
use Prim.Native.Nat.{ℕ, ◌%◌}
use borrow.Author.Tests.{eq-eqb, ne_eqb}
use lib.IntN.{ℤ, neg_ℤ, nat_abs, neg_ℤ-neg_ℤ}
use Rattle.integers.proofs.Order.{nat_abs-negℤ}
use Rattle.tables.specs.Angles.{signed}
use Rattle.tables.proofs.Quadrants.{signed-size}
use Rattle.steps.specs.Steps.{alternate}
use Rattle.lifts.specs.Own.Moves.{flipped}

module _ (i : ℕ) (z : ℤ) where
  pub flipped-odd : i % 2 ≡ 1 → flipped i z ≡ z
  unfolding flipped alternate signed
  flipped-odd e = rw (eq-eqb (i % 2) 1 e) (neg_ℤ-neg_ℤ z)

  pub flipped-even : (i % 2 ≡ 1 → ⊥) → flipped i z ≡ neg_ℤ z
  unfolding flipped alternate signed
  flipped-even e = rw (ne_eqb (i % 2) 1 e)

pub alternate-size : (n : ℕ) (z : ℤ) → nat_abs (alternate n z) ≡ nat_abs z
unfolding alternate
alternate-size n z = signed-size _ z

pub flipped-size : (n : ℕ) (z : ℤ) → nat_abs (flipped n z) ≡ nat_abs z
unfolding flipped
flipped-size n z = nat_abs-negℤ (alternate n z) ∙ alternate-size n z

-- both, for `grind`
pub ruleset flips = (flipped-odd, flipped-even)
