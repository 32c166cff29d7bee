-- The tangents and the sines of a width: how large, and as lists how long.
use mathlib.Core.Path.{◌≡◌, sym, ap, subst, ◌∙◌}
use mathlib.Core.List.{List}
use Prim.Native.Nat.{ℕ, ◌+◌, ◌*◌, ◌/◌, ◌^◌, ◌≤◌}
use native.Mathlib.Omega.{arith}
use lib.IntN.{ℤ, nat_abs}
use lib.ListN.{length}
use Rattle.integers.specs.Places.{Within}
use Rattle.integers.proofs.Order.{nat_abs-negℤ}
use Rattle.integers.proofs.PlaceLaws.{length-places, within-places}
use Rattle.tables.specs.Widths.{half_width}
use Rattle.tables.specs.Numbers.{sine_of, half_tangent_of}
use Rattle.tables.proofs.Sizes.{half-tangents-le, cosine-size}
use Rattle.steps.specs.Steps.{sine, tangent}
use Rattle.width_tables.specs.Own.Parts.{Sines, Tangents}

pub tangent-size : (N m : ℕ) → nat_abs (tangent N m) ≤ 2 ^ 27
unfolding tangent half_tangent_of
tangent-size = half-tangents-le

pub sine-size : (N m : ℕ) → nat_abs (sine N m) ≤ 2 ^ 28
unfolding sine sine_of
sine-size N m = cosine-size ((2 * m + 1) * (128 / N) + 768)

module _ (N : ℕ) (xs : List ℤ) where
  pub sines-long : Sines N xs → length xs ≡ half_width N
  sines-long s = ap length s.is ∙ length-places _ _

  pub sines-within : Sines N xs → Within (2 ^ 28) xs
  sines-within s = subst (Within (2 ^ 28)) (sym s.is) (within-places (half_width N) (2 ^ 28) (sine N) (λ m l. sine-size N m))

  pub tangents-long : Tangents N xs → length xs ≡ half_width N
  tangents-long t = ap length t.is ∙ length-places _ _

  pub tangents-within : Tangents N xs → Within (2 ^ 28) xs
  tangents-within t = subst (Within (2 ^ 28)) (sym t.is) (within-places (half_width N) (2 ^ 28) _ (λ m l. omega (arith, nat_abs-negℤ (tangent N m), tangent-size N m)))
