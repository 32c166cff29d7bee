-- A number read from a list with a limit, and the same with a minus.
use mathlib.Core.Path.{◌≡◌}
use mathlib.Core.List.{List}
use Prim.Native.Nat.{ℕ, ◌^◌}
use native.Mathlib.Omega.{arith}
use lib.IntN.{ℤ, pos, neg_ℤ, ◌-ℤ◌}
use mir.Syntax.{w64}
use mir.Val.{SFits, to_z, of_z}
use Rattle.integers.specs.Places.{at, Within}
use Rattle.integers.proofs.Words.{minus-small}
use Rattle.integers.proofs.Held.{asks-minus, h-minus}
use Rattle.integers.proofs.Num.{Num, num}

module _ {x : List ℤ} (w : Within (2 ^ 62) x) (i : ℕ) where
  pub number : Num w64 (2 ^ 62) (of_z w64 (at x i)) (at x i)
  number = num w64 (at x i) (w.size i) tt

  fits : SFits w64 (pos 0 -ℤ at x i)
  fits = minus-small w64 (at x i) (omega (arith, w.size i))

  pub minus-asks : SFits w64 (pos 0 -ℤ to_z w64 (of_z w64 (at x i)))
  minus-asks = asks-minus number.holds fits

  pub minus_is : to_z w64 (of_z w64 (pos 0 -ℤ to_z w64 (of_z w64 (at x i)))) ≡ neg_ℤ (at x i)
  minus_is = (h-minus number.holds fits).is
