-- Laws of an angle brought into the first quadrant, and of a sign.
use mathlib.Core.Path.{◌≡◌, refl}
use mathlib.Core.Bool.{Bool, true, false}
use Prim.Native.Nat.{ℕ, ◌-◌, ◌*◌, ◌%◌, ◌≤◌, ◌<◌}
use native.Mathlib.Nat.{mod-lt, div-add-mod}
use native.Mathlib.Omega.{arith}
use borrow.Author.Tests.{le-leb, lt-leb, lt-ltb, le-ltb, leb-true, leb-false}
use lib.Dec.{leb}
use lib.IntN.{ℤ, nat_abs}
use Rattle.integers.proofs.Order.{nat_abs-negℤ}
use Rattle.tables.specs.Angles.{half_turn, reflected, below_zero, signed}

module _ (q x : ℕ) where
  pub half-near : x % (4 * q) ≤ 2 * q → half_turn q x ≡ x % (4 * q)
  unfolding half_turn
  half-near h = rw (le-leb (x % (4 * q)) (2 * q) h)

  pub half-past : 2 * q < x % (4 * q) → half_turn q x ≡ 4 * q - x % (4 * q)
  unfolding half_turn
  half-past h = rw (lt-leb (x % (4 * q)) (2 * q) h)

  pub quadrant-near : half_turn q x ≤ q → (reflected q x ≡ half_turn q x) × (below_zero q x ≡ false)
  unfolding reflected below_zero
  quadrant-near h = (rw (le-leb (half_turn q x) q h), le-ltb q (half_turn q x) h)

  pub quadrant-past : q < half_turn q x → (reflected q x ≡ 2 * q - half_turn q x) × (below_zero q x ≡ true)
  unfolding reflected below_zero
  quadrant-past h = (rw (lt-leb (half_turn q x) q h), lt-ltb q (half_turn q x) h)

  pub half_le : 0 < q → half_turn q x ≤ 2 * q
  half_le z = by (leb (x % (4 * q)) (2 * q)) refl
    where
      by : (b : Bool) → leb (x % (4 * q)) (2 * q) ≡ b → half_turn q x ≤ 2 * q
      by true e = let h = leb-true _ _ e in rw (half-near h) h
      by false e = let h = leb-false _ _ e in rw (half-past h) (omega (arith, mod-lt x {m = 4 * q} (omega arith)))

  pub reflected-le : 0 < q → reflected q x ≤ q
  reflected-le z = by (leb (half_turn q x) q) refl
    where
      by : (b : Bool) → leb (half_turn q x) q ≡ b → reflected q x ≤ q
      by true e = let h = leb-true _ _ e in rw (quadrant-near h).0 h
      by false e = let h = leb-false _ _ e in rw (quadrant-past h).0 (omega (arith, half_le z))

  -- an odd angle stays odd: turns and half turns have an even number of parts
  half-odd : 0 < q → x % 2 ≡ 1 → half_turn q x % 2 ≡ 1
  half-odd z o = by (leb (x % (4 * q)) (2 * q)) refl
    where
      part : x % (4 * q) % 2 ≡ 1
      part = omega (arith, div-add-mod x (4 * q))

      by : (b : Bool) → leb (x % (4 * q)) (2 * q) ≡ b → half_turn q x % 2 ≡ 1
      by true e = rw (half-near (leb-true _ _ e)) part
      by false e = rw (half-past (leb-false _ _ e)) (omega (arith, part, mod-lt x {m = 4 * q} (omega arith)))

  pub reflected-odd : 0 < q → x % 2 ≡ 1 → reflected q x % 2 ≡ 1
  reflected-odd z o = by (leb (half_turn q x) q) refl
    where
      by : (b : Bool) → leb (half_turn q x) q ≡ b → reflected q x % 2 ≡ 1
      by true e = rw (quadrant-near (leb-true _ _ e)).0 (half-odd z o)
      by false e = rw (quadrant-past (leb-false _ _ e)).0 (omega (arith, half-odd z o, half_le z))

-- an angle counts by what is left of it within a turn
pub same_turn : (q x y : ℕ) → x % (4 * q) ≡ y % (4 * q) → (reflected q x ≡ reflected q y) × (below_zero q x ≡ below_zero q y)
unfolding reflected below_zero half_turn
same_turn q x y e = (rw e, rw e)

pub signed-size : (b : Bool) (z : ℤ) → nat_abs (signed b z) ≡ nat_abs z
unfolding signed
signed-size true z = nat_abs-negℤ z
signed-size false z = refl
