-- What a comparison with zero tells of a number's sign.
use borrow.Author.Tests.{ltb-true}
use native.Mathlib.Omega.{arith}
use mathlib.Core.Bool.{Bool, true, false}
use mathlib.Core.Path.{◌≡◌, ap, subst}
use Prim.Native.Nat.{ℕ, ◌+◌, ◌^◌, ◌<◌}
use lib.Dec.{T}
use lib.IntN.{ℤ, pos, negsuc, nat_abs, ◌-ℤ◌}
use lib.Signed.{mag, lt_z, non_neg, nat_abs-le}
use mir.Syntax.{w64}
use mir.Val.{Fits, to_z, of_z}
use Rattle.integers.proofs.Words.{from-below}
use Rattle.integers.proofs.Held.{Held, held-ok, h-lt, asks-nat}
use Rattle.integers.proofs.Num.{num_lit}

pub if-below : (P : ℤ → Type 0) → ((n : ℕ) → P (negsuc n)) → (x : ℤ) → lt_z x (pos 0) ≡ true → P x
if-below P f (pos n) e = absurd (omega (arith, ltb-true n 0 e))
if-below P f (negsuc n) e = f n

pub if-from : (P : ℤ → Type 0) → ((n : ℕ) → P (pos n)) → (x : ℤ) → lt_z x (pos 0) ≡ false → P x
if-from P f (pos n) e = f n
if-from P f (negsuc n) e = absurd (subst T e tt)

pub from_zero : (x : ℤ) → lt_z x (pos 0) ≡ false → T (non_neg x)
from_zero = if-from (λ (x : ℤ). T (non_neg x)) (λ (n : ℕ). tt)

-- −1 less a number below zero
pub turned-from : (x : ℤ) → lt_z x (pos 0) ≡ true → T (non_neg (negsuc 0 -ℤ x))
turned-from = if-below (λ (x : ℤ). T (non_neg (negsuc 0 -ℤ x))) (λ (n : ℕ). rw (from-below n) tt)

pub turned-size : (x : ℤ) → lt_z x (pos 0) ≡ true → nat_abs (negsuc 0 -ℤ x) + 1 ≡ nat_abs x
turned-size = if-below (λ (x : ℤ). nat_abs (negsuc 0 -ℤ x) + 1 ≡ nat_abs x) (λ (n : ℕ). rw (from-below n) (omega arith))

-- an i64 that is asked whether it is below zero, and then made a usize
module _ (x : ℤ) (h : mag x < 2 ^ 63) where
  kept : Held w64 (of_z w64 x) x
  kept = held-ok w64 x h

  pub sign-told : {t : Bool} → lt_z (to_z w64 (of_z w64 x)) (to_z w64 0) ≡ t → lt_z x (pos 0) ≡ t
  sign-told e = h-lt kept (num_lit w64 0 tt).holds e

  pub asks-usize : lt_z (to_z w64 (of_z w64 x)) (to_z w64 0) ≡ false → T (non_neg (to_z w64 (of_z w64 x))) × Fits w64 (nat_abs (to_z w64 (of_z w64 x)))
  asks-usize e = asks-nat w64 kept (from_zero x (sign-told e)) (omega (arith, nat_abs-le x h))

  pub usize-is : nat_abs (to_z w64 (of_z w64 x)) ≡ nat_abs x
  usize-is = ap nat_abs kept.is
