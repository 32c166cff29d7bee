-- What fits a signed machine word: a size below half the word's range, a change of sign, a quotient. Sizes are `nat_abs`, so that `omega` reads them.
use mathlib.Core.Path.{◌≡◌, refl, sym, ap, subst, ◌∙◌}
use mathlib.Core.Bool.{true, false, true≢false}
use Prim.Native.Nat.{ℕ, zero, suc, ◌+◌, ◌-◌, ◌*◌, ◌/◌, ◌^◌, ◌≤◌, ◌<◌}
use native.Mathlib.Nat.{div-le_self}
use native.Mathlib.Omega.{arith}
use borrow.Author.Tests.{le-ltb}
use lib.Dec.{T, ltb→lt, leb→le}
use lib.IntN.{ℤ, pos, negsuc, neg_ℤ, nat_abs, ◌+ℤ◌, ◌-ℤ◌, ◌*ℤ◌, +ℤ_idl}
use lib.Signed.{mag, quot_z, lt_z, ◌<ℤ◌, ◌≤ℤ◌}
use mir.Syntax.{Width}
use mir.Val.{SFits, of_z, hbits}
use Rattle.integers.specs.Floor.{above, floor_div}
use Rattle.integers.proofs.Differences.{dif, zs, zb}
use Rattle.integers.proofs.Order.{nat_abs-negℤ, mag-lt}
use Rattle.integers.proofs.Rounding.{floor_div-le, floor_div-lt}

-- a number whose size is below half the word's range fits
pub small : (w : Width) (z : ℤ) → nat_abs z < 2 ^ hbits w → SFits w z
small w z h = record { sfits = mag-lt z (omega arith) h }

-- 0 - z, as code writes a change of sign
pub minus : (z : ℤ) → pos 0 -ℤ z ≡ neg_ℤ z
minus z = +ℤ_idl (neg_ℤ z)

pub minus-small : (w : Width) (z : ℤ) → nat_abs z < 2 ^ hbits w → SFits w (pos 0 -ℤ z)
minus-small w z h = subst (SFits w) (sym (minus z)) (small w (neg_ℤ z) (rw (nat_abs-negℤ z) h))

-- ---- division toward zero by a number above zero; corrected below zero it is the floor
pub bits_pos : (w : Width) (p : ℤ) → pos 0 <ℤ p → 0 < of_z w p
bits_pos w (pos p) k = ltb→lt 0 p k.lt
bits_pos w (negsuc p) k = absurd k.lt

mag-neg : (r : ℕ) {a : ℕ} → r ≤ suc a → mag (neg_ℤ (pos r)) ≤ a
mag-neg zero h = omega arith
mag-neg (suc r) h = omega arith

pub quot_fits : (w : Width) (v p : ℤ) → SFits w v → pos 0 <ℤ p → SFits w (quot_z v p)
quot_fits w (pos a) (pos p) h k = record { sfits = omega (arith, div-le_self a p, h.sfits) }
quot_fits w (negsuc a) (pos p) h k = record { sfits = omega (arith, mag-neg (suc a / p) (div-le_self (suc a) p), h.sfits) }
quot_fits w v (negsuc p) h k = absurd k.lt

pub floor-fits : (w : Width) (v : ℤ) (p : ℕ) → SFits w v → SFits w (floor_div v p)
unfolding floor_div
floor-fits w v zero h = record { sfits = omega (arith, h.sfits) }
floor-fits w (pos a) (suc p) h = record { sfits = omega (arith, div-le_self a (suc p), h.sfits) }
floor-fits w (negsuc a) (suc p) h = record { sfits = omega (arith, div-le_self a (suc p), h.sfits) }

-- −1 − z counts from −1 down
pub from-below : (a : ℕ) → negsuc 0 -ℤ negsuc a ≡ pos a
from-below a = rw (le-ltb (suc a) 1 (omega arith)) (ap pos (omega arith))

pub to_below : (n : ℕ) → negsuc 0 -ℤ pos n ≡ negsuc n
to_below n = simp zs (omega arith)

pub floor-above : (v p : ℤ) → pos 0 <ℤ p → lt_z v (pos 0) ≡ false → quot_z v p ≡ floor_div v (above p)
unfolding floor_div above
floor-above v (negsuc p) k e = absurd k.lt
floor-above v (pos zero) k e = absurd k.lt
floor-above (pos a) (pos (suc p)) k e = refl
floor-above (negsuc a) (pos (suc p)) k e = absurd (true≢false e)

pub floor-below : (v p : ℤ) → pos 0 <ℤ p → lt_z v (pos 0) ≡ true → negsuc 0 -ℤ quot_z (negsuc 0 -ℤ v) p ≡ floor_div v (above p)
unfolding floor_div above
floor-below v (negsuc p) k e = absurd k.lt
floor-below v (pos zero) k e = absurd k.lt
floor-below (pos a) (pos (suc p)) k e = absurd (omega (arith, ltb→lt a 0 (subst T (sym e) tt)))
floor-below (negsuc a) (pos (suc p)) k e = ap (λ (z : ℤ). negsuc 0 -ℤ quot_z z (pos (suc p))) (from-below a) ∙ to_below (a / suc p)

-- what is divided, and its quotient, fit
pub turned-fits : (w : Width) (v : ℤ) → SFits w v → lt_z v (pos 0) ≡ true → SFits w (negsuc 0 -ℤ v)
turned-fits w (pos a) h e = absurd (omega (arith, ltb→lt a 0 (subst T (sym e) tt)))
turned-fits w (negsuc a) h e = subst (SFits w) (sym (from-below a)) (record { sfits = omega (arith, h.sfits) })

pub below-fits : (w : Width) (v p : ℤ) → SFits w v → pos 0 <ℤ p → lt_z v (pos 0) ≡ true → SFits w (negsuc 0 -ℤ quot_z (negsuc 0 -ℤ v) p)
below-fits w v p h k e = subst (SFits w) (sym (floor-below v p k e)) (floor-fits w v (above p) h)

pub floor-none : (v p : ℤ) → p ≤ℤ pos 0 → pos 0 ≡ floor_div v (above p)
unfolding floor_div above
floor-none v (pos zero) e = refl
floor-none v (pos (suc p)) e = absurd (omega (arith, leb→le (suc p) 0 e.le))
floor-none v (negsuc p) e = refl
