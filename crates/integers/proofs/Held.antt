-- A signed local holds bits. `Held w x a` says that the bits x, read at the width w, are the number a, and that a fits.
-- A parameter, a literal, an element and a call's result are held as they come; each operation holds the operation's number
-- where that fits. `.is` closes a `returns`, and the `asks-..` close what an operation asks.
use mathlib.Core.Path.{◌≡◌, sym, ap, subst, subst₂, ◌∙◌}
use mathlib.Core.Bool.{Bool}
use Prim.Native.Nat.{ℕ, ◌<◌, ◌^◌, ◌*◌, ◌%◌}
use native.Mathlib.Nat.{mod-eq_of_lt}
use lib.Pow.{pow-lt}
use native.Mathlib.Omega.{arith}
use lib.IntN.{ℤ, pos, neg_ℤ, nat_abs, ◌+ℤ◌, ◌-ℤ◌, ◌*ℤ◌}
use lib.Signed.{mag, quot_z, non_neg, lt_z, le_z}
use lib.Dec.{T}
use mir.Syntax.{Width, w32, w64}
use mir.Val.{Fits, SFits, to_z, of_z, bits, hbits}
use mir.ValLaws.{to_z-of_z}
use Rattle.integers.proofs.Words.{minus}

pub record Held (w : Width) (x : ℕ) (a : ℤ) : Type 0 where
  pub is : to_z w x ≡ a
  pub fits : SFits w a

-- a number that fits, as its bits: a parameter (`c.fits.x`), an element, a cast's result
pub held : (w : Width) (a : ℤ) → SFits w a → Held w (of_z w a) a
held w a f = record { is = to_z-of_z w a f; fits = f }

-- the same, of a value whose bound is all that is handed over (`.ok` of a call, `.given` of an element)
pub held-ok : (w : Width) (a : ℤ) → mag a < 2 ^ hbits w → Held w (of_z w a) a
held-ok w a h = held w a (record { sfits = h })

pub held-eq : {w : Width} {x : ℕ} {a b : ℤ} → Held w x a → a ≡ b → Held w x b
held-eq {w} {x} h e = subst (Held w x) e h

module _ {w : Width} {x y : ℕ} {a b : ℤ} (hx : Held w x a) (hy : Held w y b) where
  pub asks-add : SFits w (a +ℤ b) → SFits w (to_z w x +ℤ to_z w y)
  asks-add f = subst₂ (λ (p q : ℤ). SFits w (p +ℤ q)) (sym hx.is) (sym hy.is) f

  pub asks-sub : SFits w (a -ℤ b) → SFits w (to_z w x -ℤ to_z w y)
  asks-sub f = subst₂ (λ (p q : ℤ). SFits w (p -ℤ q)) (sym hx.is) (sym hy.is) f

  pub asks-mul : SFits w (a *ℤ b) → SFits w (to_z w x *ℤ to_z w y)
  asks-mul f = subst₂ (λ (p q : ℤ). SFits w (p *ℤ q)) (sym hx.is) (sym hy.is) f

  pub asks-quot : SFits w (quot_z a b) → SFits w (quot_z (to_z w x) (to_z w y))
  asks-quot f = subst₂ (λ (p q : ℤ). SFits w (quot_z p q)) (sym hx.is) (sym hy.is) f

  pub h-add : SFits w (a +ℤ b) → Held w (of_z w (to_z w x +ℤ to_z w y)) (a +ℤ b)
  h-add f = subst₂ (λ (p q : ℤ). Held w (of_z w (p +ℤ q)) (a +ℤ b)) (sym hx.is) (sym hy.is) (held w _ f)

  pub h-sub : SFits w (a -ℤ b) → Held w (of_z w (to_z w x -ℤ to_z w y)) (a -ℤ b)
  h-sub f = subst₂ (λ (p q : ℤ). Held w (of_z w (p -ℤ q)) (a -ℤ b)) (sym hx.is) (sym hy.is) (held w _ f)

  pub h-mul : SFits w (a *ℤ b) → Held w (of_z w (to_z w x *ℤ to_z w y)) (a *ℤ b)
  h-mul f = subst₂ (λ (p q : ℤ). Held w (of_z w (p *ℤ q)) (a *ℤ b)) (sym hx.is) (sym hy.is) (held w _ f)

  pub h-quot : SFits w (quot_z a b) → Held w (of_z w (quot_z (to_z w x) (to_z w y))) (quot_z a b)
  h-quot f = subst₂ (λ (p q : ℤ). Held w (of_z w (quot_z p q)) (quot_z a b)) (sym hx.is) (sym hy.is) (held w _ f)

  -- what a test says, of the numbers
  pub h-lt : {t : Bool} → lt_z (to_z w x) (to_z w y) ≡ t → lt_z a b ≡ t
  h-lt {t} e = subst₂ (λ (p q : ℤ). lt_z p q ≡ t) hx.is hy.is e

  pub h_le : {t : Bool} → le_z (to_z w x) (to_z w y) ≡ t → le_z a b ≡ t
  h_le {t} e = subst₂ (λ (p q : ℤ). le_z p q ≡ t) hx.is hy.is e

-- a cast between signed types
module _ {w : Width} {x : ℕ} {a : ℤ} (w' : Width) (hx : Held w x a) (f : SFits w' a) where
  pub asks-cast : SFits w' (to_z w x)
  asks-cast = subst (SFits w') (sym hx.is) f

  pub h-cast : Held w' (of_z w' (to_z w x)) a
  h-cast = subst (λ (p : ℤ). Held w' (of_z w' p) a) (sym hx.is) (held w' a f)

-- an i32, as its bits, made an i64: what `s[i] as i64` asks and gives, from what the read hands over
pub fits-wide : (a : ℤ) → mag a < 2 ^ 31 → SFits w64 a
fits-wide a h = record { sfits = omega arith }

pub asks-wide : (a : ℤ) → mag a < 2 ^ 31 → SFits w64 (to_z w32 (of_z w32 a))
asks-wide a h = asks-cast w64 (held-ok w32 a h) (fits-wide a h)

pub h-wide : (a : ℤ) → mag a < 2 ^ 31 → Held w64 (of_z w64 (to_z w32 (of_z w32 a))) a
h-wide a h = h-cast w64 (held-ok w32 a h) (fits-wide a h)

-- a change of sign, `0 - x`
module _ {w : Width} {x : ℕ} {a : ℤ} (hx : Held w x a) (f : SFits w (pos 0 -ℤ a)) where
  pub asks-minus : SFits w (pos 0 -ℤ to_z w x)
  asks-minus = subst (λ (p : ℤ). SFits w (pos 0 -ℤ p)) (sym hx.is) f

  pub h-minus : Held w (of_z w (pos 0 -ℤ to_z w x)) (neg_ℤ a)
  h-minus = held-eq (subst (λ (p : ℤ). Held w (of_z w (pos 0 -ℤ p)) (pos 0 -ℤ a)) (sym hx.is) (held w _ f)) (minus a)

-- a cast to an unsigned type, of a number that is not below zero
pub asks-nat : {w : Width} {x : ℕ} {a : ℤ} (w' : Width) → Held w x a → T (non_neg a) → nat_abs a < 2 ^ bits w' → T (non_neg (to_z w x)) × Fits w' (nat_abs (to_z w x))
asks-nat w' h t f = (subst (λ (p : ℤ). T (non_neg p)) (sym h.is) t, record { fits = subst (λ (p : ℤ). nat_abs p < 2 ^ bits w') (sym h.is) f })

-- equal bits hold equal numbers
pub same_bits : {w : Width} {x y : ℕ} {a b : ℤ} → Held w x a → Held w y b → x ≡ y → a ≡ b
same_bits {w} h k e = sym h.is ∙ ap (to_z w) e ∙ k.is

-- where arms meet, a variable is equal to what an arm left in it (`w.1` of a side of `.came`)
pub held-bits : {w : Width} {x y : ℕ} {a : ℤ} → x ≡ y → Held w y a → Held w x a
held-bits {w} {a = a} e h = subst (λ (b : ℕ). Held w b a) (sym e) h

-- a power of two, as code makes it by a shift
pub held-power : (j : ℕ) → j < 63 → Held w64 ((1 * 2 ^ j) % 2 ^ 64) (pos (2 ^ j))
held-power j h =
    let l : 2 ^ j < 2 ^ 63 = pow-lt h in
    let e : (1 * 2 ^ j) % 2 ^ 64 ≡ 2 ^ j = mod-eq_of_lt (omega arith) ∙ omega arith in
    held-bits e (held-ok w64 (pos (2 ^ j)) l)
