-- The sizes (absolute values) and the order of ℤ.
use mathlib.Core.Path.{◌≡◌, refl, sym, subst}
use mathlib.Core.Logic.{◌↔◌, ◌⊎◌, inl, inr}
use mathlib.Core.Bool.{Bool, true, false, not}
use Prim.Native.Nat.{ℕ, zero, suc, ◌+◌, ◌*◌, ◌-◌, ◌≤◌, ◌<◌}
use native.Mathlib.Omega.{arith}
use native.Mathlib.Nat.{mul-le-mul, le_refl}
use lib.Dec.{T}
use lib.IntN.{ℤ, pos, negsuc, neg_ℤ, nat_abs, ◌+ℤ◌, ◌-ℤ◌, ◌*ℤ◌}
use lib.Signed.{mag, ◌≤ℤ◌, ◌<ℤ◌, le_z, lt_z, le_z_yes, lt_z_yes, lt_z_no, clash_ℤ}
use Rattle.integers.specs.Floor.{above}
use Rattle.integers.proofs.Differences.{dif, zs, zb}

-- ---- nat_abs
pub nat_abs-negℤ : (a : ℤ) → nat_abs (neg_ℤ a) ≡ nat_abs a
nat_abs-negℤ (pos zero) = refl
nat_abs-negℤ (pos (suc n)) = refl
nat_abs-negℤ (negsuc n) = refl

pub nat_abs-*ℤ : (a b : ℤ) → nat_abs (a *ℤ b) ≡ nat_abs a * nat_abs b
nat_abs-*ℤ (pos a) (pos b) = refl
nat_abs-*ℤ (pos a) (negsuc b) = nat_abs-negℤ (pos (a * suc b))
nat_abs-*ℤ (negsuc a) (pos b) = nat_abs-negℤ (pos (suc a * b))
nat_abs-*ℤ (negsuc a) (negsuc b) = refl

pub nat_abs-+ℤ : (a b : ℤ) → nat_abs (a +ℤ b) ≤ nat_abs a + nat_abs b
nat_abs-+ℤ a b = rw (dif a, dif b) (simp zs (omega arith))

pub nat_abs--ℤ : (a b : ℤ) → nat_abs (a -ℤ b) ≤ nat_abs a + nat_abs b
nat_abs--ℤ a b = rw (dif a, dif b) (simp zs (omega arith))

pub nat_abs-near : (a b : ℤ) → nat_abs a ≤ nat_abs b + nat_abs (a -ℤ b)
nat_abs-near a b = rw (dif a, dif b) (simp zs (omega arith))

pub nat_abs-zero : (a : ℤ) → nat_abs a ≡ 0 → a ≡ pos 0
nat_abs-zero a = rw (dif a) (simp zs (omega arith))

pub nat_abs-+ℤ-le : (a b : ℤ) {A B : ℕ} → nat_abs a ≤ A → nat_abs b ≤ B → nat_abs (a +ℤ b) ≤ A + B
nat_abs-+ℤ-le a b h k = omega (arith, nat_abs-+ℤ a b)

pub nat_abs-*ℤ-le : (a b : ℤ) {A B : ℕ} → nat_abs a ≤ A → nat_abs b ≤ B → nat_abs (a *ℤ b) ≤ A * B
nat_abs-*ℤ-le a b h k = rw (nat_abs-*ℤ a b) (mul-le-mul h k)

pub above-pos : (a : ℤ) → pos 0 ≤ℤ a → pos (above a) ≡ a
unfolding above
above-pos (pos n) h = refl
above-pos (negsuc n) h = absurd h.le

-- the range of a signed width from a bound (SFits's field `sfits`; its converse is lib.Signed's natAbs-le)
pub mag-lt : (z : ℤ) {B H : ℕ} → nat_abs z ≤ B → B < H → mag z < H
mag-lt z {B} {H} = rw (dif z) (simp zb (omega arith))

-- ---- the order

pub ≤ℤ-antisym : {a b : ℤ} → a ≤ℤ b → b ≤ℤ a → a ≡ b
≤ℤ-antisym {a} {b} = rw (dif a, dif b) (simp zs (omega arith))

by-test : (a b : ℤ) (c : Bool) → (T c → a <ℤ b) → (T (not c) → b ≤ℤ a) → (a <ℤ b) ⊎ (b ≤ℤ a)
by-test a b true f g = inl (f tt)
by-test a b false f g = inr (g tt)

pub <ℤ-or-≥ℤ : (a b : ℤ) → (a <ℤ b) ⊎ (b ≤ℤ a)
<ℤ-or-≥ℤ a b = by-test a b (lt_z a b) lt_z_yes lt_z_no

pub le-taken : {a b : ℤ} → le_z a b ≡ true → a ≤ℤ b
le-taken e = le_z_yes (subst T (sym e) tt)

pub le_left : {a b : ℤ} → le_z a b ≡ false → b <ℤ a
le_left {a} {b} e = elim (<ℤ-or-≥ℤ b a) [ inl h ↦ h | inr h ↦ absurd (subst T e h.le) ]

pub lt-taken : {a b : ℤ} → lt_z a b ≡ true → a <ℤ b
lt-taken e = lt_z_yes (subst T (sym e) tt)

pub lt-left : {a b : ℤ} → lt_z a b ≡ false → b ≤ℤ a
lt-left e = lt_z_no (subst (λ (t : Bool). T (not t)) (sym e) tt)

-- and what a test says, from the order
module _ {a b : ℤ} where
  pub le-tested : a ≤ℤ b → le_z a b ≡ true
  le-tested h = by (le_z a b) h.le
    where
      by : (t : Bool) → T t → t ≡ true
      by true k = refl
      by false k = absurd k

  pub gt-tested : b <ℤ a → le_z a b ≡ false
  gt-tested h = by (le_z a b) refl
    where
      by : (t : Bool) → le_z a b ≡ t → t ≡ false
      by true e = clash_ℤ h (le-taken e)
      by false e = refl

  pub lt-tested : a <ℤ b → lt_z a b ≡ true
  lt-tested h = by (lt_z a b) h.lt
    where
      by : (t : Bool) → T t → t ≡ true
      by true k = refl
      by false k = absurd k

  pub ge-tested : b ≤ℤ a → lt_z a b ≡ false
  ge-tested h = by (lt_z a b) refl
    where
      by : (t : Bool) → lt_z a b ≡ t → t ≡ false
      by true e = clash_ℤ (lt-taken e) h
      by false e = refl

pub ≤ℤ-trans : {a b c : ℤ} → a ≤ℤ b → b ≤ℤ c → a ≤ℤ c
≤ℤ-trans {a} {b} {c} = rw (dif a, dif b, dif c) (simp zs (omega arith))

pub pos-≤-iff : (m n : ℕ) → (pos m ≤ℤ pos n) ↔ (m ≤ n)
pos-≤-iff m n = simp zs (omega arith)

-- p · u is near v, q · v is near w: p · q · u is near w
pub near-chain : (p q : ℕ) (u v w : ℤ) {e f : ℕ} → nat_abs (pos p *ℤ u -ℤ v) ≤ e → nat_abs (pos q *ℤ v -ℤ w) ≤ f → nat_abs (pos (q * p) *ℤ u -ℤ w) ≤ q * e + f
near-chain p q u v w {e} {f} h k = rw (between p q u v w) (omega (arith, nat_abs-+ℤ (pos q *ℤ (pos p *ℤ u -ℤ v)) (pos q *ℤ v -ℤ w), nat_abs-*ℤ-le (pos q) (pos p *ℤ u -ℤ v) (le_refl q) h))
  where
    between : (p q : ℕ) (u v w : ℤ) → pos (q * p) *ℤ u -ℤ w ≡ pos q *ℤ (pos p *ℤ u -ℤ v) +ℤ (pos q *ℤ v -ℤ w)
    between p q u v w = rw (dif u, dif v, dif w) (simp zs (omega arith))

pub near_add : (a b c d : ℤ) {e f : ℕ} → nat_abs (a -ℤ b) ≤ e → nat_abs (c -ℤ d) ≤ f → nat_abs ((a +ℤ c) -ℤ (b +ℤ d)) ≤ e + f
near_add a b c d {e} {f} = rw (dif a, dif b, dif c, dif d) (simp zb (omega arith))
