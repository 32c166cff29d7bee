-- The commutative ring ℤ. Each law is one line by `Differences`; `ring` sorts sums and products for `simp`.
use mathlib.Core.Path.{◌≡◌, sym}
use mathlib.Core.Logic.{◌↔◌}
use Prim.Native.Nat.{ℕ, ◌+◌, ◌*◌, ◌-◌}
use native.Mathlib.Omega.{arith}
use lib.IntN.{ℤ, pos, neg_ℤ, ◌+ℤ◌, ◌-ℤ◌, ◌*ℤ◌, +ℤ_assoc, +ℤ_comm, +ℤ_idl, +ℤ_idr, *ℤ_comm, *ℤ-zero, zero-*ℤ}
use Rattle.integers.proofs.Differences.{dif, zs}

pub *ℤ-assoc : (a b c : ℤ) → (a *ℤ b) *ℤ c ≡ a *ℤ (b *ℤ c)
*ℤ-assoc a b c = rw (dif a, dif b, dif c) (simp zs (omega arith))

pub *ℤ-distribl : (a b c : ℤ) → a *ℤ (b +ℤ c) ≡ a *ℤ b +ℤ a *ℤ c
*ℤ-distribl a b c = rw (dif a, dif b, dif c) (simp zs (omega arith))

pub *ℤ-distribr : (a b c : ℤ) → (a +ℤ b) *ℤ c ≡ a *ℤ c +ℤ b *ℤ c
*ℤ-distribr a b c = rw (dif a, dif b, dif c) (simp zs (omega arith))

pub *ℤ-distribl-sub : (a b c : ℤ) → a *ℤ (b -ℤ c) ≡ a *ℤ b -ℤ a *ℤ c
*ℤ-distribl-sub a b c = rw (dif a, dif b, dif c) (simp zs (omega arith))

pub *ℤ-distribr-sub : (a b c : ℤ) → (a -ℤ b) *ℤ c ≡ a *ℤ c -ℤ b *ℤ c
*ℤ-distribr-sub a b c = rw (dif a, dif b, dif c) (simp zs (omega arith))

pub negℤ-*ℤ : (a b : ℤ) → neg_ℤ a *ℤ b ≡ neg_ℤ (a *ℤ b)
negℤ-*ℤ a b = rw (dif a, dif b) (simp zs (omega arith))

pub *ℤ-negℤ : (a b : ℤ) → a *ℤ neg_ℤ b ≡ neg_ℤ (a *ℤ b)
*ℤ-negℤ a b = rw (dif a, dif b) (simp zs (omega arith))

pub one-*ℤ : (a : ℤ) → pos 1 *ℤ a ≡ a
one-*ℤ a = rw (dif a) (simp zs (omega arith))

pub *ℤ-pos1 : (a : ℤ) → a *ℤ pos 1 ≡ a
*ℤ-pos1 a = rw (dif a) (simp zs (omega arith))

pub +ℤ-left-comm : (a b c : ℤ) → a +ℤ (b +ℤ c) ≡ b +ℤ (a +ℤ c)
+ℤ-left-comm a b c = rw (dif a, dif b, dif c) (simp zs (omega arith))

pub *ℤ-left-comm : (a b c : ℤ) → a *ℤ (b *ℤ c) ≡ b *ℤ (a *ℤ c)
*ℤ-left-comm a b c = rw (dif a, dif b, dif c) (simp zs (omega arith))

pub +ℤ-right-comm : (a b c : ℤ) → a +ℤ b +ℤ c ≡ a +ℤ c +ℤ b
+ℤ-right-comm a b c = rw (dif a, dif b, dif c) (simp zs (omega arith))

pub +ℤ-swap : (a b c d : ℤ) → (a +ℤ b) +ℤ (c +ℤ d) ≡ (a +ℤ c) +ℤ (b +ℤ d)
+ℤ-swap a b c d = rw (dif a, dif b, dif c, dif d) (simp zs (omega arith))

pub negℤ--ℤ : (a b : ℤ) → neg_ℤ (a -ℤ b) ≡ b -ℤ a
negℤ--ℤ a b = rw (dif a, dif b) (simp zs (omega arith))

-- ---- `simp ring`: products multiplied out, sums sorted, and what is taken away moved to the other side of the equation.
-- `a ⊟ b` is a − b, shut, so that it gathers: a goal comes to A ⊟ B ≡ C ⊟ D, and that to A + D ≡ C + B
infix 60 ◌⊟◌
pub ◌⊟◌ : ℤ → ℤ → ℤ
a ⊟ b = a -ℤ b

pub ⊟-neg : (x : ℤ) → neg_ℤ x ≡ pos 0 ⊟ x
unfolding ◌⊟◌
⊟-neg x = sym (+ℤ_idl (neg_ℤ x))

pub ⊟-negpos : (k : ℕ) → neg_ℤ (pos k) ≡ pos 0 ⊟ pos k
⊟-negpos k = ⊟-neg (pos k)

pub ⊟-neg⊟ : (a b : ℤ) → neg_ℤ (a ⊟ b) ≡ b ⊟ a
unfolding ◌⊟◌
⊟-neg⊟ a b = negℤ--ℤ a b

pub ⊟-+l : (a b x : ℤ) → (a ⊟ b) +ℤ x ≡ (a +ℤ x) ⊟ b
unfolding ◌⊟◌
⊟-+l a b x = +ℤ-right-comm a (neg_ℤ b) x

pub ⊟-+r : (a b x : ℤ) → x +ℤ (a ⊟ b) ≡ (x +ℤ a) ⊟ b
unfolding ◌⊟◌
⊟-+r a b x = sym (+ℤ_assoc x a (neg_ℤ b))

pub ⊟-⊟l : (a b c : ℤ) → (a ⊟ b) ⊟ c ≡ a ⊟ (b +ℤ c)
unfolding ◌⊟◌
⊟-⊟l a b c = rw (dif a, dif b, dif c) (simp zs (omega arith))

pub ⊟-⊟r : (a b c : ℤ) → a ⊟ (b ⊟ c) ≡ (a +ℤ c) ⊟ b
unfolding ◌⊟◌
⊟-⊟r a b c = rw (dif a, dif b, dif c) (simp zs (omega arith))

pub ⊟-*l : (a b x : ℤ) → (a ⊟ b) *ℤ x ≡ (a *ℤ x) ⊟ (b *ℤ x)
unfolding ◌⊟◌
⊟-*l a b x = *ℤ-distribr-sub a b x

pub ⊟-*r : (a b x : ℤ) → x *ℤ (a ⊟ b) ≡ (x *ℤ a) ⊟ (x *ℤ b)
unfolding ◌⊟◌
⊟-*r a b x = *ℤ-distribl-sub x a b

pub ⊟-≡l : (a b c : ℤ) → (a ⊟ b ≡ c) ↔ (a ≡ c +ℤ b)
unfolding ◌⊟◌
⊟-≡l a b c = rw (dif a, dif b, dif c) (simp zs (omega arith))

pub ⊟-≡r : (a b c : ℤ) → (c ≡ a ⊟ b) ↔ (c +ℤ b ≡ a)
unfolding ◌⊟◌
⊟-≡r a b c = rw (dif a, dif b, dif c) (simp zs (omega arith))

pub ruleset ring = (+ℤ_assoc, +ℤ_comm, +ℤ-left-comm, +ℤ_idl, +ℤ_idr, *ℤ-assoc, *ℤ_comm, *ℤ-left-comm, *ℤ-distribl, *ℤ-distribr, *ℤ-zero, zero-*ℤ, one-*ℤ, *ℤ-pos1, ⊟-neg, ⊟-negpos, ⊟-neg⊟, ⊟-+l, ⊟-+r, ⊟-⊟l, ⊟-⊟r, ⊟-*l, ⊟-*r, ⊟-≡l, ⊟-≡r)
