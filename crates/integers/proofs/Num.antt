-- `Num w m x a`: the bits x hold the number a at the width w, and a is at most m in size. What an operation asks, and what
-- it gives, then wants only that the limits' sum or product is below half the word's range, which at numerals is `tt`.
use mathlib.Core.Path.{◌≡◌}
use Prim.Native.Nat.{ℕ, ◌+◌, ◌*◌, ◌^◌, ◌≤◌, ◌<◌}
use native.Mathlib.Nat.{le_refl}
use native.Mathlib.Omega.{arith}
use lib.Dec.{T, ltb, ltb→lt}
use lib.IntN.{ℤ, pos, nat_abs, ◌+ℤ◌, ◌-ℤ◌, ◌*ℤ◌}
use lib.Signed.{mag}
use mir.Syntax.{Width}
use mir.Val.{SFits, to_z, of_z, hbits}
use Rattle.integers.proofs.Order.{nat_abs-+ℤ, nat_abs--ℤ, nat_abs-*ℤ-le}
use Rattle.integers.proofs.Words.{small}
use Rattle.integers.proofs.Held.{Held, held, held-ok, held-eq, asks-add, asks-sub, asks-mul, h-add, h-sub, h-mul}

pub record Num (w : Width) (m x : ℕ) (a : ℤ) : Type 0 where
  pub holds : Held w x a
  pub size : nat_abs a ≤ m

fits : (w : Width) (a : ℤ) {m : ℕ} → nat_abs a ≤ m → T (ltb m (2 ^ hbits w)) → SFits w a
fits w a {m} h t = small w a (omega (arith, ltb→lt m (2 ^ hbits w) t))

-- a parameter or an element of a list with a limit; a numeral; a call's result, by what it ensures
pub num : (w : Width) (a : ℤ) {m : ℕ} → nat_abs a ≤ m → T (ltb m (2 ^ hbits w)) → Num w m (of_z w a) a
num w a h t = record { holds = held w a (fits w a h t); size = h }

pub num_lit : (w : Width) (n : ℕ) → T (ltb n (2 ^ hbits w)) → Num w n n (pos n)
num_lit w n t = num w (pos n) (le_refl n) t

pub num-call : (w : Width) (r : ℤ) {a : ℤ} {m : ℕ} → mag r < 2 ^ hbits w → r ≡ a → nat_abs a ≤ m → Num w m (of_z w r) a
num-call w r ok e s = record { holds = held-eq (held-ok w r ok) e; size = s }

module _ {w : Width} {m n x y : ℕ} {a b : ℤ} (p : Num w m x a) (q : Num w n y b) where
  module _ (t : T (ltb (m + n) (2 ^ hbits w))) where
    plus-size : nat_abs (a +ℤ b) ≤ m + n
    plus-size = omega (arith, nat_abs-+ℤ a b, p.size, q.size)

    minus-size : nat_abs (a -ℤ b) ≤ m + n
    minus-size = omega (arith, nat_abs--ℤ a b, p.size, q.size)

    pub add-asks : SFits w (to_z w x +ℤ to_z w y)
    add-asks = asks-add p.holds q.holds (fits w (a +ℤ b) plus-size t)

    pub num-add : Num w (m + n) (of_z w (to_z w x +ℤ to_z w y)) (a +ℤ b)
    num-add = record { holds = h-add p.holds q.holds (fits w (a +ℤ b) plus-size t); size = plus-size }

    pub sub-asks : SFits w (to_z w x -ℤ to_z w y)
    sub-asks = asks-sub p.holds q.holds (fits w (a -ℤ b) minus-size t)

    pub num-sub : Num w (m + n) (of_z w (to_z w x -ℤ to_z w y)) (a -ℤ b)
    num-sub = record { holds = h-sub p.holds q.holds (fits w (a -ℤ b) minus-size t); size = minus-size }

  module _ (t : T (ltb (m * n) (2 ^ hbits w))) where
    times-size : nat_abs (a *ℤ b) ≤ m * n
    times-size = nat_abs-*ℤ-le a b p.size q.size

    pub mul-asks : SFits w (to_z w x *ℤ to_z w y)
    mul-asks = asks-mul p.holds q.holds (fits w (a *ℤ b) times-size t)

    pub num-mul : Num w (m * n) (of_z w (to_z w x *ℤ to_z w y)) (a *ℤ b)
    num-mul = record { holds = h-mul p.holds q.holds (fits w (a *ℤ b) times-size t); size = times-size }
