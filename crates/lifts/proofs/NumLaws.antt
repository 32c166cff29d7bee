-- A limit on what bits hold.
use mathlib.Core.Path.{◌≡◌, sym, ap, subst, ◌∙◌}
use Prim.Native.Nat.{ℕ, ◌*◌, ◌^◌, ◌≤◌, ◌<◌}
use native.Mathlib.Omega.{arith}
use lib.IntN.{ℤ, nat_abs}
use lib.Signed.{mag}
use mir.Syntax.{Width, w64}
use mir.Val.{to_z, of_z, hbits}
use Rattle.integers.proofs.Held.{held-ok}
use Rattle.integers.specs.Floor.{round}
use Rattle.integers.proofs.Num.{Num, num-call}
use Rattle.integers.proofs.Rounding.{round-within}

-- what a call gives, as its bits
pub call-is : (w : Width) {r a : ℤ} → mag r < 2 ^ hbits w → r ≡ a → to_z w (of_z w r) ≡ a
call-is w {r} ok e = (held-ok w r ok).is ∙ e

pub num-within : {w : Width} {m n x : ℕ} {a : ℤ} → Num w m x a → m ≤ n → nat_abs (to_z w x) ≤ n
num-within {n = n} h l = subst (λ z. nat_abs z ≤ n) (sym h.holds.is) (omega (arith, h.size))

-- what a call gives that rounds what another call gave
pub num-rounded : (k B : ℕ) {sum row r : ℤ} → mag row < 2 ^ 63 → row ≡ sum → nat_abs sum ≤ 2 ^ k * B → mag r < 2 ^ 63 → r ≡ round k (to_z w64 (of_z w64 row)) → Num w64 B (of_z w64 r) (round k sum)
num-rounded k B ok is small ok' is' = num-call w64 _ ok' (is' ∙ ap (round k) (call-is w64 ok is)) (round-within k B _ small)
