-- The cut quotient by the total's sign, as the code works it.
use mathlib.Core.Path.{◌≡◌, refl}
use Prim.Native.Nat.{ℕ, suc, ◌/◌, ◌≤◌}
use native.Mathlib.Nat.{div-le_self}
use native.Mathlib.Omega.{arith}
use lib.IntN.{ℤ, pos, negsuc, nat_abs}
use Rattle.std.specs.Int.{int_max, int_min}
use Rattle.std.specs.Int.{int_max, int_min}
use Rattle.std.proofs.lemmas.Int.{ints}
use lib.Signed.{quot_z, ◌≤ℤ◌}
use Rattle.integers.proofs.Differences.{dif, zs}
use Rattle.integers.proofs.Order.{nat_abs-negℤ}
use Rattle.valves.specs.Record.{travel}
use Rattle.valves.specs.Moves.{cut, held_between}

pub cut-is : (N : ℕ) (t : ℤ) → quot_z t (pos N) ≡ cut t N
unfolding cut
cut-is N (pos t) = refl
cut-is N (negsuc t) = refl

pub cut-size : (N : ℕ) (t : ℤ) → nat_abs (cut t N) ≤ nat_abs t
unfolding cut
cut-size N (pos t) = div-le_self t N
cut-size N (negsuc t) = rw (nat_abs-negℤ (pos (suc t / N))) (div-le_self (suc t) N)

-- ---- a position in its travel
pub travel-size : (position : ℤ) → pos 0 ≤ℤ position → position ≤ℤ pos travel → nat_abs position ≤ travel
travel-size position = rw (dif position) (simp zs (omega arith))

-- ---- a hold between ends that do not cross
pub held-clamp : (low high x : ℤ) → low ≤ℤ high → int_max low (int_min x high) ≡ held_between low high x
unfolding held_between
held-clamp low high x h = grind (arith, ints)

pub clamped : {low high x : ℤ} (low' high' x' : ℤ) → low ≡ low' → high ≡ high' → x ≡ x' → low' ≤ℤ high' → int_max low (int_min x high) ≡ held_between low' high' x'
clamped low' high' x' l h e c = rw (l, h, e) (held-clamp low' high' x' c)

-- the same hold of the same numbers
pub held_same : {low low' high high' x x' : ℤ} → low ≡ low' → high ≡ high' → x ≡ x' → held_between low high x ≡ held_between low' high' x'
held_same l h e = rw (l, h, e) refl
