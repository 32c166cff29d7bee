-- A row that is close to a number on a state, and what a lift makes of it: the lift step is used here and nowhere above.
use mathlib.Core.Path.{◌≡◌}
use mathlib.Core.List.{List}
use Prim.Native.Nat.{ℕ, ◌^◌, ◌≤◌, ◌<◌}
use native.Mathlib.Nat.{le_refl, mul-pos}
use lib.Pow.{pow_pos}
use lib.ListN.{length}
use lib.IntN.{ℤ, pos, nat_abs, ◌+ℤ◌, ◌-ℤ◌, ◌*ℤ◌, +ℤ_comm}
use Rattle.integers.specs.Vectors.{dot, scalar_mul, plus}
use Rattle.integers.proofs.Ring.{ring}
use Rattle.integers.proofs.Order.{near-chain}
use Rattle.integers.proofs.Lifts.{lift-known}
use Rattle.steps.specs.RowForm.{lift}
use Rattle.steps.proofs.Lists.{Len, len-scale, len-plus}
use Rattle.distance.proofs.Carried.{Row, down_a, down_b}

-- ---- a row that is close to c on the state (x, y)
pub record Close (r : Row) (c : ℤ) (x y : List ℤ) : Type 0 where
  pub le : nat_abs (pos r.p *ℤ c -ℤ (dot r.a x +ℤ dot r.b y)) ≤ r.e

pub record Fit (n : ℕ) (r : Row) : Type 0 where
  pub fa : Len n r.a
  pub fb : Len n r.b
  pub pp : 0 < r.p

-- the two lists exchanged
abbrev exchanged : Row → Row
exchanged r = record { a = r.b; b = r.a; p = r.p; e = r.e }

close-exchanged : (r : Row) (c : ℤ) (x y : List ℤ) → Close r c x y → Close (exchanged r) c y x
close-exchanged r c x y h = record { le = rw (+ℤ_comm (dot r.b y) (dot r.a x)) h.le }

fit-exchanged : {n : ℕ} (r : Row) → Fit n r → Fit n (exchanged r)
fit-exchanged r f = record { fa = f.fb; fb = f.fa; pp = f.pp }

-- ---- before a lift of the second list by the first, and of the first by the second
pub close_b : (k : ℕ) (gs : List ℤ) (r : Row) (c : ℤ) (x y z : List ℤ) → length y ≡ length z → dot r.b z ≡ dot gs x → length r.a ≡ length gs
    → Close r c x (lift k y z) → Close (down_b k gs r) c x y
unfolding down_b
close_b k gs r c x y z e d l h = record {
  le = near-chain r.p (2 ^ k) c (dot r.a x +ℤ dot r.b (lift k y z)) (dot (plus (scalar_mul (pos (2 ^ k)) r.a) gs) x +ℤ dot (scalar_mul (pos (2 ^ k)) r.b) y)
      h.le (lift-known k r.a r.b gs x y z e d l);
}

pub close_a : (k : ℕ) (gs : List ℤ) (r : Row) (c : ℤ) (x y z : List ℤ) → length x ≡ length z → dot r.a z ≡ dot gs y → length r.b ≡ length gs
    → Close r c (lift k x z) y → Close (down_a k gs r) c x y
unfolding down_a down_b
close_a k gs r c x y z e d l h = close-exchanged (down_b k gs (exchanged r)) c y x (close_b k gs (exchanged r) c y x z e d l (close-exchanged r c (lift k x z) y h))

pub fit_b : {n : ℕ} (k : ℕ) (gs : List ℤ) (r : Row) → Len n gs → Fit n r → Fit n (down_b k gs r)
unfolding down_b
fit_b k gs r l f = record { fa = len-plus (scalar_mul (pos (2 ^ k)) r.a) gs (len-scale (pos (2 ^ k)) r.a f.fa) l; fb = len-scale (pos (2 ^ k)) r.b f.fb; pp = mul-pos (pow_pos k) f.pp }

pub fit_a : {n : ℕ} (k : ℕ) (gs : List ℤ) (r : Row) → Len n gs → Fit n r → Fit n (down_a k gs r)
unfolding down_a down_b
fit_a k gs r l f = fit-exchanged (down_b k gs (exchanged r)) (fit_b k gs (exchanged r) l (fit-exchanged r f))

-- an exact change of the state
pub re_read : (c v v' : ℤ) (p e : ℕ) → v ≡ v' → nat_abs (pos p *ℤ c -ℤ v) ≤ e → nat_abs (pos p *ℤ c -ℤ v') ≤ e
re_read c v v' p e q h = rw (← q) h

pub exact : (c v : ℤ) → c ≡ v → nat_abs (pos 1 *ℤ c -ℤ v) ≤ 0
exact c v q = rw q (none v)
  where
    gone : (v : ℤ) → pos 1 *ℤ v -ℤ v ≡ pos 0
    gone v = simp ring

    none : (v : ℤ) → nat_abs (pos 1 *ℤ v -ℤ v) ≤ 0
    none v = rw (gone v) (le_refl 0)
