-- The asked move: its two holds are one, it stays within ±500 and in the travel, and it is 0 or against the block's total.
use mathlib.Core.Path.{◌≡◌, refl, sym, ap, ◌∙◌}
use mathlib.Core.Bool.{Bool, true, false, cond}
use mathlib.Core.List.{List}
use Prim.Native.Nat.{ℕ, zero, suc, ◌/◌, ◌-◌, ◌≤◌, ◌<◌, min}
use native.Mathlib.Nat.{div-le_self}
use native.Mathlib.Omega.{arith}
use borrow.Author.Tests.{ltb-true, ltb-false, leb-true, leb-false}
use lib.Dec.{ltb, leb}
use lib.IntN.{ℤ, pos, negsuc, neg_ℤ, nat_abs, ◌+ℤ◌, ◌-ℤ◌, neg_ℤ-neg_ℤ}
use lib.Signed.{le_z, ◌≤ℤ◌, ◌<ℤ◌, lt_z_yes}
use Rattle.integers.specs.Vectors.{sum_of}
use Rattle.integers.proofs.Differences.{zs}
use Rattle.integers.proofs.Order.{le-taken, le_left, lt-tested, ge-tested, pos-≤-iff}
use Rattle.valves.specs.Record.{travel, greatest_move}
use Rattle.valves.specs.Moves.{cut, wanted, held_between, held_move, greater, lesser, lowest, highest, TwoHoldsAreOne, Against, still, down, up}

-- ---- one hold
module _ (low high x : ℤ) where
  pub held-free : low ≤ℤ x → x ≤ℤ high → held_between low high x ≡ x
  unfolding held_between
  held-free h k = rw (ge-tested h, ge-tested k)

  pub held_low : x <ℤ low → held_between low high x ≡ low
  unfolding held_between
  held_low h = rw (lt-tested h)

  pub held_high : low ≤ℤ x → high <ℤ x → held_between low high x ≡ high
  unfolding held_between
  held_high h k = rw (ge-tested h, lt-tested k)

-- from −a to b, of a number upwards and of one downwards
module _ (a b n : ℕ) where
  pub held_up : held_between (neg_ℤ (pos a)) (pos b) (pos n) ≡ pos (min n b)
  held_up = by (ltb b n) refl
    where
      from : neg_ℤ (pos a) ≤ℤ pos n
      from = simp zs (omega arith)

      by : (t : Bool) → ltb b n ≡ t → held_between (neg_ℤ (pos a)) (pos b) (pos n) ≡ pos (min n b)
      by true e = held_high _ _ _ from (simp zs (omega (arith, ltb-true))) ∙ ap pos (omega (arith, ltb-true))
      by false e = held-free _ _ _ from (simp zs (omega (arith, ltb-false))) ∙ ap pos (omega (arith, ltb-false))

  pub held_down : held_between (neg_ℤ (pos a)) (pos b) (neg_ℤ (pos n)) ≡ neg_ℤ (pos (min n a))
  held_down = by (ltb a n) refl
    where
      by : (t : Bool) → ltb a n ≡ t → held_between (neg_ℤ (pos a)) (pos b) (neg_ℤ (pos n)) ≡ neg_ℤ (pos (min n a))
      by true e = held_low _ _ _ (simp zs (omega (arith, ltb-true))) ∙ simp zs (omega (arith, ltb-true))
      by false e = held-free _ _ _ (simp zs (omega (arith, ltb-false))) (simp zs (omega arith)) ∙ simp zs (omega (arith, ltb-false))

-- ---- the ends of the one hold
module _ (a b : ℕ) where
  down_le : neg_ℤ (pos a) ≤ℤ neg_ℤ (pos b) → b ≤ a
  down_le = simp zs (omega arith)

  down_lt : neg_ℤ (pos b) <ℤ neg_ℤ (pos a) → a < b
  down_lt = simp zs (omega arith)

  greater-down : greater (neg_ℤ (pos a)) (neg_ℤ (pos b)) ≡ neg_ℤ (pos (min a b))
  unfolding greater
  greater-down = by (le_z (neg_ℤ (pos a)) (neg_ℤ (pos b))) refl
    where
      by : (t : Bool) → le_z (neg_ℤ (pos a)) (neg_ℤ (pos b)) ≡ t → cond t (neg_ℤ (pos b)) (neg_ℤ (pos a)) ≡ neg_ℤ (pos (min a b))
      by true e = let h = down_le (le-taken e) in simp zs (omega arith)
      by false e = let h = down_lt (le_left e) in simp zs (omega arith)

  lesser-up : lesser (pos a) (pos b) ≡ pos (min a b)
  unfolding lesser
  lesser-up = by (leb a b) refl
    where
      by : (t : Bool) → leb a b ≡ t → cond t (pos a) (pos b) ≡ pos (min a b)
      by true e = ap pos (omega (arith, leb-true))
      by false e = ap pos (omega (arith, leb-false))

-- of a position in its travel
module _ (p : ℕ) (in-travel : p ≤ travel) where
  pub room-up : pos travel -ℤ pos p ≡ pos (travel - p)
  room-up = simp zs (omega arith)

  pub lowest-is : lowest (pos p) ≡ neg_ℤ (pos (min greatest_move p))
  unfolding lowest
  lowest-is = greater-down greatest_move p

  pub highest-is : highest (pos p) ≡ pos (min greatest_move (travel - p))
  unfolding highest
  highest-is = ap (lesser (pos greatest_move)) room-up ∙ lesser-up greatest_move (travel - p)

  pub move_up : (n : ℕ) → held_move (pos p) (pos n) ≡ pos (min (min n greatest_move) (travel - p))
  unfolding held_move
  move_up n = rw (room-up, held_up greatest_move greatest_move n) (held_up p (travel - p) (min n greatest_move))

  pub move_down : (n : ℕ) → held_move (pos p) (neg_ℤ (pos n)) ≡ neg_ℤ (pos (min (min n greatest_move) p))
  unfolding held_move
  move_down n = rw (room-up, held_down greatest_move greatest_move n) (held_down p (travel - p) (min n greatest_move))

  one-hold : (x : ℤ) → held_move (pos p) x ≡ held_between (lowest (pos p)) (highest (pos p)) x
  one-hold (pos n) =
      rw (lowest-is, highest-is)
      (move_up n ∙ ap pos (omega arith) ∙ sym (held_up (min greatest_move p) (min greatest_move (travel - p)) n))
  one-hold (negsuc n) =
      rw (lowest-is, highest-is)
      (move_down (suc n) ∙ simp zs (omega arith) ∙ sym (held_down (min greatest_move p) (min greatest_move (travel - p)) (suc n)))

pub two-holds-are-one : TwoHoldsAreOne
two-holds-are-one (pos p) x h k =
    let in-travel = (pos-≤-iff p travel).0 k in
    record {
      one = one-hold p in-travel x;
      from_zero = rw (lowest-is p in-travel) (simp zs (omega arith));
      to-zero = rw (highest-is p in-travel) (simp zs (omega arith));
    }
two-holds-are-one (negsuc p) x h k = absurd h.le

-- ---- what is asked of the move of a position in its travel
pub record MoveKept (position steps : ℤ) : Type 0 where
  pub size : nat_abs steps ≤ greatest_move
  pub from-0 : pos 0 ≤ℤ (position +ℤ steps)
  pub to-travel : (position +ℤ steps) ≤ℤ pos travel

module _ (p : ℕ) (in-travel : p ≤ travel) where
  kept_in : (x : ℤ) → MoveKept (pos p) (held_move (pos p) x)
  kept_in (pos n) = rw (move_up p in-travel n) (record { size = omega arith; from-0 = simp zs (omega arith); to-travel = simp zs (omega arith) })
  kept_in (negsuc n) =
      rw (move_down p in-travel (suc n))
      (record { size = simp zs (omega arith); from-0 = simp zs (omega arith); to-travel = simp zs (omega arith) })

pub move-kept : (position x : ℤ) → pos 0 ≤ℤ position → position ≤ℤ pos travel → MoveKept position (held_move position x)
move-kept (pos p) x h k = kept_in p ((pos-≤-iff p travel).0 k) x
move-kept (negsuc p) x h k = absurd h.le

-- ---- a move is 0, or its sign is against the total's
against-pos : (t m : ℕ) → m ≤ t → Against (pos t) (neg_ℤ (pos m))
against-pos t zero h = still
against-pos t (suc m) h = down {steps = negsuc m} (simp zs (omega arith)) (lt_z_yes tt)

against-neg : (t m : ℕ) → Against (negsuc t) (pos m)
against-neg t zero = still
against-neg t (suc m) = up {steps = pos (suc m)} (lt_z_yes tt) (simp zs (omega arith))

module _ (p : ℕ) (in-travel : p ≤ travel) (N : ℕ) where
  against-cut : (total : ℤ) → Against total (held_move (pos p) (neg_ℤ (cut total N)))
  unfolding cut
  against-cut (pos t) = rw (move_down p in-travel (t / N)) (against-pos t (min (min (t / N) greatest_move) p) (omega (arith, div-le_self t N)))
  against-cut (negsuc t) = rw (neg_ℤ-neg_ℤ (pos (suc t / N)), move_up p in-travel (suc t / N)) (against-neg t _)

pub move-against : (position : ℤ) (N : ℕ) (block : List ℤ) → pos 0 ≤ℤ position → position ≤ℤ pos travel
    → Against (sum_of block) (held_move position (wanted N block))
unfolding wanted
move-against (pos p) N block h k = against-cut p ((pos-≤-iff p travel).0 k) N (sum_of block)
move-against (negsuc p) N block h k = absurd h.le
