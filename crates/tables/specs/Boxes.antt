-- The true cosines, boxed between whole numbers at scale 2^60 without any table: document 01, "Tables".
use Rattle.std.specs.Prelude.{true, false, cond, ℕ, zero, suc, ◌+◌, ◌-◌, ◌*◌, ◌/◌, ◌^◌, ◌<◌, eqb, leb, ℤ, pos, neg_ℤ, nat_abs, ◌+ℤ◌, ◌-ℤ◌, ◌*ℤ◌, ◌≤ℤ◌, ◌<ℤ◌}
use Rattle.integers.specs.Floor.{above}

pub record Box : Type 0 where
  pub low : ℤ
  pub high : ℤ

-- both ends the same
unfoldable pub only : ℕ → Box
only n = record { low = pos n; high = pos n }

-- the box of minus a value: both signs change, and so the ends change places
unfoldable pub negated : Box → Box
negated b = record { low = neg_ℤ b.high; high = neg_ℤ b.low }

-- the square root of n rounded down, for n of 61 digits to the base 4 (proofs/Roots)
unfoldable pub root_by : ℕ → ℕ → ℕ
root_by zero n = 0
root_by (suc digits) n = let r = 2 * root_by digits (n / 4) in cond (leb ((r + 1) * (r + 1)) n) (r + 1) r

unfoldable pub root : ℕ → ℕ
root n = root_by 61 n

-- and rounded up
unfoldable pub root_up : ℕ → ℕ
root_up n = let r = root n in cond (leb n (r * r)) r (r + 1)

-- 2^59·(2^60 + e): the square of the cosine of half the angle, at scale 2^120
unfoldable pub under : ℤ → ℕ
under e = above (pos (2 ^ 59) *ℤ (pos (2 ^ 60) +ℤ e))

-- the ends for an angle from those for its double
unfoldable pub halved : Box → Box
halved b = record { low = pos (root (under b.low)); high = pos (root_up (under b.high)) }

-- the ends for twice the angle; past the right angle they are those of the reflected angle, as the box of minus its cosine
unfoldable pub at_double : (ℕ → Box) → ℕ → Box
at_double box a = elim (leb (2 * a) 512) [ true ↦ box (2 * a) | false ↦ negated (box (1024 - 2 * a)) ]

-- The ends for the multiple a of π/1024 in the first quadrant, doubled at most f times. The cosines of 0 and of the right angle are exact.
unfoldable pub box_by : ℕ → ℕ → Box
box_by zero a = only (2 ^ 60)
box_by (suc f) a = elim (eqb a 0) [
  | true ↦ only (2 ^ 60)
  | false ↦ elim (eqb a 512) [ true ↦ only 0 | false ↦ halved (at_double (box_by f) a) ]
]

-- ten doublings are enough: each takes a factor 2 into a, and 512 is 2^9
unfoldable pub cosine_box : ℕ → Box
cosine_box a = box_by 10 a

-- a sine by the cosine of the right angle less the angle
unfoldable pub sine_box : ℕ → Box
sine_box a = cosine_box (512 - a)

-- ---- the square property of the ends `box` over the ends `double` for twice the angle: by squares alone, without a root
pub record Squares (double box : Box) : Type 0 where
  pub low-square : (box.low *ℤ box.low) ≤ℤ (pos (2 ^ 59) *ℤ (pos (2 ^ 60) +ℤ double.low))
  pub low-greatest : (x : ℤ) → (x *ℤ x) ≤ℤ (pos (2 ^ 59) *ℤ (pos (2 ^ 60) +ℤ double.low)) → x ≤ℤ box.low
  pub high-square : (pos (2 ^ 59) *ℤ (pos (2 ^ 60) +ℤ double.high)) ≤ℤ (box.high *ℤ box.high)
  pub high-least : (x : ℕ) → (pos (2 ^ 59) *ℤ (pos (2 ^ 60) +ℤ double.high)) ≤ℤ (pos x *ℤ pos x) → box.high ≤ℤ pos x

-- ---- t is nearest to 2^28 times a fraction, for all values between the ends of its parts: values over q, for any q
pub record Nearest (t : ℕ) (numerator denominator : Box) : Type 0 where
  pub nearest : (q : ℕ) (x y : ℤ) → 0 < q
      → (pos q *ℤ numerator.low) ≤ℤ x → x ≤ℤ (pos q *ℤ numerator.high)
      → (pos q *ℤ denominator.low) ≤ℤ y → y ≤ℤ (pos q *ℤ denominator.high)
      → pos (2 * nat_abs (pos (2 ^ 28) *ℤ x -ℤ pos t *ℤ y)) <ℤ y
