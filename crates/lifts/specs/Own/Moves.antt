-- What the lifts do at one place.
use Rattle.std.specs.Prelude.{Bool, true, false, List, ℕ, ◌+◌, ◌^◌, ◌≤◌, ◌<◌, ℤ, pos, neg_ℤ, nat_abs, ◌+ℤ◌, ◌-ℤ◌, ◌*ℤ◌, length}
use Rattle.integers.specs.Floor.{round}
use Rattle.integers.specs.Places.{at, Within}
use Rattle.steps.specs.Steps.{alternate}
use Rattle.slices.specs.declared.fours.Four.{Four}
use Rattle.slices.specs.Own.Moves.{moved}
use Rattle.rows.specs.Orders.{row_at, secant_out}

-- the four numbers from place i on, each with its amount
abbrev pub moved_four : Bool → List ℤ → ℕ → Four → Four
moved_four undo y i f = record { a = moved undo (at y i) f.a; b = moved undo (at y (i + 1)) f.b; c = moved undo (at y (i + 2)) f.c; d = moved undo (at y (i + 3)) f.d }

-- the rounded products of four numbers and of four others from their end
abbrev pub rounded_products : Four → Four → Four
rounded_products c x = record { a = round 28 (c.a *ℤ x.d); b = round 28 (c.b *ℤ x.c); c = round 28 (c.c *ℤ x.b); d = round 28 (c.d *ℤ x.a) }

-- −d(i)·z
unfoldable pub flipped : ℕ → ℤ → ℤ
flipped i z = neg_ℤ (alternate i z)

-- stage 2 at a place: −d(i)·x and the amount, or x less the amount, and then −d(i)
unfoldable pub stage2_at : Bool → ℕ → ℤ → ℤ → ℤ
stage2_at true i x amount = flipped i (x -ℤ amount)
stage2_at false i x amount = flipped i x +ℤ amount

-- what stage 3 adds at a place, in parts of 2^34, from the secant sum 64/M times, the cosine sum 8/√M times, and −t·top: the cosine sum counts 16 times
unfoldable pub amount : ℤ → ℤ → ℤ → ℤ → ℤ
amount times secants cosines tangent = neg_ℤ secants -ℤ times *ℤ cosines +ℤ pos 64 *ℤ tangent

abbrev pub stage3_amount : ℤ → ℤ → ℤ → ℤ
stage3_amount = amount (pos 16)

-- sums so small that they fit 64 bits at the scale of all widths
pub record Scaled (back flips y : List ℤ) : Type 0 where
  pub small : (i : ℕ) → i < length y → nat_abs (row_at back flips y i) ≤ 2 ^ 62

pub record Thirds (z back flips y : List ℤ) : Type 0 where
  pub within-z : Within (2 ^ 62) z
  pub secant : (i : ℕ) → i < length y → nat_abs (secant_out (length y) (at z) i) ≤ 2 ^ 60
  pub cosine : (i : ℕ) → i < length y → nat_abs (row_at back flips y i) ≤ 2 ^ 56
