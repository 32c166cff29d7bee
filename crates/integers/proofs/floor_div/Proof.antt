-- `integers::floor_div` meets its contract: below zero, −1 − v is divided, and what that gives is taken from −1.
use borrow.Author.Rules.{rules}
use mathlib.Core.Path.{◌≡◌, ◌∙◌}
use mathlib.Core.Bool.{true}
use lib.IntN.{pos, negsuc, ◌-ℤ◌}
use lib.Signed.{quot_z, lt_z, ◌<ℤ◌}
use mir.Syntax.{w64}
use mir.Val.{to_z, of_z}
use Rattle.integers.proofs.Order.{le-taken, le_left}
use Rattle.integers.proofs.Held.{Held, held, asks-quot, asks-sub, h-quot, h-sub, h-lt, h_le}
use Rattle.integers.proofs.Words.{bits_pos, quot_fits, turned-fits, below-fits, floor-above, floor-below, floor-none}
use Rattle.integers.proofs.floor_div.Statement.{statement}
use Rattle.integers.proofs.floor_div.Tie as tie

zero : Held w64 0 (pos 0)
zero = held w64 (pos 0) (search rules)

last : Held w64 (of_z w64 (negsuc 0)) (negsuc 0)
last = held w64 (negsuc 0) (search rules)

v : (s : tie.Start) → Held w64 (of_z w64 s.args.v) s.args.v
v s = held w64 _ s.ranges.v

p : (s : tie.Start) → Held w64 (of_z w64 s.args.p) s.args.p
p s = held w64 _ s.ranges.p

divisor : (c : tie.Else-p-le0) → pos 0 <ℤ c.args.p
divisor c = le_left (h_le (p c.before) zero c.if-p-le0.false)

-- v is below zero
module _ (c : tie.Then-v-lt0) where
  abbrev s : tie.Start
  s = c.before.before

  below : lt_z s.args.v (pos 0) ≡ true
  below = h-lt (v s) zero c.if-v-lt0.true

  turned : Held w64 (of_z w64 (negsuc 0 -ℤ to_z w64 (of_z w64 s.args.v))) (negsuc 0 -ℤ s.args.v)
  turned = h-sub last (v s) (turned-fits w64 s.args.v s.ranges.v below)

  quotient : Held w64 (of_z w64 (quot_z (to_z w64 (of_z w64 (negsuc 0 -ℤ to_z w64 (of_z w64 s.args.v)))) (to_z w64 (of_z w64 s.args.p)))) (quot_z (negsuc 0 -ℤ s.args.v) s.args.p)
  quotient = h-quot turned (p s) (quot_fits w64 _ _ turned.fits (divisor c.before))

returns : tie.Need-returns-then-p-le0
returns c = floor-none c.args.v c.args.p (le-taken (h_le (p c.before) zero c.if-p-le0.true))

sub-result : tie.Need-overflow_sub-result
sub-result c = asks-sub last (v (s c)) (turned c).fits

div-result : tie.Need-nonzero_div-result
div-result c = (bits_pos w64 _ (divisor c.before), asks-quot (turned c) (p (s c)) (quotient c).fits)

sub-result-2 : tie.Need-overflow_sub-result-then-v-lt0
sub-result-2 c = asks-sub last (quotient c) (below-fits w64 _ _ (s c).ranges.v (divisor c.before) (below c))

returns-2 : tie.Need-returns-then-v-lt0
returns-2 c = (h-sub last (quotient c) (below-fits w64 _ _ (s c).ranges.v (divisor c.before) (below c))).is ∙ floor-below _ _ (divisor c.before) (below c)

div-result-2 : tie.Need-nonzero_div-result-2
div-result-2 c = let s = c.before.before in (bits_pos w64 _ (divisor c.before), asks-quot (v s) (p s) (quot_fits w64 _ _ s.ranges.v (divisor c.before)))

returns-3 : tie.Need-returns
returns-3 c =
    let s = c.before.before in
    (h-quot (v s) (p s) (quot_fits w64 _ _ s.ranges.v (divisor c.before))).is ∙ floor-above _ _ (divisor c.before) (h-lt (v s) zero c.if-v-lt0.false)

pub floor_div_spec : {M : Type 1} → statement M
floor_div_spec = tie.close (tie.spec returns sub-result div-result sub-result-2 returns-2 div-result-2 returns-3)
