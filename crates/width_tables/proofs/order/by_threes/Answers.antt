-- What `by_threes` leaves open.
use Rattle.std.proofs.Common.{◌≡◌, ap, ◌∙◌, ℕ, ◌-◌, ◌*◌, ◌/◌, ◌%◌, ◌≤◌, ◌<◌, pos, nat_abs, w64, to_z, of_z, arith}
use Rattle.std.proofs.Math.Nat.{mod-lt}
use Rattle.integers.proofs.Held.{held}
use Rattle.tables.specs.Widths.{half_width, scale}
use Rattle.tables.proofs.ByWidth.{half-width-le}
use Rattle.tables.proofs.Reading.{half_is}
use Rattle.width_tables.specs.Orders.{angle_at, Ordered}
use Rattle.width_tables.proofs.OrderLaws.{scale-le, in-out, ordered-none, angle-first, angle-next, place_is, place-product, ordered-turn}
use Rattle.width_tables.proofs.order.by_threes.Goals as goal

pub nonzero_div-j : goal.nonzero_div-j
nonzero_div-j c = omega (arith, half_is c.args.width c.requires.0)

pub loop-e-init : goal.loop-e-init
loop-e-init c = (angle-first c.args.width c.requires.0, ordered-none _ _)

pub overflow_mul-place : goal.overflow_mul-place
overflow_mul-place c = omega (arith, place-product c.args.width c.loop-e.e (half_is c.args.width c.requires.0) c.loop-e.invariant.0 (c.from.ensures ∙ c.first_quadrant-folded.ensures.0))

pub put-requires : goal.put-requires
put-requires c =
    let n = c.args.width in
    let half = half_is n c.requires.0 in
    let place = place_is n c.loop-e.e half c.loop-e.invariant.0 (c.from.ensures ∙ c.first_quadrant-folded.ensures.0) in
    let less : c.loop-e.e < half_width n = omega (arith, half) in
    let size : nat_abs (to_z w64 (of_z w64 c.args.scale)) ≤ 4 = rw ((held w64 c.args.scale c.ranges.scale).is, c.requires.2) (scale-le n) in
    (omega (arith, c.loop-e.invariant.1.long), c.loop-e-test.true, omega (arith, place, (in-out n c.loop-e.e less).0), omega (arith, half-width-le n), size)

pub loop-e-preserved : goal.loop-e-preserved
loop-e-preserved c =
    let n = c.args.width in
    let half = half_is n c.requires.0 in
    let less : c.loop-e.e < half_width n = omega (arith, half) in
    let folded = c.first_quadrant-folded.ensures in (
      c.within_turn-j.ensures ∙ ap (λ j. (3 * j) % 1024) c.loop-e.invariant.0 ∙ angle-next n c.loop-e.e,
      ordered-turn n c.loop-e.e half c.loop-e.invariant.0 (c.from.ensures ∙ folded.0) ((held w64 c.args.scale c.ranges.scale).is ∙ c.requires.2) c.loop-e.invariant.1 c.requires.1 less folded.1 c.put.ensures,
    )

pub returns : goal.returns
returns c =
    let last : c.loop-e.e ≡ half_width c.args.width = omega (arith, half_is c.args.width c.requires.0) in
    rw (← last) c.loop-e.invariant.1
