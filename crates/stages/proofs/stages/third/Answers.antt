use Rattle.std.proofs.Common.{arith, ◌≡◌, ℕ, sym, ap, ◌∙◌}
use lib.ListN.{take}
use Rattle.integers.specs.Places.{at}
use Rattle.tables.proofs.ByWidth.{half-width-le}
use Rattle.rows.specs.Orders.{secant_out}
use Rattle.width_tables.proofs.TableSizes.{tangents-long, tangents-within}
use Rattle.stages.proofs.PartLaws.{front-le, front_is, room-long, secants-in, rows_are, in_order, rows-thirds}
use Rattle.stages.proofs.StageLaws.{stage3-is}
use Rattle.stages.proofs.stages.third.Goals as goal

pub slice_bounds-third-end : goal.slice_bounds-third-end
slice_bounds-third-end c = front-le c.args.t.now.width _ c.half-half.ensures _ (omega (arith, c.secant_sums.auto.room, c.requires.room.z-long))

pub slice_bounds-third-end-2 : goal.slice_bounds-third-end-2
slice_bounds-third-end-2 c = front_is c.args.t.now.width _ c.half-half.ensures _ (omega (arith, c.secant_sums.auto.room, c.requires.room.z-long))

pub slice_bounds-third-end-3 : goal.slice_bounds-third-end-3
slice_bounds-third-end-3 c = front-le c.args.t.now.width _ c.half-half.ensures _ (omega (arith, c.cosine_sums.auto.room, c.requires.room.y-long))

pub slice_bounds-third-end-4 : goal.slice_bounds-third-end-4
slice_bounds-third-end-4 c = front_is c.args.t.now.width _ c.half-half.ensures _ (omega (arith, c.cosine_sums.auto.room, c.requires.room.y-long))

pub third-requires-clause-tangents_len : goal.third-requires-clause-tangents_len
third-requires-clause-tangents_len c = (tangents-long _ _ c.tangents.ensures ∙ sym c.requires.two_halves.bottom-long, c.requires.two_halves.top-long ∙ sym c.requires.two_halves.bottom-long, room-long c.args.t.now.width _ c.half-half.ensures _ (omega (arith, c.secant_sums.auto.room, c.requires.room.z-long)) ∙ sym c.requires.two_halves.bottom-long, room-long c.args.t.now.width _ c.half-half.ensures _ (omega (arith, c.cosine_sums.auto.room, c.requires.room.y-long)) ∙ sym c.requires.two_halves.bottom-long, omega (arith, c.requires.two_halves.bottom-long, half-width-le c.args.t.now.width))

pub third-requires-clause-order : goal.third-requires-clause-order
third-requires-clause-order c = in_order c.args.t.now.width _ c.half-half.ensures c.places_out.ensures c.signs_out.ensures c.cosine_sums.ensures (omega (arith, c.cosine_sums.auto.room, c.requires.room.y-long))

pub third-requires-clause-thirds : goal.third-requires-clause-thirds
third-requires-clause-thirds c = rows-thirds c.args.t.now.width _ c.half-half.ensures c.places_out.ensures c.signs_out.ensures c.cosine_sums.ensures (omega (arith, c.cosine_sums.auto.room, c.requires.room.y-long)) (omega (arith, c.secant_sums.auto.room, c.requires.room.z-long)) c.secant_sums.ensures c.requires.within

pub third-requires-clause-within : goal.third-requires-clause-within
third-requires-clause-within c = tangents-within _ _ c.tangents.ensures

pub returns : goal.returns
returns c =
    stage3-is c.args.t.now.width c.args.t.now.known c.args.top.now c.args.bottom.now c.requires.two_halves _ _
    (λ m l. ap (λ (n : ℕ). secant_out n (at (take c.half-half.result c.secant_sums.new.room)) m) c.requires.two_halves.bottom-long ∙ (secants-in c.args.t.now.width _ c.half-half.ensures c.secant_sums.ensures).rows m l)
    (rows_are c.args.t.now.width _ c.half-half.ensures c.places_out.ensures c.signs_out.ensures c.cosine_sums.ensures) _ c.tangents.ensures.is c.args.undo c.third.ensures
