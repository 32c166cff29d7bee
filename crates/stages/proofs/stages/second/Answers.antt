use Rattle.std.proofs.Common.{arith, ◌≡◌, sym, ◌∙◌}
use Rattle.stages.proofs.PartLaws.{front-le, front_is, room-long, rows_are, in_order, rows-scaled}
use Rattle.stages.proofs.StageLaws.{stage2-is}
use Rattle.stages.proofs.stages.second.Goals as goal

pub slice_bounds-second-end : goal.slice_bounds-second-end
slice_bounds-second-end c = front-le c.args.t.now.width _ c.half-half.ensures _ (omega (arith, c.cosine_sums.auto.room, c.requires.width_in_bounds))

pub slice_bounds-second-end-2 : goal.slice_bounds-second-end-2
slice_bounds-second-end-2 c = front_is c.args.t.now.width _ c.half-half.ensures _ (omega (arith, c.cosine_sums.auto.room, c.requires.width_in_bounds))

pub second-requires-clause-y_len : goal.second-requires-clause-y_len
second-requires-clause-y_len c = room-long c.args.t.now.width _ c.half-half.ensures _ (omega (arith, c.cosine_sums.auto.room, c.requires.width_in_bounds)) ∙ sym c.requires.two_halves.top-long

pub second-requires-clause-order : goal.second-requires-clause-order
second-requires-clause-order c = in_order c.args.t.now.width _ c.half-half.ensures c.places_out.ensures c.signs_out.ensures c.cosine_sums.ensures (omega (arith, c.cosine_sums.auto.room, c.requires.width_in_bounds))

pub second-requires-clause-scaled : goal.second-requires-clause-scaled
second-requires-clause-scaled c = rows-scaled c.args.t.now.width _ c.half-half.ensures c.places_out.ensures c.signs_out.ensures c.cosine_sums.ensures (omega (arith, c.cosine_sums.auto.room, c.requires.width_in_bounds)) c.requires.within

pub returns : goal.returns
returns c = stage2-is c.args.t.now.width c.args.t.now.known c.args.top.now c.args.bottom.now c.requires.two_halves _ (rows_are c.args.t.now.width _ c.half-half.ensures c.places_out.ensures c.signs_out.ensures c.cosine_sums.ensures) c.args.undo c.second.ensures
