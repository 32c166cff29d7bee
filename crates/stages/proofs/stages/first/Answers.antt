use Rattle.std.proofs.Common.{arith, ◌≡◌, sym, ◌∙◌}
use Rattle.stages.proofs.PartLaws.{front-le, front_is, room-long, rows_are, in_order, rows-scaled}
use Rattle.stages.proofs.RowLaws.{alternated-within}
use Rattle.stages.proofs.StageLaws.{stage1-is}
use Rattle.stages.proofs.stages.first.Goals as goal

pub slice_bounds-first-end : goal.slice_bounds-first-end
slice_bounds-first-end c = front-le c.args.t.now.width _ c.half-half.ensures _ (omega (arith, c.cosine_sums.auto.room, c.requires.width_in_bounds))

pub slice_bounds-first-end-2 : goal.slice_bounds-first-end-2
slice_bounds-first-end-2 c = front_is c.args.t.now.width _ c.half-half.ensures _ (omega (arith, c.cosine_sums.auto.room, c.requires.width_in_bounds))

pub first-requires-clause-y_len : goal.first-requires-clause-y_len
first-requires-clause-y_len c = (room-long c.args.t.now.width _ c.half-half.ensures _ (omega (arith, c.cosine_sums.auto.room, c.requires.width_in_bounds)) ∙ sym c.requires.two_halves.bottom-long, c.requires.two_halves.top-long ∙ sym c.requires.two_halves.bottom-long)

pub first-requires-clause-order : goal.first-requires-clause-order
first-requires-clause-order c = in_order c.args.t.now.width _ c.half-half.ensures c.places_out.ensures c.signs_out.ensures c.cosine_sums.ensures (omega (arith, c.cosine_sums.auto.room, c.requires.width_in_bounds))

pub first-requires-clause-scaled : goal.first-requires-clause-scaled
first-requires-clause-scaled c = rows-scaled c.args.t.now.width _ c.half-half.ensures c.places_out.ensures c.signs_out.ensures c.cosine_sums.ensures (omega (arith, c.cosine_sums.auto.room, c.requires.width_in_bounds)) (alternated-within 268000000 c.args.top.now c.requires.within)

pub returns : goal.returns
returns c = stage1-is c.args.t.now.width c.args.t.now.known c.args.top.now c.args.bottom.now c.requires.two_halves _ (rows_are c.args.t.now.width _ c.half-half.ensures c.places_out.ensures c.signs_out.ensures c.cosine_sums.ensures) c.args.undo c.first.ensures
