-- Room that suffices for every width, and nothing held at the start.
use Rattle.std.proofs.Common.{sym}
use Rattle.slices.proofs.Parts.{part-long}
use Rattle.asking_back.proofs.RoomLaws.{half_in, held_in, block_in, held_none, lent}
use Rattle.asking_back.proofs.asking.first_answer.Goals as goal

pub slice_bounds-held-end : goal.slice_bounds-held-end
slice_bounds-held-end c = held_in _ _ c.args.t.now.known c.half-half.ensures c.nothing_held-held.result c.nothing_held-held.ensures

pub slice_bounds-answer_of-end : goal.slice_bounds-answer_of-end
slice_bounds-answer_of-end c = part-long _ c.nothing_held-held.result (held_in _ _ c.args.t.now.known c.half-half.ensures c.nothing_held-held.result c.nothing_held-held.ensures)

pub slice_bounds-block-end : goal.slice_bounds-block-end
slice_bounds-block-end c = block_in _ c.args.t.now.known c.zero_block-block.result c.zero_block-block.ensures

pub slice_bounds-answer_of-end-2 : goal.slice_bounds-answer_of-end-2
slice_bounds-answer_of-end-2 c = part-long _ c.zero_block-block.result (block_in _ c.args.t.now.known c.zero_block-block.result c.zero_block-block.ensures)

pub slice_bounds-top-end : goal.slice_bounds-top-end
slice_bounds-top-end c = half_in _ _ c.args.t.now.known c.half-half.ensures c.zeros-top.result c.zeros-top.ensures

pub slice_bounds-answer_of-end-3 : goal.slice_bounds-answer_of-end-3
slice_bounds-answer_of-end-3 c = part-long _ c.zeros-top.result (half_in _ _ c.args.t.now.known c.half-half.ensures c.zeros-top.result c.zeros-top.ensures)

pub slice_bounds-bottom-end : goal.slice_bounds-bottom-end
slice_bounds-bottom-end c = half_in _ _ c.args.t.now.known c.half-half.ensures c.zeros-bottom.result c.zeros-bottom.ensures

pub slice_bounds-answer_of-end-4 : goal.slice_bounds-answer_of-end-4
slice_bounds-answer_of-end-4 c = part-long _ c.zeros-bottom.result (half_in _ _ c.args.t.now.known c.half-half.ensures c.zeros-bottom.result c.zeros-bottom.ensures)

pub answer_of-requires-clause-held_value : goal.answer_of-requires-clause-held_value
answer_of-requires-clause-held_value c = held_none _ _ c.args.t.now.known c.half-half.ensures c.nothing_held-held.result c.nothing_held-held.ensures

pub answer_of-requires-clause-block_len : goal.answer_of-requires-clause-block_len
answer_of-requires-clause-block_len c = sym (part-long _ c.zero_block-block.result (block_in _ c.args.t.now.known c.zero_block-block.result c.zero_block-block.ensures))

pub answer_of-requires-clause-wide_room : goal.answer_of-requires-clause-wide_room
answer_of-requires-clause-wide_room c = lent _ _ c.args.t.now.known c.half-half.ensures c.zeros-top.result c.zeros-bottom.result c.zeros-y.result c.zeros-z.result c.zeros-top.ensures c.zeros-bottom.ensures c.zeros-y.ensures c.zeros-z.ensures
