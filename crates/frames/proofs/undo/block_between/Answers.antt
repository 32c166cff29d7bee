use Rattle.frames.proofs.FrameLaws.{half_le, upper-long}
use Rattle.frames.proofs.undo.block_between.Goals as goal

pub slice_bounds-unfold-count : goal.slice_bounds-unfold-count
slice_bounds-unfold-count c = half_le _ c.args.t.now.known c.requires.folded_len.0 c.half-half.ensures

pub slice_bounds-unfold-start : goal.slice_bounds-unfold-start
slice_bounds-unfold-start c = half_le _ c.args.t.now.known c.requires.folded_len.0 c.half-half.ensures

pub unfold-requires-clause-two_halves : goal.unfold-requires-clause-two_halves
unfold-requires-clause-two_halves c = record { top-long = c.requires.folded_len.1; bottom-long = upper-long _ c.args.t.now.known c.requires.folded_len.0 c.half-half.ensures }
