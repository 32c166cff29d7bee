use Rattle.std.proofs.Common.{arith, ◌∙◌}
use Rattle.steps.proofs.Lengths.{width-half}
use Rattle.frames.proofs.StepLaws.{folded-top, folded-bottom, top-long, bottom-long, top-within, bottom-within₂, frame_made}
use Rattle.frames.proofs.step.step.Goals as goal

pub forward-requires-clause-within : goal.forward-requires-clause-within
forward-requires-clause-within c = folded-top c.args.t.now.width _ _ c.fold.ensures.top_after c.requires.within c.requires.within_2

pub forward-requires-clause-within_2 : goal.forward-requires-clause-within_2
forward-requires-clause-within_2 c = folded-bottom c.args.t.now.width _ _ c.fold.ensures.top_after c.requires.within c.requires.within_2

pub write-requires-clause-frame_len : goal.write-requires-clause-frame_len
write-requires-clause-frame_len c =
    omega (arith, c.requires.block_len.2, width-half c.args.t.now.width c.args.t.now.known, top-long c.args.t.now.width _ _ c.fold.ensures.top_after c.forward.ensures, bottom-long c.args.t.now.width _ _ c.fold.ensures.top_after c.forward.ensures)

pub write-requires-clause-within : goal.write-requires-clause-within
write-requires-clause-within c = top-within c.args.t.now.width _ _ c.fold.ensures.top_after c.forward.ensures c.requires.within c.requires.within_2

pub write-requires-clause-within_2 : goal.write-requires-clause-within_2
write-requires-clause-within_2 c = bottom-within₂ c.args.t.now.width _ _ c.fold.ensures.top_after c.forward.ensures c.requires.within c.requires.within_2

pub returns : goal.returns
returns c = (c.fold.ensures.held_after, c.write.ensures ∙ frame_made c.args.t.now.width _ _ c.fold.ensures.top_after c.forward.ensures)
