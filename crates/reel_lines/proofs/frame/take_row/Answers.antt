-- The numbers of the line, or its form is refused.
use Rattle.std.proofs.Common.{arith, ◌≤◌, ap, ◌∙◌, length-take}
use Rattle.decimal.specs.Own.Reading.{count_within, shown_as}
use Rattle.reels.specs.Reel.{frame_line}
use Rattle.reel_lines.proofs.frame.take_row.Goals as goal

pub returns-in_default : goal.returns-in_default
unfolding frame_line shown_as
returns-in_default c = c.by.ensures ∙ ap (frame_line c.args.reel.now) c.in_default.ensures.out_after

pub slice_bounds-numbers-end-2 : goal.slice_bounds-numbers-end-2
unfolding count_within
slice_bounds-numbers-end-2 c = let w : c.in-Some.n ≤ 1024 = c.in-Some.ensures.count_within in omega (arith, w, c.numbers.auto.out)

pub slice_bounds-take_frame-end : goal.slice_bounds-take_frame-end
unfolding count_within
slice_bounds-take_frame-end c = let w : c.in-Some.n ≤ 1024 = c.in-Some.ensures.count_within in omega (arith, w, c.numbers.auto.out, length-take c.in-Some.n c.numbers.new.out)

pub returns : goal.returns
unfolding shown_as
returns c = c.take_frame.ensures ∙ ap (frame_line c.args.reel.now) c.in-Some.ensures.out_after
