-- The questions to a frame, one after the other.
use Rattle.std.proofs.Common.{arith, sym, ap, ◌∙◌}
use Rattle.reels.specs.Reel.{range_asked}
use Rattle.reel_lines.proofs.LineLaws.{run-full, wrong-length, right-length}
use Rattle.reel_lines.proofs.frame.asked.Goals as goal

pub returns-then-count-ge-FRAME_LIMIT : goal.returns-then-count-ge-FRAME_LIMIT
returns-then-count-ge-FRAME_LIMIT c = sym (run-full _ _ _ (omega (arith, c.if-count-ge-FRAME_LIMIT.true)))

pub returns-then-frame-width : goal.returns-then-frame-width
returns-then-frame-width c = sym (wrong-length _ _ _ (omega (arith, c.if-count-ge-FRAME_LIMIT.false)) (λ e. omega (arith, c.if-frame-width.true)))

pub returns-in-Some : goal.returns-in-Some
unfolding range_asked
returns-in-Some c =
    sym (right-length _ _ _ (omega (arith, c.if-count-ge-FRAME_LIMIT.false)) (omega (arith, c.if-frame-width.false)) ∙ ap range_asked (sym c.in-Some.ensures))

pub returns-in-None : goal.returns-in-None
unfolding range_asked
returns-in-None c =
    sym (right-length _ _ _ (omega (arith, c.if-count-ge-FRAME_LIMIT.false)) (omega (arith, c.if-frame-width.false)) ∙ ap range_asked (sym c.in-None.ensures))
