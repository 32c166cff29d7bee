-- A frame whose questions are passed is added.
use Rattle.std.proofs.Common.{rules, arith, ◌≡◌, ◌*◌, length, add-one, sym, ◌∙◌}
use Rattle.integers.proofs.Products.{get_d-all}
use Rattle.steps.specs.Limits.{coefficient_limit}
use Rattle.runs.specs.Record.{frame_limit}
use Rattle.reels.specs.Reel.{run_limit, frame_added, frame_line}
use Rattle.reels.proofs.SumLaws.{sums-more}
use Rattle.reels.proofs.LimitsKept.{frames-few, frame-passed}
use Rattle.reel_lines.proofs.LineLaws.{refused-by, goes_on, passed-told}
use Rattle.reel_lines.proofs.frame.take_frame.Goals as goal

pub returns-in-Err : goal.returns-in-Err
unfolding frame_line
returns-in-Err c = c.by.ensures ∙ refused-by _ _ _ _ c.in-Err.ensures

pub add_squares-requires-clause-frame_in_bounds : goal.add_squares-requires-clause-frame_in_bounds
add_squares-requires-clause-frame_in_bounds c =
    let long : length c.args.reel.now.sums ≡ 128 = search rules in
    omega (arith, (frame-passed c.args.reel.now.width c.args.reel.now.count c.args.frame.now (passed-told _ c.in_default.ensures)).1, c.requires.narrow, long)

pub add_squares-requires-clause-within : goal.add_squares-requires-clause-within
add_squares-requires-clause-within c =
    record { size = get_d-all coefficient_limit c.args.frame.now (frame-passed c.args.reel.now.width c.args.reel.now.count c.args.frame.now (passed-told _ c.in_default.ensures)).2 }

pub add_squares-requires-clause-sums_within : goal.add_squares-requires-clause-sums_within
add_squares-requires-clause-sums_within c =
    sums-more c.args.reel.now.frames (run_limit * frame_limit) c.args.reel.now.sums (frames-few c.args.reel.now c.requires) c.requires.sums

pub returns : goal.returns
unfolding frame_line frame_added
returns c =
    rw (c.add_squares.ensures, add-one c.args.reel.now.count, add-one c.args.reel.now.frames)
    (sym (goes_on c.args.reel.now (frame_added c.args.reel.now c.args.frame.now) _ c.in_default.ensures))
