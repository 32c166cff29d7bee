-- A run is begun where its width passes.
use Rattle.std.proofs.Common.{sym, ◌∙◌}
use Rattle.std.proofs.Common.{add-one}
use Rattle.reels.specs.Reel.{run_begun}
use Rattle.reel_lines.proofs.LineLaws.{refused-by, goes_on}
use Rattle.reel_lines.proofs.width.start_run.Goals as goal

pub returns-in-Err : goal.returns-in-Err
returns-in-Err c = c.by.ensures ∙ refused-by _ _ _ _ c.in-Err.ensures

pub returns : goal.returns
unfolding run_begun
returns c = rw add-one (sym (goes_on c.args.reel.now (run_begun c.args.reel.now c.args.width) _ c.in_default.ensures))
