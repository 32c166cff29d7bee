-- The line of a refusal, where a phase is one.
use Rattle.std.specs.Prelude.{List, [], ℕ}
use Rattle.text_runs.specs.EveryInput.{refusal_line}
use Rattle.reels.specs.declared.reel.ReelPhase.{ReelPhase}
use Rattle.reels.specs.declared.reel.ReelPhase.TheVariants.{FirstRun, Frames, NextRun, Whole, Refused}

unfoldable pub refusal_in : ReelPhase → List ℕ
refusal_in FirstRun = []
refusal_in Frames = []
refusal_in NextRun = []
refusal_in Whole = []
refusal_in (Refused number line place) = refusal_line number line place
