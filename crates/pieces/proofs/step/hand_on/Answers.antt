use mathlib.Core.Path.{refl}
use Rattle.pieces.specs.Step.{program_of}
use Rattle.pieces.proofs.PieceLaws.{gives_at, hands_on}
use Rattle.pieces.proofs.step.hand_on.Goals as goal

pub returns : goal.returns
returns g c = hands_on (program_of g.P.Program.letters) _ _ _ _ _ (gives_at c.hand_on-given.ensures c.args.progress.now.at) refl
