use native.Mathlib.Omega.{arith}
use mathlib.Core.Path.{refl}
use Rattle.pieces.specs.Step.{program_of}
use Rattle.pieces.proofs.PieceLaws.{gives_at, ends}
use Rattle.pieces.proofs.step.end.Goals as goal

pub returns : goal.returns
returns g c =
    ends (program_of g.P.Program.letters) c.rest-rested.ensures.0 (gives_at c.end-given.ensures c.rest-rested.result.at) refl (omega (arith, c.requires.3, g.met.P.Program.most))
