use native.Mathlib.Omega.{arith}
use mathlib.Core.Bool.{true, false}
use Rattle.pieces.specs.Step.{program_of}
use Rattle.pieces.proofs.PieceLaws.{goes-open, goes-ended}
use Rattle.pieces.proofs.step.take_line.Goals as goal

pub returns-in-Open : goal.returns-in-Open
returns-in-Open g c = let k = c.requires in goes-open (program_of g.P.Program.letters) k.buffers k.going.0 k.going.2 c.gather-gathered.ensures c.in-Open.is

pub returns-in-Whole : goal.returns-in-Whole
returns-in-Whole g c =
    let k = c.requires in
    goes-ended (program_of g.P.Program.letters) k.buffers k.going.0 k.going.2 c.gather-gathered.ensures {whole = true} c.in-Whole.is (omega (arith, k.going.1, g.met.P.Program.most)) c.hand_on.ensures

pub returns-in-Broken : goal.returns-in-Broken
returns-in-Broken g c =
    let k = c.requires in
    goes-ended (program_of g.P.Program.letters) k.buffers k.going.0 k.going.2 c.gather-gathered.ensures {whole = false} c.in-Broken.is (omega (arith, k.going.1, g.met.P.Program.most)) c.hand_on-in-Broken.ensures
