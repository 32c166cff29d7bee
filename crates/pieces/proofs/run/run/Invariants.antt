-- Each turn counts down the bytes that the program still accepts.
use mathlib.Core.Path.{◌≡◌}
use lib.ListN.{length}
use Rattle.pieces.specs.Step.{program_of, place_of}
use Rattle.pieces.proofs.TurnLaws.{Turns, turns_left}
use Rattle.pieces.proofs.run.run.Given as goal

abbrev pub invariant-loop-piece : goal.invariant-loop-piece
invariant-loop-piece g l =
    let letters = g.P.Program.letters in
    record {
      turns : Turns (program_of letters) g.P.Program.limits l.fn.begun (g.R.Read.remaining l.fn.input.input) (g.R.Read.remaining l.input.input) (g.W.Write.contents l.fn.output.output) (g.W.Write.contents l.output.output)
          l.buffer l.line l.out (place_of letters l.progress) l.count;
      same_buffer : length l.buffer ≡ length l.fn.buffer;
    }

abbrev pub decreases-loop-piece : goal.decreases-loop-piece
decreases-loop-piece g l = let letters = g.P.Program.letters in turns_left (program_of letters) g.P.Program.bounded l.line (place_of letters l.progress)
