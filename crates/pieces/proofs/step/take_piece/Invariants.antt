use Rattle.std.proofs.Common.{length, ◌-◌}
use Rattle.pieces.specs.Step.{program_of, place_of}
use Rattle.pieces.proofs.PieceLaws.{Kept}
use Rattle.pieces.proofs.step.take_piece.Given as goal

abbrev pub invariant-loop-progress : goal.invariant-loop-progress
invariant-loop-progress g l =
    let letters = g.P.Program.letters in
    Kept (program_of letters) g.P.Program.limits l.piece l.initial.line l.initial.out (place_of letters l.initial.progress) l.line l.out (place_of letters l.progress)

abbrev pub decreases-loop-progress : goal.decreases-loop-progress
decreases-loop-progress g l = length l.piece - l.progress.at
