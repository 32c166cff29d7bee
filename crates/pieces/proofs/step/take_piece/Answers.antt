use native.Mathlib.Omega.{arith}
use mathlib.Core.Path.{sym, ◌∙◌}
use Rattle.pieces.specs.Step.{program_of}
use Rattle.pieces.proofs.PieceLaws.{kept-first, kept_more, took-all, took-over}
use Rattle.pieces.proofs.step.take_piece.Goals as goal

pub loop-progress-init : goal.loop-progress-init
loop-progress-init g c = kept-first (program_of g.P.Program.letters) c.requires

pub returns-then-is_over : goal.returns-then-is_over
returns-then-is_over g c =
    took-over (program_of g.P.Program.letters) c.loop-progress.invariant (sym c.is_over.ensures ∙ c.if-is_over.true)

pub returns : goal.returns
returns g c = took-all (program_of g.P.Program.letters) c.loop-progress.invariant (omega arith)

pub loop-progress-preserved : goal.loop-progress-preserved
loop-progress-preserved g c =
    kept_more (program_of g.P.Program.letters) c.loop-progress.invariant c.take_line.ensures c.take_line.auto.line c.take_line.auto.out
