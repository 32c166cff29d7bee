use native.Mathlib.Omega.{arith}
use mathlib.Core.Path.{sym, ◌∙◌}
use Rattle.pieces.specs.Step.{program_of}
use Rattle.pieces.proofs.PieceLaws.{handed-sound, rests-over, rests-none, rests-some}
use Rattle.pieces.proofs.step.rest.Goals as goal
use Rattle.pieces.proofs.step.rest.Goals.{then-is_over-via-then-is_over, then-is_over-via-else-is_over+then-had-eq0}

pub returns-then-is_over : goal.returns-then-is_over
returns-then-is_over g c =
    let P = program_of g.P.Program.letters in (
      elim c.then-is_over.branch [
        | then-is_over-via-then-is_over w ↦ rests-over P (sym c.is_over.ensures ∙ w.if-is_over.true)
        | then-is_over-via-else-is_over+then-had-eq0 w ↦ rests-none P (sym c.is_over.ensures ∙ w.if-is_over.false) w.if-had-eq0.true
      ],
      c.requires.0,
    )

pub returns : goal.returns
returns g c =
    let P = program_of g.P.Program.letters in (
      rests-some P (sym c.is_over.ensures ∙ c.if-is_over.false) c.if-had-eq0.false (omega (arith, c.requires.1, c.requires.2)) c.hand_on.ensures,
      handed-sound c.hand_on.ensures c.requires.0,
    )
