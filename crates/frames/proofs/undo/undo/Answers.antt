-- Questions 9 and 10 and what they leave in y; then questions 11 and 12 of what was made there.
use Rattle.std.proofs.Common.{◌∙◌, sym, ap, List, ℤ}
use Rattle.std.proofs.lemmas.Result.{err_from_is_err_and}
use mathlib.Core.Path.{subst}
use Rattle.integers.specs.Places.{Within}
use Rattle.steps.specs.Limits.{folded_limit}
use Rattle.runs.specs.Record.{opened}
use Rattle.runs.specs.Back.{unfolded_in}
use Rattle.runs.proofs.Searches.{none_within}
use Rattle.gate.proofs.AskedLaws.{refusal-number, done-number}
use Rattle.frames.proofs.UndoLaws.{undo-refused, undo-passed}
use Rattle.frames.proofs.UnstagedLaws.{unstaged-inside, unstaged-made}
use Rattle.frames.proofs.undo.undo.Goals as goal

pub returns-in_err-unstaged : goal.returns-in_err-unstaged
returns-in_err-unstaged c =
    let p = err_from_is_err_and c.from_residual.result c.from_residual.ensures.1 in
    rw (p.1, p.2) (λ total. undo-refused _ c.args.count total c.args.held.now _ c.args.block.now _ _ c.in_err-unstaged.ensures (refusal-number _))

pub unfolded_in-requires-clause-within : goal.unfolded_in-requires-clause-within
unfolded_in-requires-clause-within c =
    let e = c.in_ok-unstaged.ensures in
    subst (Within folded_limit) (sym (unstaged-made _ _ _ _ e (done-number _))) (none_within folded_limit _ (unstaged-inside _ _ _ _ e (done-number _)))

pub returns : goal.returns
returns c = λ total.
    let e = c.in_ok-unstaged.ensures in
    c.unfolded_in.ensures total
    ∙ ap (λ (l : List ℤ). unfolded_in (opened c.args.t.now.width c.args.count total c.args.held.now) l c.args.block.now) (unstaged-made _ _ _ _ e (done-number _))
    ∙ undo-passed _ _ total _ _ _ _ _ e (done-number _)
