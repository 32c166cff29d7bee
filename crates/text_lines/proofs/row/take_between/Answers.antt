-- The end line, whose total is kept, or a line of numbers.
use Rattle.std.proofs.Common.{◌∙◌, [], ℤ, ap, sym, arith, w64}
use Rattle.integers.proofs.Held.{held-ok}
use Rattle.text_runs.specs.declared.state.State.{State}
use Rattle.text_runs.specs.declared.state.Phase.TheVariants.{Ended}
use Rattle.text_runs.specs.State.{in_phase, with_run}
use Rattle.text_lines.proofs.StepLaws.{end-taken, row-taken}
use Rattle.text_lines.proofs.row.take_between.Goals as goal

pub returns-in_default-clause-result_value : goal.returns-in_default-clause-result_value
returns-in_default-clause-result_value c = c.take_row.ensures.result_value ∙ row-taken _ _ (sym c.end_total.ensures ∙ c.in_default.is)

pub returns-clause-result_value : goal.returns-clause-result_value
unfolding in_phase with_run
returns-clause-result_value c =
    let s = c.args.state in
    let total = c.in-Some.total in
    c.silent.ensures.result_value
    ∙ ap (λ (after : State). (after, [])) c.with_run.ensures
    ∙ ap (λ (t : ℤ). (in_phase (Ended t) s, [])) (held-ok w64 total (omega arith)).is
    ∙ end-taken s _ total (sym c.end_total.ensures ∙ c.in-Some.is)
