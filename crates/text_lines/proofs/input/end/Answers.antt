-- The end of the input, by what should come next.
use Rattle.std.proofs.Common.{◌∙◌, ℤ, ap, sym, arith, w64, ⊎_elim}
use Rattle.integers.proofs.Held.{held-ok}
use Rattle.text_runs.specs.declared.state.Phase.TheVariants.{Ended}
use Rattle.text_runs.specs.Line.{end_in, input_ended}
use Rattle.text_lines.proofs.input.end.Goals as goal

pub returns-in-First-clause-result_value : goal.returns-in-First-clause-result_value
unfolding end_in input_ended
returns-in-First-clause-result_value c =
    let s = c.args.state in
    c.bad_form.ensures.result_value ∙ ⊎_elim (λ e. sym (ap (λ p. end_in p s) e)) (λ e. sym (ap (λ p. end_in p s) e)) c.in-First.is

pub returns-in-Ended-clause-result_value : goal.returns-in-Ended-clause-result_value
unfolding end_in input_ended
returns-in-Ended-clause-result_value c =
    let s = c.args.state in
    let total = (held-ok w64 c.in-Ended.total (omega arith)).is in
    c.finish.ensures.result_value ∙ ap (λ (t : ℤ). end_in (Ended t) s) total ∙ sym (ap (λ p. end_in p s) c.in-Ended.is)

pub returns-in-Over-clause-result_value : goal.returns-in-Over-clause-result_value
unfolding end_in input_ended
returns-in-Over-clause-result_value c = c.silent.ensures.result_value ∙ sym (ap (λ p. end_in p c.args.state) c.in-Over.is)
