-- A line of good form, by what should come.
use Rattle.std.proofs.Common.{◌∙◌, ap, sym}
use Rattle.text_runs.specs.Line.{width_taken, formed}
use Rattle.text_lines.proofs.input.take_formed.Goals as goal

pub returns-in-First-clause-result_value : goal.returns-in-First-clause-result_value
unfolding formed
returns-in-First-clause-result_value c =
    c.take_width.ensures.result_value
    ∙ ap (width_taken c.args.state) c.number.ensures
    ∙ sym (ap (λ p. formed p c.args.state c.args.line.now) c.in-First.is)

pub returns-in-Between-clause-result_value : goal.returns-in-Between-clause-result_value
unfolding formed
returns-in-Between-clause-result_value c = c.take_between.ensures.result_value ∙ sym (ap (λ p. formed p c.args.state c.args.line.now) c.in-Between.is)

pub returns-in-Ended-clause-result_value : goal.returns-in-Ended-clause-result_value
unfolding formed
returns-in-Ended-clause-result_value c = c.bad_form.ensures.result_value ∙ sym (ap (λ p. formed p c.args.state c.args.line.now) c.in-Ended.is)

pub returns-in-Over-clause-result_value : goal.returns-in-Over-clause-result_value
unfolding formed
returns-in-Over-clause-result_value c = c.silent.ensures.result_value ∙ sym (ap (λ p. formed p c.args.state c.args.line.now) c.in-Over.is)
