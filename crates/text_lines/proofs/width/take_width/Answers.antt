-- No number, one below zero, and a width.
use Rattle.std.proofs.Common.{◌∙◌, ap, sym, arith, w64}
use Rattle.integers.proofs.Held.{held-ok}
use Rattle.text_runs.specs.Line.{width_started, width_taken}
use Rattle.text_lines.proofs.StepLaws.{width-held, width-below}
use Rattle.text_lines.proofs.width.take_width.Goals as goal

pub returns-in_default-clause-result_value : goal.returns-in_default-clause-result_value
unfolding width_taken
returns-in_default-clause-result_value c = c.bad_form.ensures.result_value ∙ sym (ap (width_taken c.args.state) c.in_default.is)

pub returns-in-Ok-clause-result_value : goal.returns-in-Ok-clause-result_value
returns-in-Ok-clause-result_value c =
    let e = (held-ok w64 c.in-Some.width (omega arith)).is in
    let h = rw e at c.in-Ok.ensures in
    c.start_run.ensures.result_value ∙ ap (width_started c.args.state) h.1 ∙ width-held _ _ h.0 ∙ sym (ap (width_taken c.args.state) c.in-Some.is)

pub returns-in-Err-clause-result_value : goal.returns-in-Err-clause-result_value
returns-in-Err-clause-result_value c =
    let e = (held-ok w64 c.in-Some.width (omega arith)).is in
    let h = rw e at c.in-Err.ensures in
    c.by.ensures.result_value ∙ width-below _ c.in-Some.width (omega arith) h ∙ sym (ap (width_taken c.args.state) c.in-Some.is)
