-- The tag, and the two fields behind it.
use Rattle.std.proofs.Common.{◌∙◌, ap}
use Rattle.text_runs.specs.Lines.{end_tag, fields, count_and_total}
use Rattle.decimal.proofs.EndRead.{end-other, end-tagged}
use Rattle.decimal.proofs.read.end_total.Goals as goal

pub returns-in_err-strip_prefix : goal.returns-in_err-strip_prefix
unfolding end_tag
returns-in_err-strip_prefix c = c.from_residual.ensures ∙ end-other c.args.count c.args.line.now c.in_err-strip_prefix.ensures.cases

pub returns : goal.returns
unfolding end_tag
returns c =
    let p = c.in_ok-strip_prefix.ensures.cases in
    c.count_and_total.ensures ∙ ap (λ bs. count_and_total c.args.count (fields bs)) p.1 ∙ end-tagged c.args.count c.args.line.now p.0
