-- The numbers that were read are the line's.
use Rattle.std.proofs.Common.{◌∙◌, ap, sym, arith}
use Rattle.std.proofs.Math.Seq.{length-take-le}
use Rattle.decimal.specs.Own.Reading.{shown_as, count_within}
use Rattle.text_runs.specs.Line.{row_taken}
use Rattle.text_lines.proofs.row.take_row.Goals as goal

pub returns-in_default-clause-result_value : goal.returns-in_default-clause-result_value
unfolding row_taken shown_as
returns-in_default-clause-result_value c =
    let r = c.numbers in
    c.bad_form.ensures.result_value ∙ sym (ap (row_taken c.args.state) (sym r.ensures.out_after ∙ ap (λ f. shown_as f r.new.out) c.in_default.is))

pub slice_bounds-numbers-end-2 : goal.slice_bounds-numbers-end-2
unfolding count_within
slice_bounds-numbers-end-2 c = omega (arith, c.in-Some.ensures.count_within)

pub slice_bounds-take_numbers-end : goal.slice_bounds-take_numbers-end
unfolding count_within
slice_bounds-take_numbers-end c = sym (length-take-le c.in-Some.n c.numbers.new.out (omega (arith, c.in-Some.ensures.count_within)))

pub returns-clause-result_value : goal.returns-clause-result_value
unfolding row_taken shown_as
returns-clause-result_value c = c.take_numbers.ensures.result_value ∙ ap (row_taken c.args.state) c.in-Some.ensures.out_after
