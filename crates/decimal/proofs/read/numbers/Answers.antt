-- Each field is a number that is stored, or the line is none.
use Rattle.std.proofs.Common.{◌<◌, length, arith, sym, refl, ◌∙◌}
use Rattle.std.proofs.Math.ListN.{length-set}
use Rattle.text_runs.proofs.Inverse.{number_fits}
use Rattle.decimal.specs.Own.Reading.{shown_as, count_within}
use Rattle.decimal.proofs.FieldsRead.{from_start, field_ends, field-read, field-long, asks-narrow, narrow-is, read-bad, read_number, read_all}
use Rattle.decimal.proofs.read.numbers.Goals as goal

pub loop-at-init : goal.loop-at-init
loop-at-init c = (omega arith, omega arith, refl, from_start c.args.line.now)

pub slice_bounds-number-end : goal.slice_bounds-number-end
slice_bounds-number-end c = field_ends _ _ c.end_of-end.ensures c.loop-at-test.true

pub returns-in_default-clause-out_after : goal.returns-in_default-clause-out_after
unfolding shown_as
returns-in_default-clause-out_after c =
    let n = field-read c.args.line.now c.loop-at.at c.end_of-end.ensures c.number.ensures ∙ c.in_default.is in
    sym (c.loop-at.invariant.3 ∙ read-bad _ _ c.loop-at.out c.loop-at.n c.loop-at-test.true n)

pub returns-in_default-clause-count_within : goal.returns-in_default-clause-count_within
unfolding count_within
returns-in_default-clause-count_within c = tt

pub overflow_cast-out : goal.overflow_cast-out
overflow_cast-out c =
    let e = sym c.number.ensures ∙ c.in-Some.is in
    asks-narrow _ c.in-Some.x (omega (arith, number_fits _ _ e)) e

pub bounds-out-n : goal.bounds-out-n
bounds-out-n c =
    let long = field-long c.args.line.now c.loop-at.at c.end_of-end.ensures c.number.ensures c.in-Some.is in
    omega (arith, long, field_ends _ _ c.end_of-end.ensures c.loop-at-test.true)

pub loop-at-preserved : goal.loop-at-preserved
loop-at-preserved c =
    let k = c.loop-at in
    let f = c.end_of-end.ensures in
    let e = field-read c.args.line.now k.at f c.number.ensures ∙ c.in-Some.is in
    let long = field-long c.args.line.now k.at f c.number.ensures c.in-Some.is in
    let ends = field_ends c.args.line.now k.at f c.loop-at-test.true in
    let room : k.n < length k.out = omega (arith, long, ends) in
    let x = narrow-is _ c.in-Some.x (omega (arith, number_fits _ _ e)) e in
    (omega arith, omega arith, length-set k.out k.n _ ∙ k.invariant.2, k.invariant.3 ∙ read_number _ _ _ _ c.loop-at-test.true f room x e)

pub returns-clause-out_after : goal.returns-clause-out_after
unfolding shown_as
returns-clause-out_after c = sym (c.loop-at.invariant.3 ∙ read_all _ _ c.loop-at.out c.loop-at.n c.loop-at-test.false)

pub returns-clause-count_within : goal.returns-clause-count_within
unfolding count_within
returns-clause-count_within c = omega arith
