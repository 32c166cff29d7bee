-- Three numbers tell a refusal.
use Rattle.std.proofs.Common.{◌∙◌, sym, ap, arith, w32}
use Rattle.integers.proofs.Held.{held-ok}
use Rattle.decimal.specs.Own.Reading.{shown_as, count_within}
use Rattle.feeding.specs.Ending.{refused_by}
use Rattle.text_state.proofs.EndingLaws.{refused_as, by_three, by-others}
use Rattle.text_state.proofs.ending.refused_by.Goals as goal

pub returns-in-Some-eq3 : goal.returns-in-Some-eq3
unfolding shown_as count_within
returns-in-Some-eq3 c =
    let t = c.in-Some-eq3 in
    refused_as (held-ok w32 _ (omega arith)).is (held-ok w32 _ (omega arith)).is (held-ok w32 _ (omega arith)).is
    ∙ sym (ap refused_by (sym t.ensures.out_after) ∙ by_three t.field-0 c.numbers.new.out (omega (arith, t.ensures.count_within)) t.field-0-test)

pub returns-in_default : goal.returns-in_default
unfolding shown_as count_within
returns-in_default c =
    let t = c.in_default in
    sym (ap refused_by (sym t.ensures.out_after) ∙ by-others _ c.numbers.new.out (omega (arith, t.ensures.count_within)) t.field-0-test.1)

pub returns-in_default-2 : goal.returns-in_default-2
unfolding shown_as refused_by
returns-in_default-2 c =
    let r = c.numbers in
    sym (ap refused_by (sym r.ensures.out_after ∙ ap (λ f. shown_as f r.new.out) c.in_default.is))
