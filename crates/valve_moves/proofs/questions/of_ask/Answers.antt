-- The questions of an ask are asked in the definition's order.
use Rattle.std.proofs.Common.{◌<◌, w32, arith, sym, ◌∙◌}
use Rattle.std.proofs.lemmas.Int.{to_z-of_z}
use Rattle.tables.specs.Widths.{half_width}
use Rattle.runs.proofs.RecordLaws.{width-le, width-in-fours}
use Rattle.valve_moves.proofs.QuestionLaws.{width-refused, length-refused, dead-refused, range-refused, limits-refused, ask-passed}
use Rattle.valve_moves.proofs.questions.of_ask.Goals as goal

pub returns-then-half_width-eq0 : goal.returns-then-half_width-eq0
returns-then-half_width-eq0 c = width-refused _ _ _ (sym c.half_width.ensures ∙ c.if-half_width-eq0.true)

pub returns-then-block-width : goal.returns-then-block-width
returns-then-block-width c = length-refused _ _ _ (λ z. c.if-half_width-eq0.false (c.half_width.ensures ∙ z)) c.if-block-width.true

pub fault_of-requires : goal.fault_of-requires
fault_of-requires c =
    let w : 0 < half_width c.args.width = omega (arith, c.half_width.ensures, c.if-half_width-eq0.false) in
    (omega (arith, c.if-block-width.false, width-le c.args.width w), omega (arith, c.if-block-width.false, width-in-fours c.args.width w))

pub returns-in-Ok : goal.returns-in-Ok
returns-in-Ok c = ask-passed _ _ _ (λ z. c.if-half_width-eq0.false (c.half_width.ensures ∙ z)) c.if-block-width.false (sym c.in-Ok.ensures)
    (sym (rw (to_z-of_z w32 _ c.ranges.position, to_z-of_z w32 _ c.ranges.count) at c.if-in_limits.ensures))

pub returns-in-Ok-2 : goal.returns-in-Ok-2
returns-in-Ok-2 c = limits-refused _ _ _ (λ z. c.if-half_width-eq0.false (c.half_width.ensures ∙ z)) c.if-block-width.false (sym c.in-Ok-2.ensures)
    (sym (rw (to_z-of_z w32 _ c.ranges.position, to_z-of_z w32 _ c.ranges.count) at c.if-in_limits.ensures))

pub returns-in-Err-Dead : goal.returns-in-Err-Dead
returns-in-Err-Dead c =
    dead-refused _ _ _ (λ z. c.if-half_width-eq0.false (c.half_width.ensures ∙ z)) c.if-block-width.false _ (sym (rw c.in-Err-Dead.field-0-is at c.in-Err-Dead.ensures))

pub returns-in-Err-Beyond : goal.returns-in-Err-Beyond
returns-in-Err-Beyond c =
    range-refused _ _ _ (λ z. c.if-half_width-eq0.false (c.half_width.ensures ∙ z)) c.if-block-width.false _ (sym (rw c.in-Err-Beyond.field-0-is at c.in-Err-Beyond.ensures))
