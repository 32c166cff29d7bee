-- A make whose questions are passed moves the position and raises the count; the numbers are lent by their bits.
use Rattle.std.proofs.Common.{rules, FitsSigned, w32, refl, ap, ◌∙◌}
use Rattle.std.proofs.lemmas.Int.{to_z-of_z}
use Rattle.valves.specs.declared.record.Valve.{Valve}
use Rattle.valves.specs.Calls.{moved, made_of}
use Rattle.valve_moves.proofs.QuestionLaws.{make-refused, make-done, make-ready, position-fits, count_fits}
use Rattle.valve_moves.proofs.valve.make.Goals as goal

pub returns-then-is_err : goal.returns-then-is_err
returns-then-is_err c =
    let p : FitsSigned w32 c.args.valve.position = search rules in
    let n : FitsSigned w32 c.args.valve.count = search rules in
    let s : FitsSigned w32 c.args.ticket.steps = search rules in
    let t : FitsSigned w32 c.args.ticket.count = search rules in
    make-refused _ _ _ (rw (to_z-of_z w32 _ p, to_z-of_z w32 _ n, to_z-of_z w32 _ s, to_z-of_z w32 _ t) at c.of_make-answer.ensures) c.if-is_err.ensures.value

pub overflow_add-valve : goal.overflow_add-valve
overflow_add-valve c = position-fits _ _ (make-ready _ _ _ c.of_make-answer.ensures c.if-is_err.ensures.value)

pub overflow_add-valve-2 : goal.overflow_add-valve-2
overflow_add-valve-2 c = count_fits _ _ (make-ready _ _ _ c.of_make-answer.ensures c.if-is_err.ensures.value)

pub returns : goal.returns
unfolding moved
returns c =
    let p : FitsSigned w32 c.args.valve.position = search rules in
    let n : FitsSigned w32 c.args.valve.count = search rules in
    let s : FitsSigned w32 c.args.ticket.steps = search rules in
    let t : FitsSigned w32 c.args.ticket.count = search rules in
    let ready = make-ready _ _ _ c.of_make-answer.ensures c.if-is_err.ensures.value in
    ap (λ (v : Valve). made_of v c.of_make-answer.result)
    (c.valve_of-moved.ensures ∙ rw (to_z-of_z w32 _ (position-fits _ _ ready), to_z-of_z w32 _ (count_fits _ _ ready)) refl)
    ∙ make-done _ _ _ c.of_make-answer.ensures c.if-is_err.ensures.value
    ∙ rw (to_z-of_z w32 _ p, to_z-of_z w32 _ n, to_z-of_z w32 _ s, to_z-of_z w32 _ t) refl
