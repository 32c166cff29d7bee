-- An ask whose questions are passed gives the move; the record's numbers are lent by their bits.
use Rattle.std.proofs.Common.{rules, Ok, FitsSigned, w32, refl, ap, ◌∙◌}
use Rattle.std.proofs.lemmas.Int.{to_z-of_z}
use Rattle.std.proofs.lemmas.Result.{err_from_is_err_and}
use Rattle.steps.specs.Limits.{reading_limit}
use Rattle.runs.proofs.Searches.{none_within}
use Rattle.valves.specs.Moves.{move}
use Rattle.valve_moves.proofs.QuestionLaws.{ask-refused, ask-given, ask-ready}
use Rattle.valve_moves.proofs.valve.ask.Goals as goal

pub returns-in_err-of_ask : goal.returns-in_err-of_ask
returns-in_err-of_ask c =
    let p : FitsSigned w32 c.args.valve.position = search rules in
    let n : FitsSigned w32 c.args.valve.count = search rules in
    let r = err_from_is_err_and c.from_residual.result c.from_residual.ensures.1 in
    rw (r.1, r.2) (ask-refused _ _ _ _ (rw (to_z-of_z w32 _ p, to_z-of_z w32 _ n) at c.in_err-of_ask.ensures))

pub asked-steps-requires-clause-width_nonzero : goal.asked-steps-requires-clause-width_nonzero
asked-steps-requires-clause-width_nonzero c = (ask-ready _ _ _ c.in_ok-of_ask.ensures).wide

pub asked-steps-requires-clause-block_len : goal.asked-steps-requires-clause-block_len
asked-steps-requires-clause-block_len c = (ask-ready _ _ _ c.in_ok-of_ask.ensures).long

pub asked-steps-requires-clause-within : goal.asked-steps-requires-clause-within
asked-steps-requires-clause-within c = none_within reading_limit _ (ask-ready _ _ _ c.in_ok-of_ask.ensures).none_out

pub asked-steps-requires-clause-pos_bound : goal.asked-steps-requires-clause-pos_bound
asked-steps-requires-clause-pos_bound c = let w = (ask-ready _ _ _ c.in_ok-of_ask.ensures).limits in (w.from-0, w.to-travel)

pub returns : goal.returns
unfolding move
returns c =
    let p : FitsSigned w32 c.args.valve.position = search rules in
    let n : FitsSigned w32 c.args.valve.count = search rules in
    let s : FitsSigned w32 c.asked-steps.result = search rules in
    ap Ok (c.ticket_of.ensures ∙ rw (to_z-of_z w32 _ s, to_z-of_z w32 _ n, c.asked-steps.ensures, to_z-of_z w32 _ p) refl)
    ∙ ask-given _ _ _ (rw (to_z-of_z w32 _ p, to_z-of_z w32 _ n) at c.in_ok-of_ask.ensures)
