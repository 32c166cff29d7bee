-- A ticket is written; a refusal leaves the two numbers.
use Rattle.std.proofs.Common.{rules, ℕ, FitsSigned, w32, ap, ◌∙◌}
use Rattle.std.proofs.lemmas.Int.{to_z-of_z}
use Rattle.valves.specs.Answers.{told}
use Rattle.lapped.proofs.ValveLaws.{ticket-written, ask-leaves}
use Rattle.lapped.proofs.valve.lapped_valve_ask.Goals as goal

pub returns-in-Ok : goal.returns-in-Ok
unfolding told
returns-in-Ok c =
    let p = c.ranges.position in
    let n = c.ranges.count in
    let s : FitsSigned w32 c.in-Ok.ticket.steps = search rules in
    let t : FitsSigned w32 c.in-Ok.ticket.count = search rules in
    let asked = rw (c.valve_of.ensures, to_z-of_z w32 _ p, to_z-of_z w32 _ n) at c.in-Ok.ensures in
    rw (to_z-of_z w32 _ s, to_z-of_z w32 _ t)
    (ap (λ (a : ℕ × ℕ). (a, c.in-Ok.ticket.steps, c.in-Ok.ticket.count)) c.tell.ensures ∙ ticket-written _ _ _ _ _ _ _ asked)

pub returns-in-Err : goal.returns-in-Err
returns-in-Err c =
    let p = c.ranges.position in
    let n = c.ranges.count in
    let asked = rw (c.valve_of.ensures, to_z-of_z w32 _ p, to_z-of_z w32 _ n) at c.in-Err.ensures in
    ap (λ (a : ℕ × ℕ). (a, c.args.steps.now, c.args.stamp.now)) c.tell-in-Err.ensures ∙ ask-leaves _ _ _ _ _ _ _ asked
