-- A make that works is written; a refused one leaves the two numbers, which are those of the record that it hands back.
use Rattle.std.proofs.Common.{rules, ℕ, ◌≡◌, FitsSigned, w32, refl, ap, ◌∙◌}
use Rattle.std.proofs.lemmas.Int.{to_z-of_z}
use Rattle.valves.specs.Record.{valve_of, ticket_of}
use Rattle.valves.specs.Calls.{made}
use Rattle.lapped.proofs.ValveLaws.{record-written, make-leaves}
use Rattle.lapped.proofs.valve.lapped_valve_make.Goals as goal
use Rattle.lapped.proofs.valve.lapped_valve_make.Goals.{then-is_ok, else-is_ok}

pub returns : goal.returns
returns c =
    let s = c.ranges.steps in
    let t = c.ranges.stamp in
    let a = c.make-made.result in
    let p : FitsSigned w32 c.args.position.now = search rules in
    let n : FitsSigned w32 c.args.count.now = search rules in
    let is : a ≡ made (valve_of c.args.position.now c.args.count.now) (ticket_of c.args.steps c.args.stamp) =
    c.make-made.ensures
    ∙ rw (c.valve_of.ensures, c.ticket_of-ticket.ensures, to_z-of_z w32 _ p, to_z-of_z w32 _ n, to_z-of_z w32 _ s, to_z-of_z w32 _ t) refl in
    elim c.if-is_ok.branch [
      | then-is_ok w ↦
          let q : FitsSigned w32 a.valve.position = search rules in
          let m : FitsSigned w32 a.valve.count = search rules in
          rw (w.position-is, w.count-is, to_z-of_z w32 _ q, to_z-of_z w32 _ m)
          (ap (λ (b : ℕ × ℕ). (b, a.valve.position, a.valve.count)) c.tell.ensures ∙ record-written _ _ _ _ a is)
      | else-is_ok w ↦
          rw (w.position-is, w.count-is)
          (ap (λ (b : ℕ × ℕ). (b, c.args.position.now, c.args.count.now)) c.tell.ensures ∙ make-leaves _ _ _ _ a is w.if-is_ok.ensures.value)
    ]
