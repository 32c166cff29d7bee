-- What an ask and a make write for C, by what they give.
use mathlib.Core.Path.{◌≡◌, sym, ap, ◌∙◌}
use mathlib.Core.List.{List}
use Prim.Native.Nat.{ℕ}
use lib.IntN.{ℤ}
use Rattle.valves.specs.declared.record.Valve.{Valve}
use Rattle.valves.specs.declared.record.Ticket.{Ticket}
use Rattle.std.specs.Prelude.{Ok, Err, false}
use Rattle.std.specs.Result.{is_ok}
use Rattle.valves.specs.declared.answer.Refusal.{Refusal}
use Rattle.valves.specs.declared.answer.Made.{Made}
use Rattle.valves.specs.Record.{valve_of, ticket_of}
use Rattle.valves.specs.Answers.{Asked, told}
use Rattle.valves.specs.Calls.{asked, made}
use Rattle.valves.specs.ForC.{ticket_written, lapped_valve_ask, valve_written, lapped_valve_make}
use Rattle.valves.proofs.CallLaws.{refused-made}

module _ (N : ℕ) (position count : ℤ) (block : List ℤ) (steps stamp : ℤ) where
  pub ticket-written : (ticket : Ticket) → Ok ticket ≡ asked N (valve_of position count) block
      → ((0, 0), ticket.steps, ticket.count) ≡ lapped_valve_ask N position count block steps stamp
  unfolding lapped_valve_ask ticket_written
  ticket-written ticket is = rw (← is)

  pub ask-leaves : (refusal : Refusal) → Err refusal ≡ asked N (valve_of position count) block
      → (told (Err refusal), steps, stamp) ≡ lapped_valve_ask N position count block steps stamp
  unfolding lapped_valve_ask ticket_written
  ask-leaves refusal is = rw (← is)

-- the record of a refused make is the one that was handed in
module _ (position count steps stamp : ℤ) (given : Made) (is : given ≡ made (valve_of position count) (ticket_of steps stamp)) where
  pub record-written : (told given.answer, given.valve.position, given.valve.count) ≡ lapped_valve_make position count steps stamp
  unfolding lapped_valve_make valve_written
  record-written = rw is

  pub make-leaves : false ≡ is_ok given.answer → (told given.answer, position, count) ≡ lapped_valve_make position count steps stamp
  make-leaves e =
      let same : given.valve ≡ valve_of position count =
      ap (λ (m : Made). m.valve) is ∙ refused-made (valve_of position count) (ticket_of steps stamp) (e ∙ ap (λ (m : Made). is_ok m.answer) is) in
      rw same at record-written
