-- What an ask and a make give to a program in C: the answer's number and place, and the two lent numbers afterwards.
use Rattle.std.specs.Prelude.{ℕ, List, ℤ, Ok, Err}
use Rattle.valves.specs.declared.answer.Made.{Made}
use Rattle.valves.specs.Record.{valve_of, ticket_of}
use Rattle.valves.specs.Answers.{Asked, told}
use Rattle.valves.specs.Calls.{asked, made}

abbrev pub ValveResult : Type 0
ValveResult = (ℕ × ℕ) × ℤ × ℤ

-- a ticket is written to the two lent numbers; a refused ask leaves them as they were
unfoldable pub ticket_written : Asked → ℤ → ℤ → ValveResult
ticket_written (Ok ticket) steps count = ((0, 0), ticket.steps, ticket.count)
ticket_written (Err refusal) steps count = (told (Err refusal), steps, count)

unfoldable pub lapped_valve_ask : ℕ → ℤ → ℤ → List ℤ → ℤ → ℤ → ValveResult
lapped_valve_ask N position count block steps ticketCount = ticket_written (asked N (valve_of position count) block) steps ticketCount

-- the record's two numbers, in place
unfoldable pub valve_written : Made → ValveResult
valve_written m = (told m.answer, m.valve.position, m.valve.count)

unfoldable pub lapped_valve_make : ℤ → ℤ → ℤ → ℤ → ValveResult
lapped_valve_make position count steps ticketCount = valve_written (made (valve_of position count) (ticket_of steps ticketCount))
