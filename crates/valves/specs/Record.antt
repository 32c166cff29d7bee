-- The valve record and a ticket: document 02, request 3.
use Rattle.std.specs.Prelude.{Bool, ◌&&◌, ℕ, ℤ, pos}
use Rattle.std.specs.Int.Signed.{le_z}
use Rattle.valves.specs.declared.record.Valve.{Valve}
use Rattle.valves.specs.declared.record.Ticket.{Ticket}

-- the steps of the valve's travel, the most that one move has, and the most moves made
abbrev pub travel : ℕ
travel = 10000

abbrev pub greatest_move : ℕ
greatest_move = 500

abbrev pub count_limit : ℕ
count_limit = 1000000

abbrev pub valve_of : ℤ → ℤ → Valve
valve_of position count = record { position = position; count = count }

abbrev pub ticket_of : ℤ → ℤ → Ticket
ticket_of steps count = record { steps = steps; count = count }

unfoldable pub between : ℤ → ℤ → ℤ → Bool
between low high x = le_z low x && le_z x high

-- the position is in its travel, and the count in its limits
unfoldable pub in_travel : ℤ → Bool
in_travel = between (pos 0) (pos travel)

unfoldable pub in_limits : Valve → Bool
in_limits valve = in_travel valve.position && between (pos 0) (pos count_limit) valve.count
