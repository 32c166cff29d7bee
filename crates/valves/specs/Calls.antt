-- An ask and a make, question by question: document 02, request 3.
use Rattle.std.specs.Prelude.{Ok, Err, Bool, cond, ◌&&◌, List, ℕ, eqb, ltb, ℤ, pos, neg_ℤ, ◌+ℤ◌, length, Option, Some, None}
use Rattle.std.specs.Int.Signed.{lt_z}
use Rattle.integers.specs.Vectors.{alike}
use Rattle.tables.specs.Widths.{half_width}
use Rattle.runs.specs.Gate.{first_dead, first_out}
use Rattle.valves.specs.declared.record.Valve.{Valve}
use Rattle.valves.specs.declared.record.Ticket.{Ticket}
use Rattle.valves.specs.declared.answer.Refusal.{Refusal}
use Rattle.valves.specs.declared.answer.Refusal.TheVariants.{Width, InputLength, DeadMark, Range, Limits, AllMade, OtherCount}
use Rattle.valves.specs.declared.answer.Made.{Made}
use Rattle.valves.specs.Record.{greatest_move, count_limit, valve_of, ticket_of, between, in_travel, in_limits}
use Rattle.valves.specs.Answers.{Answer, Asked, told}
use Rattle.valves.specs.Moves.{move}

-- a question: where it says no, its refusal; else what the questions after it say
unfoldable pub ask : Refusal → Bool → Answer → Answer
ask refusal answer next = cond answer next (Err refusal)

unfoldable pub ask_each : (ℕ → Refusal) → Option ℕ → Answer → Answer
ask_each refusal (Some place) next = Err (refusal place)
ask_each refusal None next = next

-- the answer that work is done by
unfoldable pub passes : Answer → Bool
passes answer = eqb (told answer).0 0

-- ---- an ask: 1, 6, 8 and 9 of the block, then 17
unfoldable pub ask_answer : ℕ → Valve → List ℤ → Answer
ask_answer N valve block =
    ask Width (ltb 0 (half_width N))
    (ask InputLength (eqb (length block) N)
    (ask_each DeadMark (first_dead block 0)
    (ask_each Range (first_out block 0)
    (ask Limits (in_limits valve) (Ok tt)))))

-- a ticket where the questions are answered yes, else the refusal
unfoldable pub answered_with : Answer → Ticket → Asked
answered_with (Ok x) ticket = Ok ticket
answered_with (Err refusal) ticket = Err refusal

-- an ask gives a ticket with the move and the record's count, and changes nothing
unfoldable pub asked : ℕ → Valve → List ℤ → Asked
asked N valve block = answered_with (ask_answer N valve block) (ticket_of (move N valve block) valve.count)

-- ---- a make: 17, of the record and of the ticket's move, then 18, then 19
unfoldable pub move_allowed : Valve → ℤ → Bool
move_allowed valve steps =
    in_limits valve && between (neg_ℤ (pos greatest_move)) (pos greatest_move) steps && in_travel (valve.position +ℤ steps)

unfoldable pub make_answer : Valve → Ticket → Answer
make_answer valve ticket =
    ask Limits (move_allowed valve ticket.steps)
    (ask AllMade (lt_z valve.count (pos count_limit))
    (ask OtherCount (alike valve.count ticket.count) (Ok tt)))

-- the position takes the move, and the count is one more
unfoldable pub moved : Valve → Ticket → Valve
moved valve ticket = valve_of (valve.position +ℤ ticket.steps) (valve.count +ℤ pos 1)

abbrev pub made_of : Valve → Answer → Made
made_of valve answer = record { valve = valve; answer = answer }

-- a refused make hands back the same record
unfoldable pub made : Valve → Ticket → Made
made valve ticket =
    cond (passes (make_answer valve ticket)) (made_of (moved valve ticket) (Ok tt)) (made_of valve (make_answer valve ticket))
