-- Asks, makes and a list of both, computed on the definitions: the cut toward zero, both holds, each refusal with its number and place, and
-- which comes first. The numbers are those of the paper's cases for request 3.
use Rattle.std.specs.Prelude.{Ok, ◌≡◌, refl, List, [], ◌∷◌, ◌++◌, map, ℕ, ℤ, pos, neg_ℤ, replicate}
use Rattle.integers.specs.Vectors.{sum_of, alike}
use Rattle.tables.specs.Widths.{by_width, half_width}
use Rattle.runs.specs.Answers.{first_where, beyond}
use Rattle.runs.specs.Gate.{dead}
use Rattle.valves.specs.declared.record.Valve.{Valve}
use Rattle.valves.specs.declared.record.Ticket.{Ticket}
use Rattle.valves.specs.Record.{valve_of, ticket_of, between, in_travel, in_limits}
use Rattle.valves.specs.Answers.{Asked, told}
use Rattle.valves.specs.Moves.{cut, wanted, held_between, held_move, move, greater, lesser, lowest, highest}
use Rattle.valves.specs.Calls.{ask as question, ask_each, passes, ask_answer, answered_with, asked, move_allowed, make_answer, moved, made}
use Rattle.valves.specs.Lists.{Call, ask, make, after, after_all, works, move_made, moves_made, ticket_on, ticket_given, tickets_given}
use Rattle.valves.specs.Steered.{asking, askings}
use Rattle.valves.specs.ForC.{ValveResult, ticket_written, lapped_valve_ask, valve_written, lapped_valve_make}

-- a table of what is computed and what the paper says: in every row the two are the same
abbrev Said : {A : Type 0} → List (A × A) → Type 0
Said rows = map (λ row. row.0) rows ≡ map (λ row. row.1) rows

abbrev less : ℕ → ℤ
less n = neg_ℤ (pos n)

abbrev zeros : ℕ → List ℤ
zeros n = replicate n (pos 0)

abbrev dead-2 : List ℤ
dead-2 = pos 40000 ∷ pos 0 ∷ less 32768 ∷ zeros 5

-- ---- the ticket of a block at width 8, where the record is (position, count)
abbrev asks : ℤ → ℤ → List ℤ → Asked
asks position count block = asked 8 (valve_of position count) block

abbrev gives : ℤ → ℤ → Asked
gives steps count = Ok (ticket_of steps count)

-- cut toward zero, and against the total
cuts-given : Said {A = Asked}
    ((asks (pos 5000) (pos 0) (replicate 7 (pos 1) ++ pos 0 ∷ []), gives (pos 0) (pos 0))
    ∷ (asks (pos 5000) (pos 0) (replicate 8 (pos 1)), gives (less 1) (pos 0))
    ∷ (asks (pos 5000) (pos 0) (pos 0 ∷ replicate 7 (less 1)), gives (pos 0) (pos 0))
    ∷ (asks (pos 5000) (pos 0) (replicate 8 (less 1)), gives (pos 1) (pos 0))
    ∷ (asks (pos 5000) (pos 0) (replicate 7 (pos 2) ++ pos 1 ∷ []), gives (less 1) (pos 0))
    ∷ (asks (pos 5000) (pos 0) (less 1 ∷ replicate 7 (less 2)), gives (pos 1) (pos 0))
    ∷ (asked 32 (valve_of (pos 5000) (pos 0)) (less 1 ∷ replicate 31 (less 2)), gives (pos 1) (pos 0))
    ∷ (asked 128 (valve_of (pos 5000) (pos 0)) (replicate 127 (pos 1) ++ pos 0 ∷ []), gives (pos 0) (pos 0))
    ∷ (asks (pos 5000) (pos 1000000) (pos 100 ∷ zeros 7), gives (less 12) (pos 1000000))
    ∷ [])
unfolding asked answered_with ask_answer question ask_each passes told in_limits in_travel between move held_move held_between wanted cut sum_of half_width by_width first_where beyond dead
cuts-given = refl

-- held within ±500, then in the travel
holds-given : Said {A = Asked}
    ((asks (pos 5000) (pos 12) (replicate 7 (pos 500) ++ pos 499 ∷ []), gives (less 499) (pos 12))
    ∷ (asks (pos 5000) (pos 12) (replicate 8 (pos 501)), gives (less 500) (pos 12))
    ∷ (asks (pos 5000) (pos 12) (replicate 8 (less 501)), gives (pos 500) (pos 12))
    ∷ (asks (pos 299) (pos 12) (replicate 8 (pos 300)), gives (less 299) (pos 12))
    ∷ (asks (pos 0) (pos 12) (replicate 8 (pos 300)), gives (pos 0) (pos 12))
    ∷ (asks (pos 9701) (pos 12) (replicate 8 (less 300)), gives (pos 299) (pos 12))
    ∷ (asks (pos 499) (pos 12) (replicate 8 (pos 600)), gives (less 499) (pos 12))
    ∷ (asks (pos 9501) (pos 12) (replicate 8 (less 600)), gives (pos 499) (pos 12))
    ∷ (asked 128 (valve_of (pos 10000) (pos 1)) (replicate 128 (pos 32766)), gives (less 500) (pos 1))
    ∷ [])
unfolding asked answered_with ask_answer question ask_each passes told in_limits in_travel between move held_move held_between wanted cut sum_of half_width by_width first_where beyond dead
holds-given = refl

-- the ends of the one hold
ends-given : map lowest (pos 0 ∷ pos 299 ∷ pos 5000 ∷ []) ++ map highest (pos 5000 ∷ pos 9701 ∷ pos 10000 ∷ []) ≡ pos 0 ∷ less 299 ∷ less 500 ∷ pos 500 ∷ pos 299 ∷ pos 0 ∷ []
unfolding lowest highest greater lesser
ends-given = refl

-- ---- for C, where 77 and 88 are lent: 1, 6, 8, 9 and 17, each before the next, write nothing; a ticket is written
abbrev ask_c : ℕ → ℤ → ℤ → List ℤ → ValveResult
ask_c N position count block = lapped_valve_ask N position count block (pos 77) (pos 88)

abbrev kept : ℕ → ℕ → ValveResult
kept number place = ((number, place), pos 77, pos 88)

asks-refused : Said {A = ValveResult}
    ((ask_c 9 (pos 5000) (pos 0) (zeros 9), kept 1 0)
    ∷ (ask_c 0 (pos 5000) (pos 0) [], kept 1 0)
    ∷ (ask_c 16 (less 1) (pos 0) (zeros 8), kept 1 0)
    ∷ (ask_c 8 (less 1) (pos 0) (zeros 9), kept 6 0)
    ∷ (ask_c 8 (pos 5000) (pos 0) (replicate 7 (less 32768)), kept 6 0)
    ∷ (ask_c 8 (less 1) (pos 0) dead-2, kept 8 2)
    ∷ (ask_c 8 (pos 5000) (pos 0) (pos 0 ∷ pos 32768 ∷ zeros 5 ++ less 40000 ∷ []), kept 9 1)
    ∷ (ask_c 8 (less 1) (pos 0) (zeros 7 ++ less 32769 ∷ []), kept 9 7)
    ∷ (ask_c 8 (less 1) (pos 0) (zeros 8), kept 17 0)
    ∷ (ask_c 8 (pos 10001) (pos 0) (zeros 8), kept 17 0)
    ∷ (ask_c 8 (pos 5000) (less 1) (zeros 8), kept 17 0)
    ∷ (ask_c 8 (pos 5000) (pos 1000001) (zeros 8), kept 17 0)
    ∷ (ask_c 8 (pos 300) (pos 12) (replicate 8 (pos 300)), ((0, 0), less 300, pos 12))
    ∷ [])
unfolding lapped_valve_ask ticket_written asked answered_with ask_answer question ask_each passes told in_limits in_travel between move held_move held_between wanted cut sum_of half_width by_width first_where beyond dead
asks-refused = refl

-- a make: 17, then 18, then 19; one that works
makes-given : Said {A = ValveResult}
    ((lapped_valve_make (less 1) (pos 0) (pos 1) (pos 0), ((17, 0), less 1, pos 0))
    ∷ (lapped_valve_make (pos 5000) (pos 1000001) (pos 1) (pos 1000001), ((17, 0), pos 5000, pos 1000001))
    ∷ (lapped_valve_make (pos 5000) (pos 0) (less 501) (pos 0), ((17, 0), pos 5000, pos 0))
    ∷ (lapped_valve_make (pos 9501) (pos 0) (pos 500) (pos 0), ((17, 0), pos 9501, pos 0))
    ∷ (lapped_valve_make (pos 5000) (pos 1000000) (pos 501) (pos 0), ((17, 0), pos 5000, pos 1000000))
    ∷ (lapped_valve_make (pos 5000) (pos 1000000) (pos 1) (pos 0), ((18, 0), pos 5000, pos 1000000))
    ∷ (lapped_valve_make (pos 5000) (pos 1) (pos 1) (pos 0), ((19, 0), pos 5000, pos 1))
    ∷ (lapped_valve_make (pos 5000) (pos 0) (pos 1) (less 1), ((19, 0), pos 5000, pos 0))
    ∷ (lapped_valve_make (pos 500) (pos 3) (less 500) (pos 3), ((0, 0), pos 0, pos 4))
    ∷ (lapped_valve_make (pos 5000) (pos 999999) (pos 1) (pos 999999), ((0, 0), pos 5001, pos 1000000))
    ∷ [])
unfolding lapped_valve_make valve_written made move_allowed make_answer moved question passes told in_limits in_travel between alike
makes-given = refl

-- ---- a list of calls: an ask, a dead one, the make, the same ticket once more, an ask, a move too long, the make
abbrev start : Valve
start = valve_of (pos 5000) (pos 0)

abbrev calls : List Call
calls =
    ask 8 (replicate 8 (pos 300))
    ∷ ask 8 dead-2
    ∷ make (ticket_of (less 300) (pos 0))
    ∷ make (ticket_of (less 300) (pos 0))
    ∷ ask 8 (replicate 8 (less 600))
    ∷ make (ticket_of (pos 501) (pos 1))
    ∷ make (ticket_of (pos 500) (pos 1))
    ∷ []

-- the record behind it, the moves made, the tickets given, and the records that were asked
list-given : Said {A = Valve × List ℤ × List Ticket × List Valve}
    ((
      (after_all start calls, moves_made start calls, tickets_given start calls, map (λ a. a.valve) (askings start calls)),
      (valve_of (pos 5200) (pos 2), less 300 ∷ pos 500 ∷ [], ticket_of (less 300) (pos 0) ∷ ticket_of (pos 500) (pos 1) ∷ [], start ∷ start ∷ valve_of (pos 4700) (pos 1) ∷ []),
    )
    ∷ [])
unfolding after_all after works move_made moves_made ticket_on ticket_given tickets_given asking askings made move_allowed make_answer moved asked answered_with ask_answer question ask_each passes told in_limits in_travel between alike move held_move held_between wanted cut sum_of half_width by_width first_where beyond dead
list-given = refl
