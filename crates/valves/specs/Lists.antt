-- Every list of asks and makes, refused ones included: document 02, request 3. `proofs/Lists` proves it.
use Rattle.std.specs.Prelude.{Ok, Err, ◌≡◌, Bool, true, false, cond, ◌⊎◌, List, [], ◌∷◌, ◌++◌, ℕ, ℤ, pos, ◌+ℤ◌, ◌≤ℤ◌, ◌<ℤ◌}
use Rattle.integers.specs.Vectors.{sum_of}
use Rattle.valves.specs.declared.record.Valve.{Valve}
use Rattle.valves.specs.declared.record.Ticket.{Ticket}
use Rattle.valves.specs.Record.{travel, count_limit, in_limits}
use Rattle.valves.specs.Answers.{Asked}
use Rattle.valves.specs.Calls.{passes, asked, made}

-- an ask with any block, or a make with any ticket
pub data Call : Type 0 where
  ask : (N : ℕ) (block : List ℤ) → Call
  make : (ticket : Ticket) → Call

-- the record that a call hands on, and that behind a list: each call is given the record that the last make handed back
unfoldable pub after : Valve → Call → Valve
after valve (ask N block) = valve
after valve (make ticket) = (made valve ticket).valve

unfoldable pub after_all : Valve → List Call → Valve
after_all valve [] = valve
after_all valve (c ∷ calls) = after_all (after valve c) calls

-- whether a make works
unfoldable pub works : Valve → Ticket → Bool
works valve ticket = passes (made valve ticket).answer

-- the moves of the makes that worked
unfoldable pub move_made : Valve → Call → List ℤ
move_made valve (ask N block) = []
move_made valve (make ticket) = cond (works valve ticket) (ticket.steps ∷ []) []

unfoldable pub moves_made : Valve → List Call → List ℤ
moves_made valve [] = []
moves_made valve (c ∷ calls) = move_made valve c ++ moves_made (after valve c) calls

-- the tickets that the asks gave
unfoldable pub ticket_on : Asked → List Ticket
ticket_on (Ok ticket) = ticket ∷ []
ticket_on (Err refusal) = []

unfoldable pub ticket_given : Valve → Call → List Ticket
ticket_given valve (ask N block) = ticket_on (asked N valve block)
ticket_given valve (make ticket) = []

unfoldable pub tickets_given : Valve → List Call → List Ticket
tickets_given valve [] = []
tickets_given valve (c ∷ calls) = ticket_given valve c ++ tickets_given (after valve c) calls

-- what stands in a list
abbrev pub Among : {A : Type 0} → A → List A → Type 0
Among x [] = ⊥
Among x (y ∷ ys) = (x ≡ y) ⊎ Among x ys

-- Kept from a record within its limits: the position is in its travel, the count within its limit, and the position is the first one plus the
-- moves made.
pub record KeptWithin (valve : Valve) (calls : List Call) : Type 0 where
  pub from-0 : pos 0 ≤ℤ (after_all valve calls).position
  pub to-10000 : (after_all valve calls).position ≤ℤ pos travel
  pub count-from-0 : pos 0 ≤ℤ (after_all valve calls).count
  pub count-to-limit : (after_all valve calls).count ≤ℤ pos count_limit
  pub position-is : (after_all valve calls).position ≡ valve.position +ℤ sum_of (moves_made valve calls)

pub record EveryList (valve : Valve) (calls : List Call) : Type 0 where
  -- behind the list, and so behind every beginning of one
  pub kept : in_limits valve ≡ true → KeptWithin valve calls
  -- the count never falls, whatever follows
  pub never-falls : (more : List Call) → (after_all valve calls).count ≤ℤ (after_all valve (calls ++ more)).count
  -- a ticket works at most once: behind a make that works next neither its ticket nor any that was asked before is taken, whatever lies between
  pub once : (ticket old : Ticket) (between : List Call)
      → works (after_all valve calls) ticket ≡ true
      → (old ≡ ticket) ⊎ Among old (tickets_given valve calls)
      → works (after_all valve (calls ++ make ticket ∷ between)) old ≡ false

-- for every record and every list
abbrev pub EveryListOfMoves : Type 0
EveryListOfMoves = (valve : Valve) (calls : List Call) → EveryList valve calls

-- ---- beside it: the ticket of an ask works right behind it, unless the count is at its limit
abbrev pub FreshTicketWorks : Type 0
FreshTicketWorks =
    (N : ℕ) (valve : Valve) (block : List ℤ) (ticket : Ticket)
    → asked N valve block ≡ Ok ticket → valve.count <ℤ pos count_limit → works valve ticket ≡ true
