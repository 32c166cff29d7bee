-- A dead reading never steers anything: document 02, request 3. `proofs/Steered` proves it.
use Rattle.std.specs.Prelude.{Ok, ◌≡◌, List, [], ◌∷◌, ◌++◌, ℕ, ◌≤◌, ◌<◌, ℤ, negsuc, nat_abs, length}
use Rattle.integers.specs.Places.{at}
use Rattle.integers.specs.Vectors.{sum_of}
use Rattle.tables.specs.Widths.{RunWidth}
use Rattle.steps.specs.Limits.{reading_limit}
use Rattle.valves.specs.declared.record.Valve.{Valve}
use Rattle.valves.specs.declared.record.Ticket.{Ticket}
use Rattle.valves.specs.Record.{greatest_move}
use Rattle.valves.specs.Moves.{move, Against}
use Rattle.valves.specs.Calls.{asked}
use Rattle.valves.specs.Lists.{Call, ask, make, after, moves_made, ticket_on, tickets_given, Among}

-- 1. A block with the dead mark, a reading out of range or a wrong length yields no ticket,
pub data Unfit (N : ℕ) (block : List ℤ) : Type 0 where
  wrong-length : (length block ≡ N → ⊥) → Unfit N block
  dead-mark : (i : ℕ) → at block i ≡ negsuc 32767 → Unfit N block
  out_of_range : (i : ℕ) → reading_limit < nat_abs (at block i) → Unfit N block

abbrev pub UnfitYieldsNone : Type 0
UnfitYieldsNone = (N : ℕ) (valve : Valve) (block : List ℤ) → Unfit N block → ticket_on (asked N valve block) ≡ []

-- so one that yields a ticket has passed 1, 6, 8 and 9; its move is at most 500 in size, and 0 or against the block's total.
pub record Fit (N : ℕ) (block : List ℤ) (steps : ℤ) : Type 0 where
  pub width : RunWidth N
  pub long : length block ≡ N
  pub in-range : (i : ℕ) → nat_abs (at block i) ≤ reading_limit
  pub size : nat_abs steps ≤ greatest_move
  pub against : Against (sum_of block) steps

abbrev pub EachTicketFit : Type 0
EachTicketFit = (N : ℕ) (valve : Valve) (block : List ℤ) (ticket : Ticket) → asked N valve block ≡ Ok ticket → Fit N block ticket.steps

-- 2. Where every ticket handed in is one that an ask of the list gave,
unfoldable pub Honest : List Ticket → List Call → Type 0
Honest given [] = Unit
Honest given (ask N block ∷ calls) = Honest given calls
Honest given (make ticket ∷ calls) = Among ticket given × Honest given calls

-- the asks of a list, each with the record that it was given
pub record Asking : Type 0 where
  pub width : ℕ
  pub valve : Valve
  pub block : List ℤ

unfoldable pub asking : Valve → Call → List Asking
asking valve (ask N block) = record { width = N; valve = valve; block = block } ∷ []
asking valve (make ticket) = []

unfoldable pub askings : Valve → List Call → List Asking
askings valve [] = []
askings valve (c ∷ calls) = asking valve c ++ askings (after valve c) calls

-- every move made is the asked move of one of its blocks, which passed 1, 6, 8 and 9.
pub record AskedFor (valve : Valve) (calls : List Call) (steps : ℤ) : Type 0 where
  pub by : Asking
  pub in_list : Among by (askings valve calls)
  pub is : steps ≡ move by.width by.valve by.block
  pub fit : Fit by.width by.block steps

abbrev pub EveryMoveAsked : Type 0
EveryMoveAsked =
    (valve : Valve) (calls : List Call) (steps : ℤ)
    → Honest (tickets_given valve calls) calls → Among steps (moves_made valve calls) → AskedFor valve calls steps
