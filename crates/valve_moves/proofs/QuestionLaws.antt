-- The valve's questions, one after the other as the code asks them.
use Rattle.std.specs.Prelude.{Ok, Err, Option, Some, None}
use Rattle.std.specs.Result.{is_err}
use mathlib.Core.Path.{◌≡◌, refl}
use mathlib.Core.Bool.{Bool, true, false, ◌&&◌, and-eq-true_iff}
use mathlib.Core.List.{List}
use Prim.Native.Nat.{ℕ, ◌^◌, ◌<◌}
use native.Mathlib.Omega.{arith}
use borrow.Author.Tests.{lt-ltb, eq-eqb, ne_eqb}
use lib.IntN.{ℤ, pos, neg_ℤ, ◌+ℤ◌}
use lib.ListN.{length}
use lib.Signed.{mag, ◌≤ℤ◌, ◌<ℤ◌}
use mir.Syntax.{w32}
use mir.Val.{SFits}
use Rattle.integers.proofs.Differences.{dif, zb}
use Rattle.tables.specs.Widths.{half_width}
use Rattle.runs.specs.Gate.{first_dead, first_out}
use Rattle.gate.specs.declared.questions.Fault.TheVariants.{Dead, Beyond}
use Rattle.gate.specs.Own.Faults.{Checked, fault_by, fault_of}
use Rattle.valves.specs.declared.record.Valve.{Valve}
use Rattle.valves.specs.declared.record.Ticket.{Ticket}
use Rattle.valves.specs.Answers.{Answer}
use Rattle.valves.specs.declared.answer.Refusal.{Refusal}
use Rattle.valves.specs.declared.answer.Refusal.TheVariants.{Width, InputLength, DeadMark, Range, Limits}
use Rattle.valves.specs.Record.{travel, greatest_move, count_limit, ticket_of, between, in_travel, in_limits}
use Rattle.valves.specs.Answers.{told}
use Rattle.valves.specs.Moves.{move}
use Rattle.valves.specs.Calls.{ask, ask_each, passes, ask_answer, answered_with, asked, make_answer, moved, made_of, made}
use Rattle.valves.proofs.CallLaws.{refusal-stops, between_ends, travel-ends, AskPassed, ask-answered, MakePassed, make-answered}

-- ---- the record's limits
pub limits-travel : (valve : Valve) → in_limits valve ≡ true → in_travel valve.position ≡ true
unfolding in_limits
limits-travel valve e = ((and-eq-true_iff (in_travel valve.position) _).0 e).0

sum_fits : (position steps : ℤ) → pos 0 ≤ℤ position → position ≤ℤ pos travel → neg_ℤ (pos greatest_move) ≤ℤ steps → steps ≤ℤ pos greatest_move
    → mag (position +ℤ steps) < 2 ^ 31
sum_fits position steps = rw (dif position, dif steps) (simp zb (omega arith))

-- a position in its travel and a move within ±500 have a sum of 32 bits
pub moved-fits : (position steps : ℤ) → in_travel position ≡ true → between (neg_ℤ (pos greatest_move)) (pos greatest_move) steps ≡ true → SFits w32 (position +ℤ steps)
moved-fits position steps p m =
    let at = travel-ends position p in
    let by = between_ends (neg_ℤ (pos greatest_move)) (pos greatest_move) steps m in
    record { sfits = sum_fits position steps at.0 at.1 by.0 by.1 }

-- ---- an ask
-- questions 8 and 9 by the first fault
by_fault : Checked → Answer → Answer
by_fault (Err (Dead place)) next = Err (DeadMark place)
by_fault (Err (Beyond place)) next = Err (Range place)
by_fault (Ok x) next = next

faults-asked : (dead out : Option ℕ) (next : Answer) → by_fault (fault_by dead out) next ≡ ask_each DeadMark dead (ask_each Range out next)
unfolding fault_by by_fault ask_each
faults-asked (Some place) out next = refl
faults-asked None (Some place) next = refl
faults-asked None None next = refl

module _ (N : ℕ) (valve : Valve) (block : List ℤ) where
  pub width-refused : half_width N ≡ 0 → (Err Width) ≡ ask_answer N valve block
  unfolding ask_answer ask
  width-refused e = rw e refl

  module _ (w : half_width N ≡ 0 → ⊥) where
    pub length-refused : (length block ≡ N → ⊥) → (Err InputLength) ≡ ask_answer N valve block
    unfolding ask_answer ask
    length-refused l = rw (lt-ltb 0 (half_width N) (omega (arith, w)), ne_eqb _ _ l) refl

    module _ (l : length block ≡ N) where
      faulted : (fault : Checked) → fault_of block ≡ fault → by_fault fault (ask Limits (in_limits valve) (Ok tt)) ≡ ask_answer N valve block
      unfolding ask_answer ask fault_of
      faulted fault e =
          rw (lt-ltb 0 (half_width N) (omega (arith, w)), eq-eqb _ _ l, ← e) (faults-asked (first_dead block 0) (first_out block 0) (ask Limits (in_limits valve) (Ok tt)))

      pub dead-refused : (place : ℕ) → fault_of block ≡ Err (Dead place) → Err (DeadMark place) ≡ ask_answer N valve block
      unfolding by_fault
      dead-refused place e = faulted (Err (Dead place)) e

      pub range-refused : (place : ℕ) → fault_of block ≡ Err (Beyond place) → Err (Range place) ≡ ask_answer N valve block
      unfolding by_fault
      range-refused place e = faulted (Err (Beyond place)) e

      module _ (clear : fault_of block ≡ Ok tt) where
        pub limits-refused : in_limits valve ≡ false → (Err Limits) ≡ ask_answer N valve block
        unfolding by_fault ask
        limits-refused e = rw (← faulted (Ok tt) clear, e) refl

        pub ask-passed : in_limits valve ≡ true → (Ok tt) ≡ ask_answer N valve block
        unfolding by_fault ask
        ask-passed e = rw (← faulted (Ok tt) clear, e) refl

-- ---- a make
abbrev pub move_fits : ℤ → ℤ → Bool
move_fits position steps = between (neg_ℤ (pos greatest_move)) (pos greatest_move) steps && in_travel (position +ℤ steps)

-- ---- what an ask gives by its answer, and a make
module _ (N : ℕ) (valve : Valve) (block : List ℤ) where
  pub ask-refused : (refusal : Refusal) → Err refusal ≡ ask_answer N valve block → Err refusal ≡ asked N valve block
  unfolding asked answered_with
  ask-refused refusal is = rw (← is)

  pub ask-given : Ok tt ≡ ask_answer N valve block → Ok (ticket_of (move N valve block) valve.count) ≡ asked N valve block
  unfolding asked answered_with
  ask-given is = rw (← is)

  pub ask-ready : Ok tt ≡ ask_answer N valve block → AskPassed N valve block
  unfolding passes told
  ask-ready is = ask-answered N valve block (rw (← is))

module _ (valve : Valve) (ticket : Ticket) where
  pub make-refused : (answer : Answer) → answer ≡ make_answer valve ticket → true ≡ is_err answer → made_of valve answer ≡ made valve ticket
  unfolding made
  make-refused (Ok tt) is e = cc
  make-refused (Err refusal) is e = rw (← is, refusal-stops refusal)

  pub make-done : (answer : Answer) → answer ≡ make_answer valve ticket → false ≡ is_err answer → made_of (moved valve ticket) answer ≡ made valve ticket
  unfolding made passes told
  make-done (Ok tt) is e = rw (← is)
  make-done (Err refusal) is e = cc

  pub make-ready : (answer : Answer) → answer ≡ make_answer valve ticket → false ≡ is_err answer → MakePassed valve ticket
  unfolding passes told
  make-ready (Ok tt) is e = make-answered valve ticket (rw (← is))
  make-ready (Err refusal) is e = cc

-- ---- a make that passes has sums of 32 bits
in-travel-fits : (x : ℤ) → pos 0 ≤ℤ x → x ≤ℤ pos travel → mag x < 2 ^ 31
in-travel-fits x = rw (dif x) (simp zb (omega arith))

one-more-fits : (x : ℤ) → pos 0 ≤ℤ x → x <ℤ pos count_limit → mag (x +ℤ pos 1) < 2 ^ 31
one-more-fits x = rw (dif x) (simp zb (omega arith))

module _ (valve : Valve) (ticket : Ticket) (p : MakePassed valve ticket) where
  pub position-fits : SFits w32 (valve.position +ℤ ticket.steps)
  position-fits = record { sfits = in-travel-fits _ p.next-from-0 p.next-to-travel }

  pub count_fits : SFits w32 (valve.count +ℤ pos 1)
  count_fits = record { sfits = one-more-fits valve.count p.limits.count-from-0 p.few }
