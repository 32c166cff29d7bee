-- Every list of asks and makes: the record behind it, its count, and that a ticket works at most once.
use Rattle.std.specs.Prelude.{Ok, Err}
use mathlib.Core.Path.{◌≡◌, refl, sym, ap, ◌∙◌}
use mathlib.Core.Bool.{Bool, true, false}
use mathlib.Core.Logic.{◌⊎◌, inl, inr}
use mathlib.Core.List.{List, [], ◌∷◌, ◌++◌}
use Prim.Native.Nat.{ℕ, ◌≤◌}
use native.Mathlib.Omega.{arith}
use lib.IntN.{ℤ, pos, neg_ℤ, nat_abs, ◌+ℤ◌, +ℤ_assoc, +ℤ_idr}
use lib.Signed.{◌≤ℤ◌, ◌<ℤ◌, ≤ℤ_refl, <ℤ-≤ℤ_trans, clash_ℤ}
use Rattle.integers.specs.Vectors.{sum_of}
use Rattle.integers.proofs.Differences.{dif, zs}
use Rattle.integers.proofs.Order.{≤ℤ-trans}
use Rattle.integers.proofs.Sums.{sum-append, sum-none}
use Rattle.valves.specs.declared.record.Valve.{Valve}
use Rattle.valves.specs.declared.record.Ticket.{Ticket}
use Rattle.valves.specs.Record.{greatest_move, count_limit, in_limits}
use Rattle.valves.specs.Moves.{wanted, move}
use Rattle.valves.specs.Answers.{Asked}
use Rattle.valves.specs.Calls.{asked, made, moved}
use Rattle.valves.specs.Lists.{Call, ask, make, after, after_all, works, move_made, moves_made, ticket_on, ticket_given, tickets_given, Among, KeptWithin, EveryListOfMoves, FreshTicketWorks}
use Rattle.valves.proofs.Moves.{MoveKept, move-kept}
use Rattle.valves.proofs.CallLaws.{WithinLimits, within-limits, TicketGiven, asked-given, MakePassed, make-passes, works-told, works-passed, works-moved, moved-within, Handed, same, worked, handed}

-- ---- one call
call-within : {valve next : Valve} {moves : List ℤ} → Handed valve next moves → WithinLimits valve → WithinLimits next
call-within same w = w
call-within {valve} (worked ticket e) w = moved-within valve ticket (works-passed valve ticket e)

call-position : {valve next : Valve} {moves : List ℤ} → Handed valve next moves → next.position ≡ valve.position +ℤ sum_of moves
unfolding sum_of moved
call-position {valve} same = sym (+ℤ_idr valve.position)
call-position {valve} (worked ticket e) = ap (λ s. valve.position +ℤ s) (sym (+ℤ_idr ticket.steps))

call-count : {valve next : Valve} {moves : List ℤ} → Handed valve next moves → valve.count ≤ℤ next.count
unfolding moved
call-count {valve} same = ≤ℤ_refl valve.count
call-count {valve} (worked ticket e) = one_more valve.count
  where
    one_more : (count : ℤ) → count ≤ℤ (count +ℤ pos 1)
    one_more count = rw (dif count) (simp zs (omega arith))

-- ---- a list of calls
behind-within : (valve : Valve) (calls : List Call) → WithinLimits valve → WithinLimits (after_all valve calls)
unfolding after_all
behind-within valve [] w = w
behind-within valve (c ∷ calls) w = behind-within (after valve c) calls (call-within (handed valve c) w)

behind-position : (valve : Valve) (calls : List Call) → (after_all valve calls).position ≡ valve.position +ℤ sum_of (moves_made valve calls)
unfolding after_all moves_made
behind-position valve [] = sym (sum-none valve.position)
behind-position valve (c ∷ calls) =
    let made = move_made valve c in
    let more = moves_made (after valve c) calls in
    behind-position (after valve c) calls
    ∙ ap (λ x. x +ℤ sum_of more) (call-position (handed valve c))
    ∙ +ℤ_assoc valve.position (sum_of made) (sum_of more)
    ∙ ap (λ x. valve.position +ℤ x) (sym (sum-append made more))

behind-count : (valve : Valve) (calls : List Call) → valve.count ≤ℤ (after_all valve calls).count
unfolding after_all
behind-count valve [] = ≤ℤ_refl valve.count
behind-count valve (c ∷ calls) = ≤ℤ-trans (call-count (handed valve c)) (behind-count (after valve c) calls)

pub behind-append : (valve : Valve) (calls more : List Call) → after_all valve (calls ++ more) ≡ after_all (after_all valve calls) more
unfolding after_all
behind-append valve [] more = refl
behind-append valve (c ∷ calls) more = behind-append (after valve c) calls more

list-kept : (valve : Valve) (calls : List Call) → in_limits valve ≡ true → KeptWithin valve calls
list-kept valve calls e =
    let w = behind-within valve calls (within-limits valve e) in
    record {
      from-0 = w.from-0;
      to-10000 = w.to-travel;
      count-from-0 = w.count-from-0;
      count-to-limit = w.count-to-limit;
      position-is = behind-position valve calls;
    }

count-never-falls : (valve : Valve) (calls more : List Call) → (after_all valve calls).count ≤ℤ (after_all valve (calls ++ more)).count
count-never-falls valve calls more = rw (behind-append valve calls more) (behind-count (after_all valve calls) more)

-- ---- what stands in two lists put together stands in one of them
pub among-either : {A : Type 0} (x : A) (xs ys : List A) → Among x (xs ++ ys) → Among x xs ⊎ Among x ys
among-either x [] ys m = inr m
among-either x (y ∷ xs) ys (inl e) = inl (inl e)
among-either x (y ∷ xs) ys (inr m) = elim (among-either x xs ys m) [ inl h ↦ inl (inr h) | inr h ↦ inr h ]

-- ---- a ticket carries a count that is not past the record's
pub on-given : (a : Asked) (ticket : Ticket) → Among ticket (ticket_on a) → a ≡ Ok ticket
unfolding ticket_on
on-given (Ok other) ticket (inl e) = ap Ok (sym e)
on-given (Ok other) ticket (inr m) = absurd m
on-given (Err refusal) ticket m = absurd m

given-count : (valve : Valve) (c : Call) (ticket : Ticket) → Among ticket (ticket_given valve c) → ticket.count ≡ valve.count
unfolding ticket_given
given-count valve (ask N block) ticket m = (asked-given N valve block ticket (on-given (asked N valve block) ticket m)).count-is
given-count valve (make other) ticket m = absurd m

behind-given : (valve : Valve) (calls : List Call) (ticket : Ticket) → Among ticket (tickets_given valve calls)
    → ticket.count ≤ℤ (after_all valve calls).count
unfolding tickets_given after_all
behind-given valve [] ticket m = absurd m
behind-given valve (c ∷ calls) ticket m = elim (among-either ticket (ticket_given valve c) (tickets_given (after valve c) calls) m) [
  | inl h ↦ rw (given-count valve c ticket h) (≤ℤ-trans (call-count (handed valve c)) (behind-count (after valve c) calls))
  | inr h ↦ behind-given (after valve c) calls ticket h
]

-- ---- no ticket with a count before the record's is taken
past-refused : (valve : Valve) (old : Ticket) → old.count <ℤ valve.count → works valve old ≡ false
past-refused valve old h = by (works valve old) refl
  where
    by : (t : Bool) → works valve old ≡ t → t ≡ false
    by true e = clash_ℤ h (rw (works-passed valve old e).same_count (≤ℤ_refl old.count))
    by false e = refl

made-past : (valve : Valve) (ticket old : Ticket) → works valve ticket ≡ true → old.count ≤ℤ valve.count
    → old.count <ℤ (after valve (make ticket)).count
unfolding after moved
made-past valve ticket old e h = rw (works-moved valve ticket e) (below_next old.count valve.count h)
  where
    below_next : (a b : ℤ) → a ≤ℤ b → a <ℤ (b +ℤ pos 1)
    below_next a b = rw (dif a, dif b) (simp zs (omega arith))

ticket-once : (valve : Valve) (before between : List Call) (ticket old : Ticket) → works (after_all valve before) ticket ≡ true
    → (old ≡ ticket) ⊎ Among old (tickets_given valve before) → works (after_all valve (before ++ make ticket ∷ between)) old ≡ false
unfolding after_all
ticket-once valve before between ticket old e which =
    let now = after_all valve before in
    let next = after now (make ticket) in
    rw (behind-append valve before (make ticket ∷ between))
    (past-refused (after_all next between) old (<ℤ-≤ℤ_trans (made-past now ticket old e (by which)) (behind-count next between)))
  where
    by : (old ≡ ticket) ⊎ Among old (tickets_given valve before) → old.count ≤ℤ (after_all valve before).count
    by (inl s) = rw (s, (works-passed (after_all valve before) ticket e).same_count) (≤ℤ_refl ticket.count)
    by (inr m) = behind-given valve before old m

pub every-list-of-moves : EveryListOfMoves
every-list-of-moves valve calls =
    record {
      kept = list-kept valve calls;
      never-falls = count-never-falls valve calls;
      once = λ ticket old between. ticket-once valve calls between ticket old;
    }

-- ---- an ask's ticket, right behind it
size-ends : (x : ℤ) (n : ℕ) → nat_abs x ≤ n → (neg_ℤ (pos n) ≤ℤ x) × (x ≤ℤ pos n)
size-ends x n = rw (dif x) (simp zs (omega arith))

asked-passes : (N : ℕ) (valve : Valve) (block : List ℤ) (ticket : Ticket) → TicketGiven N valve block ticket → valve.count <ℤ pos count_limit → MakePassed valve ticket
unfolding move
asked-passes N valve block ticket g few =
    let w = g.passed.limits in
    let kept : MoveKept valve.position ticket.steps = rw g.steps-is (move-kept valve.position (wanted N block) w.from-0 w.to-travel) in
    let ends = size-ends ticket.steps greatest_move kept.size in
    record {
      limits = w;
      steps-from = ends.0;
      steps-to = ends.1;
      next-from-0 = kept.from-0;
      next-to-travel = kept.to-travel;
      few = few;
      same_count = sym g.count-is;
    }

pub fresh-ticket-works : FreshTicketWorks
fresh-ticket-works N valve block ticket e few =
    works-told valve ticket ∙ make-passes valve ticket (asked-passes N valve block ticket (asked-given N valve block ticket e) few)
