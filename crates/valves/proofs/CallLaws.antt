-- One ask and one make: what a ticket given tells of its record and block, what a make that works tells of its record and ticket, and what the
-- record is then.
use Rattle.std.specs.Prelude.{Ok, Err, Option, Some, None}
use Rattle.std.specs.Result.{is_ok}
use mathlib.Core.Path.{◌≡◌, refl, sym, subst, ◌∙◌}
use mathlib.Core.Bool.{Bool, true, false, cond, true≢false, and-eq-true_iff}
use mathlib.Core.List.{List, [], ◌∷◌}
use Prim.Native.Nat.{ℕ, ◌<◌}
use native.Mathlib.Omega.{arith}
use borrow.Author.Tests.{ltb-true, eqb-true}
use lib.Dec.{T, eqb, ltb}
use lib.IntN.{ℤ, pos, neg_ℤ, ◌+ℤ◌}
use lib.ListN.{length}
use lib.Signed.{le_z, lt_z, ◌≤ℤ◌, ◌<ℤ◌, lt_z_yes}
use Rattle.integers.specs.Vectors.{alike}
use Rattle.integers.proofs.Differences.{dif, zs}
use Rattle.integers.proofs.Order.{le-taken, le-tested, lt-tested}
use Rattle.integers.proofs.Sums.{alike_same, alike_refl}
use Rattle.tables.specs.Widths.{half_width}
use Rattle.runs.specs.Gate.{first_dead, first_out}
use Rattle.valves.specs.declared.record.Valve.{Valve}
use Rattle.valves.specs.declared.record.Ticket.{Ticket}
use Rattle.valves.specs.declared.answer.Refusal.{Refusal}
use Rattle.valves.specs.declared.answer.Refusal.TheVariants.{Width, InputLength, DeadMark, Range, Limits, AllMade, OtherCount}
use Rattle.valves.specs.Record.{travel, greatest_move, count_limit, ticket_of, between, in_travel, in_limits}
use Rattle.valves.specs.Answers.{Answer, told}
use Rattle.valves.specs.Moves.{move}
use Rattle.valves.specs.Calls.{ask as question, ask_each, passes, ask_answer, answered_with, asked, move_allowed, make_answer, moved, made_of, made}
use Rattle.valves.specs.Lists.{Call, ask, make, after, works, move_made}

-- ---- a refusal is no pass
pub refusal-stops : (refusal : Refusal) → passes (Err refusal) ≡ false
unfolding passes told
refusal-stops Width = refl
refusal-stops InputLength = refl
refusal-stops (DeadMark place) = refl
refusal-stops (Range place) = refl
refusal-stops Limits = refl
refusal-stops AllMade = refl
refusal-stops OtherCount = refl

-- one question, and those after it
module _ (next : Answer) where
  ask-passed : (refusal : Refusal) (answer : Bool) → passes (question refusal answer next) ≡ true → (answer ≡ true) × (passes next ≡ true)
  unfolding question
  ask-passed refusal true e = (refl, e)
  ask-passed refusal false e = absurd (true≢false (sym e ∙ refusal-stops refusal))

  each-passed : (refusal : ℕ → Refusal) (found : Option ℕ) → passes (ask_each refusal found next) ≡ true → (found ≡ None) × (passes next ≡ true)
  unfolding ask_each
  each-passed refusal (Some place) e = absurd (true≢false (sym e ∙ refusal-stops (refusal place)))
  each-passed refusal None e = (refl, e)

-- ---- the limits of a record
pub between_ends : (low high x : ℤ) → between low high x ≡ true → (low ≤ℤ x) × (x ≤ℤ high)
unfolding between
between_ends low high x e = let both = (and-eq-true_iff (le_z low x) (le_z x high)).0 e in (le-taken both.0, le-taken both.1)

pub travel-ends : (position : ℤ) → in_travel position ≡ true → (pos 0 ≤ℤ position) × (position ≤ℤ pos travel)
unfolding in_travel
travel-ends = between_ends (pos 0) (pos travel)

pub record WithinLimits (valve : Valve) : Type 0 where
  pub from-0 : pos 0 ≤ℤ valve.position
  pub to-travel : valve.position ≤ℤ pos travel
  pub count-from-0 : pos 0 ≤ℤ valve.count
  pub count-to-limit : valve.count ≤ℤ pos count_limit

pub within-limits : (valve : Valve) → in_limits valve ≡ true → WithinLimits valve
unfolding in_limits
within-limits valve e =
    let both = (and-eq-true_iff (in_travel valve.position) (between (pos 0) (pos count_limit) valve.count)).0 e in
    let position = travel-ends valve.position both.0 in
    let count = between_ends (pos 0) (pos count_limit) valve.count both.1 in
    record { from-0 = position.0; to-travel = position.1; count-from-0 = count.0; count-to-limit = count.1 }

-- and the other way
between-tested : (low high x : ℤ) → low ≤ℤ x → x ≤ℤ high → between low high x ≡ true
unfolding between
between-tested low high x h k = rw (le-tested {a = low} {b = x} h, le-tested {a = x} {b = high} k)

within-tested : (valve : Valve) → WithinLimits valve → in_limits valve ≡ true
unfolding in_limits in_travel
within-tested valve w =
    rw (between-tested (pos 0) (pos travel) valve.position w.from-0 w.to-travel, between-tested (pos 0) (pos count_limit) valve.count w.count-from-0 w.count-to-limit)

-- ---- an ask that gives a ticket has passed its questions
pub record AskPassed (N : ℕ) (valve : Valve) (block : List ℤ) : Type 0 where
  pub wide : 0 < half_width N
  pub long : length block ≡ N
  pub none-dead : first_dead block 0 ≡ None
  pub none_out : first_out block 0 ≡ None
  pub limits : WithinLimits valve

pub ask-answered : (N : ℕ) (valve : Valve) (block : List ℤ) → passes (ask_answer N valve block) ≡ true → AskPassed N valve block
unfolding ask_answer
ask-answered N valve block e =
    let q1 = ask-passed _ Width (ltb 0 (half_width N)) e in
    let q6 = ask-passed _ InputLength (eqb (length block) N) q1.1 in
    let q8 = each-passed _ DeadMark (first_dead block 0) q6.1 in
    let q9 = each-passed _ Range (first_out block 0) q8.1 in
    let q17 = ask-passed _ Limits (in_limits valve) q9.1 in
    record { wide = ltb-true _ _ q1.0; long = eqb-true _ _ q6.0; none-dead = q8.0; none_out = q9.0; limits = within-limits valve q17.0 }

-- and its ticket carries the move and the count
pub record TicketGiven (N : ℕ) (valve : Valve) (block : List ℤ) (ticket : Ticket) : Type 0 where
  pub passed : AskPassed N valve block
  pub steps-is : ticket.steps ≡ move N valve block
  pub count-is : ticket.count ≡ valve.count

pub asked-given : (N : ℕ) (valve : Valve) (block : List ℤ) (ticket : Ticket) → asked N valve block ≡ Ok ticket → TicketGiven N valve block ticket
unfolding asked answered_with passes told
asked-given N valve block ticket = by (ask_answer N valve block) refl
  where
    by : (answer : Answer) → ask_answer N valve block ≡ answer → answered_with answer (ticket_of (move N valve block) valve.count) ≡ Ok ticket
        → TicketGiven N valve block ticket
    by (Ok tt) e g = record { passed = ask-answered N valve block (rw e refl); steps-is = cc; count-is = cc }
    by (Err refusal) e g = cc

-- ---- a make that works has passed its questions
pub record MakePassed (valve : Valve) (ticket : Ticket) : Type 0 where
  pub limits : WithinLimits valve
  pub steps-from : neg_ℤ (pos greatest_move) ≤ℤ ticket.steps
  pub steps-to : ticket.steps ≤ℤ pos greatest_move
  pub next-from-0 : pos 0 ≤ℤ (valve.position +ℤ ticket.steps)
  pub next-to-travel : (valve.position +ℤ ticket.steps) ≤ℤ pos travel
  pub few : valve.count <ℤ pos count_limit
  pub same_count : valve.count ≡ ticket.count

pub make-answered : (valve : Valve) (ticket : Ticket) → passes (make_answer valve ticket) ≡ true → MakePassed valve ticket
unfolding make_answer move_allowed
make-answered valve ticket e =
    let q17 = ask-passed _ Limits _ e in
    let q18 = ask-passed _ AllMade (lt_z valve.count (pos count_limit)) q17.1 in
    let q19 = ask-passed _ OtherCount (alike valve.count ticket.count) q18.1 in
    let each = (and-eq-true_iff _ (in_travel (valve.position +ℤ ticket.steps))).0 q17.0 in
    let both = (and-eq-true_iff (in_limits valve) (between (neg_ℤ (pos greatest_move)) (pos greatest_move) ticket.steps)).0 each.0 in
    let steps = between_ends (neg_ℤ (pos greatest_move)) (pos greatest_move) ticket.steps both.1 in
    let next = travel-ends (valve.position +ℤ ticket.steps) each.1 in
    record {
      limits = within-limits valve both.0;
      steps-from = steps.0;
      steps-to = steps.1;
      next-from-0 = next.0;
      next-to-travel = next.1;
      few = lt_z_yes (subst T (sym q18.0) tt);
      same_count = alike_same valve.count ticket.count q19.0;
    }

-- and one that passes them works
pub make-passes : (valve : Valve) (ticket : Ticket) → MakePassed valve ticket → passes (make_answer valve ticket) ≡ true
unfolding make_answer move_allowed question in_travel passes told
make-passes valve ticket p =
    rw (
      within-tested valve p.limits,
      between-tested (neg_ℤ (pos greatest_move)) (pos greatest_move) ticket.steps p.steps-from p.steps-to,
      between-tested (pos 0) (pos travel) (valve.position +ℤ ticket.steps) p.next-from-0 p.next-to-travel,
      lt-tested {a = valve.count} {b = pos count_limit} p.few,
      p.same_count,
      alike_refl ticket.count,
    )

-- ---- what a make hands back: one more where it works, the same record where it is refused
module _ (valve : Valve) (ticket : Ticket) where
  pub works-told : works valve ticket ≡ passes (make_answer valve ticket)
  unfolding works made passes told
  works-told = by (passes (make_answer valve ticket)) refl
    where
      by : (t : Bool) → passes (make_answer valve ticket) ≡ t
          → passes (cond t (made_of (moved valve ticket) (Ok tt)) (made_of valve (make_answer valve ticket))).answer ≡ t
      by true e = refl
      by false e = e

  pub works-passed : works valve ticket ≡ true → MakePassed valve ticket
  works-passed e = make-answered valve ticket (sym works-told ∙ e)

  pub works-moved : works valve ticket ≡ true → (made valve ticket).valve ≡ moved valve ticket
  unfolding made
  works-moved e = rw (sym works-told ∙ e)

  pub refused-same : works valve ticket ≡ false → (made valve ticket).valve ≡ valve
  unfolding made
  refused-same e = rw (sym works-told ∙ e)

  pub refused-made : false ≡ is_ok (made valve ticket).answer → (made valve ticket).valve ≡ valve
  unfolding made passes told
  refused-made = by (make_answer valve ticket)
    where
      by : (answer : Answer)
          → let m = cond (passes answer) (made_of (moved valve ticket) (Ok tt)) (made_of valve answer) in false ≡ is_ok m.answer → m.valve ≡ valve
      by (Ok x) e = cc
      by (Err refusal) e = rw (refusal-stops refusal)

next-within : (count : ℤ) (limit : ℕ) → pos 0 ≤ℤ count → count <ℤ pos limit → (pos 0 ≤ℤ (count +ℤ pos 1)) × ((count +ℤ pos 1) ≤ℤ pos limit)
next-within count limit = rw (dif count) (simp zs (omega arith))

pub moved-within : (valve : Valve) (ticket : Ticket) → MakePassed valve ticket → WithinLimits (moved valve ticket)
unfolding moved
moved-within valve ticket p =
    let count = next-within valve.count count_limit p.limits.count-from-0 p.few in
    record { from-0 = p.next-from-0; to-travel = p.next-to-travel; count-from-0 = count.0; count-to-limit = count.1 }

-- ---- one call: either the record is kept and no move made, or a make has worked
pub data Handed (valve : Valve) : Valve → List ℤ → Type 0 where
  same : Handed valve valve []
  worked : (ticket : Ticket) → works valve ticket ≡ true → Handed valve (moved valve ticket) (ticket.steps ∷ [])

pub handed : (valve : Valve) (c : Call) → Handed valve (after valve c) (move_made valve c)
unfolding after move_made
handed valve (ask N block) = same
handed valve (make ticket) = by (works valve ticket) refl
  where
    by : (t : Bool) → works valve ticket ≡ t → Handed valve (made valve ticket).valve (cond t (ticket.steps ∷ []) [])
    by true e = rw (works-moved valve ticket e) (worked ticket e)
    by false e = rw (refused-same valve ticket e) same
