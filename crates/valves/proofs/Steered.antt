-- A dead reading never steers anything: a block that gives a ticket is fit, and every move made by an honest list was asked for.
use Rattle.std.specs.Prelude.{Ok, Err}
use mathlib.Core.Path.{◌≡◌, refl, sym, ap, subst, ◌∙◌}
use mathlib.Core.Bool.{Bool, true, false, cond}
use mathlib.Core.Logic.{inl, inr}
use mathlib.Core.List.{List, [], ◌∷◌}
use Prim.Native.Nat.{ℕ}
use native.Mathlib.Omega.{arith}
use lib.IntN.{ℤ, nat_abs}
use Rattle.tables.proofs.ByWidth.{width-run}
use Rattle.steps.specs.Limits.{reading_limit}
use Rattle.runs.proofs.Searches.{none_within}
use Rattle.valves.specs.declared.record.Valve.{Valve}
use Rattle.valves.specs.declared.record.Ticket.{Ticket}
use Rattle.valves.specs.Moves.{wanted, move}
use Rattle.valves.specs.Answers.{Asked}
use Rattle.valves.specs.Calls.{asked}
use Rattle.valves.specs.Lists.{Call, ask, make, after, works, move_made, moves_made, ticket_on, ticket_given, tickets_given, Among}
use Rattle.valves.specs.Steered.{Unfit, wrong-length, dead-mark, out_of_range, UnfitYieldsNone, Fit, EachTicketFit, Honest, Asking, asking, askings, EveryMoveAsked}
use Rattle.valves.proofs.Moves.{move-kept, move-against}
use Rattle.valves.proofs.CallLaws.{TicketGiven, asked-given}
use Rattle.valves.proofs.Lists.{among-either, on-given}

-- ---- one ask
given-fit : (N : ℕ) (valve : Valve) (block : List ℤ) (ticket : Ticket) → TicketGiven N valve block ticket → Fit N block ticket.steps
unfolding move
given-fit N valve block ticket g =
    let p = g.passed in
    let from = p.limits.from-0 in
    let to = p.limits.to-travel in
    rw g.steps-is
    (record {
      width = width-run N p.wide;
      long = p.long;
      in-range = (none_within reading_limit block p.none_out).size;
      size = (move-kept valve.position (wanted N block) from to).size;
      against = move-against valve.position N block from to;
    })

pub each-ticket-fit : EachTicketFit
each-ticket-fit N valve block ticket e = given-fit N valve block ticket (asked-given N valve block ticket e)

fit-not-unfit : (N : ℕ) (block : List ℤ) (steps : ℤ) → Fit N block steps → Unfit N block → ⊥
fit-not-unfit N block steps f (wrong-length h) = h f.long
fit-not-unfit N block steps f (dead-mark i e) = omega (arith, f.in-range i, ap nat_abs e)
fit-not-unfit N block steps f (out_of_range i h) = omega (arith, f.in-range i)

pub unfit-yields-none : UnfitYieldsNone
unfolding ticket_on
unfit-yields-none N valve block u = by (asked N valve block) refl
  where
    by : (a : Asked) → asked N valve block ≡ a → ticket_on a ≡ []
    by (Ok ticket) e = absurd (fit-not-unfit N block ticket.steps (each-ticket-fit N valve block ticket e) u)
    by (Err refusal) e = refl

-- ---- a list: the move of a make that worked is that of a ticket handed in,
record HandedIn (given : List Ticket) (steps : ℤ) : Type 0 where
  ticket : Ticket
  in_list : Among ticket given
  is : steps ≡ ticket.steps

move-of : (valve : Valve) (ticket : Ticket) (steps : ℤ) → Among steps (move_made valve (make ticket)) → steps ≡ ticket.steps
unfolding move_made
move-of valve ticket steps = by (works valve ticket)
  where
    by : (t : Bool) → Among steps (cond t (ticket.steps ∷ []) []) → steps ≡ ticket.steps
    by true (inl e) = e
    by true (inr m) = absurd m
    by false m = absurd m

handed-in : (given : List Ticket) (valve : Valve) (calls : List Call) (steps : ℤ)
    → Honest given calls → Among steps (moves_made valve calls) → HandedIn given steps
unfolding Honest moves_made move_made
handed-in given valve [] steps h m = absurd m
handed-in given valve (ask N block ∷ calls) steps h m = handed-in given (after valve (ask N block)) calls steps h m
handed-in given valve (make ticket ∷ calls) steps h m =
    let next = after valve (make ticket) in
    elim (among-either steps (move_made valve (make ticket)) (moves_made next calls) m) [
      | inl k ↦ record { ticket = ticket; in_list = h.0; is = move-of valve ticket steps k }
      | inr k ↦ handed-in given next calls steps h.1 k
    ]

-- and a ticket given is that of one of the asks
record GivenBy (asks : List Asking) (ticket : Ticket) : Type 0 where
  by : Asking
  in_list : Among by asks
  gave : asked by.width by.valve by.block ≡ Ok ticket

given_by : (valve : Valve) (calls : List Call) (ticket : Ticket) → Among ticket (tickets_given valve calls) → GivenBy (askings valve calls) ticket
unfolding tickets_given ticket_given askings asking
given_by valve [] ticket m = absurd m
given_by valve (ask N block ∷ calls) ticket m =
    let next = after valve (ask N block) in
    elim (among-either ticket (ticket_on (asked N valve block)) (tickets_given next calls) m) [
      | inl k ↦ record { by = record { width = N; valve = valve; block = block }; in_list = inl refl; gave = on-given (asked N valve block) ticket k }
      | inr k ↦ let g = given_by next calls ticket k in record { by = g.by; in_list = inr g.in_list; gave = g.gave }
    ]
given_by valve (make other ∷ calls) ticket m = given_by (after valve (make other)) calls ticket m

pub every-move-asked : EveryMoveAsked
every-move-asked valve calls steps h m =
    let t = handed-in (tickets_given valve calls) valve calls steps h m in
    let g = given_by valve calls t.ticket t.in_list in
    let told = asked-given g.by.width g.by.valve g.by.block t.ticket g.gave in
    record {
      by = g.by;
      in_list = g.in_list;
      is = t.is ∙ told.steps-is;
      fit = subst (Fit g.by.width g.by.block) (sym t.is) (given-fit g.by.width g.by.valve g.by.block t.ticket told);
    }
