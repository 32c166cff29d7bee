-- `calls_forward::forward::take` meets its contract.
use borrow.Author.Rules.{rules}
use native.Mathlib.Omega.{arith}
use mathlib.Core.Path.{◌≡◌, sym, ap, subst, ◌∙◌}
use mathlib.Core.List.{List}
use Prim.Native.Nat.{◌≤◌}
use lib.IntN.{ℤ, nat_abs}
use mir.Syntax.{w64}
use mir.Val.{to_z, of_z}
use Rattle.integers.proofs.Held.{held-ok}
use Rattle.runs.specs.Answers.{told}
use Rattle.runs.specs.declared.record.Run.{Run}
use Rattle.runs.specs.Record.{record_of, next_count, next_total}
use Rattle.runs.specs.Gate.{CallResult}
use Rattle.runs.specs.Forward.{taken}
use Rattle.runs.specs.Totals.{total_limit}
use Rattle.runs.proofs.Refusals.{total-raised, admitted-few}
use Rattle.runs.proofs.TotalsFit.{forward-long, forward-fits}
use Rattle.runs.proofs.AskLaws.{handed-with}
use Rattle.calls_forward.proofs.forward.take.Statement.{statement}
use Rattle.calls_forward.proofs.forward.take.Tie as tie

module _ (a : tie.After-take-answer) where
  abbrev read : tie.After-struct_told-1
  read = a.before.before.before

  abbrev start : tie.Start
  start = read.before.before

  abbrev run : Run
  run = start.args.run

  abbrev block : List ℤ
  block = start.args.block.now

  abbrev out : List ℤ
  out = start.args.frame.now

  -- the total, lent by its bits
  total-is : to_z w64 (of_z w64 run.total) ≡ run.total
  total-is = (held-ok w64 _ read.struct_told-1.given.1.1.1.1.0.1).is

  abbrev after : Run
  after = record_of run.width (next_count (told a.take-answer.result).0 run.count) a.take-answer.new.held run.finished (next_total (told a.take-answer.result).0 run.total block)

  given : (told a.take-answer.result, after, a.take-answer.new.frame) ≡ taken run block out
  given = rw total-is at a.take-answer.ensures

  module _ (z : (told a.take-answer.result).0 ≡ 0) where
    worked : (taken run block out).0.0 ≡ 0
    worked = ap (λ (g : CallResult). g.0.0) (sym given) ∙ z

    fits : nat_abs (next_total (told a.take-answer.result).0 run.total block) ≤ total_limit
    fits = subst (λ (g : CallResult). nat_abs g.1.total ≤ total_limit) (sym given) (forward-fits run block out worked)

next-total-requires : tie.Need-next_total-total-requires
next-total-requires c κs z =
    let a = c.before.before in
    (forward-long (run a) (block a) (out a) (worked a z), rw (total-is a, total-raised _ (run a).total (block a) z) (fits a z))

after-take-requires : tie.Need-after_take-requires
unfolding taken
after-take-requires c κs z =
    let a = c.before.before.before in
    let n = admitted-few _ (run a) (block a) (out a) _ (worked a z) in
    omega arith

-- the total after it, by its bits
total-then : (n : tie.After-next_total-total) → let a = n.before.before.before in to_z w64 (of_z w64 n.next_total-total.result) ≡ next_total (told a.take-answer.result).0 (run a).total (block a)
total-then n = let a = n.before.before.before in (held-ok w64 _ n.next_total-total.type_inv).is ∙ (rw (total-is a) at n.next_total-total.ensures)

returns : tie.Need-returns
returns c =
    let n = c.before in
    let a = n.before.before.before in
    let held = a.take-answer.new.held in
    let frame = a.take-answer.new.frame in
    handed-with c.after_take.ensures frame _
    (ap (λ (t : ℤ). (told a.take-answer.result, record_of (run a).width (next_count (told a.take-answer.result).0 (run a).count) held (run a).finished t, frame)) (total-then n)
    ∙ given a)

pub take_spec : {M : Type 1} → statement M
take_spec = tie.close (tie.spec (λ c. search rules) (λ c κs. search rules) next-total-requires after-take-requires (λ c. search rules) returns)
