-- `calls_back::back::take` meets its contract.
use borrow.Author.Rules.{rules}
use native.Mathlib.Omega.{arith}
use mathlib.Core.Path.{◌≡◌, sym, ap, subst, ◌∙◌}
use mathlib.Core.List.{List}
use Prim.Native.Nat.{◌≤◌}
use lib.IntN.{ℤ, nat_abs}
use mir.Syntax.{w64}
use mir.Val.{to_z, of_z}
use Rattle.integers.proofs.Held.{held-ok}
use Rattle.runs.specs.Answers.{told}
use Rattle.runs.specs.declared.record.Run.{Run}
use Rattle.runs.specs.Record.{record_of, next_count, next_total, readings_given}
use Rattle.runs.specs.Gate.{CallResult}
use Rattle.runs.specs.Back.{taken_back}
use Rattle.runs.specs.Totals.{total_limit}
use Rattle.runs.proofs.Refusals.{total-raised, admitted-few}
use Rattle.runs.proofs.TotalsFit.{back_long, back_fits}
use Rattle.runs.proofs.AskLaws.{handed-with}
use Rattle.calls_back.proofs.back.take.Statement.{statement}
use Rattle.calls_back.proofs.back.take.Tie as tie

module _ (a : tie.After-take-answer) where
  abbrev read : tie.After-struct_told-1
  read = a.before.before.before

  abbrev start : tie.Start
  start = read.before.before

  abbrev run : Run
  run = start.args.run

  abbrev frame : List ℤ
  frame = start.args.frame.now

  abbrev out : List ℤ
  out = start.args.block.now

  -- the block as the call left it, and the readings that it gave
  abbrev block : List ℤ
  block = a.take-answer.new.block

  abbrev readings : List ℤ
  readings = readings_given run.count block

  -- the total, lent by its bits
  total-is : to_z w64 (of_z w64 run.total) ≡ run.total
  total-is = (held-ok w64 _ read.struct_told-1.given.1.1.1.1.0.1).is

  abbrev after : Run
  after = record_of run.width (next_count (told a.take-answer.result).0 run.count) a.take-answer.new.held run.finished (next_total (told a.take-answer.result).0 run.total readings)

  given : (told a.take-answer.result, after, block) ≡ taken_back run frame out
  given = rw total-is at a.take-answer.ensures

  module _ (z : (told a.take-answer.result).0 ≡ 0) where
    worked : (taken_back run frame out).0.0 ≡ 0
    worked = ap (λ (g : CallResult). g.0.0) (sym given) ∙ z

    fits : nat_abs (next_total (told a.take-answer.result).0 run.total readings) ≤ total_limit
    fits = subst (λ (g : CallResult). nat_abs g.1.total ≤ total_limit) (sym given) (back_fits run frame out worked)

total-after-requires : tie.Need-total_after-total-requires
total-after-requires c κs z =
    let a = c.before.before in
    (omega (arith, back_long (run a) (frame a) (out a) (worked a z), c.block-1.given), rw (total-is a, total-raised _ (run a).total (readings a) z) (fits a z))

after-take-requires : tie.Need-after_take-requires
unfolding taken_back
after-take-requires c κs z =
    let a = c.before.before.before in
    let n = admitted-few _ (run a) (frame a) (out a) _ (worked a z) in
    omega arith

-- the total after it, by its bits
total-then : (n : tie.After-total_after-total) → let a = n.before.before.before in to_z w64 (of_z w64 n.total_after-total.result) ≡ next_total (told a.take-answer.result).0 (run a).total (readings a)
total-then n = let a = n.before.before.before in (held-ok w64 _ n.total_after-total.type_inv).is ∙ (rw (total-is a) at n.total_after-total.ensures)

returns : tie.Need-returns
returns c =
    let n = c.before in
    let a = n.before.before.before in
    let held = a.take-answer.new.held in
    handed-with c.after_take.ensures (block a) _
    (ap (λ (t : ℤ). (told a.take-answer.result, record_of (run a).width (next_count (told a.take-answer.result).0 (run a).count) held (run a).finished t, block a)) (total-then n)
    ∙ given a)

pub take_spec : {M : Type 1} → statement M
take_spec = tie.close (tie.spec (λ c. search rules) (λ c κs. search rules) total-after-requires after-take-requires (λ c. search rules) returns)
