-- `lapped::calls::lapped_finish` meets its contract.
use borrow.Author.Rules.{rules}
use mathlib.Core.List.{List}
use lib.IntN.{ℤ}
use Rattle.runs.specs.declared.record.Run.{Run}
use Rattle.runs.specs.Forward.{ended}
use Rattle.c_record.specs.Calls.{lapped_finish}
use Rattle.lapped.proofs.CallLaws.{finish-packs, handed-is}
use Rattle.lapped.proofs.calls.lapped_finish.Statement.{statement}
use Rattle.lapped.proofs.calls.lapped_finish.Tie as tie

module _ (t : tie.After-finish-outcome) where
  abbrev numbers : List ℤ
  numbers = let start = t in start.args.run.now

  abbrev out : List ℤ
  out = let start = t in start.args.frame.now

hand-back-requires : tie.Need-hand_back-requires
hand-back-requires c κs =
    let t = c.before.before.before in
    finish-packs (numbers t) _ _ _ t.unpack.ensures (out t) _ t.finish-outcome.ensures

returns : tie.Need-returns
unfolding lapped_finish
returns c =
    let t = c.before.before.before.before.before in
    let h = c.hand_back.ensures in
    handed-is (numbers t) (λ (r : Run). ended r (out t)) _ _ _ _ t.unpack.ensures t.finish-outcome.ensures _ _ h.0 h.1

pub lapped_finish_spec : {M : Type 1} → statement M
lapped_finish_spec =
    tie.close
    (tie.spec (λ c κs. search rules) (λ c κs. search rules) hand-back-requires (λ c. search rules) (λ c. search rules) returns)
