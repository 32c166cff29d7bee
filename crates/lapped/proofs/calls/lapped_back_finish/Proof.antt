-- `lapped::calls::lapped_back_finish` meets its contract.
use borrow.Author.Rules.{rules}
use mathlib.Core.List.{List}
use lib.IntN.{ℤ}
use Rattle.runs.specs.Back.{ended_back}
use Rattle.c_record.specs.Calls.{lapped_back_finish}
use Rattle.lapped.proofs.CallLaws.{back-finish-packs, handed-is}
use Rattle.lapped.proofs.calls.lapped_back_finish.Statement.{statement}
use Rattle.lapped.proofs.calls.lapped_back_finish.Tie as tie

abbrev numbers : tie.After-finish-outcome → List ℤ
numbers t = t.args.run.now

hand-back-requires : tie.Need-hand_back-requires
hand-back-requires c κs =
    let t = c.before.before in
    back-finish-packs (numbers t) _ _ _ t.unpack.ensures t.finish-outcome.ensures

returns : tie.Need-returns
unfolding lapped_back_finish
returns c =
    let t = c.before.before.before.before in
    let h = c.hand_back.ensures in
    handed-is (numbers t) ended_back _ _ _ _ t.unpack.ensures t.finish-outcome.ensures _ _ h.0 h.1

pub lapped_back_finish_spec : {M : Type 1} → statement M
lapped_back_finish_spec =
    tie.close (tie.spec (λ c κs. search rules) (λ c κs. search rules) hand-back-requires (λ c. search rules) returns)
