-- What stands in top and the rounded sum are small, and either branch is stage 2 at a place.
use lib.Signed.{mag}
use Rattle.std.proofs.Common.{◌≡◌, ◌<◌, ◌≤◌, ◌^◌, ℕ, ℤ, nat_abs, to_z, of_z, length, sym, ap, ◌∙◌, w64, arith}
use Rattle.integers.specs.Floor.{round}
use Rattle.integers.specs.Places.{at}
use Rattle.integers.proofs.Held.{held-ok}
use Rattle.integers.proofs.Num.{Num, num, num-call, num-add, num-sub, add-asks, sub-asks}
use Rattle.rows.specs.Orders.{row_at}
use Rattle.lifts.specs.Own.Moves.{flipped, stage2_at}
use Rattle.lifts.proofs.MoveLaws.{flipped-size}
use Rattle.lifts.proofs.NumLaws.{num-within, num-rounded}
use Rattle.lifts.proofs.lifts.second_at.Goals as goal

flipped_num : (i : ℕ) (x : ℤ) {r : ℤ} → nat_abs x ≤ 2 ^ 60 → mag r < 2 ^ 63 → r ≡ flipped i (to_z w64 (of_z w64 x)) → Num w64 (2 ^ 60) (of_z w64 r) (flipped i x)
flipped_num i x {r} small ok is = num-call w64 r ok (is ∙ ap (flipped i) (num w64 x small tt).holds.is) (rw (flipped-size i x) small)

pub overflow_sub-top : goal.overflow_sub-top
overflow_sub-top c =
    let top = num w64 (at c.args.top.now c.args.i) c.requires.i_bound tt in
    let amount = num-rounded 31 (2 ^ 31) c.row_at.type_inv c.row_at.ensures (c.requires.scaled.small c.args.i (omega arith)) c.rounded-amount.type_inv c.rounded-amount.ensures in
    sub-asks top amount tt

pub flipped-requires : goal.flipped-requires
flipped-requires c =
    let top = num w64 (at c.args.top.now c.args.i) c.requires.i_bound tt in
    let amount = num-rounded 31 (2 ^ 31) c.row_at.type_inv c.row_at.ensures (c.requires.scaled.small c.args.i (omega arith)) c.rounded-amount.type_inv c.rounded-amount.ensures in
    num-within (num-sub top amount tt) (omega arith)

pub returns-then-undo : goal.returns-then-undo
unfolding stage2_at
returns-then-undo c =
    let i = c.args.i in
    let top = num w64 (at c.args.top.now i) c.requires.i_bound tt in
    let amount = num-rounded 31 (2 ^ 31) c.row_at.type_inv c.row_at.ensures (c.requires.scaled.small i (omega arith)) c.rounded-amount.type_inv c.rounded-amount.ensures in
    rw c.if-undo.true ((held-ok w64 _ c.flipped.type_inv).is ∙ c.flipped.ensures ∙ ap (flipped i) (num-sub top amount tt).holds.is)

pub overflow_add-result : goal.overflow_add-result
overflow_add-result c =
    let i = c.args.i in
    let first = flipped_num i (at c.args.top.now i) c.requires.i_bound c.flipped-2.type_inv c.flipped-2.ensures in
    let amount = num-rounded 31 (2 ^ 31) c.row_at.type_inv c.row_at.ensures (c.requires.scaled.small i (omega arith)) c.rounded-amount.type_inv c.rounded-amount.ensures in
    add-asks first amount tt

pub returns : goal.returns
unfolding stage2_at
returns c =
    let i = c.args.i in
    let first = flipped_num i (at c.args.top.now i) c.requires.i_bound c.flipped-2.type_inv c.flipped-2.ensures in
    let amount = num-rounded 31 (2 ^ 31) c.row_at.type_inv c.row_at.ensures (c.requires.scaled.small i (omega arith)) c.rounded-amount.type_inv c.rounded-amount.ensures in
    rw c.if-undo.false (num-add first amount tt).holds.is
