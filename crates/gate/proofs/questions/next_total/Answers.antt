use Rattle.std.proofs.Common.{◌∙◌, ◌+ℤ◌, w64}
use mir.Val.{SFits}
use Rattle.integers.specs.Vectors.{sum_of}
use Rattle.integers.proofs.Held.{held, held-ok, held-eq, asks-add, h-add}
use Rattle.integers.proofs.Num.{num}
use Rattle.runs.proofs.Refusals.{total_kept, total-raised}
use Rattle.gate.proofs.AskedLaws.{done-is, refusal_is}
use Rattle.gate.proofs.questions.next_total.Goals as goal

pub sum-requires : goal.sum-requires
sum-requires c = (c.requires (done-is c.in-Ok.is)).0

pub overflow_add-result : goal.overflow_add-result
overflow_add-result c =
    let added = held-eq (held-ok w64 _ c.sum.type_inv) c.sum.ensures in
    asks-add (held w64 _ c.ranges.total) added (num w64 _ (c.requires (done-is c.in-Ok.is)).1 tt).holds.fits

pub returns-in-Ok : goal.returns-in-Ok
returns-in-Ok c =
    let added = held-eq (held-ok w64 _ c.sum.type_inv) c.sum.ensures in
    let sum_fits : SFits w64 (c.args.total +ℤ sum_of c.args.readings.now) = (num w64 _ (c.requires (done-is c.in-Ok.is)).1 tt).holds.fits in
    (h-add (held w64 _ c.ranges.total) added sum_fits).is ∙ total-raised _ c.args.total c.args.readings.now (done-is c.in-Ok.is)

pub returns-in-Err : goal.returns-in-Err
returns-in-Err c = (held w64 _ c.ranges.total).is ∙ total_kept _ c.args.total c.args.readings.now (refusal_is c.in-Err.is)
