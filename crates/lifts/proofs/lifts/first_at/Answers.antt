-- What stands in top and the rounded sum are small.
use Rattle.std.proofs.Common.{◌^◌, w64, arith}
use Rattle.integers.specs.Places.{at}
use Rattle.integers.proofs.Num.{num, num-add, add-asks}
use Rattle.lifts.proofs.NumLaws.{num-within, num-rounded}
use Rattle.lifts.proofs.lifts.first_at.Goals as goal

pub overflow_add-result : goal.overflow_add-result
overflow_add-result c =
    let i = c.args.i in
    let top = num w64 (at c.args.top.now i) (c.requires.within.size i) tt in
    let amount = num-rounded 30 (2 ^ 32) c.row_at.type_inv c.row_at.ensures (c.requires.scaled.small i c.requires.i_in_bounds.0) c.rounded.type_inv c.rounded.ensures in
    add-asks top amount tt

pub returns : goal.returns
returns c =
    let i = c.args.i in
    let top = num w64 (at c.args.top.now i) (c.requires.within.size i) tt in
    let amount = num-rounded 30 (2 ^ 32) c.row_at.type_inv c.row_at.ensures (c.requires.scaled.small i c.requires.i_in_bounds.0) c.rounded.type_inv c.rounded.ensures in
    let sum = num-add top amount tt in
    (sum.holds.is, num-within sum (omega arith))
