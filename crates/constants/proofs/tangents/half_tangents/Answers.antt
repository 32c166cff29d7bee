use Rattle.std.proofs.Common.{arith, sym, ap, length, get_or, pos, w64}
use Rattle.std.proofs.lemmas.Int.{ints}
use Rattle.integers.proofs.Words.{minus-small}
use Rattle.integers.proofs.Fills.{filling-none, filling-next, filling-all}
use Rattle.tables.specs.Numbers.{half_tangents, half_tangent_of}
use Rattle.tables.proofs.Sizes.{half-tangents-le}
use Rattle.constants.proofs.TableLaws.{half-tangents-long, half-tangents-read}
use Rattle.constants.proofs.tangents.half_tangents.Goals as goal

pub loop-m-init : goal.loop-m-init
loop-m-init c = filling-none _ _

pub bounds-table-m : goal.bounds-table-m
bounds-table-m c = omega (arith, ap length c.table_of-table.ensures, half-tangents-long c.args.width)

pub overflow_sub-o : goal.overflow_sub-o
overflow_sub-o c =
    rw (half-tangents-read c.args.width c.loop-m.m _ c.table_of-table.ensures)
    (minus-small w64 (pos (get_or (half_tangents c.args.width) c.loop-m.m 0)) (omega (arith, half-tangents-le c.args.width c.loop-m.m)))

pub loop-m-preserved : goal.loop-m-preserved
unfolding half_tangent_of
loop-m-preserved c =
    filling-next c.loop-m.invariant
    (rw (half-tangents-read c.args.width c.loop-m.m _ c.table_of-table.ensures) (omega (arith, ints, half-tangents-le c.args.width c.loop-m.m)))

pub returns : goal.returns
returns c = rw (sym c.requires.1) (filling-all c.loop-m.invariant (omega arith))
