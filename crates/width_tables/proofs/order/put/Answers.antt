-- The sign and what it is taken times are small, and what is stored.
use Rattle.std.proofs.Common.{ap, ◌∙◌, ◌%◌, pos, w64, of_z, arith}
use lib.Dec.{eqb}
use Rattle.integers.proofs.Held.{held-ok}
use Rattle.integers.proofs.Num.{num, num-call, mul-asks, num-mul}
use Rattle.tables.specs.Angles.{signed}
use Rattle.tables.proofs.Quadrants.{signed-size}
use Rattle.steps.specs.Steps.{alternate}
use Rattle.width_tables.proofs.OrderLaws.{nat-is, sign_fits, put_is, sign-num}
use Rattle.width_tables.proofs.order.put.Goals as goal

pub signed-requires : goal.signed-requires
signed-requires c = sign_fits _ c.signed-sign.result c.signed-sign.type_inv c.signed-sign.ensures

pub overflow_mul-t-4 : goal.overflow_mul-t-4
overflow_mul-t-4 c = mul-asks (num w64 c.args.scale c.requires.4 tt) (sign-num c.args.minus c.signed-sign.type_inv c.signed-sign.ensures) tt

pub returns : goal.returns
unfolding alternate
returns c =
    let a = c.args in
    let sign = sign-num a.minus c.signed-sign.type_inv c.signed-sign.ensures in
    let one = sign.holds.is in
    let two = (held-ok w64 c.signed.result c.signed.type_inv).is ∙ c.signed.ensures in
    put_is a.half a.scale a.e a.place a.minus a.t.now
    (nat-is a.place (omega arith)) one (two ∙ ap (signed (eqb (a.place % 2) 1)) one) (nat-is a.e (omega arith))
    (num-mul (num w64 a.scale c.requires.4 tt) sign tt).holds.is
