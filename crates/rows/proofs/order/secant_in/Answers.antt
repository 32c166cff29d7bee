-- A turn of `secant_in` puts one number more.
use Rattle.std.proofs.Common.{w64, ◌∙◌, arith}
use Rattle.integers.proofs.Held.{held-ok}
use Rattle.integers.proofs.Fills.{filling-none, filling-next, filling-all}
use Rattle.rows.proofs.order.secant_in.Goals as goal

pub loop-j-init : goal.loop-j-init
loop-j-init c = filling-none _ _

pub loop-j-preserved : goal.loop-j-preserved
loop-j-preserved c = filling-next c.loop-j.invariant ((held-ok w64 c.secant_from.result c.secant_from.type_inv).is ∙ c.secant_from.ensures)

pub returns : goal.returns
returns c = filling-all c.loop-j.invariant (omega arith)
