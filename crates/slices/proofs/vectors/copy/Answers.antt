use Rattle.std.proofs.Common.{◌∙◌, arith}
use Rattle.std.proofs.lemmas.Int.{ints}
use Rattle.integers.proofs.PlaceLaws.{places-at}
use Rattle.integers.proofs.Fills.{filling-none, filling-next, filling-all}
use Rattle.slices.proofs.vectors.copy.Goals as goal

pub loop-i-init : goal.loop-i-init
loop-i-init c = filling-none _ _

pub loop-i-preserved : goal.loop-i-preserved
loop-i-preserved c = filling-next c.loop-i.invariant (omega (arith, ints))

pub returns : goal.returns
returns c = filling-all c.loop-i.invariant (omega arith) ∙ places-at _ c.args.x.now (omega arith)
