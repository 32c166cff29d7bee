use Rattle.std.proofs.Common.{◌∙◌, ◌+◌, ◌*◌, pos, get_or, w32, w64, rules, arith}
use mir.Val.{SFits}
use Rattle.integers.proofs.Held.{held, held-ok}
use Rattle.integers.proofs.Fills.{filling-none, filling-next, filling-all}
use Rattle.alone.proofs.transform.every_second.Goals as goal

pub loop-i-init : goal.loop-i-init
loop-i-init c = filling-none _ _

pub loop-i-preserved : goal.loop-i-preserved
loop-i-preserved c =
    let f : SFits w32 (get_or c.args.x.now (2 * c.loop-i.i + c.args.first) (pos 0)) = search rules in
    filling-next c.loop-i.invariant ((held-ok w64 _ c.from.type_inv).is ∙ c.from.ensures ∙ (held w32 _ f).is)

pub returns : goal.returns
returns c = filling-all c.loop-i.invariant (omega arith)
