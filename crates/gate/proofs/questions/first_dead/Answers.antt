-- The search of the whole slice is the search from i on.
use Rattle.std.proofs.Common.{◌≡◌, ◌∙◌, sym, ap, pos, get_or, length, w64, rules, arith}
use mir.Val.{SFits}
use Rattle.integers.proofs.Held.{held}
use Rattle.runs.specs.Gate.{dead}
use Rattle.gate.proofs.LimitLaws.{stops, goes_on, ends}
use Rattle.gate.proofs.questions.first_dead.Goals as goal

pub returns-then-dead : goal.returns-then-dead
returns-then-dead c =
    let f : SFits w64 (get_or c.args.x.now c.loop-i.i (pos 0)) = search rules in
    sym (c.loop-i.invariant ∙ stops dead _ _ c.loop-i-test.true (sym (c.if-dead.ensures ∙ ap dead (held w64 _ f).is)))

pub loop-i-preserved : goal.loop-i-preserved
loop-i-preserved c =
    let f : SFits w64 (get_or c.args.x.now c.loop-i.i (pos 0)) = search rules in
    c.loop-i.invariant ∙ goes_on dead _ _ c.loop-i-test.true (sym (c.if-dead.ensures ∙ ap dead (held w64 _ f).is))

pub returns : goal.returns
returns c =
    let e : c.loop-i.i ≡ length c.args.x.now = omega arith in
    sym (c.loop-i.invariant ∙ ends dead _ _ e)
