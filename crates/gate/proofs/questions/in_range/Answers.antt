use Rattle.std.proofs.Common.{◌≡◌, ◌∙◌, ◌≤◌, ap, Bool, true, false, cond, pos, get_or, length, of_z, to_z, w32, rules, arith}
use mir.Val.{SFits}
use Rattle.integers.proofs.Held.{held}
use Rattle.runs.specs.Answers.{beyond}
use Rattle.runs.specs.Gate.{inside}
use Rattle.gate.proofs.GateLaws.{counted_next, counted-end}
use Rattle.gate.proofs.questions.in_range.Goals as goal

one_at_most : (b : Bool) → cond b 1 0 ≤ 1
one_at_most true = omega arith
one_at_most false = omega arith

pub loop-v-preserved : goal.loop-v-preserved
loop-v-preserved c =
    let limit = to_z w32 (of_z w32 c.args.limit) in
    let value = get_or c.args.x.now c.loop-v.v-index (pos 0) in
    let f : SFits w32 (get_or c.args.x.now c.loop-v.v-index (pos 0)) = search rules in
    let told : c.out_of_range-out.result ≡ cond (beyond limit value) 1 0 = c.out_of_range-out.ensures ∙ ap (λ v. cond (beyond limit v) 1 0) (held w32 _ f).is in
    (omega (arith, told, one_at_most (beyond limit value)), counted_next limit c.args.x.now c.loop-v.v-index c.loop-v.out _ c.loop-v-test.true told c.loop-v.invariant.1)

pub returns : goal.returns
returns c =
    let e : c.loop-v.v-index ≡ length c.args.x.now = omega arith in
    counted-end _ _ _ _ e c.loop-v.invariant.1 ∙ ap (λ z. inside z c.args.x.now) (held w32 _ c.ranges.limit).is
