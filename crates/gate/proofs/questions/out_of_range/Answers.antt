use Rattle.std.proofs.Common.{◌≡◌, ◌∙◌, refl, sym, ap, Bool, true, false, cond, w32}
use mir.Val.{bool_byte}
use Rattle.integers.proofs.Held.{held, h-minus, h-lt}
use Rattle.runs.specs.Answers.{beyond}
use Rattle.gate.proofs.LimitLaws.{above, by_tests}
use Rattle.gate.proofs.GateLaws.{minus-fits}
use Rattle.gate.proofs.questions.out_of_range.Goals as goal
use Rattle.gate.proofs.questions.out_of_range.Goals.{then-limit-value, else-limit-value}

as-byte : (b : Bool) → bool_byte b ≡ cond b 1 0
as-byte true = refl
as-byte false = refl

pub returns : goal.returns
returns c =
    let limit = held w32 _ c.ranges.limit in
    let value = held w32 _ c.ranges.value in
    let low = h-minus limit (minus-fits w32 c.args.limit c.requires c.ranges.limit) in
    let told : c.if-limit-value.from ≡ beyond c.args.limit c.args.value =
    elim c.if-limit-value.branch [
      | then-limit-value w ↦ w.from-is ∙ w.if-limit-value.true ∙ sym (above _ _ c.requires (h-lt limit value w.if-limit-value.true))
      | else-limit-value w ↦ w.from-is ∙ by_tests _ _ _ c.requires (h-lt limit value w.if-limit-value.false) (h-lt value low refl)
    ] in
    c.from.ensures ∙ as-byte _ ∙ ap (λ b. cond b 1 0) told
