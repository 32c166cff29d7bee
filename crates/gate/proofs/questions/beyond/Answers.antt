-- The two tests of a number, by the words of the definition.
use Rattle.std.proofs.Common.{w64}
use mathlib.Core.Path.{refl, sym, ◌∙◌}
use Rattle.integers.proofs.Held.{held, h-minus, h-lt}
use Rattle.gate.proofs.LimitLaws.{above, by_tests}
use Rattle.gate.proofs.GateLaws.{minus-fits}
use Rattle.gate.proofs.questions.beyond.Goals as goal

pub returns-then-limit-value : goal.returns-then-limit-value
returns-then-limit-value c =
    let limit = held w64 _ c.ranges.limit in
    let value = held w64 _ c.ranges.value in
    c.if-limit-value.true ∙ sym (above _ _ c.requires (h-lt limit value c.if-limit-value.true))

pub returns-else-limit-value : goal.returns-else-limit-value
returns-else-limit-value c =
    let limit = held w64 _ c.ranges.limit in
    let value = held w64 _ c.ranges.value in
    let low = h-minus limit (minus-fits w64 c.args.limit c.requires c.ranges.limit) in
    by_tests _ _ _ c.requires (h-lt limit value c.if-limit-value.false) (h-lt value low refl)
