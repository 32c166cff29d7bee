-- A field by its first byte: none, a minus sign, and others.
use Rattle.std.proofs.Common.{◌≡◌, ◌∙◌, length, ap, arith}
use Rattle.text_runs.specs.Decimal.{sized, negative, positive}
use Rattle.decimal.proofs.ReadLaws.{sized-within, rest_part, no_field, signed, unsigned}
use Rattle.decimal.proofs.read.signed.Goals as goal

pub negative-requires : goal.negative-requires
negative-requires c = rw c.size_of.ensures (sized-within _ _ (omega arith) _)

pub positive-requires : goal.positive-requires
positive-requires c = rw c.size_of-2.ensures (sized-within _ _ (omega arith) _)

pub returns-in_default : goal.returns-in_default
returns-in_default c = no_field _ _ (omega (arith, c.in_default.len_below))

pub returns-then-first-eq45 : goal.returns-then-first-eq45
returns-then-first-eq45 c =
    let s = c.args.field.now in
    let some : length s ≡ 0 → ⊥ = λ z. omega (arith, z, c.in-len1-up.len_at_least) in
    c.negative.ensures ∙ ap negative (c.size_of.ensures ∙ ap (sized c.args.least) (rest_part 1 s)) ∙ signed _ s some c.if-first-eq45.true

pub returns : goal.returns
returns c =
    let s = c.args.field.now in
    let some : length s ≡ 0 → ⊥ = λ z. omega (arith, z, c.in-len1-up.len_at_least) in
    c.positive.ensures ∙ ap positive c.size_of-2.ensures ∙ unsigned _ s some c.if-first-eq45.false
