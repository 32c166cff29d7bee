-- Each digit is taken; where 64 bits do not hold the size, or it is more than the limit, the whole is beyond the limit.
use Rattle.std.proofs.Common.{◌≡◌, ◌+◌, ◌-◌, ◌*◌, length, get_or, refl, arith, sym, ◌∙◌}
use Rattle.decimal.proofs.ReadLaws.{byte_other, byte-digit, valued-beyond, value-whole}
use Rattle.decimal.proofs.read.value_of.Goals as goal

pub returns-then-not-is_ascii_digit : goal.returns-then-not-is_ascii_digit
returns-then-not-is_ascii_digit c = sym (c.loop-byte.invariant.1 ∙ byte_other _ _ _ _ c.loop-byte-test.true c.if-not-is_ascii_digit.ensures.cases)

pub returns-then-tenth-size : goal.returns-then-tenth-size
returns-then-tenth-size c =
    let k = c.loop-byte in
    let more = byte-digit c.args.limit k.size c.args.digits.now k.byte-index c.loop-byte-test.true c.if-not-is_ascii_digit.ensures.cases refl in
    sym (k.invariant.1 ∙ more ∙ valued-beyond _ _ _ (omega (arith, c.if-tenth-size.true)))

pub returns-then-limit-size : goal.returns-then-limit-size
returns-then-limit-size c =
    let k = c.loop-byte in
    let e : k.size * 10 + c.from.result ≡ k.size * 10 + (get_or c.args.digits.now k.byte-index 0 - 48) = omega (arith, c.from.ensures) in
    sym (k.invariant.1 ∙ byte-digit _ _ _ _ c.loop-byte-test.true c.if-not-is_ascii_digit.ensures.cases e ∙ valued-beyond _ _ _ c.if-limit-size.true)

pub loop-byte-preserved : goal.loop-byte-preserved
loop-byte-preserved c =
    let k = c.loop-byte in
    let e : k.size * 10 + c.from.result ≡ k.size * 10 + (get_or c.args.digits.now k.byte-index 0 - 48) = omega (arith, c.from.ensures) in
    (c.if-limit-size.false, k.invariant.1 ∙ byte-digit _ _ _ _ c.loop-byte-test.true c.if-not-is_ascii_digit.ensures.cases e)

pub returns : goal.returns
returns c =
    let all : c.loop-byte.byte-index ≡ length c.args.digits.now = omega arith in
    sym (c.loop-byte.invariant.1 ∙ value-whole _ _ _ _ all c.loop-byte.invariant.0)
