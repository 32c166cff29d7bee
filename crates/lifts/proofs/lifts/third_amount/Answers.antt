-- The three terms of `third_amount` and their sum fit.
use Rattle.std.proofs.Common.{ap, ◌∙◌, pos, ◌-ℤ◌, ◌+ℤ◌, ◌*ℤ◌, w64, arith}
use Rattle.integers.proofs.Words.{minus}
use Rattle.integers.proofs.Num.{num, num_lit, num-add, num-sub, num-mul, add-asks, sub-asks}
use Rattle.lifts.specs.Own.Moves.{amount}
use Rattle.lifts.proofs.NumLaws.{num-within}
use Rattle.lifts.proofs.lifts.third_amount.Goals as goal

pub overflow_sub-result-2 : goal.overflow_sub-result-2
overflow_sub-result-2 c =
    let first = num-sub (num_lit w64 0 tt) (num w64 c.args.secants c.requires.1 tt) tt in
    let second = num-mul (num w64 c.args.times c.requires.0 tt) (num w64 c.args.cosines c.requires.2 tt) tt in
    sub-asks first second tt

pub overflow_add-result : goal.overflow_add-result
overflow_add-result c =
    let first = num-sub (num_lit w64 0 tt) (num w64 c.args.secants c.requires.1 tt) tt in
    let second = num-mul (num w64 c.args.times c.requires.0 tt) (num w64 c.args.cosines c.requires.2 tt) tt in
    let third = num-mul (num_lit w64 64 tt) (num w64 c.args.tangent c.requires.3 tt) tt in
    add-asks (num-sub first second tt) third tt

pub returns : goal.returns
unfolding amount
returns c =
    let first = num-sub (num_lit w64 0 tt) (num w64 c.args.secants c.requires.1 tt) tt in
    let second = num-mul (num w64 c.args.times c.requires.0 tt) (num w64 c.args.cosines c.requires.2 tt) tt in
    let third = num-mul (num_lit w64 64 tt) (num w64 c.args.tangent c.requires.3 tt) tt in
    let sum = num-add (num-sub first second tt) third tt in
    (sum.holds.is ∙ ap (λ z. z -ℤ c.args.times *ℤ c.args.cosines +ℤ pos 64 *ℤ c.args.tangent) (minus c.args.secants), num-within sum (omega arith))
