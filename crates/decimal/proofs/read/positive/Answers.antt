-- A size that 64 bits hold is the number.
use Rattle.std.proofs.Common.{◌-◌, ◌≤◌, ◌∙◌, ap, Some, arith, pos, w64}
use Rattle.integers.proofs.Num.{num}
use Rattle.text_runs.specs.Decimal.{least64}
use Rattle.decimal.proofs.ReadLaws.{size-within, plus-of, plus-bad}
use Rattle.decimal.proofs.read.positive.Goals as goal

pub returns-in_err-size : goal.returns-in_err-size
returns-in_err-size c = c.from_residual.ensures ∙ plus-bad c.in_err-size.was

pub overflow_cast-result : goal.overflow_cast-result
overflow_cast-result c =
    let small : c.in_ok-size.field-0 ≤ least64 - 1 = size-within c.requires c.in_ok-size.was in
    record { sfits = omega arith }

pub returns : goal.returns
returns c = ap Some (num w64 (pos _) (size-within c.requires c.in_ok-size.was) tt).holds.is ∙ plus-of c.in_ok-size.was
