-- The size of a row of digits by its first digits: none, a leading zero, and others.
use Rattle.std.proofs.Common.{◌∙◌, arith}
use Rattle.decimal.proofs.ReadLaws.{no-digits, zero-led, led}
use Rattle.decimal.proofs.read.size_of.Goals as goal
use Rattle.decimal.proofs.read.size_of.Goals.{else-digits-gt1-via-then-digits-gt1+else-digits-eq48, else-digits-gt1-via-else-digits-gt1}

pub returns-then-digits-eq0 : goal.returns-then-digits-eq0
returns-then-digits-eq0 c = no-digits _ _ c.if-digits-eq0.true

pub returns-then-digits-eq48 : goal.returns-then-digits-eq48
returns-then-digits-eq48 c = zero-led _ _ c.if-digits-gt1.true c.if-digits-eq48.true

pub returns : goal.returns
returns c =
    c.value_of.ensures ∙ led _ _ c.if-digits-eq0.false (λ h e.
    elim c.else-digits-gt1.branch [ else-digits-gt1-via-then-digits-gt1+else-digits-eq48 w ↦ w.if-digits-eq48.false e | else-digits-gt1-via-else-digits-gt1 w ↦ omega arith ])
