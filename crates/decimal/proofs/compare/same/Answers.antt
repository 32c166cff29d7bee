-- `==` of two lines compares them byte by byte, as `same` does.
use Rattle.std.proofs.Common.{◌∙◌}
use Rattle.decimal.proofs.CompareLaws.{pointwise-same}
use Rattle.decimal.proofs.compare.same.Goals as goal

pub returns : goal.returns
returns c = c.eq.ensures ∙ pointwise-same _ _
