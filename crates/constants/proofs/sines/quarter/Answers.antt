use Rattle.std.proofs.Common.{refl}
use Rattle.tables.specs.Numbers.{sines}
use Rattle.constants.proofs.sines.quarter.Goals as goal

pub returns : goal.returns
unfolding sines
returns c = refl
