use Rattle.std.proofs.Common.{arith}
use Rattle.std.proofs.lemmas.Int.{ints}
use Rattle.slices.proofs.FourLaws.{four-places}
use Rattle.slices.proofs.fours.reversed.Goals as goal

pub returns : goal.returns
returns c = four-places _ (omega (arith, ints)) (omega (arith, ints)) (omega (arith, ints)) (omega (arith, ints))
