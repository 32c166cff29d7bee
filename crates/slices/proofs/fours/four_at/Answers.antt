use Rattle.std.proofs.Common.{arith, add-zero}
use Rattle.std.proofs.lemmas.Int.{ints}
use Rattle.slices.proofs.FourLaws.{four-places}
use Rattle.slices.proofs.fours.four_at.Goals as goal

pub returns : goal.returns
returns c = four-places _ (rw add-zero (omega (arith, ints))) (omega (arith, ints)) (omega (arith, ints)) (omega (arith, ints))
