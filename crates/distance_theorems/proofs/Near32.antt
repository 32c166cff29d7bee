-- Width 32: all 32 coefficients.
use lib.Dec.{T}
use Rattle.distance.proofs.Runs.{tested_at}

pub near-32 : T (tested_at 32 32 0)
unfolding tested_at
near-32 = tt
