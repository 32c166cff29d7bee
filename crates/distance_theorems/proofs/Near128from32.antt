-- Width 128: coefficients 32 to 63.
use lib.Dec.{T}
use Rattle.distance.proofs.Runs.{tested_at}

pub near-128-from-32 : T (tested_at 128 32 32)
unfolding tested_at
near-128-from-32 = tt
