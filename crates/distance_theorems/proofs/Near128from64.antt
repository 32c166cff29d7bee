-- Width 128: coefficients 64 to 95.
use lib.Dec.{T}
use Rattle.distance.proofs.Runs.{tested_at}

pub near-128-from-64 : T (tested_at 128 32 64)
unfolding tested_at
near-128-from-64 = tt
