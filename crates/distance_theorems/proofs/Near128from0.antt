-- Width 128: coefficients 0 to 31.
use lib.Dec.{T}
use Rattle.distance.proofs.Runs.{tested_at}

pub near-128-from-0 : T (tested_at 128 32 0)
unfolding tested_at
near-128-from-0 = tt
