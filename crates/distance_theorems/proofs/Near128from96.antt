-- Width 128: coefficients 96 to 127.
use lib.Dec.{T}
use Rattle.distance.proofs.Runs.{tested_at}

pub near-128-from-96 : T (tested_at 128 32 96)
unfolding tested_at
near-128-from-96 = tt
