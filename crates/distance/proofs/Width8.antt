-- Width 8: the test runs here, so that a wrong definition is refused in this crate.
use lib.Dec.{T}
use Rattle.distance.proofs.Runs.{tested_at}

pub near-8 : T (tested_at 8 8 0)
unfolding tested_at
near-8 = tt
