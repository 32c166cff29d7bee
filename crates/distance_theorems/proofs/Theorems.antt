-- The theorems on the distance, proved: specs/Statement of the crate distance says what each is.
use Prim.Native.Nat.{ℕ}
use Rattle.distance.specs.Statement.{IsWidth, Shown, Promised, Requested, Sizes, FoldedInRange, FrameSizes}
use Rattle.distance.proofs.Runs.{Passes, passed, both}
use Rattle.distance.proofs.Width8.{near-8}
use Rattle.distance.proofs.Distance.{every-width, shown_of, promised-of, requested-of, sizes-of, folded-values, frame-sizes-of}
use Rattle.distance_theorems.proofs.Near32.{near-32}
use Rattle.distance_theorems.proofs.Near128from0.{near-128-from-0}
use Rattle.distance_theorems.proofs.Near128from32.{near-128-from-32}
use Rattle.distance_theorems.proofs.Near128from64.{near-128-from-64}
use Rattle.distance_theorems.proofs.Near128from96.{near-128-from-96}

passes-128 : Passes 128 0 128
passes-128 =
    both 128 0 64 128
    (both 128 0 32 64 (passed 128 32 0 near-128-from-0) (passed 128 32 32 near-128-from-32))
    (both 128 64 96 128 (passed 128 32 64 near-128-from-64) (passed 128 32 96 near-128-from-96))

passes-all : (N : ℕ) → IsWidth N → Passes N 0 N
passes-all = every-width (λ n. Passes n 0 n) (passed 8 8 0 near-8) (passed 32 32 0 near-32) passes-128

-- 1
pub promised-distance : Promised
promised-distance = promised-of passes-all

-- 2
pub shown-distance : Shown
shown-distance = shown_of passes-all

pub requested-distance : Requested
requested-distance = requested-of passes-all

-- 3
pub frame-gain : Sizes
frame-gain = sizes-of passes-all

pub folded-size : FoldedInRange
folded-size = folded-values

pub frame-size : FrameSizes
frame-size = frame-sizes-of passes-all
