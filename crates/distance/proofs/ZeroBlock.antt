-- The block of zeros before the first block and after the last is a block like any other.
use mathlib.Core.Path.{◌≡◌, ap}
use mathlib.Core.List.{List}
use Prim.Native.Nat.{ℕ, zero, suc, zero-le}
use lib.IntN.{ℤ, pos}
use lib.ListN.{replicate, length-replicate}
use Rattle.integers.specs.Vectors.{AllAbs}
use Rattle.tables.specs.Widths.{half_width}
use Rattle.steps.specs.Places.{at}
use Rattle.steps.specs.Steps.{frame}
use Rattle.steps.proofs.ZeroBlock.{held-zeros}
use Rattle.distance.specs.Statement.{Block, coefficient}

all-zeros : (R n : ℕ) → AllAbs R (replicate n (pos 0))
all-zeros R zero = tt
all-zeros R (suc n) = (zero-le, all-zeros R n)

pub zero-block : (N R : ℕ) → Block N R (replicate N (pos 0))
zero-block N R = record { long = length-replicate N (pos 0); within = all-zeros R N }

-- with nothing held, a frame is the one behind a block of zeros
pub first-coefficient : (N : ℕ) (current : List ℤ) (k : ℕ) → coefficient N (replicate N (pos 0)) current k ≡ at (frame N (replicate (half_width N) (pos 0)) current) k
unfolding coefficient
first-coefficient N current k = ap (λ h. at (frame N h current) k) (held-zeros N N)
