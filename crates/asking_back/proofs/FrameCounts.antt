-- How many numbers frames have that are whole.
use Prim.Native.Nat.{ℕ, ◌≤◌, ◌*◌}
use native.Mathlib.Nat.{mul-le-mul_right}
use native.Mathlib.Omega.{arith}
use lib.IntN.{ℤ}
use mathlib.Core.List.{List}
use lib.ListN.{length}
use Rattle.runs.specs.Record.{frame_limit}
use Rattle.runs.proofs.RecordLaws.{width-le}
use Rattle.asking_back.specs.Own.Ready.{WholeFrames}

module _ (N : ℕ) (frames : List ℤ) (f : WholeFrames N frames) where
  pub few-numbers : length frames ≤ frame_limit * 128
  few-numbers = omega (arith, f.whole, mul-le-mul_right N f.few, width-le N f.wide)

  pub one-frame : N ≤ length frames
  one-frame = omega (arith, f.whole, mul-le-mul_right N f.some)
