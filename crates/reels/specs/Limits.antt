-- The limits that the state of a reel keeps: the beginning meets them, and so does what any line or the end gives. `proofs/LimitsKept` proves it.
use Rattle.std.specs.Prelude.{◌≡◌, List, [], ◌∷◌, ℕ, ◌+◌, ◌-◌, ◌*◌, ◌%◌, ◌^◌, ◌≤◌, ◌<◌, ℤ, pos, negsuc, length}
use Rattle.runs.specs.Record.{frame_limit}
use Rattle.reels.specs.declared.reel.ReelPhase.{ReelPhase}
use Rattle.reels.specs.declared.reel.ReelPhase.TheVariants.{FirstRun, Frames, NextRun, Whole, Refused}
use Rattle.reels.specs.declared.reel.Reel.{Reel}
use Rattle.reels.specs.Reel.{run_limit, reel_begun, reel_taken, reel_broken, reel_ended, reel_says}

-- the greatest square of a coefficient
abbrev pub square_limit : ℕ
square_limit = 2 ^ 40

-- a sum of so many squares
unfoldable pub SumWithin : ℕ → ℤ → Type 0
SumWithin frames (pos n) = n ≤ frames * square_limit
SumWithin frames (negsuc n) = ⊥

unfoldable pub SumsWithin : ℕ → List ℤ → Type 0
SumsWithin frames [] = Unit {0}
SumsWithin frames (s ∷ sums) = SumWithin frames s × SumsWithin frames sums

-- the frames that a run still takes
unfoldable pub frames_left : ReelPhase → ℕ → ℕ
frames_left FirstRun count = 0
frames_left Frames count = frame_limit - count
frames_left NextRun count = 0
frames_left Whole count = 0
frames_left (Refused number line place) count = 0

-- At most 100 runs of at most 65,537 frames, and sums that so many frames have. The width is at most 128, in fours.
pub record WithinLimits (s : Reel) : Type 0 where
  pub runs : s.runs ≤ run_limit
  pub narrow : s.width ≤ 128
  pub fours : s.width % 4 ≡ 0
  pub count : s.count ≤ frame_limit
  pub frames : s.frames + frames_left s.phase s.count ≤ s.runs * frame_limit
  pub sums : SumsWithin s.frames s.sums

pub record LimitsKept : Type 0 where
  pub begun : WithinLimits reel_begun
  pub taken : (s : Reel) (bytes : List ℕ) → WithinLimits s → WithinLimits (reel_taken s.phase s bytes)
  pub broken : (s : Reel) → WithinLimits s → WithinLimits (reel_broken s.phase s)
  pub ended : (s : Reel) → WithinLimits s → WithinLimits (reel_ended s.phase s)

-- so no sum leaves 64 bits: the greatest is 0.78 of 2^63
abbrev pub SumsFit : Type 0
SumsFit = (frames : ℕ) → frames ≤ run_limit * frame_limit → frames * square_limit < 2 ^ 63

-- and what is printed has at most 2,977 bytes: the page at width 128, with the greatest sums
abbrev pub most_printed : ℕ
most_printed = 2977

abbrev pub PrintsFew : Type 0
PrintsFew = (s : Reel) → WithinLimits s → length (reel_says Whole s) ≤ most_printed
