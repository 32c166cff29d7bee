-- Demand 2: a run goes back to the very readings that it came from. `proofs/ExactReturn` proves it, over the width as a letter.
use Rattle.std.specs.Prelude.{◌≡◌, List, ℕ, suc, ◌*◌, ◌/◌, ◌≤◌, ◌<◌, ℤ, length}
use Rattle.integers.specs.Vectors.{AllAbs}
use Rattle.integers.specs.Places.{tab}
use Rattle.tables.specs.Widths.{RunWidth}
use Rattle.steps.specs.Limits.{reading_limit}
use Rattle.runs.specs.Record.{block_limit}
use Rattle.runs.specs.Calls.{frame_at}
use Rattle.runs.specs.Whole.{blocks_in, joined, whole_forward}
use Rattle.runs.specs.WholeBack.{whole_back}

-- readings that a run takes: whole blocks, not too many, each in range
pub record Readings (N : ℕ) (readings : List ℤ) : Type 0 where
  pub whole : length readings ≡ length readings / N * N
  pub some : length readings / N ≤ block_limit
  pub within : AllAbs reading_limit readings

-- the frames that they make, one behind the other
unfoldable pub frames_of : ℕ → List ℤ → List ℤ
frames_of N readings = joined (tab (frame_at N (blocks_in N readings)) (suc (length readings / N)) 0)

-- 1. The frames of a whole run forward that works, handed to the whole run back, are accepted and give the same readings.
abbrev pub Returned : Type 0
Returned =
    (N : ℕ) → RunWidth N → (readings frames out : List ℤ) → (whole_forward N readings frames).0 ≡ (0, 0) → length out ≡ length readings
    → whole_back N (whole_forward N readings frames).1 out ≡ ((0, 0), readings)

-- 2. A list of frames is accepted exactly if some readings in range make it, what is given are those, and no others make it; it is refused, and
-- nothing is written, if none do.
pub record Exactly (N : ℕ) (frames out : List ℤ) : Type 0 where
  pub accepted-made : (whole_back N frames out).0 ≡ (0, 0) → Readings N (whole_back N frames out).1 × (frames_of N (whole_back N frames out).1 ≡ frames)
  pub made-accepted : (readings : List ℤ) → Readings N readings → frames_of N readings ≡ frames → length out ≡ length readings → whole_back N frames out ≡ ((0, 0), readings)
  pub only : (readings others : List ℤ) → Readings N readings → Readings N others → frames_of N readings ≡ frames → frames_of N others ≡ frames → readings ≡ others
  pub none-refused : ((readings : List ℤ) → Readings N readings → frames_of N readings ≡ frames → ⊥) → (0 < (whole_back N frames out).0.0) × ((whole_back N frames out).1 ≡ out)

abbrev pub AcceptedExactly : Type 0
AcceptedExactly = (N : ℕ) → RunWidth N → (frames out : List ℤ) → Exactly N frames out
