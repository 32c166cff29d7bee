-- What the code's own functions require: frames that are whole, at least one and not too many. And how one of them answers.
use Rattle.std.specs.Prelude.{◌≡◌, List, ℕ, ◌+◌, ◌*◌, ◌/◌, ◌≤◌, ◌<◌, ℤ, length, Option, Some, None}
use Rattle.tables.specs.Widths.{half_width}
use Rattle.runs.specs.Record.{frame_limit}

pub record WholeFrames (N : ℕ) (frames : List ℤ) : Type 0 where
  pub wide : 0 < half_width N
  pub whole : length frames ≡ length frames / N * N
  pub some : 0 < length frames / N
  pub few : length frames / N ≤ frame_limit

-- question 11 at the finish, with its place counted through the run
unfoldable pub told_held : ℕ → Option ℕ → ℕ × ℕ
told_held before (Some place) = (11, before + place)
told_held before None = (0, 0)
