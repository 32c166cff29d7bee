-- What the code's own functions require: a record that the gate has passed, and readings that are whole blocks.
use Rattle.std.specs.Prelude.{◌≡◌, List, ℕ, ◌-◌, ◌*◌, ◌/◌, ◌≤◌, ◌<◌, ℤ, length, drop}
use Rattle.integers.specs.Places.{Within}
use Rattle.tables.specs.Widths.{half_width}
use Rattle.steps.specs.Limits.{folded_limit}
use Rattle.runs.specs.declared.record.Run.{Run}
use Rattle.runs.specs.Record.{block_limit, frame_limit, zeros}

pub record Ready (run : Run) (half : ℕ) : Type 0 where
  pub half_is : half ≡ half_width run.width
  pub wide : 0 < half_width run.width
  pub below : run.count ≤ frame_limit
  pub within : Within folded_limit run.held
  pub rest : drop (half_width run.width) run.held ≡ zeros (64 - half_width run.width)

pub record WholeBlocks (N : ℕ) (readings : List ℤ) : Type 0 where
  pub wide : 0 < half_width N
  pub whole : length readings ≡ length readings / N * N
  pub some : length readings / N ≤ block_limit
