-- What the code's own functions require: a count that the last lines can be printed of.
use Rattle.std.specs.Prelude.{ℕ, ◌≤◌, ◌<◌}
use Rattle.runs.specs.Record.{frame_limit}
use Rattle.text_runs.specs.declared.state.Way.{Way}
use Rattle.text_runs.specs.declared.state.Way.TheVariants.{Forward, Back}

-- the count of a record whose finish works
unfoldable pub Closing : Way → ℕ → Type 0
Closing Forward count = count ≤ frame_limit
Closing Back count = 0 < count
