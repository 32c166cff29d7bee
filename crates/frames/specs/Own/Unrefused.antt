-- A frame behind others that no question refuses: what 9, 10 and 12 ask of it, where a run holds `low`.
use Rattle.std.specs.Prelude.{List, ℕ, ℤ, drop}
use Rattle.integers.specs.Places.{Within}
use Rattle.tables.specs.Widths.{half_width}
use Rattle.steps.specs.Limits.{reading_limit, folded_limit, coefficient_limit}
use Rattle.steps.specs.Steps.{unstages, unfolded}

pub record Unrefused (N : ℕ) (low frame : List ℤ) : Type 0 where
  pub coefficients : Within coefficient_limit frame
  pub values : Within folded_limit (unstages N frame)
  pub readings : Within reading_limit (unfolded N low (drop (half_width N) (unstages N frame)))
