-- What the code's own functions require: a record whose numbers fit 64 bits signed, and room for all of them. And the readings of a call.
use Rattle.std.specs.Prelude.{◌≡◌, Bool, cond, List, ℕ, ◌<◌, ◌^◌, ℤ, length}
use Rattle.runs.specs.declared.record.Run.{Run}
use Rattle.runs.specs.Record.{readings_given}
use Rattle.c_record.specs.Record.{run_length}

-- those that a call adds to the total: forward the block given, back the block that came out
unfoldable pub readings_of : Bool → ℕ → List ℤ → List ℤ → List ℤ
readings_of back count given out = cond back (readings_given count out) given

pub record Packable (run : Run) (numbers : List ℤ) : Type 0 where
  pub narrow : run.width < 2 ^ 63
  pub few : run.count < 2 ^ 63
  pub room : length numbers ≡ run_length
