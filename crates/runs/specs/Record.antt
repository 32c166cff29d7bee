-- The run record: document 01, "Widths, readings, frames".
use Rattle.std.specs.Prelude.{Bool, true, false, cond, List, [], ◌++◌, ℕ, suc, ◌-◌, eqb, ℤ, pos, ◌+ℤ◌, length, replicate}
use Rattle.integers.specs.Vectors.{sum_of}
use Rattle.steps.specs.Steps.{held}
use Rattle.runs.specs.Answers.{Answer}
use Rattle.runs.specs.declared.record.Run.{Run}
use Rattle.runs.specs.declared.record.Outcome.{Outcome}

-- the most blocks that a run takes
abbrev pub block_limit : ℕ
block_limit = 65536

-- b blocks give b + 1 frames, so a run back takes at most one frame more
abbrev pub frame_limit : ℕ
frame_limit = 65537

abbrev pub zeros : ℕ → List ℤ
zeros n = replicate n (pos 0)

-- the record of a width, a count, held values, whether the run is finished, and the total of its readings
abbrev pub record_of : ℕ → ℕ → List ℤ → Bool → ℤ → Run
record_of N count held finished total = record { width = N; count = count; held = held; finished = finished; total = total }

-- what a call hands back: the record, with its answer
abbrev pub outcome_of : Run → Answer → Outcome
outcome_of run answer = record { run = run; answer = answer }

-- the count after a call that answers this number: one more where it has worked
unfoldable pub next_count : ℕ → ℕ → ℕ
next_count number count = cond (eqb number 0) (suc count) count

-- and the total: the readings of the block that it took or gave are added where it has worked
unfoldable pub next_total : ℕ → ℤ → List ℤ → ℤ
next_total number total readings = cond (eqb number 0) (total +ℤ sum_of readings) total

-- the readings that a frame gives going back, where so many frames came before: the first gives none
unfoldable pub readings_given : ℕ → List ℤ → List ℤ
readings_given count block = cond (eqb count 0) [] block

-- a list of held values, with zeros up to 64 of them
unfoldable pub zero_padded : List ℤ → List ℤ
zero_padded xs = xs ++ zeros (64 - length xs)

-- the record of an open run
unfoldable pub opened : ℕ → ℕ → ℤ → List ℤ → Run
opened N count total xs = record { width = N; count = count; held = zero_padded xs; finished = false; total = total }

-- a run that has taken one block more: it holds that block's, and its total has that block's readings
unfoldable pub advanced : Run → List ℤ → Run
advanced run block = opened run.width (suc run.count) (run.total +ℤ sum_of block) (held run.width block)

-- the record after a finish: the same count and total, and zeros held
unfoldable pub closed : Run → Run
closed run = record { width = run.width; count = run.count; held = zeros 64; finished = true; total = run.total }
