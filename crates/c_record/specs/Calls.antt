-- What each call of a run gives to a program in C: the answer's number and place, the record's numbers afterwards, the output afterwards.
use Rattle.std.specs.Prelude.{cond, List, ℕ, eqb, ℤ, length}
use Rattle.runs.specs.declared.record.Run.{Run}
use Rattle.runs.specs.Gate as Gate
use Rattle.runs.specs.Forward.{started, taken, ended}
use Rattle.runs.specs.Back.{taken_back, ended_back}
use Rattle.c_record.specs.Record.{run_length, packed, unpacked}

abbrev pub PackedResult : Type 0
PackedResult = (ℕ × ℕ) × List ℤ × List ℤ

-- a fresh start: question 1, then 2 to the numbers that it is to fill. Where there are 68 of them a refused start fills them too, with the
-- record of width 0 that `started` gives.
unfoldable pub lapped_start : ℕ → List ℤ → (ℕ × ℕ) × List ℤ
lapped_start N numbers =
    cond (eqb (length numbers) run_length) ((started N).0, packed (started N).1)
    (cond (eqb (started N).0.0 0) (2, 0) (started N).0, numbers)

-- a call that works packs the record that it hands back; a refused one leaves the numbers as they are
unfoldable pub numbers_after : ℕ → Run → List ℤ → List ℤ
numbers_after number run numbers = cond (eqb number 0) (packed run) numbers

unfoldable pub handed_to_c : List ℤ → Gate.CallResult → PackedResult
handed_to_c numbers given = (given.0, numbers_after given.0.0 given.1 numbers, given.2)

unfoldable pub lapped_take : List ℤ → List ℤ → List ℤ → PackedResult
lapped_take numbers block out = handed_to_c numbers (taken (unpacked numbers) block out)

unfoldable pub lapped_finish : List ℤ → List ℤ → PackedResult
lapped_finish numbers out = handed_to_c numbers (ended (unpacked numbers) out)

unfoldable pub lapped_back_take : List ℤ → List ℤ → List ℤ → PackedResult
lapped_back_take numbers frame out = handed_to_c numbers (taken_back (unpacked numbers) frame out)

-- no output is lent to the finish back
unfoldable pub lapped_back_finish : List ℤ → PackedResult
lapped_back_finish numbers = handed_to_c numbers (ended_back (unpacked numbers))
