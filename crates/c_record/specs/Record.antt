-- The run record as a program in C holds it: 68 numbers, which the program owns.
use Rattle.std.specs.Prelude.{Bool, cond, List, [], ◌∷◌, ◌++◌, ℕ, eqb, leb, ℤ, pos, nat_abs, length, take, drop}
use Rattle.std.specs.Int.Signed.{non_neg}
use Rattle.integers.specs.Places.{at}
use Rattle.runs.specs.declared.record.Run.{Run}
use Rattle.runs.specs.Record.{opened}
use Rattle.runs.specs.Gate.{all_yes}

-- three numbers, 64 held values and the total
abbrev pub run_length : ℕ
run_length = 68

-- the width, the count, 1 where the run is finished and 0 where it is open, the held values, and the total
unfoldable pub packed : Run → List ℤ
packed run = pos run.width ∷ pos run.count ∷ pos (cond run.finished 1 0) ∷ run.held ++ run.total ∷ []

-- whether numbers are those of some record: 68 of them, a width and a count from 0 up, and 0 or 1
unfoldable pub is_record : List ℤ → Bool
is_record numbers =
    all_yes
    (eqb (length numbers) run_length
    ∷ non_neg (at numbers 0)
    ∷ non_neg (at numbers 1)
    ∷ non_neg (at numbers 2)
    ∷ leb (nat_abs (at numbers 2)) 1
    ∷ [])

-- the record of numbers; any others are a record of width 0, which question 2 refuses
unfoldable pub unpacked : List ℤ → Run
unpacked numbers =
    cond (is_record numbers)
    (record {
      width = nat_abs (at numbers 0);
      count = nat_abs (at numbers 1);
      held = take 64 (drop 3 numbers);
      finished = eqb (nat_abs (at numbers 2)) 1;
      total = at numbers 67;
    })
    (opened 0 0 (pos 0) [])
