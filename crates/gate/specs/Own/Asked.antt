-- What the code's first questions decide of a call, whatever follows them.
use Rattle.std.specs.Prelude.{◌≡◌, Bool, cond, not, ◌&&◌, List, ℕ, ◌/◌, ◌%◌, eqb, leb, ℤ, length}
use Rattle.tables.specs.Widths.{half_width}
use Rattle.runs.specs.Answers.{told}
use Rattle.runs.specs.Answers.{Answer}
use Rattle.runs.specs.declared.record.Run.{Run}
use Rattle.runs.specs.Gate.{CallResult, ask, sound, admitted}

-- what a call gives where the first questions have this answer: what follows, or else the record and the output as they were
unfoldable pub answered : Answer → Run → List ℤ → CallResult → CallResult
answered answer run out next = cond (eqb (told answer).0 0) next (told answer, run, out)

-- 2 and 3
pub record StillOpen (top : ℕ) (run : Run) (answer : Answer) : Type 0 where
  pub asked : (out : List ℤ) (next : CallResult) → answered answer run out next ≡ ask 2 (sound top run) run out (ask 3 (not run.finished) run out next)

-- the definition `admitted`, of lists of these lengths
pub record Admitted (top : ℕ) (run : Run) (given room : ℕ) (answer : Answer) : Type 0 where
  pub asked : (xs out : List ℤ) (next : CallResult) → length xs ≡ given → length out ≡ room → answered answer run out next ≡ admitted top run xs out next

-- 1, and 6 where the input is whole parts of the width
unfoldable pub whole_parts : ℕ → ℕ → ℕ → ℕ → Bool
whole_parts N given least most = eqb (given % N) 0 && leb (given / N) most && leb least (given / N)

unfoldable pub in_parts : ℕ → ℕ → ℕ → ℕ → ℕ × ℕ
in_parts N given least most = cond (eqb (half_width N) 0) (1, 0) (cond (whole_parts N given least most) (0, 0) (6, 0))
