-- The whole run back over lent slices: document 01, "Widths, readings, frames".
use Rattle.std.specs.Prelude.{cond, ◌&&◌, List, [], ◌++◌, ℕ, zero, suc, ◌+◌, ◌-◌, ◌/◌, ◌%◌, eqb, ltb, leb, ℤ, length, take, drop}
use Rattle.tables.specs.Widths.{half_width}
use Rattle.runs.specs.Answers.{placed}
use Rattle.runs.specs.declared.record.Run.{Run}
use Rattle.runs.specs.Record.{frame_limit, zeros}
use Rattle.runs.specs.Forward.{started}
use Rattle.runs.specs.Back.{taken_back, ended_back}

-- the calls one by one: b frames as they lie, each with its part of the output, and the finish, whose place is counted from the last frame.
-- The answer is that of the first refused call,
unfoldable pub answer_from : ℕ → ℕ → Run → ℕ → List ℤ → List ℤ → ℕ × ℕ
answer_from N before run zero frames out = placed N (before - N) (ended_back run).0
answer_from N before run (suc b) frames out =
    let given = taken_back run (take N frames) (take N out) in
    cond (eqb given.0.0 0) (answer_from N (before + N) given.1 b (drop N frames) (drop N out)) (placed N before given.0)

-- and the outputs as the calls left them stand one behind the other
unfoldable pub outputs_from : ℕ → Run → ℕ → List ℤ → List ℤ → List ℤ
outputs_from N run zero frames out = []
outputs_from N run (suc b) frames out =
    let given = taken_back run (take N frames) (take N out) in
    given.2 ++ outputs_from N given.1 b (drop N frames) (drop N out)

-- the first frame writes nothing: its output is N zeros, none of the run's
unfoldable pub all_outputs : ℕ → List ℤ → List ℤ → List ℤ
all_outputs N frames out = outputs_from N (started N).1 (length frames / N) frames (zeros N ++ out)

unfoldable pub first_answer : ℕ → List ℤ → List ℤ → ℕ × ℕ
first_answer N frames out = answer_from N 0 (started N).1 (length frames / N) frames (zeros N ++ out)

-- what the calls one by one give, and nothing written where one is refused
unfoldable pub back_one_by_one : ℕ → List ℤ → List ℤ → (ℕ × ℕ) × List ℤ
back_one_by_one N frames out = (first_answer N frames out, cond (eqb (first_answer N frames out).0 0) (drop N (all_outputs N frames out)) out)

-- questions 1, 6 and 7 come before all others: 6, whole frames, at least one and not too many; 7, one block less than frames
unfoldable pub whole_back : ℕ → List ℤ → List ℤ → (ℕ × ℕ) × List ℤ
whole_back N frames out =
    cond (eqb (half_width N) 0) ((1, 0), out)
    (cond (eqb (length frames % N) 0 && leb (length frames / N) frame_limit && ltb 0 (length frames))
    (cond (eqb (length out + N) (length frames)) (back_one_by_one N frames out) ((7, 0), out))
    ((6, 0), out))
