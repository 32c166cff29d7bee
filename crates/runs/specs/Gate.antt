-- The gate's questions to a run forward: document 01, "The gate, question by question".
use Rattle.std.specs.Prelude.{Bool, true, false, cond, not, ◌&&◌, ◌||◌, List, [], ◌∷◌, ℕ, ◌+◌, ◌-◌, ◌*◌, eqb, ltb, leb, ℤ, pos, negsuc, nat_abs, length, drop, Option, Some, None}
use Rattle.tables.specs.Widths.{half_width}
use Rattle.steps.specs.Limits.{reading_limit, folded_limit}
use Rattle.runs.specs.Answers.{first_where, first_beyond}
use Rattle.runs.specs.declared.record.Run.{Run}
use Rattle.runs.specs.Record.{frame_limit}

-- what a call gives: the answer's number and place, the record handed back, the output afterwards
abbrev pub CallResult : Type 0
CallResult = (ℕ × ℕ) × Run × List ℤ

-- a question: where it says no, the call gives its number, and the record and the output as they were; else what follows
unfoldable pub ask : ℕ → Bool → Run → List ℤ → CallResult → CallResult
ask number answer run out next = cond answer next ((number, 0), run, out)

unfoldable pub ask_each : ℕ → Option ℕ → Run → List ℤ → CallResult → CallResult
ask_each number (Some place) run out next = ((number, place), run, out)
ask_each number None run out next = next

-- no value of a list is beyond ±limit
unfoldable pub nothing : Option ℕ → Bool
nothing (Some place) = false
nothing None = true

unfoldable pub inside : ℤ → List ℤ → Bool
inside limit xs = nothing (first_beyond limit xs 0)

-- each of a list of questions is answered yes
unfoldable pub all_yes : List Bool → Bool
all_yes [] = true
all_yes (answer ∷ rest) = answer && all_yes rest

-- the blocks behind a count, where `top` is the greatest: forward it counts them; back it counts their frames, of which the first gives none
unfoldable pub blocks_behind : ℕ → ℕ → ℕ
blocks_behind top count = count + (frame_limit - top) - 1

-- 2, where `top` is the greatest count: a width, a count that a run can have, held values within ±50,000, zeros at the held places that a
-- width does not use, zeros alone where nothing was taken yet or the run is finished, and a total that so many readings can have
unfoldable pub sound : ℕ → Run → Bool
sound top run =
    all_yes
    (ltb 0 (half_width run.width)
    ∷ leb run.count top
    ∷ inside (pos folded_limit) run.held
    ∷ inside (pos 0) (drop (half_width run.width) run.held)
    ∷ (not (eqb run.count 0 || run.finished) || inside (pos 0) run.held)
    ∷ leb (nat_abs run.total) (blocks_behind top run.count * run.width * reading_limit)
    ∷ [])

-- 8: a dead gauge gives −32,768
unfoldable pub dead : ℤ → Bool
dead (pos n) = false
dead (negsuc n) = eqb n 32767

abbrev pub first_dead : List ℤ → ℕ → Option ℕ
first_dead = first_where dead

-- 9
abbrev pub first_out : List ℤ → ℕ → Option ℕ
first_out = first_beyond (pos reading_limit)

-- 2, 3, 4, 6 and 7 to a block or frame that is handed in, where `top` is the greatest count; then what follows
unfoldable pub admitted : ℕ → Run → List ℤ → List ℤ → CallResult → CallResult
admitted top run given out next =
    ask 2 (sound top run) run out
    (ask 3 (not run.finished) run out
    (ask 4 (ltb run.count top) run out
    (ask 6 (eqb (length given) run.width) run out
    (ask 7 (eqb (length out) run.width) run out next))))
