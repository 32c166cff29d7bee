-- The gate, for the five stages alone: document 01, "The gate, question by question".
use Rattle.std.specs.Prelude.{cond, List, ℕ, eqb, ℤ, pos, length, Option, Some, None}
use Rattle.tables.specs.Widths.{half_width}
use Rattle.steps.specs.Limits.{folded_limit, coefficient_limit}
use Rattle.steps.specs.Steps.{stages, unstages}
use Rattle.runs.specs.Answers.{first_beyond}

-- what a call gives: the answer's number and place, and the output afterwards
abbrev pub StagesResult : Type 0
StagesResult = (ℕ × ℕ) × List ℤ

-- a refusal by `number` at the place found, which leaves the output as it is; else what follows
unfoldable pub refused_at : ℕ → Option ℕ → List ℤ → StagesResult → StagesResult
refused_at number (Some i) out next = ((number, i), out)
refused_at number None out next = next

-- questions 1, 6 and 7
unfoldable pub shaped : ℕ → List ℤ → List ℤ → StagesResult → StagesResult
shaped N given out next =
    cond (eqb (half_width N) 0) ((1, 0), out)
    (cond (eqb (length given) N)
    (cond (eqb (length out) N) next ((7, 0), out))
    ((6, 0), out))

-- question 10, then the stages
unfoldable pub stages_asked : ℕ → List ℤ → List ℤ → StagesResult
stages_asked N folded out = refused_at 10 (first_beyond (pos folded_limit) folded 0) out ((0, 0), stages N folded)

unfoldable pub stages_alone : ℕ → List ℤ → List ℤ → StagesResult
stages_alone N folded out = shaped N folded out (stages_asked N folded out)

-- question 9, then the stages undone, and question 10 of what comes out
unfoldable pub unstages_asked : ℕ → List ℤ → List ℤ → StagesResult
unstages_asked N frame out =
    refused_at 9 (first_beyond (pos coefficient_limit) frame 0) out
    (refused_at 10 (first_beyond (pos folded_limit) (unstages N frame) 0) out ((0, 0), unstages N frame))

unfoldable pub unstages_alone : ℕ → List ℤ → List ℤ → StagesResult
unstages_alone N frame out = shaped N frame out (unstages_asked N frame out)
