-- The answers' numbers, and the search for the first number that a question refuses: document 01, "The gate, question by question".
use Rattle.std.specs.Prelude.{Bool, cond, List, [], ◌∷◌, ℕ, suc, ◌+◌, ◌-◌, eqb, ltb, ℤ, nat_abs, Option, Some, None, Result, Ok, Err, ⊤}
use Rattle.runs.specs.declared.answer.Refusal.{Refusal}
use Rattle.runs.specs.declared.answer.Refusal.TheVariants.{Width, Record, Closed, Full, Empty, InputLength, OutputLength, DeadMark, Range, Folded, Halves, Unfolded}

-- an answer: work done, or a refusal
abbrev pub Answer : Type 0
Answer = Result ⊤ Refusal

-- the number of an answer, 0 for work done, and its place, 0 where there is none
unfoldable pub told : Answer → ℕ × ℕ
told (Ok x) = (0, 0)
told (Err Width) = (1, 0)
told (Err Record) = (2, 0)
told (Err Closed) = (3, 0)
told (Err Full) = (4, 0)
told (Err Empty) = (5, 0)
told (Err InputLength) = (6, 0)
told (Err OutputLength) = (7, 0)
told (Err (DeadMark i)) = (8, i)
told (Err (Range i)) = (9, i)
told (Err (Folded i)) = (10, i)
told (Err (Halves i)) = (11, i)
told (Err (Unfolded i)) = (12, i)

-- A refusal's place counted through a whole run, forward or back, where `before` numbers stand in the blocks or frames before. Question 12
-- speaks of the block before the frame, so N less is added there. Questions 1 to 7 name no place: 0.
unfoldable pub placed : ℕ → ℕ → ℕ × ℕ → ℕ × ℕ
placed N before answer =
    (answer.0, cond (ltb answer.0 8) 0 (cond (eqb answer.0 12) (before - N + answer.1) (before + answer.1)))

-- the first number of a list that a test names, where the list's first stands at k
unfoldable pub first_where : (ℤ → Bool) → List ℤ → ℕ → Option ℕ
first_where test [] k = None
first_where test (x ∷ xs) k = cond (test x) (Some k) (first_where test xs (suc k))

-- the first that is beyond ±limit
unfoldable pub beyond : ℤ → ℤ → Bool
beyond limit x = ltb (nat_abs limit) (nat_abs x)

abbrev pub first_beyond : ℤ → List ℤ → ℕ → Option ℕ
first_beyond limit = first_where (beyond limit)
