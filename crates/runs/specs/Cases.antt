-- The ten cases marked ★ of document 01, "Try these": one table of what is computed and what the paper says, and one statement over it.
-- `proofs/Cases` proves it.
use Rattle.std.specs.Prelude.{◌≡◌, List, [], ◌∷◌, map, ℕ, ◌-◌, ◌^◌, ℤ, pos, neg_ℤ, ◌-ℤ◌, replicate}
use Rattle.integers.specs.Floor.{round}
use Rattle.integers.specs.Places.{at}
use Rattle.steps.specs.Steps.{odd_of, lower, held}
use Rattle.runs.specs.declared.record.Run.{Run}
use Rattle.runs.specs.Record.{zeros}
use Rattle.runs.specs.Forward.{started, taken, ended}

-- the block 100,0,0,0,0,0,0,0, and an output that is not zeros before a call
abbrev pub sample : List ℤ
sample = pos 100 ∷ zeros 7

abbrev pub sample_output : List ℤ
sample_output = replicate 8 (pos 1)

abbrev pub sample_start : Run
sample_start = (started 8).1

abbrev minus : ℕ → ℤ
minus n = neg_ℤ (pos n)

-- the two frames that the block gives
abbrev pub sample_frame0 : List ℤ
sample_frame0 = pos 39 ∷ minus 24 ∷ minus 48 ∷ pos 4 ∷ pos 50 ∷ pos 14 ∷ minus 44 ∷ minus 33 ∷ []

abbrev pub sample_frame1 : List ℤ
sample_frame1 = minus 3 ∷ pos 4 ∷ pos 2 ∷ minus 5 ∷ pos 0 ∷ pos 5 ∷ minus 3 ∷ minus 3 ∷ []

unfoldable pub cases : List (List ℤ × List ℤ)
cases =
    -- rounding of v / 2^28
    (round 28 (pos (2 ^ 27)) ∷ [], pos 1 ∷ [])
    ∷ (round 28 (minus (2 ^ 27)) ∷ [], pos 0 ∷ [])
    ∷ (round 28 (pos (2 ^ 27 - 1)) ∷ [], pos 0 ∷ [])
    ∷ (round 28 (minus (2 ^ 27) -ℤ pos 1) ∷ [], minus 1 ∷ [])
    -- r at (0, 3) and at (3, 1)
    ∷ (odd_of 0 3 ∷ [], minus 3 ∷ [])
    ∷ (odd_of 3 1 ∷ [], pos 5 ∷ [])
    -- folded place 3, and what is held for place 4: held place 0
    ∷ (at (lower 8 sample) 3 ∷ at (held 8 sample) 0 ∷ [], pos 100 ∷ minus 10 ∷ [])
    -- the first frame, the second, and the frame of no block
    ∷ ((taken sample_start sample sample_output).2, sample_frame0)
    ∷ ((ended (taken sample_start sample sample_output).1 sample_output).2, sample_frame1)
    ∷ ((ended sample_start sample_output).2, zeros 8)
    ∷ []

-- in every row the two are the same
abbrev pub AsThePaperSays : Type 0
AsThePaperSays = map (λ row. row.0) cases ≡ map (λ row. row.1) cases
