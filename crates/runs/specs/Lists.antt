-- Demand 3, as one claim about every list of calls: document 01, "The lists of demand 3". `proofs/ListsOfCalls` proves it.
-- It reaches the code through `Calls.give`: a call gives what `forward::take` and `forward::finish` promise, from what `forward::start` promises.
use Rattle.std.specs.Prelude.{◌≡◌, Bool, true, false, cond, List, [], ◌∷◌, ◌++◌, map, ℕ, ◌+◌, ◌*◌, ◌/◌, ◌<◌, ℤ, pos, neg_ℤ, length, get_or, replicate}
use Rattle.integers.specs.Places.{tab, at}
use Rattle.tables.specs.Widths.{by_width, RunWidth}
use Rattle.distance.specs.Exact.{root_m}
use Rattle.distance.specs.Statement.{Near}
use Rattle.runs.specs.Record.{zeros}
use Rattle.runs.specs.Forward.{started}
use Rattle.runs.specs.Calls.{Call, block, finish, output_of, is_finish, Made, made, works, workings, frames_given, accepted_all, over_all, working, blocks_of, block_at, block_before, frame_at}
use Rattle.runs.specs.Cases.{sample, sample_output, sample_frame0, sample_frame1}

-- the calls, made one after the other from a fresh start at width N
unfoldable pub made_from : ℕ → List Call → List Made
made_from N calls = made (started N).1 calls

-- ---- told from the calls alone: the blocks taken, and whether a finish has worked
unfoldable pub blocks_taken : ℕ → List Call → List (List ℤ)
blocks_taken N calls = blocks_of (working N calls)

unfoldable pub finished : ℕ → List Call → Bool
finished N calls = over_all N 0 false calls

-- a refused call leaves its record and its output as they were
pub record Untouched (m : Made) : Type 0 where
  pub same-record : m.given.1 ≡ m.before
  pub same-output : m.given.2 ≡ output_of m.call

unfoldable pub AllUntouched : List Made → Type 0
AllUntouched [] = Unit
AllUntouched (m ∷ ms) = (works m ≡ false → Untouched m) × AllUntouched ms

-- both ends of each exact coefficient are within d of that of the frame given, where frame i has block i − 1 before and block i as this one
abbrev pub AllNear : ℕ → ℕ → List Call → Type 0
AllNear d N calls =
    (i k : ℕ) → i < length (frames_given (made_from N calls)) → k < N
    → Near d N (block_before N (blocks_taken N calls) i) (block_at N (blocks_taken N calls) i) k (at (get_or (frames_given (made_from N calls)) i []) k)

pub record EveryList (N : ℕ) (calls : List Call) : Type 0 where
  -- which calls work is told from the calls alone
  pub told-alone : workings (made_from N calls) ≡ accepted_all N 0 false calls
  -- those that work are blocks and, last, the finish if one worked
  pub finish-last : map is_finish (working N calls) ≡ replicate (length (blocks_taken N calls)) false ++ cond (finished N calls) (true ∷ []) []
  -- a call that does not work leaves everything as it was
  pub refused : AllUntouched (made_from N calls)
  -- one frame for each block taken: block i gives frame i; and, last, one for a finish that worked: behind b blocks it gives frame b
  pub frames-are : frames_given (made_from N calls)
      ≡ tab (frame_at N (blocks_taken N calls)) (length (blocks_taken N calls)) 0
      ++ cond (finished N calls) (frame_at N (blocks_taken N calls) (length (blocks_taken N calls)) ∷ []) []
  -- and every frame given is near
  pub near : AllNear (by_width 12 22 42 0 N) N calls

-- for every width and every list
abbrev pub EveryListOfCalls : Type 0
EveryListOfCalls = (N : ℕ) → RunWidth N → (calls : List Call) → EveryList N calls

-- 12, 22 and 42 are 5√M + 2, where M is N/2
abbrev pub FiveRootsAndTwo : Type 0
FiveRootsAndTwo = (N : ℕ) → RunWidth N → (root_m N * root_m N ≡ N / 2) × (by_width 12 22 42 0 N ≡ 5 * root_m N + 2)

-- ---- beside it: the same frames are nearer than that
abbrev pub EveryListNearer : Type 0
EveryListNearer = (N : ℕ) → RunWidth N → (calls : List Call) → AllNear (by_width 7 11 20 0 N) N calls

-- ---- the claim at work, at width 8: a block with a dead mark, the sample's block, a finish and a second one. `proofs/AcceptedCalls`
-- computes it.
abbrev pub some_calls : List Call
some_calls = block (pos 0 ∷ neg_ℤ (pos 32768) ∷ zeros 6) sample_output ∷ block sample sample_output ∷ finish sample_output ∷ finish sample_output ∷ []

pub record AtWork : Type 0 where
  pub answers : map (λ m. m.given.0) (made_from 8 some_calls) ≡ (8, 1) ∷ (0, 0) ∷ (0, 0) ∷ (3, 0) ∷ []
  pub which-work : accepted_all 8 0 false some_calls ≡ false ∷ true ∷ true ∷ false ∷ []
  pub blocks : blocks_taken 8 some_calls ≡ sample ∷ []
  pub over : finished 8 some_calls ≡ true
  pub frames : frames_given (made_from 8 some_calls) ≡ sample_frame0 ∷ sample_frame1 ∷ []
