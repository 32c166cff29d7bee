-- The whole run forward over lent slices: document 01, "Widths, readings, frames".
use Rattle.std.specs.Prelude.{◌≡◌, cond, ◌&&◌, List, [], ◌∷◌, ◌++◌, ℕ, zero, suc, ◌+◌, ◌*◌, ◌/◌, ◌%◌, ◌≤◌, ◌<◌, eqb, leb, ℤ, length, take, drop}
use Rattle.integers.specs.Places.{tab, at}
use Rattle.tables.specs.Widths.{half_width}
use Rattle.distance.specs.Statement.{Near, promised}
use Rattle.runs.specs.Answers.{placed}
use Rattle.runs.specs.Record.{block_limit}
use Rattle.runs.specs.Forward.{started}
use Rattle.runs.specs.Calls.{Call, block, finish, Made, made, works, block_at, block_before, frame_at}

-- the calls one by one: b blocks as they lie, each with its part of the output, and the finish
unfoldable pub calls_of : ℕ → ℕ → List ℤ → List ℤ → List Call
calls_of N zero readings out = finish out ∷ []
calls_of N (suc b) readings out = block (take N readings) (take N out) ∷ calls_of N b (drop N readings) (drop N out)

-- the refusal of the first refused call, its place counted through the run
unfoldable pub first_refusal : ℕ → ℕ → List Made → ℕ × ℕ
first_refusal N before [] = (0, 0)
first_refusal N before (m ∷ ms) = cond (works m) (first_refusal N (before + N) ms) (placed N before m.given.0)

-- all outputs as the calls left them, one behind the other
unfoldable pub outputs : List Made → List ℤ
outputs [] = []
outputs (m ∷ ms) = m.given.2 ++ outputs ms

-- what the calls one by one give, and nothing written where one is refused
unfoldable pub forward_one_by_one : ℕ → List ℤ → List ℤ → (ℕ × ℕ) × List ℤ
forward_one_by_one N readings out =
    let calls = made (started N).1 (calls_of N (length readings / N) readings out) in
    let answer = first_refusal N 0 calls in
    (answer, cond (eqb answer.0 0) (outputs calls) out)

-- questions 1, 6 and 7 come before all others
unfoldable pub whole_forward : ℕ → List ℤ → List ℤ → (ℕ × ℕ) × List ℤ
whole_forward N readings out =
    cond (eqb (half_width N) 0) ((1, 0), out)
    (cond (eqb (length readings % N) 0 && leb (length readings / N) block_limit)
    (cond (eqb (length out) (length readings + N)) (forward_one_by_one N readings out) ((7, 0), out))
    ((6, 0), out))

-- ---- what a whole run forward has written where it answers 0: all its frames, each near the exact one
unfoldable pub parts_of : ℕ → ℕ → List ℤ → List (List ℤ)
parts_of N zero readings = []
parts_of N (suc b) readings = take N readings ∷ parts_of N b (drop N readings)

unfoldable pub blocks_in : ℕ → List ℤ → List (List ℤ)
blocks_in N readings = parts_of N (length readings / N) readings

unfoldable pub joined : List (List ℤ) → List ℤ
joined [] = []
joined (x ∷ xs) = x ++ joined xs

pub record WholeRun (N : ℕ) (readings frames : List ℤ) : Type 0 where
  pub frames-are : frames ≡ joined (tab (frame_at N (blocks_in N readings)) (suc (length readings / N)) 0)
  pub near : (i k : ℕ) → i ≤ length readings / N → k < N
      → Near (promised N) N (block_before N (blocks_in N readings) i) (block_at N (blocks_in N readings) i) k (at frames (i * N + k))
