-- Lists of calls, forward: document 01, "The lists of demand 3".
use Rattle.std.specs.Prelude.{Bool, true, false, cond, not, ◌||◌, List, [], ◌∷◌, ℕ, zero, suc, eqb, ltb, ℤ, length, get_or}
use Rattle.steps.specs.Steps.{held, frame}
use Rattle.runs.specs.declared.record.Run.{Run}
use Rattle.runs.specs.Record.{block_limit, zeros}
use Rattle.runs.specs.Gate.{CallResult, nothing, all_yes, first_dead, first_out}
use Rattle.runs.specs.Forward.{taken, ended}

-- a block handed in or a finish asked for, each with an output of its own
pub data Call : Type 0 where
  block : (readings out : List ℤ) → Call
  finish : (out : List ℤ) → Call

unfoldable pub output_of : Call → List ℤ
output_of (block readings out) = out
output_of (finish out) = out

unfoldable pub is_finish : Call → Bool
is_finish (block readings out) = false
is_finish (finish out) = true

-- ---- what the calls give
unfoldable pub give : Run → Call → CallResult
give run (block readings out) = taken run readings out
give run (finish out) = ended run out

-- a call, the record that it was given, which is what the call before handed back, and what it gave
pub record Made : Type 0 where
  pub call : Call
  pub before : Run
  pub given : CallResult

unfoldable pub made : Run → List Call → List Made
made run [] = []
made run (c ∷ calls) = record { call = c; before = run; given = give run c } ∷ made (give run c).1 calls

-- the answer's number is 0
unfoldable pub works : Made → Bool
works m = eqb m.given.0.0 0

unfoldable pub workings : List Made → List Bool
workings [] = []
workings (m ∷ ms) = works m ∷ workings ms

-- the frames given, each as its call left it
unfoldable pub frames_given : List Made → List (List ℤ)
frames_given [] = []
frames_given (m ∷ ms) = cond (works m) (m.given.2 ∷ frames_given ms) (frames_given ms)

-- ---- told from the calls alone: `b` blocks were taken before, and `over` tells whether a finish has worked
-- A block is accepted as long as no finish has worked and the run is not full, where both lengths are right and no reading is refused. A
-- finish is accepted where none has worked and its output has the right length.
unfoldable pub accepted : ℕ → ℕ → Bool → Call → Bool
accepted N b over (block readings out) =
    all_yes
    (not over
    ∷ ltb b block_limit
    ∷ eqb (length readings) N
    ∷ eqb (length out) N
    ∷ nothing (first_dead readings 0)
    ∷ nothing (first_out readings 0)
    ∷ [])
accepted N b over (finish out) = all_yes (not over ∷ eqb (length out) N ∷ [])

-- the count and whether it is over, after a call
unfoldable pub count_after : ℕ → ℕ → Bool → Call → ℕ
count_after N b over (block readings out) = cond (accepted N b over (block readings out)) (suc b) b
count_after N b over (finish out) = b

unfoldable pub over_after : ℕ → ℕ → Bool → Call → Bool
over_after N b over (block readings out) = over
over_after N b over (finish out) = over || accepted N b over (finish out)

unfoldable pub accepted_all : ℕ → ℕ → Bool → List Call → List Bool
accepted_all N b over [] = []
accepted_all N b over (c ∷ calls) = accepted N b over c ∷ accepted_all N (count_after N b over c) (over_after N b over c) calls

-- whether a finish has worked, behind all of them
unfoldable pub over_all : ℕ → ℕ → Bool → List Call → Bool
over_all N b over [] = over
over_all N b over (c ∷ calls) = over_all N (count_after N b over c) (over_after N b over c) calls

-- the calls that work
unfoldable pub kept : List Bool → List Call → List Call
kept [] calls = []
kept (w ∷ ws) [] = []
kept (w ∷ ws) (c ∷ calls) = cond w (c ∷ kept ws calls) (kept ws calls)

unfoldable pub working : ℕ → List Call → List Call
working N calls = kept (accepted_all N 0 false calls) calls

-- the readings of the blocks among them
unfoldable pub blocks_of : List Call → List (List ℤ)
blocks_of [] = []
blocks_of (block readings out ∷ calls) = readings ∷ blocks_of calls
blocks_of (finish out ∷ calls) = blocks_of calls

-- ---- the frames, with zeros for the block before the first and for the one behind the last
unfoldable pub block_at : ℕ → List (List ℤ) → ℕ → List ℤ
block_at N blocks i = get_or blocks i (zeros N)

unfoldable pub block_before : ℕ → List (List ℤ) → ℕ → List ℤ
block_before N blocks zero = zeros N
block_before N blocks (suc i) = block_at N blocks i

-- frame i: what block i − 1 held goes into the frame of block i
unfoldable pub frame_at : ℕ → List (List ℤ) → ℕ → List ℤ
frame_at N blocks i = frame N (held N (block_before N blocks i)) (block_at N blocks i)
