-- Demand 2, call by call: frames taken back one by one go back to the very blocks that they came from. `proofs/CallsBack` and `proofs/CallsExact`
-- prove it, over the width as a letter.
use Rattle.std.specs.Prelude.{◌≡◌, true, List, [], ◌∷◌, ℕ, suc, ◌≤◌, ◌<◌, ℤ, length, get_or, drop}
use Rattle.integers.specs.Vectors.{Rows}
use Rattle.integers.specs.Places.{tab}
use Rattle.tables.specs.Widths.{RunWidth}
use Rattle.steps.specs.Limits.{reading_limit}
use Rattle.distance.specs.Statement.{Block}
use Rattle.runs.specs.declared.record.Run.{Run}
use Rattle.runs.specs.Record.{block_limit}
use Rattle.runs.specs.Forward.{started}
use Rattle.runs.specs.Calls.{Call, frames_given, block_at, frame_at}
use Rattle.runs.specs.Lists.{made_from, blocks_taken, finished}
use Rattle.runs.specs.Back.{taken_back, ended_back}
use Rattle.runs.specs.Cases.{sample, sample_output, sample_start, sample_frame0, sample_frame1}

-- Frames taken back one by one, each with an output of its own, from a record on, and then the finish: what is given are the answers, the
-- finish's last, and each output afterwards. They are what `back::take` and `back::finish` promise.
unfoldable pub answers_back : Run → List (List ℤ) → List (List ℤ) → List (ℕ × ℕ)
answers_back run [] outs = (ended_back run).0 ∷ []
answers_back run (frame ∷ frames) [] = []
answers_back run (frame ∷ frames) (out ∷ outs) = (taken_back run frame out).0 ∷ answers_back (taken_back run frame out).1 frames outs

unfoldable pub outputs_back : Run → List (List ℤ) → List (List ℤ) → List (List ℤ)
outputs_back run [] outs = []
outputs_back run (frame ∷ frames) [] = []
outputs_back run (frame ∷ frames) (out ∷ outs) = (taken_back run frame out).2 ∷ outputs_back (taken_back run frame out).1 frames outs

-- 1. The frames of a list of calls forward whose finish worked, taken back with outputs of N numbers, are all taken; the first leaves its output
-- as it was, the others give the blocks taken, in order; and the finish works.
pub record CallByCall (N : ℕ) (calls : List Call) (first : List ℤ) (outs : List (List ℤ)) : Type 0 where
  pub all-taken : answers_back (started N).1 (frames_given (made_from N calls)) (first ∷ outs) ≡ tab (λ i. (0, 0)) (suc (suc (length (blocks_taken N calls)))) 0
  pub blocks-given : outputs_back (started N).1 (frames_given (made_from N calls)) (first ∷ outs) ≡ first ∷ blocks_taken N calls

abbrev pub EachCallReturned : Type 0
EachCallReturned =
    (N : ℕ) → RunWidth N → (calls : List Call) (first : List ℤ) (outs : List (List ℤ))
    → finished N calls ≡ true → Rows N (first ∷ outs) → length outs ≡ length (blocks_taken N calls)
    → CallByCall N calls first outs

-- 2. Frames of any numbers and lengths are all taken, with the finish, exactly if some blocks in range make them; what is given are those, and no
-- others make them; some call refuses if none do.
-- Blocks in range, as a run takes them: not too many, each of N readings in range (block i is zeros behind the last),
pub record BlocksInRange (N : ℕ) (blocks : List (List ℤ)) : Type 0 where
  pub some : length blocks ≤ block_limit
  pub within : (i : ℕ) → Block N reading_limit (block_at N blocks i)

-- and the frames that they make
unfoldable pub frames_made : ℕ → List (List ℤ) → List (List ℤ)
frames_made N blocks = tab (frame_at N blocks) (suc (length blocks)) 0

-- every call answers 0
unfoldable pub AllTaken : List (ℕ × ℕ) → Type 0
AllTaken [] = Unit
AllTaken (answer ∷ answers) = (answer.0 ≡ 0) × AllTaken answers

-- some call does not
pub record SomeRefused (answers : List (ℕ × ℕ)) : Type 0 where
  pub call : ℕ
  pub made : call < length answers
  pub refused : 0 < (get_or answers call (0, 0)).0

-- the blocks given: all outputs but the first frame's
unfoldable pub blocks_given : ℕ → List (List ℤ) → List (List ℤ) → List (List ℤ)
blocks_given N frames outs = drop 1 (outputs_back (started N).1 frames outs)

pub record ExactlyByCalls (N : ℕ) (frames outs : List (List ℤ)) : Type 0 where
  pub taken_made : AllTaken (answers_back (started N).1 frames outs) → BlocksInRange N (blocks_given N frames outs) × (frames_made N (blocks_given N frames outs) ≡ frames)
  pub made-taken : (blocks : List (List ℤ)) → BlocksInRange N blocks → frames_made N blocks ≡ frames → Rows N outs
      → AllTaken (answers_back (started N).1 frames outs) × (blocks_given N frames outs ≡ blocks)
  pub only : (blocks others : List (List ℤ)) → BlocksInRange N blocks → BlocksInRange N others → frames_made N blocks ≡ frames → frames_made N others ≡ frames → blocks ≡ others
  pub none-refused : ((blocks : List (List ℤ)) → BlocksInRange N blocks → frames_made N blocks ≡ frames → ⊥) → SomeRefused (answers_back (started N).1 frames outs)

abbrev pub TakenExactly : Type 0
TakenExactly = (N : ℕ) → RunWidth N → (frames outs : List (List ℤ)) → length outs ≡ length frames → ExactlyByCalls N frames outs

-- ---- the claim at work, at width 8: the sample's two frames, the first of them alone, the second alone, and none. `proofs/AcceptedCalls` computes it.
pub record BackAtWork : Type 0 where
  pub frames-made : frames_made 8 (sample ∷ []) ≡ sample_frame0 ∷ sample_frame1 ∷ []
  pub blocks-given : blocks_given 8 (sample_frame0 ∷ sample_frame1 ∷ []) (sample_output ∷ sample_output ∷ []) ≡ sample ∷ []
  pub both : answers_back sample_start (sample_frame0 ∷ sample_frame1 ∷ []) (sample_output ∷ sample_output ∷ []) ≡ (0, 0) ∷ (0, 0) ∷ (0, 0) ∷ []
  pub first_alone : answers_back sample_start (sample_frame0 ∷ []) (sample_output ∷ []) ≡ (0, 0) ∷ (11, 3) ∷ []
  pub second-alone : answers_back sample_start (sample_frame1 ∷ []) (sample_output ∷ []) ≡ (11, 4) ∷ (5, 0) ∷ []
  pub no-frame : answers_back sample_start [] [] ≡ (5, 0) ∷ []
