-- Request 2: the running total. `proofs/Totals` proves it, over the width as a letter.
use Rattle.std.specs.Prelude.{◌≡◌, true, List, [], ◌∷◌, ℕ, ◌≤◌, ℤ, nat_abs, length}
use Rattle.integers.specs.Vectors.{Rows, total_of}
use Rattle.tables.specs.Widths.{RunWidth}
use Rattle.runs.specs.declared.record.Run.{Run}
use Rattle.runs.specs.Forward.{started, taken}
use Rattle.runs.specs.Back.{taken_back, ended_back}
use Rattle.runs.specs.Calls.{Call, give, frames_given}
use Rattle.runs.specs.Lists.{made_from, blocks_taken, finished}
use Rattle.runs.specs.CallsReturn.{answers_back, AllTaken, blocks_given}

-- 65,536 blocks of 128 readings of 32,767
abbrev pub total_limit : ℕ
total_limit = 274869518336

-- the record behind a list of calls forward, and behind frames taken back and the finish
unfoldable pub record_after : Run → List Call → Run
record_after run [] = run
record_after run (c ∷ calls) = record_after (give run c).1 calls

unfoldable pub record_back : Run → List (List ℤ) → List (List ℤ) → Run
record_back run [] outs = (ended_back run).1
record_back run (frame ∷ frames) [] = run
record_back run (frame ∷ frames) (out ∷ outs) = record_back (taken_back run frame out).1 frames outs

-- 1. Behind every list of calls, refused ones included, the total is the exact sum of the readings of the blocks taken.
abbrev pub EveryListSummed : Type 0
EveryListSummed =
    (N : ℕ) → RunWidth N → (calls : List Call)
    → ((record_after (started N).1 calls).total ≡ total_of (blocks_taken N calls)) × (nat_abs (record_after (started N).1 calls).total ≤ total_limit)

-- 2. Behind frames that are all taken back, with the finish, it is that of the readings given;
abbrev pub EachReturnSummed : Type 0
EachReturnSummed =
    (N : ℕ) → RunWidth N → (frames outs : List (List ℤ)) → length outs ≡ length frames → AllTaken (answers_back (started N).1 frames outs)
    → (record_back (started N).1 frames outs).total ≡ total_of (blocks_given N frames outs)

-- so the frames of a list of calls whose finish worked go back to its total.
abbrev pub TotalReturned : Type 0
TotalReturned =
    (N : ℕ) → RunWidth N → (calls : List Call) (first : List ℤ) (outs : List (List ℤ))
    → finished N calls ≡ true → Rows N (first ∷ outs) → length outs ≡ length (blocks_taken N calls)
    → (record_back (started N).1 (frames_given (made_from N calls)) (first ∷ outs)).total ≡ (record_after (started N).1 calls).total

-- 3. Whatever the record, made by hand too, a call that takes a block or a frame leaves a total within the limit.
pub record TotalsFit (run : Run) (given out : List ℤ) : Type 0 where
  pub forward : (taken run given out).0.0 ≡ 0 → nat_abs (taken run given out).1.total ≤ total_limit
  pub back : (taken_back run given out).0.0 ≡ 0 → nat_abs (taken_back run given out).1.total ≤ total_limit

abbrev pub EveryTotalFits : Type 0
EveryTotalFits = (run : Run) (given out : List ℤ) → TotalsFit run given out
