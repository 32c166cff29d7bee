-- Demand 2, call by call: the frames of a list of calls forward whose finish worked go back to the blocks that it took.
use mathlib.Core.Path.{◌≡◌, refl, ap, ◌∙◌}
use mathlib.Core.Bool.{Bool, true, false, cond, ◌||◌}
use mathlib.Core.List.{List, [], ◌∷◌}
use Prim.Native.Nat.{ℕ, zero, suc, ◌+◌, ◌≤◌, zero-le}
use native.Mathlib.Omega.{arith}
use lib.IntN.{ℤ, pos, ◌+ℤ◌}
use lib.ListN.{length}
use Rattle.integers.specs.Vectors.{sum_of, Rows}
use Rattle.integers.specs.Places.{tab}
use Rattle.steps.specs.Steps.{lower}
use Rattle.distance.specs.Statement.{IsWidth}
use Rattle.runs.specs.Record.{block_limit, frame_limit, opened}
use Rattle.runs.specs.Forward.{started}
use Rattle.runs.specs.Calls.{Call, block, finish, frames_given, accepted, count_after, over_after, accepted_all, kept, working, blocks_of, block_at}
use Rattle.tables.proofs.ByWidth.{run-width}
use Rattle.runs.specs.Lists.{made_from, blocks_taken}
use Rattle.runs.proofs.CallLaws.{accepted-below}
use Rattle.runs.proofs.EveryList.{fresh-told, AllBlocks, blocks-kept}
use Rattle.runs.proofs.ListsOfCalls.{working-counted}
use Rattle.runs.specs.CallsReturn.{answers_back, outputs_back, AllTaken, EachCallReturned}
use Rattle.runs.proofs.BackLaws.{started-back, ReachedBack, back-block, back_one, later-taken, first_taken, ended-works}
use Rattle.runs.proofs.MadeFrames.{frames_after, all_frames, all-frames}

-- ---- no more blocks are taken than a run takes
pub few-kept : (N : ℕ) (calls : List Call) (b : ℕ) (over : Bool) → b ≤ block_limit → b + length (blocks_of (kept (accepted_all N b over calls) calls)) ≤ block_limit
unfolding accepted_all kept blocks_of count_after over_after
few-kept N [] b over h = omega arith
few-kept N (block xs out ∷ calls) b over h = by (accepted N b over (block xs out)) refl (few-kept N calls _ over)
  where
    by : (w : Bool) → accepted N b over (block xs out) ≡ w
        → (cond w (suc b) b ≤ block_limit → cond w (suc b) b + length (blocks_of (kept (accepted_all N (cond w (suc b) b) over calls) calls)) ≤ block_limit)
        → b + length (blocks_of (kept (w ∷ accepted_all N (cond w (suc b) b) over calls) (block xs out ∷ calls))) ≤ block_limit
    by true e rest = let r = rest (accepted-below N b over xs out e) in omega arith
    by false e rest = rest h
few-kept N (finish out ∷ calls) b over h = by (accepted N b over (finish out)) (few-kept N calls b _ h)
  where
    by : (w : Bool) → b + length (blocks_of (kept (accepted_all N b (over || w) calls) calls)) ≤ block_limit
        → b + length (blocks_of (kept (w ∷ accepted_all N b (over || w) calls) (finish out ∷ calls))) ≤ block_limit
    by true rest = rest
    by false rest = rest

-- ---- the frames behind the first, and the finish
record ReturnedFrom (N k : ℕ) (t : ℤ) (xs outs : List (List ℤ)) : Type 0 where
  answers : (j : ℕ) → answers_back (opened N (suc k) t (lower N (block_at N xs 0))) (frames_after N xs) outs ≡ tab (λ i. (0, 0)) (suc (length xs)) j
  blocks : outputs_back (opened N (suc k) t (lower N (block_at N xs 0))) (frames_after N xs) outs ≡ xs

module _ (N : ℕ) (w : IsWidth N) where
  returned-from : (xs outs : List (List ℤ)) (k : ℕ) (t : ℤ) → AllBlocks N xs → Rows N outs → length outs ≡ length xs → suc k + length xs ≤ frame_limit
      → ReachedBack N (suc k) t (lower N (block_at N xs 0)) → ReturnedFrom N k t xs outs
  unfolding frames_after answers_back outputs_back block_at tab
  returned-from [] outs k t hs rows l h r = record {
    answers = λ j. ap (λ (a : ℕ × ℕ). a ∷ []) (ended-works N k t r);
    blocks = refl;
  }
  returned-from (x ∷ xs) [] k t hs rows l h r = absurd (omega arith)
  returned-from (x ∷ xs) (out ∷ outs) k t hs rows l h r =
      let y = block_at N xs 0 in
      let e = later-taken N w x y (hs 0) (hs 1) k t out r (omega arith) rows.0 in
      let rest = returned-from xs outs (suc k) (t +ℤ sum_of x) (λ i. hs (suc i)) rows.1 (omega arith) (omega arith) (back-block N w x y (hs 0) (hs 1) k t r (omega arith)) in
      record {
        answers = λ j. rw e (ap (λ (l : List (ℕ × ℕ)). (0, 0) ∷ l) (rest.answers (suc j)));
        blocks = rw e (ap (λ (l : List (List ℤ)). x ∷ l) rest.blocks);
      }

pub zeros-taken : (n j : ℕ) → AllTaken (tab (λ i. (0, 0)) n j)
unfolding tab AllTaken
zeros-taken zero j = tt
zeros-taken (suc n) j = (refl, zeros-taken n (suc j))

-- and with the first, from a fresh start
module _ (N : ℕ) (w : IsWidth N) (xs outs : List (List ℤ)) (first : List ℤ) (hs : AllBlocks N xs) (few : length xs ≤ block_limit) (rows : Rows N (first ∷ outs)) (l : length outs ≡ length xs) where
  rest : ReturnedFrom N 0 (pos 0) xs outs
  rest = returned-from N w xs outs 0 (pos 0) hs rows.1 l (omega arith) (back_one N w (block_at N xs 0) (hs 0))

  all-answered : answers_back (started N).1 (all_frames N xs) (first ∷ outs) ≡ tab (λ i. (0, 0)) (suc (suc (length xs))) 0
  unfolding answers_back tab
  all-answered = rw (started-back N w, first_taken N w (block_at N xs 0) (hs 0) first rows.0) (ap (λ (l : List (ℕ × ℕ)). (0, 0) ∷ l) (rest.answers 1))

  pub all-taken : AllTaken (answers_back (started N).1 (all_frames N xs) (first ∷ outs))
  all-taken = rw all-answered (zeros-taken (suc (suc (length xs))) 0)

  pub all-given : outputs_back (started N).1 (all_frames N xs) (first ∷ outs) ≡ first ∷ xs
  unfolding outputs_back
  all-given = rw (started-back N w, first_taken N w (block_at N xs 0) (hs 0) first rows.0) (ap (λ (ys : List (List ℤ)). first ∷ ys) rest.blocks)

pub each-call-returned : EachCallReturned
unfolding blocks_taken working
each-call-returned N v calls first outs over rows l =
    let w = run-width N v in
    let xs = blocks_taken N calls in
    let hs : AllBlocks N xs = blocks-kept N calls 0 false in
    let few : length xs ≤ block_limit = omega (arith, few-kept N calls 0 false zero-le) in
    let worked : length (working N calls) ≡ suc (length xs) = working-counted N w calls ∙ rw over (omega arith) in
    let given : frames_given (made_from N calls) ≡ all_frames N xs = (fresh-told N w calls).frames-are ∙ rw worked (all-frames N xs) in
    record {
      all-taken = rw given (all-answered N w xs outs first hs few rows l);
      blocks-given = rw given (all-given N w xs outs first hs few rows l);
    }
