-- Demand 3: the claim about every list of calls, over the width as a letter.
use mathlib.Core.Path.{◌≡◌, refl, sym, ap, ◌∙◌}
use mathlib.Core.Bool.{Bool, true, false, cond}
use mathlib.Core.Logic.{inl, inr}
use mathlib.Core.List.{List, [], ◌∷◌, ◌++◌, map, append-nil}
use Prim.Native.Nat.{ℕ, zero, suc, ◌+◌}
use native.Mathlib.Nat.{add-zero, zero-add}
use native.Mathlib.Omega.{arith}
use lib.IntN.{ℤ}
use lib.ListN.{length, replicate, length-map, length-append, length-replicate}
use Rattle.integers.specs.Places.{tab}
use Rattle.integers.proofs.PlaceLaws.{length-tab}
use Rattle.tables.specs.Widths.{by_width}
use Rattle.tables.proofs.ByWidth.{run-width}
use Rattle.distance.specs.Exact.{root_m}
use Rattle.distance.specs.Statement.{IsWidth, promised, shown}
use Rattle.distance_theorems.proofs.Theorems.{promised-distance, shown-distance}
use Rattle.runs.specs.Calls.{Call, block, finish, is_finish, frames_given, accepted, count_after, over_after, accepted_all, over_all, kept, working, blocks_of, frame_at}
use Rattle.runs.specs.Lists.{made_from, blocks_taken, finished, EveryListOfCalls, FiveRootsAndTwo, EveryListNearer}
use Rattle.runs.proofs.EveryList.{nothing-kept, fresh-told, list-near}

-- ---- the calls that work are blocks and, last, the finish if one worked
over-stays : (N b : ℕ) (calls : List Call) → over_all N b true calls ≡ true
unfolding over_all over_after count_after
over-stays N b [] = refl
over-stays N b (block xs out ∷ calls) = over-stays N (count_after N b true (block xs out)) calls
over-stays N b (finish out ∷ calls) = over-stays N b calls

abbrev Ordered : List Call → Bool → Type 0
Ordered calls over = map is_finish calls ≡ replicate (length (blocks_of calls)) false ++ cond over (true ∷ []) []

kept-ordered : (N : ℕ) (calls : List Call) (b : ℕ) → Ordered (kept (accepted_all N b false calls) calls) (over_all N b false calls)
unfolding accepted_all kept blocks_of count_after over_after over_all is_finish
kept-ordered N [] b = refl
kept-ordered N (block xs out ∷ calls) b = by (accepted N b false (block xs out)) (kept-ordered N calls)
  where
    by : (w : Bool) → ((b : ℕ) → Ordered (kept (accepted_all N b false calls) calls) (over_all N b false calls))
        → Ordered (kept (w ∷ accepted_all N (cond w (suc b) b) false calls) (block xs out ∷ calls)) (over_all N (cond w (suc b) b) false calls)
    by true rest = ap (λ l. false ∷ l) (rest (suc b))
    by false rest = rest b
kept-ordered N (finish out ∷ calls) b = by (accepted N b false (finish out)) (kept-ordered N calls b)
  where
    by : (w : Bool) → Ordered (kept (accepted_all N b false calls) calls) (over_all N b false calls)
        → Ordered (kept (w ∷ accepted_all N b w calls) (finish out ∷ calls)) (over_all N b w calls)
    by true rest = rw (nothing-kept N b calls, over-stays N b calls)
    by false rest = rest

-- so there is one frame for each block taken and, last, one for the finish
tab-last : (f : ℕ → List ℤ) (n i : ℕ) → tab f (suc n) i ≡ tab f n i ++ f (i + n) ∷ []
unfolding tab
tab-last f zero i = ap (λ j. f j ∷ []) (sym (add-zero i))
tab-last f (suc n) i = ap (λ l. f i ∷ l) (tab-last f n (suc i) ∙ ap (λ j. tab f n (suc i) ++ f j ∷ []) (omega arith))

tab-over : (f : ℕ → List ℤ) (n : ℕ) (over : Bool) → tab f (n + cond over 1 0) 0 ≡ tab f n 0 ++ cond over (f n ∷ []) []
tab-over f n true = let e : n + 1 ≡ suc n = omega arith in rw e (tab-last f n 0 ∙ rw (zero-add))
tab-over f n false = rw (add-zero, append-nil)

length-ordered : (calls : List Call) (over : Bool) → Ordered calls over → length calls ≡ length (blocks_of calls) + cond over 1 0
length-ordered calls over e =
    sym (length-map calls is_finish) ∙ ap length e ∙ length-append (replicate (length (blocks_of calls)) false) _ ∙ rw length-replicate (ap (λ n. length (blocks_of calls) + n) (by over))
  where
    by : (o : Bool) → length (cond o (true ∷ []) []) ≡ cond o 1 0
    by true = refl
    by false = refl

-- ---- the claim
pub five-roots : FiveRootsAndTwo
unfolding root_m by_width
five-roots N (inl e) = rw e (refl, refl)
five-roots N (inr (inl e)) = rw e (refl, refl)
five-roots N (inr (inr e)) = rw e (refl, refl)

module _ (N : ℕ) (w : IsWidth N) (calls : List Call) where
  pub working-counted : length (working N calls) ≡ length (blocks_taken N calls) + cond (finished N calls) 1 0
  unfolding working blocks_taken finished
  working-counted = length-ordered (working N calls) (finished N calls) (kept-ordered N calls 0)

  pub given_counted : length (frames_given (made_from N calls)) ≡ length (working N calls)
  given_counted = rw (fresh-told N w calls).frames-are (length-tab _ _ 0)

pub every-list : EveryListOfCalls
unfolding working blocks_taken finished promised
every-list N v calls =
    let w = run-width N v in
    let t = fresh-told N w calls in
    record {
      told-alone = t.told;
      finish-last = kept-ordered N calls 0;
      refused = t.untouched;
      frames-are = t.frames-are ∙ rw (working-counted N w calls) (tab-over (frame_at N (blocks_taken N calls)) (length (blocks_taken N calls)) (finished N calls));
      near = λ i k h. list-near N w calls (by_width 12 22 42 0 N) (rw (five-roots N v).1 (promised-distance N w)) i k (omega (arith, given_counted N w calls));
    }

pub every-list-nearer : EveryListNearer
unfolding shown
every-list-nearer N v calls i k h =
    let w = run-width N v in
    list-near N w calls (by_width 7 11 20 0 N) (shown-distance N w) i k (omega (arith, given_counted N w calls))
