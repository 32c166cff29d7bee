-- What every list of calls gives from a fresh start: which calls work, the frames of those that do, and how near they are.
use mathlib.Core.Path.{◌≡◌, refl, ap}
use mathlib.Core.Bool.{Bool, true, false, cond, ◌||◌, true≢false}
use mathlib.Core.List.{List, [], ◌∷◌}
use Prim.Native.Nat.{ℕ, zero, suc, ◌<◌}
use native.Mathlib.Nat.{add-zero, zero-add}
use native.Mathlib.Numerals.{add-one}
use native.Mathlib.Omega.{arith}
use borrow.Author.Tests.{ne_eqb}
use lib.IntN.{ℤ, pos, ◌+ℤ◌}
use lib.ListN.{length, get_or, drop}
use lib.Seq.{get_or-drop, drop-drop}
use Rattle.integers.specs.Places.{tab, at}
use Rattle.integers.specs.Vectors.{sum_of}
use Rattle.integers.proofs.PlaceLaws.{at-tab}
use Rattle.tables.specs.Widths.{half_width}
use Rattle.steps.specs.Limits.{reading_limit}
use Rattle.steps.specs.Steps.{held, frame}
use Rattle.distance.specs.Statement.{IsWidth, Block, DistanceAt, coefficient, Near}
use Rattle.distance.proofs.ZeroBlock.{zero-block}
use Rattle.runs.specs.declared.record.Run.{Run}
use Rattle.runs.specs.Record.{zeros, opened, closed}
use Rattle.runs.specs.Gate.{all_yes}
use Rattle.runs.specs.Forward.{started}
use Rattle.runs.specs.Calls.{Call, block, finish, output_of, give, Made, made, works, workings, frames_given, accepted, count_after, over_after, accepted_all, kept, working, blocks_of, block_at, block_before, frame_at}
use Rattle.runs.specs.Lists.{made_from, blocks_taken, AllUntouched}
use Rattle.runs.proofs.RecordLaws.{opened-zeros, Reached, reached-first, reached-next}
use Rattle.runs.proofs.CallLaws.{Refused, accepted-below, accepted-block, taken-decided, ended-decided, closed-refused}

-- ---- which calls work, what the others leave, and the frames of those that do
pub record Told (ms : List Made) (ws : List Bool) (frames : List (List ℤ)) : Type 0 where
  pub told : workings ms ≡ ws
  pub untouched : AllUntouched ms
  pub frames-are : frames_given ms ≡ frames

told_none : (run : Run) → Told (made run []) [] []
unfolding made workings frames_given AllUntouched
told_none run = record { told = refl; untouched = tt; frames-are = refl }

module _ {ws : List Bool} {frames : List (List ℤ)} (run : Run) (c : Call) (calls : List Call) where
  told-yes : {after : Run} {f : List ℤ} → give run c ≡ ((0, 0), after, f) → Told (made after calls) ws frames → Told (made run (c ∷ calls)) (true ∷ ws) (f ∷ frames)
  unfolding made works workings frames_given AllUntouched
  told-yes {f} e t =
      rw e
      (record {
        told = ap (λ l. true ∷ l) t.told;
        untouched = (λ d. absurd (true≢false d), t.untouched);
        frames-are = ap (λ l. f ∷ l) t.frames-are;
      })

  told-no : Refused run (output_of c) (give run c) → Told (made run calls) ws frames → Told (made run (c ∷ calls)) (false ∷ ws) frames
  unfolding made works workings frames_given AllUntouched
  told-no r t = record {
    told = rw (r.numbered, r.same-record) (ap (λ l. false ∷ l) t.told);
    untouched = (λ d. record { same-record = r.same-record; same-output = r.same-output }, rw r.same-record t.untouched);
    frames-are = rw (r.numbered, r.same-record) t.frames-are;
  }

-- ---- the frames of n calls that work, where `previous` came before the blocks
frames_from : ℕ → List ℤ → List (List ℤ) → ℕ → List (List ℤ)
frames_from N previous blocks zero = []
frames_from N previous blocks (suc n) = let x = block_at N blocks 0 in frame N (held N previous) x ∷ frames_from N x (drop 1 blocks) n

frames-from : (N : ℕ) (blocks : List (List ℤ)) (n i : ℕ) → frames_from N (block_before N blocks i) (drop i blocks) n ≡ tab (frame_at N blocks) n i
unfolding frames_from tab frame_at block_at block_before
frames-from N blocks zero i = refl
frames-from N blocks (suc n) i = rw (get_or-drop i blocks 0 (zeros N), drop-drop 1 i blocks, add-zero, add-one) (ap (λ l. frame_at N blocks i ∷ l) (frames-from N blocks n (suc i)))

-- ---- after a finish that worked no call works
pub nothing-kept : (N b : ℕ) (calls : List Call) → kept (accepted_all N b true calls) calls ≡ []
unfolding kept accepted_all accepted all_yes count_after over_after
nothing-kept N b [] = refl
nothing-kept N b (block xs out ∷ calls) = nothing-kept N b calls
nothing-kept N b (finish out ∷ calls) = nothing-kept N b calls

closed-told : (N b : ℕ) (t : ℤ) (previous : List ℤ) → Reached N b t previous → (calls : List Call)
    → Told (made (closed (opened N b t (held N previous))) calls) (accepted_all N b true calls) []
unfolding accepted_all accepted all_yes count_after over_after
closed-told N b t previous r [] = told_none (closed (opened N b t (held N previous)))
closed-told N b t previous r (block xs out ∷ calls) = told-no _ _ calls (closed-refused N b t previous r (block xs out)) (closed-told N b t previous r calls)
closed-told N b t previous r (finish out ∷ calls) = told-no _ _ calls (closed-refused N b t previous r (finish out)) (closed-told N b t previous r calls)

-- ---- every list, from any open record
abbrev Follows : ℕ → List ℤ → List Made → List Bool → List Call → Type 0
Follows N previous ms ws calls = Told ms ws (frames_from N previous (blocks_of (kept ws calls)) (length (kept ws calls)))

abbrev FromOpen : ℕ → List Call → Type 0
FromOpen N calls =
    (b : ℕ) (t : ℤ) (previous : List ℤ) → Reached N b t previous → Follows N previous (made (opened N b t (held N previous)) calls) (accepted_all N b false calls) calls

module _ (N : ℕ) (calls : List Call) (rest : FromOpen N calls) where
  block-told : (xs out : List ℤ) → FromOpen N (block xs out ∷ calls)
  unfolding accepted_all kept blocks_of frames_from block_at count_after over_after give output_of
  block-told xs out b t previous r = by (accepted N b false (block xs out)) refl
    where
      by : (w : Bool) → accepted N b false (block xs out) ≡ w
          → Follows N previous (made (opened N b t (held N previous)) (block xs out ∷ calls)) (w ∷ accepted_all N (cond w (suc b) b) false calls) (block xs out ∷ calls)
      by true e =
          let r' = reached-next N b t previous xs r (accepted-below N b false xs out e) (accepted-block N b false xs out e) in
          told-yes _ (block xs out) calls ((taken-decided N b t previous r xs out).when-yes e) (rest (suc b) (t +ℤ sum_of xs) xs r')
      by false e = told-no _ (block xs out) calls ((taken-decided N b t previous r xs out).when-no e) (rest b t previous r)

  finish-told : (out : List ℤ) → FromOpen N (finish out ∷ calls)
  unfolding accepted_all kept blocks_of frames_from block_at count_after over_after give output_of
  finish-told out b t previous r = by (accepted N b false (finish out)) refl
    where
      by : (w : Bool) → accepted N b false (finish out) ≡ w
          → Follows N previous (made (opened N b t (held N previous)) (finish out ∷ calls)) (w ∷ accepted_all N b w calls) (finish out ∷ calls)
      by true e = rw (nothing-kept N b calls) (told-yes _ (finish out) calls ((ended-decided N b t previous r out).when-yes e) (closed-told N b t previous r calls))
      by false e = told-no _ (finish out) calls ((ended-decided N b t previous r out).when-no e) (rest b t previous r)

opened-told : (N : ℕ) (calls : List Call) → FromOpen N calls
unfolding accepted_all kept blocks_of frames_from
opened-told N [] = λ b t previous r. told_none (opened N b t (held N previous))
opened-told N (block xs out ∷ calls) = block-told N calls (opened-told N calls) xs out
opened-told N (finish out ∷ calls) = finish-told N calls (opened-told N calls) out

-- ---- the blocks taken are blocks of readings in range, and a frame of such blocks is near the exact one
abbrev pub AllBlocks : ℕ → List (List ℤ) → Type 0
AllBlocks N blocks = (i : ℕ) → Block N reading_limit (block_at N blocks i)

pub blocks-none : (N : ℕ) → AllBlocks N []
unfolding block_at
blocks-none N i = zero-block N reading_limit

pub blocks-one : (N : ℕ) (x : List ℤ) (blocks : List (List ℤ)) → Block N reading_limit x → AllBlocks N blocks → AllBlocks N (x ∷ blocks)
unfolding block_at
blocks-one N x blocks h hs zero = h
blocks-one N x blocks h hs (suc i) = hs i

pub blocks-kept : (N : ℕ) (calls : List Call) (b : ℕ) (over : Bool) → AllBlocks N (blocks_of (kept (accepted_all N b over calls) calls))
unfolding accepted_all kept blocks_of count_after over_after
blocks-kept N [] b over = blocks-none N
blocks-kept N (block xs out ∷ calls) b over = by (accepted N b over (block xs out)) refl (blocks-kept N calls _ over)
  where
    by : (w : Bool) → accepted N b over (block xs out) ≡ w → AllBlocks N (blocks_of (kept (accepted_all N (cond w (suc b) b) over calls) calls))
        → AllBlocks N (blocks_of (kept (w ∷ accepted_all N (cond w (suc b) b) over calls) (block xs out ∷ calls)))
    by true e rest = blocks-one N xs _ (accepted-block N b over xs out e) rest
    by false e rest = rest
blocks-kept N (finish out ∷ calls) b over = by (accepted N b over (finish out)) (blocks-kept N calls b _)
  where
    by : (w : Bool) → AllBlocks N (blocks_of (kept (accepted_all N b (over || w) calls) calls)) → AllBlocks N (blocks_of (kept (w ∷ accepted_all N b (over || w) calls) (finish out ∷ calls)))
    by true rest = rest
    by false rest = rest

module _ (N : ℕ) (blocks : List (List ℤ)) (readings : AllBlocks N blocks) where
  block-before : (i : ℕ) → Block N reading_limit (block_before N blocks i)
  unfolding block_before
  block-before zero = zero-block N reading_limit
  block-before (suc i) = readings i

  frame-near : (d : ℕ) → DistanceAt N reading_limit d → (i k : ℕ) → k < N → Near d N (block_before N blocks i) (block_at N blocks i) k (at (frame_at N blocks i) k)
  unfolding coefficient frame_at
  frame-near d near i k h = near (block_before N blocks i) (block_at N blocks i) (block-before i) (readings i) k h

-- ---- from a fresh start
pub started-open : (N : ℕ) → IsWidth N → (started N).1 ≡ opened N 0 (pos 0) (held N (zeros N))
unfolding started
started-open N w = rw (ne_eqb (half_width N) 0 (λ e. omega arith)) (opened-zeros N)

pub fresh-told : (N : ℕ) → IsWidth N → (calls : List Call)
    → Told (made_from N calls) (accepted_all N 0 false calls) (tab (frame_at N (blocks_taken N calls)) (length (working N calls)) 0)
unfolding made_from blocks_taken working block_before
fresh-told N w calls = rw (started-open N w, ← frames-from N (blocks_taken N calls) (length (working N calls)) 0) (opened-told N calls 0 (pos 0) (zeros N) (reached-first N w))

module _ (N : ℕ) (w : IsWidth N) (calls : List Call) where
  pub list-near : (d : ℕ) → DistanceAt N reading_limit d → (i k : ℕ) → i < length (working N calls) → k < N
      → Near d N (block_before N (blocks_taken N calls) i) (block_at N (blocks_taken N calls) i) k (at (get_or (frames_given (made_from N calls)) i []) k)
  unfolding blocks_taken working
  list-near d near i k h l =
      rw ((fresh-told N w calls).frames-are, at-tab (frame_at N (blocks_taken N calls)) (length (working N calls)) 0 i [] h, zero-add)
      (frame-near N (blocks_taken N calls) (blocks-kept N calls 0 false) d near i k l)
