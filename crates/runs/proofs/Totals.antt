-- Request 2: the running total of every list of calls, of frames taken back, and of any record.
use mathlib.Core.Path.{◌≡◌, refl, sym, ap, ◌∙◌}
use mathlib.Core.Bool.{Bool, true, false, cond}
use mathlib.Core.List.{List, [], ◌∷◌}
use Prim.Native.Nat.{ℕ, suc, ◌+◌, ◌*◌, ◌≤◌, zero-le}
use native.Mathlib.Omega.{arith}
use lib.IntN.{ℤ, pos, nat_abs, ◌+ℤ◌, +ℤ_assoc, +ℤ_idl, +ℤ_idr}
use lib.ListN.{length, drop}
use Rattle.integers.specs.Vectors.{sum_of, total_of}
use Rattle.integers.proofs.Order.{nat_abs-+ℤ-le}
use Rattle.integers.proofs.Sums.{sum-within}
use Rattle.tables.proofs.ByWidth.{run-width}
use Rattle.steps.specs.Limits.{reading_limit}
use Rattle.steps.specs.Steps.{held}
use Rattle.runs.specs.declared.record.Run.{Run}
use Rattle.runs.specs.Record.{block_limit, zeros, opened, closed}
use Rattle.runs.specs.Gate.{CallResult}
use Rattle.runs.specs.Forward.{started}
use Rattle.runs.specs.Calls.{Call, block, finish, output_of, give, frames_given, accepted, count_after, over_after, accepted_all, kept, working, blocks_of, block_at}
use Rattle.runs.specs.Lists.{made_from, blocks_taken}
use Rattle.runs.specs.CallsReturn.{blocks_given}
use Rattle.runs.specs.Totals.{total_limit, record_after, record_back, EveryListSummed, EachReturnSummed, TotalReturned}
use Rattle.runs.proofs.RecordLaws.{width-le, Reached, reached-first, reached-next}
use Rattle.runs.proofs.CallLaws.{Refused, accepted-below, accepted-block, taken-decided, ended-decided, closed-refused}
use Rattle.runs.proofs.EveryList.{nothing-kept, started-open, AllBlocks, blocks-kept}
use Rattle.runs.proofs.ListsOfCalls.{working-counted, given_counted}
use Rattle.runs.proofs.CallsBack.{few-kept, zeros-taken, each-call-returned}
use Rattle.runs.proofs.TakenBack.{made_by}
use Rattle.runs.proofs.TotalsFit.{within-limit}

-- ---- a list of calls, from an open record on: its total grows by the blocks that work, and nothing is added behind a finish
closed-total : (N b : ℕ) (t : ℤ) (previous : List ℤ) → Reached N b t previous → (calls : List Call)
    → record_after (closed (opened N b t (held N previous))) calls ≡ closed (opened N b t (held N previous))
unfolding record_after
closed-total N b t previous r [] = refl
closed-total N b t previous r (c ∷ calls) = ap (λ (run : Run). record_after run calls) (closed-refused N b t previous r c).same-record ∙ closed-total N b t previous r calls

record Summed (N b : ℕ) (t : ℤ) (previous : List ℤ) (ws : List Bool) (calls : List Call) : Type 0 where
  total-is : (record_after (opened N b t (held N previous)) calls).total ≡ t +ℤ total_of (blocks_of (kept ws calls))

abbrev SummedFrom : ℕ → List Call → Type 0
SummedFrom N calls = (b : ℕ) (t : ℤ) (previous : List ℤ) → Reached N b t previous → Summed N b t previous (accepted_all N b false calls) calls

module _ (N : ℕ) (calls : List Call) (rest : SummedFrom N calls) where
  block-summed : (xs out : List ℤ) → SummedFrom N (block xs out ∷ calls)
  unfolding accepted_all count_after over_after record_after kept blocks_of give output_of total_of
  block-summed xs out b t previous r = by (accepted N b false (block xs out)) refl
    where
      by : (w : Bool) → accepted N b false (block xs out) ≡ w → Summed N b t previous (w ∷ accepted_all N (cond w (suc b) b) false calls) (block xs out ∷ calls)
      by true e =
          let next = reached-next N b t previous xs r (accepted-below N b false xs out e) (accepted-block N b false xs out e) in
          record {
            total-is =
                ap (λ (g : CallResult). (record_after g.1 calls).total) ((taken-decided N b t previous r xs out).when-yes e)
                ∙ (rest (suc b) (t +ℤ sum_of xs) xs next).total-is
                ∙ +ℤ_assoc t (sum_of xs) _;
          }
      by false e = record { total-is = ap (λ (run : Run). (record_after run calls).total) ((taken-decided N b t previous r xs out).when-no e).same-record ∙ (rest b t previous r).total-is }

  finish-summed : (out : List ℤ) → SummedFrom N (finish out ∷ calls)
  unfolding accepted_all count_after over_after record_after kept blocks_of give output_of total_of opened closed
  finish-summed out b t previous r = by (accepted N b false (finish out)) refl
    where
      by : (w : Bool) → accepted N b false (finish out) ≡ w → Summed N b t previous (w ∷ accepted_all N b w calls) (finish out ∷ calls)
      by true e = record {
        total-is =
            ap (λ (g : CallResult). (record_after g.1 calls).total) ((ended-decided N b t previous r out).when-yes e)
            ∙ ap (λ (run : Run). run.total) (closed-total N b t previous r calls)
            ∙ sym (+ℤ_idr t)
            ∙ ap (λ (cs : List Call). t +ℤ total_of (blocks_of cs)) (sym (nothing-kept N b calls));
      }
      by false e = record { total-is = ap (λ (run : Run). (record_after run calls).total) ((ended-decided N b t previous r out).when-no e).same-record ∙ (rest b t previous r).total-is }

summed : (N : ℕ) (calls : List Call) → SummedFrom N calls
unfolding record_after accepted_all kept blocks_of total_of opened
summed N [] = λ b t previous r. record { total-is = sym (+ℤ_idr t) }
summed N (block xs out ∷ calls) = block-summed N calls (summed N calls) xs out
summed N (finish out ∷ calls) = finish-summed N calls (summed N calls) out

-- ---- blocks in range: no more than so many readings can be
pub total-blocks : (N : ℕ) (blocks : List (List ℤ)) → AllBlocks N blocks → nat_abs (total_of blocks) ≤ length blocks * N * reading_limit
unfolding total_of block_at
total-blocks N [] h = zero-le
total-blocks N (xs ∷ blocks) h =
    let s : nat_abs (sum_of xs) ≤ N * reading_limit = rw (h 0).long at (sum-within reading_limit xs (h 0).within) in
    omega (arith, nat_abs-+ℤ-le (sum_of xs) (total_of blocks) s (total-blocks N blocks (λ i. h (suc i))))

pub every-list-summed : EveryListSummed
unfolding blocks_taken working
every-list-summed N v calls =
    let w = run-width N v in
    let exact : (record_after (started N).1 calls).total ≡ total_of (blocks_taken N calls) =
    rw (started-open N w) ((summed N calls 0 (pos 0) (zeros N) (reached-first N w)).total-is ∙ +ℤ_idl (total_of (blocks_taken N calls))) in
    let few : length (blocks_taken N calls) ≤ block_limit = omega (arith, few-kept N calls 0 false zero-le) in
    (exact, rw exact (within-limit (length (blocks_taken N calls)) N (total_of (blocks_taken N calls)) few (width-le N w) (total-blocks N (blocks_taken N calls) (blocks-kept N calls 0 false))))

-- ---- frames taken back
pub each-return-summed : EachReturnSummed
unfolding blocks_given
each-return-summed N v frames outs l z =
    let m = made_by N (run-width N v) frames outs l z in
    m.total-is ∙ ap (λ (rows : List (List ℤ)). total_of (drop 1 rows)) (sym m.outputs-are)

pub total-returned : TotalReturned
unfolding blocks_given
total-returned N v calls first outs over rows l =
    let c = each-call-returned N v calls first outs over rows l in
    let frames = frames_given (made_from N calls) in
    let w = run-width N v in
    let counted : length frames ≡ length (blocks_taken N calls) + 1 = given_counted N w calls ∙ working-counted N w calls ∙ rw over in
    let long : length (first ∷ outs) ≡ length frames = omega (arith, counted, l) in
    let given : blocks_given N frames (first ∷ outs) ≡ blocks_taken N calls = ap (drop 1) c.blocks-given in
    each-return-summed N v frames (first ∷ outs) long (rw c.all-taken (zeros-taken (suc (suc (length (blocks_taken N calls)))) 0))
    ∙ ap total_of given
    ∙ sym (every-list-summed N v calls).0
