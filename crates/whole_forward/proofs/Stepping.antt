-- A whole run forward whose blocks are stepped one by one: what holds between two of them, from one to the next, and at the end.
use mathlib.Core.Path.{◌≡◌, sym, ap, subst, subst₂, ◌∙◌}
use mathlib.Core.Bool.{true, false}
use mathlib.Core.List.{List, ◌++◌}
use Prim.Native.Nat.{ℕ, suc, ◌+◌, ◌-◌, ◌*◌, ◌/◌, ◌≤◌, ◌<◌}
use native.Mathlib.Omega.{arith}
use borrow.Author.Tests.{eq-eqb}
use borrow.Rule.Slice.PartMut.{put_mid}
use lib.IntN.{ℤ, pos, ◌+ℤ◌}
use lib.ListN.{length, take, drop, length-drop}
use Rattle.integers.specs.Places.{Within}
use Rattle.integers.specs.Vectors.{sum_of}
use Rattle.integers.proofs.PlaceLaws.{within_all}
use Rattle.tables.specs.Widths.{half_width}
use Rattle.steps.specs.Limits.{reading_limit, folded_limit}
use Rattle.steps.specs.Steps.{held, frame}
use Rattle.steps.proofs.Rotation.{held-gate}
use Rattle.steps.proofs.ZeroBlock.{held-zeros}
use Rattle.runs.specs.declared.record.Run.{Run}
use Rattle.std.specs.Prelude.{Ok}
use Rattle.runs.specs.Record.{block_limit, zeros, opened, closed}
use Rattle.runs.specs.Gate.{CallResult, all_yes}
use Rattle.gate.specs.Own.Faults.{fault_of, first_fault}
use Rattle.runs.specs.Forward.{started, taken}
use Rattle.runs.specs.Calls.{block, finish, made, accepted}
use Rattle.runs.specs.Whole.{calls_of, outputs}
use Rattle.gate.specs.Own.Ready.{WholeBlocks}
use Rattle.runs.proofs.RecordLaws.{length-frame, Reached, reached-first, reached-next}
use Rattle.gate.proofs.ReadyLaws.{none-held}
use Rattle.runs.proofs.CallLaws.{accepted-block, taken-decided, ended-decided}
use Rattle.gate.proofs.BlockLaws.{clear_within}
use Rattle.gate.proofs.FaultLaws.{block_in, no_block, block-long, both-clear}
use Rattle.gate.proofs.PartLaws.{written, frames-next, frames-end}
use Rattle.whole_forward.proofs.FirstRefusal.{clear-accepted}
use Rattle.runs.proofs.EveryList.{started-open}

-- `kept` has what the last of `count` blocks holds, the blocks left have no fault, and what is written is what all calls give up to there
pub record Stepping (N half place left : ℕ) (readings out frames kept : List ℤ) : Type 0 where
  pub count : ℕ
  pub total : ℤ
  pub previous : List ℤ
  pub reached : Reached N count total previous
  pub kept-is : take half kept ≡ held N previous
  pub few : count + left ≤ block_limit
  pub clear : first_fault N place left (drop place readings) ≡ Ok tt
  pub so_far : outputs (made (started N).1 (calls_of N (length readings / N) readings out)) ≡ take place frames ++ outputs (made (opened N count total (held N previous)) (calls_of N left (drop place readings) (drop place frames)))

pub stepping-first : (N half : ℕ) (readings out kept : List ℤ) → half ≡ half_width N → WholeBlocks N readings → first_fault N 0 (length readings / N) readings ≡ Ok tt → kept ≡ zeros 64
    → Stepping N half 0 (length readings / N) readings out out kept
stepping-first N half readings out kept h b c k = record {
  count = 0;
  total = pos 0;
  previous = zeros N;
  reached = reached-first N b.wide;
  kept-is = none-held N half kept h k ∙ sym (held-zeros N N);
  few = omega (arith, b.some);
  clear = c;
  so_far = ap (λ (r : Run). outputs (made r (calls_of N (length readings / N) readings out))) (started-open N b.wide);
}

module _ (N half place left : ℕ) (readings out frames kept : List ℤ) (g : Stepping N half place left readings out frames kept) where
  abbrev run : Run
  run = opened N g.count g.total (held N g.previous)

  pub kept-within : Within folded_limit (take half kept)
  kept-within = subst (Within folded_limit) (sym g.kept-is) (within_all folded_limit _ (held-gate N g.previous g.reached.readings.within))

  frame_same : (xs ys : List ℤ) → ys ≡ frame N (take half kept) xs → ys ≡ frame N (held N g.previous) xs
  frame_same xs ys e = e ∙ ap (λ (k : List ℤ). frame N k xs) g.kept-is

  -- a block is left
  module _ (h : 0 < left) (whole : place + left * N ≡ length readings) (room : length frames ≡ length readings + N) where
    abbrev next : List ℤ
    next = take N (drop place readings)

    next-clear : fault_of next ≡ Ok tt
    next-clear = (both-clear N place left readings h g.clear).0

    pub next-within : Within reading_limit next
    next-within = clear_within next next-clear

    in-readings : place + N ≤ length readings
    in-readings = block_in place left N (length readings) whole h

    in-frames : place + N ≤ length frames
    in-frames = omega (arith, in-readings, room)

    next-accepted : accepted N g.count false (block next (take N (drop place frames))) ≡ true
    next-accepted =
        clear-accepted N g.count g.total g.previous g.reached next (take N (drop place frames)) (block-long place N readings in-readings) (block-long place N frames in-frames) (omega (arith, g.few)) next-clear

    next-taken : (ys : List ℤ) → ys ≡ frame N (take half kept) next → ◌≡◌ {A = CallResult} ((0, 0), opened N (suc g.count) (g.total +ℤ sum_of next) (held N next), ys) (taken run next (take N (drop place frames)))
    next-taken ys e =
        ap (λ (f : List ℤ). ((0, 0), opened N (suc g.count) (g.total +ℤ sum_of next) (held N next), f)) (frame_same next ys e)
        ∙ sym ((taken-decided N g.count g.total g.previous g.reached next (take N (drop place frames))).when-yes next-accepted)

    pub stepping-next : (ys after : List ℤ) → ys ≡ frame N (take half kept) next → take half after ≡ held N next → Stepping N half (place + N) (left - 1) readings out (written place N frames ys) after
    stepping-next ys after e k = record {
      count = suc g.count;
      total = g.total +ℤ sum_of next;
      previous = next;
      reached = reached-next N g.count g.total g.previous next g.reached (omega (arith, g.few)) (accepted-block N g.count false next (take N (drop place frames)) next-accepted);
      kept-is = k;
      few = omega (arith, g.few);
      clear = (both-clear N place left readings h g.clear).1;
      so_far =
          g.so_far
          ∙ frames-next N place left run _ (0, 0) readings frames ys h in-frames (ap length (frame_same next ys e) ∙ length-frame N (held N g.previous) next g.reached.wide) (next-taken ys e);
    }

  -- no block is left
  module _ (z : left ≡ 0) (whole : place + left * N ≡ length readings) (room : length frames ≡ length readings + N) where
    last-long : length (drop place frames) ≡ N
    last-long = omega (arith, no_block place left N (length readings) whole z, room, length-drop place frames)

    end-accepted : accepted N g.count false (finish (drop place frames)) ≡ true
    unfolding accepted all_yes
    end-accepted = rw (eq-eqb (length (drop place frames)) N last-long)

    pub stepping-end : (ys : List ℤ) → ys ≡ frame N (take half kept) (zeros N)
        → put_mid place (length frames - place) frames ys ≡ outputs (made (started N).1 (calls_of N (length readings / N) readings out))
    stepping-end ys e =
        frames-end N place left run _ (0, 0) readings frames ys z (omega (arith, no_block place left N (length readings) whole z, room))
        (ap (λ (f : List ℤ). ((0, 0), closed run, f)) (frame_same (zeros N) ys e) ∙ sym ((ended-decided N g.count g.total g.previous g.reached (drop place frames)).when-yes end-accepted))
        ∙ sym g.so_far

pub stepping-at : {N half place left place₂ left₂ : ℕ} {readings out frames kept : List ℤ} → place ≡ place₂ → left ≡ left₂ → Stepping N half place left readings out frames kept
    → Stepping N half place₂ left₂ readings out frames kept
stepping-at {N} {half} {readings = readings} {out} {frames} {kept} e d g = subst₂ (λ (p l : ℕ). Stepping N half p l readings out frames kept) e d g
