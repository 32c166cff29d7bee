-- A whole run back whose blocks are given one by one: what holds between two frames, from one to the next, and at the end.
use mathlib.Core.Path.{◌≡◌, refl, sym, ap, subst, subst₂, ◌∙◌}
use mathlib.Core.List.{List, ◌++◌, append_assoc, append-nil}
use Prim.Native.Nat.{ℕ, suc, ◌+◌, ◌-◌, ◌/◌, ◌≤◌, ◌<◌, zero-le}
use native.Mathlib.Omega.{arith}
use lib.IntN.{ℤ, pos, ◌+ℤ◌}
use lib.ListN.{length, take, drop}
use lib.Seq.{take_all, drop-drop}
use Rattle.integers.specs.Places.{Within}
use Rattle.integers.specs.Vectors.{sum_of}
use Rattle.integers.proofs.PlaceLaws.{within_all}
use Rattle.tables.specs.Widths.{half_width}
use Rattle.steps.specs.Limits.{folded_limit}
use Rattle.steps.specs.Steps.{unfolded}
use Rattle.runs.specs.declared.record.Run.{Run}
use Rattle.runs.specs.Record.{block_limit, opened}
use Rattle.runs.specs.WholeBack.{answer_from, outputs_from}
use Rattle.runs.proofs.Searches.{all-within}
use Rattle.runs.proofs.BackLaws.{ReachedBack, low_half, high_half}
use Rattle.runs.proofs.AcceptedLaws.{LaterAccepted, later-accepted}
use Rattle.runs.proofs.OneByOne.{answer-next, outputs-next, here-taken}
use Rattle.gate.specs.Own.Ready.{WholeBlocks}
use Rattle.gate.proofs.FaultLaws.{block-long}
use Rattle.gate.proofs.PartLaws.{written, written-front, written-rest}
use Rattle.frames.specs.Own.Unrefused.{Unrefused}

-- `low` is what the last of `count` frames behind the first holds, no call left is refused, and what is written is what all calls give up to
-- there; their record has a total, the code has none
pub record Giving (all : List ℤ) (N place left : ℕ) (frames readings low : List ℤ) : Type 0 where
  pub count : ℕ
  pub total : ℤ
  pub reached : ReachedBack N (suc count) total low
  pub few : count + left ≤ block_limit
  pub clear : (answer_from N (place + N) (opened N (suc count) total low) left (drop place frames) (drop place readings)).0 ≡ 0
  pub so_far : all ≡ take place readings ++ outputs_from N (opened N (suc count) total low) left (drop place frames) (drop place readings)

pub giving-first : (N : ℕ) (frames readings low : List ℤ) → WholeBlocks N frames → length low ≡ half_width N → Within folded_limit low
    → (answer_from N N (opened N 1 (pos 0) low) (length frames / N) frames readings).0 ≡ 0
    → Giving (outputs_from N (opened N 1 (pos 0) low) (length frames / N) frames readings) N 0 (length frames / N) frames readings low
giving-first N frames readings low b l h c = record {
  count = 0;
  total = pos 0;
  reached = record { wide = b.wide; counted = omega arith; long = l; within = all-within _ _ h; fresh = λ e. absurd (omega (arith, e)); summed = zero-le };
  few = omega (arith, b.some);
  clear = subst (λ (n : ℕ). (answer_from N n (opened N 1 (pos 0) low) (length frames / N) frames readings).0 ≡ 0) (omega arith) c;
  so_far = refl;
}

module _ {all : List ℤ} {N place left : ℕ} {frames readings low : List ℤ} (g : Giving all N place left frames readings low) where
  abbrev run : Run
  run = opened N (suc g.count) g.total low

  -- a frame is left
  module _ (h : 0 < left) (i : place + N ≤ length frames) (j : place + N ≤ length readings) where
    abbrev next : List ℤ
    next = take N (drop place frames)

    abbrev block : List ℤ
    block = unfolded N low (high_half N next)

    abbrev new : List ℤ
    new = written place N readings block

    more : left ≡ suc (left - 1)
    more = omega (arith, h)

    -- no call is refused, so this one is not
    accepted : LaterAccepted N g.count g.total low next (take N (drop place readings))
    accepted =
        later-accepted N g.count g.total low g.reached next _ (block-long place N frames i) (block-long place N readings j) (omega (arith, h, g.few))
        (here-taken N _ run (drop place frames) (drop place readings) more refl (place + N) g.clear)

    pub next-unrefused : Unrefused N low next
    next-unrefused = record { coefficients = within_all _ _ accepted.coefficients; values = within_all _ _ accepted.values; readings = within_all _ _ accepted.readings.within }

    abbrev after : Run
    after = opened N (suc (suc g.count)) (g.total +ℤ sum_of block) (low_half N next)

    same_answer : answer_from N (place + N) run left (drop place frames) (drop place readings) ≡ answer_from N (place + N + N) after (left - 1) (drop (place + N) frames) (drop (place + N) new)
    same_answer =
        answer-next N _ run (drop place frames) (drop place readings) more accepted.given (place + N) refl
        ∙ rw (drop-drop N place frames, drop-drop N place readings, written-rest place N readings block j accepted.readings.long)

    giving-block : Giving all N (place + N) (left - 1) frames new (low_half N next)
    giving-block = record {
      count = suc g.count;
      total = g.total +ℤ sum_of block;
      reached = accepted.reached;
      few = omega (arith, h, g.few);
      clear = ap (λ (x : ℕ × ℕ). x.0) (sym same_answer) ∙ g.clear;
      so_far =
          g.so_far
          ∙ ap (λ (zs : List ℤ). take place readings ++ zs) (outputs-next N (left - 1) run (drop place frames) (drop place readings) more accepted.given)
          ∙ rw (written-front place N readings block j accepted.readings.long, written-rest place N readings block j accepted.readings.long, drop-drop N place frames, drop-drop N place readings, append_assoc);
    }

    pub giving-next : (ys after : List ℤ) → ys ≡ block → after ≡ low_half N next → Giving all N (place + N) (left - 1) frames (written place N readings ys) after
    giving-next ys after e k = subst₂ (λ (w l : List ℤ). Giving all N (place + N) (left - 1) frames (written place N readings w) l) (sym e) (sym k) giving-block

  -- no frame is left
  pub giving-end : left ≡ 0 → length readings ≤ place → readings ≡ all
  unfolding outputs_from
  giving-end z h = sym (g.so_far ∙ rw (z, append-nil) (take_all place readings h))

pub giving-at : {all : List ℤ} {N place left place₂ left₂ : ℕ} {frames readings low : List ℤ} → place ≡ place₂ → left ≡ left₂ → Giving all N place left frames readings low → Giving all N place₂ left₂ frames readings low
giving-at {all} {N} {frames = frames} {readings} {low} e d g = subst₂ (λ (p l : ℕ). Giving all N p l frames readings low) e d g
