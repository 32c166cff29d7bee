-- Frames taken back one by one, each with an output of its own, that are all taken, with the finish: the blocks given made them.
use mathlib.Core.Path.{◌≡◌, refl, sym, ap, ap₂, ◌∙◌}
use mathlib.Core.List.{List, [], ◌∷◌}
use Prim.Native.Nat.{ℕ, suc, ◌+◌, ◌≤◌}
use native.Mathlib.Omega.{arith}
use lib.IntN.{ℤ, pos, ◌+ℤ◌, +ℤ_assoc, +ℤ_idl, +ℤ_idr}
use lib.ListN.{length, get_or}
use Rattle.integers.specs.Vectors.{sum_of, total_of}
use Rattle.steps.specs.Steps.{lower, held, frame, unfolded}
use Rattle.steps.proofs.Lengths.{width-half}
use Rattle.steps.proofs.Undo.{lower-unfolded, held-unfolded}
use Rattle.steps.proofs.ZeroBlock.{lower-zeros, held-zeros}
use Rattle.tables.specs.Widths.{half_width}
use Rattle.distance.specs.Statement.{IsWidth}
use Rattle.runs.specs.Answers.{told}
use Rattle.runs.specs.Record.{block_limit, frame_limit, zeros, opened, closed}
use Rattle.runs.specs.Gate.{CallResult}
use Rattle.runs.specs.Forward.{started}
use Rattle.runs.specs.Calls.{block_at}
use Rattle.runs.specs.CallsReturn.{answers_back, outputs_back, AllTaken}
use Rattle.runs.specs.Back.{ended_back}
use Rattle.runs.specs.Totals.{record_back}
use Rattle.runs.proofs.EveryList.{AllBlocks, blocks-none, blocks-one}
use Rattle.runs.proofs.BackLaws.{started-back, ReachedBack, back-first, back-sound, low_half, high_half}
use Rattle.runs.proofs.EndLaws.{end-empty-refused}
use Rattle.runs.proofs.MadeFrames.{frames_after, all_frames}
use Rattle.runs.proofs.AcceptedLaws.{high-long, halves-frame, taken-admitted, first-accepted, later-accepted, ended-accepted, ended-closed}

-- ---- the frames behind the first, and the finish
pub record AcceptedFrom (N k : ℕ) (t : ℤ) (low : List ℤ) (frames outs : List (List ℤ)) : Type 0 where
  pub xs : List (List ℤ)
  pub blocks : AllBlocks N xs
  pub counted : suc k + length xs ≤ frame_limit
  pub lower-is : lower N (block_at N xs 0) ≡ low
  pub frames-are : frames_after N xs ≡ frames
  pub outputs-are : outputs_back (opened N (suc k) t low) frames outs ≡ xs
  pub total-is : (record_back (opened N (suc k) t low) frames outs).total ≡ t +ℤ total_of xs

pub accepted-from : (N k : ℕ) (t : ℤ) (low : List ℤ) (frames outs : List (List ℤ)) → ReachedBack N (suc k) t low → length outs ≡ length frames
    → AllTaken (answers_back (opened N (suc k) t low) frames outs) → AcceptedFrom N k t low frames outs
unfolding frames_after block_at answers_back outputs_back AllTaken record_back opened closed total_of
accepted-from N k t low [] outs r l z = record {
  xs = [];
  blocks = blocks-none N;
  counted = omega (arith, r.counted);
  lower-is = lower-zeros N N ∙ sym (ended-accepted N k t low r z.0);
  frames-are = refl;
  outputs-are = refl;
  total-is = ap (λ (g : CallResult). g.1.total) (ended-closed N k t low r z.0) ∙ sym (+ℤ_idr t);
}
accepted-from N k t low (c ∷ frames) [] r l z = absurd (omega arith)
accepted-from N k t low (c ∷ frames) (out ∷ outs) r l z =
    let s = taken-admitted N (suc k) t low r c out z.0 in
    let a = later-accepted N k t low r c out s.long s.room s.below z.0 in
    let x = unfolded N low (high_half N c) in
    let rest = accepted-from N (suc k) (t +ℤ sum_of x) (low_half N c) frames outs a.reached (omega arith) (rw a.given at z.1) in
    let half = width-half N r.wide in
    let same : frame N (held N x) (block_at N rest.xs 0) ≡ c =
    halves-frame N r.wide c x (block_at N rest.xs 0) s.long (sym (held-unfolded N half low (high_half N c) (high-long N r.wide c))) (sym rest.lower-is) in
    record {
      xs = x ∷ rest.xs;
      blocks = blocks-one N x rest.xs a.readings rest.blocks;
      counted = omega (arith, rest.counted);
      lower-is = lower-unfolded N half low (high_half N c) r.long;
      frames-are = ap₂ (λ (f : List ℤ) (g : List (List ℤ)). f ∷ g) same rest.frames-are;
      outputs-are = rw a.given (ap (λ (ys : List (List ℤ)). x ∷ ys) rest.outputs-are);
      total-is = ap (λ (g : CallResult). (record_back g.1 frames outs).total) a.given ∙ rest.total-is ∙ +ℤ_assoc t (sum_of x) (total_of rest.xs);
    }

-- ---- and with the first, from a fresh start
pub record MadeBy (N : ℕ) (frames outs : List (List ℤ)) : Type 0 where
  pub xs : List (List ℤ)
  pub blocks : AllBlocks N xs
  pub few : length xs ≤ block_limit
  pub frames-are : all_frames N xs ≡ frames
  pub outputs-are : outputs_back (started N).1 frames outs ≡ get_or outs 0 [] ∷ xs
  pub total-is : (record_back (started N).1 frames outs).total ≡ total_of xs

module _ (N : ℕ) (w : IsWidth N) where
  abbrev fresh : List ℤ
  fresh = zeros (half_width N)

  -- question 5: a finish without a frame is refused
  empty-refused : (ended_back (opened N 0 (pos 0) fresh)).0.0 ≡ 0 → ⊥
  unfolding told opened
  empty-refused e =
      let r = end-empty-refused (opened N 0 (pos 0) fresh) (back-sound N 0 (pos 0) fresh (back-first N w)) refl refl in
      let z : ◌≡◌ {A = ℕ} 5 0 = ap (λ (g : CallResult). g.0.0) r ∙ e in
      omega arith

  by_first : (c out : List ℤ) (frames outs : List (List ℤ)) → length outs ≡ length frames
      → AllTaken (answers_back (opened N 0 (pos 0) fresh) (c ∷ frames) (out ∷ outs)) → MadeBy N (c ∷ frames) (out ∷ outs)
  unfolding answers_back outputs_back AllTaken record_back
  by_first c out frames outs l z =
      let s = taken-admitted N 0 (pos 0) fresh (back-first N w) c out z.0 in
      let a = first-accepted N w c out s.long s.room z.0 in
      let r = accepted-from N 0 (pos 0) (low_half N c) frames outs a.reached l (rw a.given at z.1) in
      let same : frame N (held N (zeros N)) (block_at N r.xs 0) ≡ c =
      halves-frame N w c (zeros N) (block_at N r.xs 0) s.long (a.upper ∙ sym (held-zeros N N)) (sym r.lower-is) in
      record {
        xs = r.xs;
        blocks = r.blocks;
        few = omega (arith, r.counted);
        frames-are = ap₂ (λ (f : List ℤ) (g : List (List ℤ)). f ∷ g) same r.frames-are;
        outputs-are = rw (started-back N w, a.given) (ap (λ (ys : List (List ℤ)). out ∷ ys) r.outputs-are);
        total-is = rw (started-back N w) (ap (λ (g : CallResult). (record_back g.1 frames outs).total) a.given ∙ r.total-is ∙ +ℤ_idl (total_of r.xs));
      }

  pub made_by : (frames outs : List (List ℤ)) → length outs ≡ length frames → AllTaken (answers_back (started N).1 frames outs) → MadeBy N frames outs
  unfolding answers_back AllTaken
  made_by [] outs l z = absurd (empty-refused (rw (started-back N w) at z).0)
  made_by (c ∷ frames) [] l z = absurd (omega arith)
  made_by (c ∷ frames) (out ∷ outs) l z = by_first c out frames outs (omega arith) (rw (started-back N w) at z)
