-- A whole run back: the frames of blocks go back to these, and frames that are accepted are those of the blocks given.
use mathlib.Core.Path.{◌≡◌, refl, sym, ap, ap₂, ◌∙◌}
use mathlib.Core.Bool.{Bool, true, false, cond, ◌&&◌, and-eq-true_iff}
use mathlib.Core.List.{List, ◌∷◌, ◌++◌}
use Prim.Native.Nat.{ℕ, suc, ◌+◌, ◌-◌, ◌*◌, ◌/◌, ◌%◌, ◌≤◌, ◌<◌}
use native.Mathlib.Nat.{div-add-mod', mul-div_cancel}
use native.Mathlib.Omega.{arith}
use borrow.Author.Tests.{ltb-true, leb-true, eqb-true, ne_eqb}
use lib.Dec.{eqb, ltb, leb}
use lib.IntN.{ℤ, pos}
use lib.ListN.{length, drop, length-replicate}
use lib.Seq.{take_at, drop_at}
use Rattle.integers.specs.Vectors.{Rows}
use Rattle.integers.specs.Places.{tab}
use Rattle.integers.proofs.PlaceLaws.{length-tab}
use Rattle.tables.specs.Widths.{half_width}
use Rattle.distance.specs.Statement.{IsWidth}
use Rattle.runs.specs.Record.{block_limit, frame_limit, zeros}
use Rattle.runs.specs.Forward.{started}
use Rattle.runs.specs.Calls.{frame_at}
use Rattle.runs.specs.Whole.{parts_of, joined}
use Rattle.runs.specs.CallsReturn.{answers_back, outputs_back, AllTaken}
use Rattle.runs.proofs.EveryList.{AllBlocks}
use Rattle.runs.proofs.RecordLaws.{width-pos}
use Rattle.runs.proofs.WholeLaws.{frames-long, whole-blocks, some-blocks}
use Rattle.runs.specs.WholeBack.{all_outputs, first_answer, back_one_by_one, whole_back}
use Rattle.runs.proofs.WholeBackLaws.{first-zero, lengths-passed, whole-done}
use Rattle.runs.proofs.MadeFrames.{all_frames, all-frames}
use Rattle.runs.proofs.Parts.{length-joined, parts-joined, length-parts, rows-parts, joined-parts}
use Rattle.runs.proofs.CallsBack.{all-taken, all-given}
use Rattle.runs.proofs.TakenBack.{made_by}
use Rattle.runs.proofs.FrameByFrame.{taken-parts, parts-taken, outputs-parts}

-- ---- n times N numbers
module _ (N n : ℕ) (w : IsWidth N) (xs : List ℤ) (l : length xs ≡ n * N) where
  pub parts-counted : length xs / N ≡ n
  parts-counted = rw l (mul-div_cancel n (width-pos N w))

  pub none_over : length xs % N ≡ 0
  none_over = let e = rw parts-counted at (div-add-mod' (length xs) N) in omega arith

-- ---- an output behind the N zeros of the first frame's
module _ (N n : ℕ) where
  zeros-parts : (out : List ℤ) → parts_of N (suc n) (zeros N ++ out) ≡ zeros N ∷ parts_of N n out
  unfolding parts_of
  zeros-parts out = rw (take_at (zeros N) out N (length-replicate N (pos 0)), drop_at (zeros N) out N (length-replicate N (pos 0)))

  module _ (frames out : List ℤ) (count : length frames / N ≡ suc n) where
    all-behind : (xs : List (List ℤ)) → outputs_back (started N).1 (parts_of N (suc n) frames) (zeros N ∷ parts_of N n out) ≡ zeros N ∷ xs → drop N (all_outputs N frames out) ≡ joined xs
    unfolding all_outputs joined
    all-behind xs e =
        rw count (ap (drop N) (outputs-parts N (suc n) (started N).1 frames (zeros N ++ out) ∙ rw (zeros-parts out, e)) ∙ drop_at (zeros N) (joined xs) N (length-replicate N (pos 0)))

    none-refused : AllTaken (answers_back (started N).1 (parts_of N (suc n) frames) (zeros N ∷ parts_of N n out)) → (first_answer N frames out).0 ≡ 0
    unfolding first_answer
    none-refused z = rw count (parts-taken N (suc n) 0 (started N).1 frames (zeros N ++ out) (rw (zeros-parts out) z))

    each-taken : (first_answer N frames out).0 ≡ 0 → AllTaken (answers_back (started N).1 (parts_of N (suc n) frames) (zeros N ∷ parts_of N n out))
    unfolding first_answer
    each-taken e = rw (zeros-parts out) at (taken-parts N (suc n) 0 (started N).1 frames (zeros N ++ out) (rw count at e))

-- ---- the frames of blocks
module _ (N : ℕ) (w : IsWidth N) (xs : List (List ℤ)) (hs : AllBlocks N xs) where
  abbrev frames : List ℤ
  frames = joined (all_frames N xs)

  pub frames-length : length frames ≡ suc (length xs) * N
  frames-length =
      rw (← all-frames N xs) (length-joined N (tab (frame_at N xs) (suc (length xs)) 0) (frames-long N w xs (suc (length xs))))
      ∙ ap (λ n. n * N) (length-tab (frame_at N xs) (suc (length xs)) 0)

  -- their parts are the frames, and those of an output behind N zeros
  frames-parts : parts_of N (suc (length xs)) frames ≡ all_frames N xs
  frames-parts =
      let fs = tab (frame_at N xs) (suc (length xs)) 0 in
      rw (← all-frames N xs) (rw (length-tab (frame_at N xs) (suc (length xs)) 0) at (parts-joined N fs (frames-long N w xs (suc (length xs)))))

  pub made-whole : (out : List ℤ) → length xs ≤ block_limit → length out ≡ length xs * N → whole_back N frames out ≡ ((0, 0), joined xs)
  made-whole out few l =
      let n = length xs in
      let count = parts-counted N (suc n) w frames frames-length in
      let outs = parts_of N n out in
      let rows : Rows N (zeros N ∷ outs) = (length-replicate N (pos 0), rows-parts N n out l) in
      let many = length-parts N n out in
      let a : (first_answer N frames out).0 ≡ 0 = none-refused N n frames out count (rw frames-parts (all-taken N w xs outs (zeros N) hs few rows many)) in
      let o : drop N (all_outputs N frames out) ≡ joined xs = all-behind N n frames out count xs (rw frames-parts (all-given N w xs outs (zeros N) hs few rows many)) in
      let some : 0 < length frames = omega (arith, frames-length, width-pos N w) in
      sym (whole-done N frames out (λ e. omega arith) (none_over N (suc n) w frames frames-length) (omega (arith, count)) some (omega (arith, frames-length)) a)
      ∙ ap₂ (λ (p : ℕ × ℕ) (ys : List ℤ). (p, ys)) (first-zero N frames out a) o

-- ---- frames that are accepted: the lengths are right,
pub record LengthsRight (N : ℕ) (frames out : List ℤ) : Type 0 where
  pub even : length frames % N ≡ 0
  pub few : length frames / N ≤ frame_limit
  pub some : 0 < length frames
  pub room : length out + N ≡ length frames

-- as questions 6 and 7 ask, forward and back
pub lengths-asked : (t u : Bool) (out : List ℤ) (good : (ℕ × ℕ) × List ℤ) → (cond t (cond u good ((7, 0), out)) ((6, 0), out)).0 ≡ (0, 0) → (t ≡ true) × (u ≡ true)
lengths-asked true true out good e = (refl, refl)
lengths-asked true false out good e = let z : ◌≡◌ {A = ℕ} 7 0 = ap (λ (p : ℕ × ℕ). p.0) e in absurd (omega arith)
lengths-asked false u out good e = let z : ◌≡◌ {A = ℕ} 6 0 = ap (λ (p : ℕ × ℕ). p.0) e in absurd (omega arith)

module _ (N : ℕ) (w : IsWidth N) (frames out : List ℤ) (yes : (whole_back N frames out).0 ≡ (0, 0)) where
  lengths-right : LengthsRight N frames out
  unfolding whole_back
  lengths-right =
      let e = eqb (length frames % N) 0 in
      let f = leb (length frames / N) frame_limit in
      let g = ltb 0 (length frames) in
      let p = lengths-asked (e && f && g) (eqb (length out + N) (length frames)) out (back_one_by_one N frames out) (rw (ne_eqb (half_width N) 0 (λ z. omega arith)) at yes) in
      let q = (and-eq-true_iff (e && f) g).0 p.0 in
      let r = (and-eq-true_iff e f).0 q.0 in
      record { even = eqb-true _ _ r.0; few = leb-true _ _ r.1; some = ltb-true _ _ q.1; room = eqb-true _ _ p.1 }

-- and the blocks given make them
pub record MadeOf (N : ℕ) (frames out : List ℤ) : Type 0 where
  pub xs : List (List ℤ)
  pub blocks : AllBlocks N xs
  pub few : length xs ≤ block_limit
  pub frames-are : frames ≡ joined (all_frames N xs)
  pub given : (whole_back N frames out).1 ≡ joined xs

module _ (N : ℕ) (w : IsWidth N) (frames out : List ℤ) (right : LengthsRight N frames out) (yes : (first_answer N frames out).0 ≡ 0) where
  outputs-given : (whole_back N frames out).1 ≡ drop N (all_outputs N frames out)
  outputs-given = sym (ap (λ (g : (ℕ × ℕ) × List ℤ). g.1) (whole-done N frames out (λ e. omega arith) right.even right.few right.some right.room yes))

  by_parts : (n : ℕ) → length frames ≡ suc n * N → MadeOf N frames out
  by_parts n l =
      let count = parts-counted N (suc n) w frames l in
      let outs = parts_of N n out in
      let m = made_by N w (parts_of N (suc n) frames) (zeros N ∷ outs) (omega (arith, length-parts N (suc n) frames, length-parts N n out)) (each-taken N n frames out count yes) in
      record {
        xs = m.xs;
        blocks = m.blocks;
        few = m.few;
        frames-are = sym (joined-parts N (suc n) frames l) ∙ ap joined (sym m.frames-are);
        given = outputs-given ∙ all-behind N n frames out count m.xs m.outputs-are;
      }

  pub made_of : MadeOf N frames out
  made_of =
      let whole = whole-blocks N frames right.even in
      let d : length frames / N ≡ suc (length frames / N - 1) = omega (arith, some-blocks N frames whole right.some) in
      by_parts (length frames / N - 1) (rw d at whole)

pub accepted-whole : (N : ℕ) → IsWidth N → (frames out : List ℤ) → (whole_back N frames out).0 ≡ (0, 0) → MadeOf N frames out
unfolding back_one_by_one
accepted-whole N w frames out e =
    let right = lengths-right N w frames out e in
    let same = lengths-passed N frames out (λ z. omega arith) right.even right.few right.some right.room in
    made_of N w frames out right (ap (λ (g : (ℕ × ℕ) × List ℤ). g.0.0) same ∙ ap (λ (p : ℕ × ℕ). p.0) e)
