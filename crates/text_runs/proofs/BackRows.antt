-- The rows of a text back, one after the other: the blocks of the frames are printed.
use mathlib.Core.Path.{◌≡◌, refl, sym, ap, ◌∙◌}
use mathlib.Core.Bool.{true}
use mathlib.Core.List.{List, [], ◌∷◌, ◌++◌, append_assoc}
use Prim.Native.Nat.{ℕ, suc, ◌+◌, ◌-◌, ◌≤◌}
use native.Mathlib.Omega.{arith}
use lib.Dec.{eqb-suc-zero}
use lib.IntN.{ℤ, pos, ◌+ℤ◌, +ℤ_assoc, +ℤ_idl, +ℤ_idr}
use lib.ListN.{length}
use Rattle.integers.specs.Vectors.{sum_of, total_of}
use Rattle.tables.specs.Widths.{half_width}
use Rattle.steps.specs.Limits.{reading_limit}
use Rattle.steps.specs.Steps.{lower, held, frame}
use Rattle.distance.specs.Statement.{IsWidth, Block}
use Rattle.distance.proofs.ZeroBlock.{zero-block}
use Rattle.runs.specs.declared.record.Run.{Run}
use Rattle.runs.specs.Record.{block_limit, zeros, opened}
use Rattle.runs.specs.Forward.{started}
use Rattle.runs.specs.Calls.{block_at}
use Rattle.runs.proofs.RecordLaws.{width-le, width-pos}
use Rattle.runs.proofs.EveryList.{AllBlocks}
use Rattle.runs.specs.Back.{taken_back, ended_back}
use Rattle.runs.proofs.BackLaws.{started-back, ReachedBack, back-first, back-block, back_one, frame-long, later-taken, first_taken, ended-works}
use Rattle.runs.proofs.MadeFrames.{frames_after, all_frames}
use Rattle.text_runs.specs.Decimal.{bits64}
use Rattle.text_runs.specs.Lines.{row, end_line}
use Rattle.text_runs.specs.declared.state.Way.TheVariants.{Back}
use Rattle.text_runs.specs.declared.state.Phase.TheVariants.{Between}
use Rattle.text_runs.specs.Way.{lent_output, taken_by, ended_by, row_line, last_line, shown_row, shown_last}
use Rattle.text_runs.specs.Input.{Line, printed_from}
use Rattle.text_runs.specs.Return.{row_lines}
use Rattle.text_runs.specs.EveryInput.{refusal_line}
use Rattle.text_runs.proofs.LineLaws.{lines_between}
use Rattle.text_runs.proofs.OneLine.{state, line-counted, row-printed, end-printed, end_refused}
use Rattle.text_runs.proofs.RunRows.{output-long, frame-bits, total-bits}

-- ---- what is printed for a frame: nothing for the first, and the block for a later one
pub later-shown_row : (N k : ℕ) (t : ℤ) (low block : List ℤ) → shown_row Back (opened N (suc k) t low) block ≡ row_line block
unfolding shown_row opened
later-shown_row N k t low block = rw (eqb-suc-zero k)

pub first-shown_row : (N : ℕ) (t : ℤ) (low block : List ℤ) → shown_row Back (opened N 0 t low) block ≡ []
unfolding shown_row opened
first-shown_row N t low block = refl

-- ---- behind b frames, where `low` is held and t is the total: the frame of two blocks
module _ (N b : ℕ) (t : ℤ) (low : List ℤ) (r : ReachedBack N b t low) where
  abbrev run : Run
  run = opened N b t low

  lent : length (lent_output run) ≡ N
  lent = output-long N b t low r.wide

  back-row : (p x : List ℤ) (after : Run) (block : List ℤ) (lines : List Line) → Block N reading_limit p → Block N reading_limit x
      → taken_back run (frame N (held N p) x) (lent_output run) ≡ ((0, 0), after, block)
      → printed_from (state Back Between run) ((true, row (frame N (held N p) x)) ∷ lines) ≡ shown_row Back run block ++ printed_from (state Back Between after) lines
  unfolding taken_by
  back-row p x after block lines hp hx e =
      let w = r.wide in
      let long = frame-long N w p x hp hx in
      row-printed Back run (frame N (held N p) x) after block lines (omega (arith, width-le N w)) (omega (arith, width-pos N w)) (frame-bits N w p x hp hx) e

  module _ (total : ℤ) (bits : bits64 total) (works : (ended_back run).0 ≡ (0, 0)) where
    end-given : ended_by Back run (lent_output run) ≡ ((0, 0), (ended_back run).1, lent_output run)
    unfolding ended_by
    end-given = ap (λ (a : ℕ × ℕ). (a, (ended_back run).1, lent_output run)) works

    back_end : total ≡ t → printed_from (state Back Between run) ((true, end_line b total) ∷ []) ≡ last_line (b - 1) t
    unfolding opened shown_last
    back_end same = end-printed Back run (omega (arith, r.counted)) total bits _ _ end-given same

    back-other : (total ≡ t → ⊥) → printed_from (state Back Between run) ((true, end_line b total) ∷ []) ≡ refusal_line 16 (suc (suc b)) 0
    unfolding opened
    back-other other = end_refused Back run (omega (arith, r.counted)) total bits _ _ end-given other ∙ ap (λ (line : ℕ). refusal_line 16 line 0) (line-counted b r.counted)

-- ---- the frames behind the first, where it is known what `rest` gives behind them: they hold the lower half of a block of zeros
module _ (N count : ℕ) (total : ℤ) (rest : List Line) (text : List ℕ)
    (ends : ReachedBack N (suc count) total (lower N (zeros N)) → printed_from (state Back Between (opened N (suc count) total (lower N (zeros N)))) rest ≡ text) where
  back-rows : (xs : List (List ℤ)) (k : ℕ) (t : ℤ) → AllBlocks N xs → ReachedBack N (suc k) t (lower N (block_at N xs 0)) → k + length xs ≡ count → t +ℤ total_of xs ≡ total → count ≤ block_limit
      → printed_from (state Back Between (opened N (suc k) t (lower N (block_at N xs 0)))) (lines_between (frames_after N xs) rest) ≡ row_lines xs ++ text
  unfolding lines_between row_lines frames_after block_at total_of
  back-rows [] k t hs r e s h =
      let d : k ≡ count = omega arith in
      let z : t ≡ total = sym (+ℤ_idr t) ∙ s in
      rw (d, z) (ends (rw (d, z) at r))
  back-rows (x ∷ xs) k t hs r e s h =
      let w = r.wide in
      let y = block_at N xs 0 in
      let low = lower N x in
      back-row N (suc k) t low r x y _ x _ (hs 0) (hs 1) (later-taken N w x y (hs 0) (hs 1) k t _ r (omega arith) (lent N (suc k) t low r))
      ∙ rw (later-shown_row N k t low x)
      (ap (λ (more : List ℕ). row_line x ++ more)
      (back-rows xs (suc k) (t +ℤ sum_of x) (λ i. hs (suc i)) (back-block N w x y (hs 0) (hs 1) k t r (omega arith)) (omega arith) (+ℤ_assoc t (sum_of x) (total_of xs) ∙ s) h))
      ∙ sym (append_assoc (row_line x) (row_lines xs) text)

-- and with the first, from a fresh start
module _ (N : ℕ) (w : IsWidth N) (xs : List (List ℤ)) (hs : AllBlocks N xs) (few : length xs ≤ block_limit) where
  back-started : (rest : List Line) (text : List ℕ)
      → (ReachedBack N (suc (length xs)) (total_of xs) (lower N (zeros N)) → printed_from (state Back Between (opened N (suc (length xs)) (total_of xs) (lower N (zeros N)))) rest ≡ text)
      → printed_from (state Back Between (started N).1) (lines_between (all_frames N xs) rest) ≡ row_lines xs ++ text
  unfolding lines_between
  back-started rest text ends =
      let y = block_at N xs 0 in
      let none = zeros (half_width N) in
      let r = back-first N w in
      rw (started-back N w)
      (back-row N 0 (pos 0) none r (zeros N) y _ _ _ (zero-block N reading_limit) (hs 0) (first_taken N w y (hs 0) _ (lent N 0 (pos 0) none r))
      ∙ rw (first-shown_row N (pos 0) none (lent_output (opened N 0 (pos 0) none)))
      (back-rows N (length xs) (total_of xs) rest text ends xs 0 (pos 0) hs (back_one N w y (hs 0)) (omega arith) (+ℤ_idl (total_of xs)) few))

  pub back_whole : printed_from (state Back Between (started N).1) (lines_between (all_frames N xs) ((true, end_line (suc (length xs)) (total_of xs)) ∷ []))
      ≡ row_lines xs ++ last_line (length xs) (total_of xs)
  back_whole =
      let one : suc (length xs) - 1 ≡ length xs = omega arith in
      back-started _ _ (λ r. back_end N _ (total_of xs) (lower N (zeros N)) r (total_of xs) (total-bits N w xs hs few) (ended-works N (length xs) (total_of xs) r) refl)
      ∙ ap (λ (n : ℕ). row_lines xs ++ last_line n (total_of xs)) one

  pub back-refused : (total : ℤ) → bits64 total → (total ≡ total_of xs → ⊥)
      → printed_from (state Back Between (started N).1) (lines_between (all_frames N xs) ((true, end_line (suc (length xs)) total) ∷ []))
      ≡ row_lines xs ++ refusal_line 16 (suc (suc (suc (length xs)))) 0
  back-refused total bits other =
      back-started _ _ (λ r. back-other N _ (total_of xs) (lower N (zeros N)) r total bits (ended-works N (length xs) (total_of xs) r) other)
