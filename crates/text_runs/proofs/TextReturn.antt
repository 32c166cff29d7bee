-- A text run forward gives the text of its frames, and back it gives the input again: over the width as a letter. With another total it is refused.
use mathlib.Core.Path.{◌≡◌, sym, ap, ◌∙◌}
use mathlib.Core.Bool.{true}
use mathlib.Core.List.{List, [], ◌∷◌, ◌++◌}
use Prim.Native.Nat.{ℕ, suc, ◌≤◌}
use lib.IntN.{ℤ}
use lib.ListN.{length, take}
use lib.Seq.{take-length}
use Rattle.integers.specs.Vectors.{total_of}
use Rattle.distance.specs.Statement.{IsWidth}
use Rattle.runs.specs.Record.{block_limit}
use Rattle.runs.specs.Forward.{started}
use Rattle.runs.proofs.EveryList.{AllBlocks}
use Rattle.runs.proofs.MadeFrames.{all_frames, all-frames}
use Rattle.text_runs.specs.Decimal.{decimal, bits64}
use Rattle.text_runs.specs.Lines.{line_feed, end_line}
use Rattle.text_runs.specs.declared.state.Way.{Way}
use Rattle.text_runs.specs.declared.state.Way.TheVariants.{Forward, Back}
use Rattle.text_runs.specs.declared.state.Phase.TheVariants.{Between}
use Rattle.text_runs.specs.Input.{printed_from, printed_of}
use Rattle.text_runs.specs.Return.{row_lines, text_of, frames_made, EveryTextRun}
use Rattle.text_runs.specs.EveryInput.{rows_read, rows_shown, first_lines, refusal_line, OtherTotalRefused}
use Rattle.text_runs.proofs.LineLaws.{lines_between, text-lines}
use Rattle.text_runs.proofs.TextLines.{width-first}
use Rattle.text_runs.proofs.OneLine.{state, width-printed}
use Rattle.text_runs.proofs.RunRows.{text-blocks}
use Rattle.text_runs.proofs.ForwardRows.{frames-counted, forward-whole, forward-refused}
use Rattle.text_runs.proofs.BackRows.{back_whole, back-refused}

-- the width line is printed again, and then what the rows and the end give
text-printed : (way : Way) (N : ℕ) → IsWidth N → (rows : List (List ℤ)) (total : ℤ) (shown : List (List ℤ)) (last : List ℕ)
    → printed_from (state way Between (started N).1) (lines_between rows ((true, end_line (length rows) total) ∷ [])) ≡ row_lines shown ++ last
    → printed_of way (text_of N rows total) ≡ (decimal N ++ line_feed ∷ row_lines shown) ++ last
unfolding printed_of
text-printed way N w rows total shown last e =
    ap (printed_from _) (text-lines N rows total)
    ∙ width-printed way N w _
    ∙ ap (λ (text : List ℕ). (decimal N ++ line_feed ∷ []) ++ text) e
    ∙ width-first N (row_lines shown) last

module _ (N : ℕ) (w : IsWidth N) (xs : List (List ℤ)) (hs : AllBlocks N xs) (few : length xs ≤ block_limit) where
  frames-printed : printed_of Forward (text_of N xs (total_of xs)) ≡ text_of N (all_frames N xs) (total_of xs)
  unfolding text_of
  frames-printed = text-printed Forward N w xs (total_of xs) (all_frames N xs) _ (rw (frames-counted N xs) (forward-whole N w xs hs few))

  blocks-printed : printed_of Back (text_of N (all_frames N xs) (total_of xs)) ≡ text_of N xs (total_of xs)
  unfolding text_of
  blocks-printed = text-printed Back N w (all_frames N xs) (total_of xs) xs _ (rw (frames-counted N xs) (back_whole N w xs hs few))

  module _ (total : ℤ) (bits : bits64 total) (other : total ≡ total_of xs → ⊥) where
    frames-refused : printed_of Forward (text_of N xs total) ≡ first_lines (length xs) N (all_frames N xs) ++ refusal_line 16 (suc (suc (length xs))) 0
    unfolding first_lines
    frames-refused = text-printed Forward N w xs total (take (length xs) (all_frames N xs)) _ (forward-refused N w xs hs few total bits other)

    blocks-refused : printed_of Back (text_of N (all_frames N xs) total) ≡ first_lines (length xs) N xs ++ refusal_line 16 (suc (suc (length (all_frames N xs)))) 0
    unfolding first_lines
    blocks-refused = text-printed Back N w (all_frames N xs) total (take (length xs) xs) _ (rw (frames-counted N xs, take-length xs) (back-refused N w xs hs few total bits other))

pub every-text-run : EveryTextRun
unfolding frames_made
every-text-run N w blocks rows within few =
    let hs = text-blocks N blocks rows within in
    let total = total_of blocks in
    let forward = frames-printed N w blocks hs few in
    record {
      forward = forward ∙ ap (λ (frames : List (List ℤ)). text_of N frames total) (sym (all-frames N blocks));
      back = ap (printed_of Back) forward ∙ blocks-printed N w blocks hs few;
    }

pub other-total-refused : OtherTotalRefused
unfolding rows_read rows_shown frames_made
other-total-refused Forward N blocks total b bits other =
    rw (all-frames N blocks) (frames-refused N b.wide blocks (text-blocks N blocks b.rows b.within) b.few total bits other)
other-total-refused Back N blocks total b bits other =
    rw (all-frames N blocks) (blocks-refused N b.wide blocks (text-blocks N blocks b.rows b.within) b.few total bits other)
