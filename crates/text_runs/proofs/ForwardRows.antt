-- The rows of a text forward, one after the other: the frames of the blocks are printed.
use mathlib.Core.Path.{◌≡◌, refl, sym, ap, ◌∙◌}
use mathlib.Core.Bool.{true}
use mathlib.Core.List.{List, [], ◌∷◌, ◌++◌, append_assoc, append-nil}
use Prim.Native.Nat.{ℕ, suc, ◌+◌, ◌≤◌, ◌<◌}
use native.Mathlib.Omega.{arith}
use lib.IntN.{ℤ, pos, ◌+ℤ◌, +ℤ_assoc, +ℤ_idl, +ℤ_idr}
use lib.ListN.{length, take}
use Rattle.integers.specs.Vectors.{sum_of, total_of}
use Rattle.steps.specs.Limits.{reading_limit}
use Rattle.steps.specs.Steps.{held, frame}
use Rattle.distance.specs.Statement.{IsWidth, Block}
use Rattle.runs.specs.declared.record.Run.{Run}
use Rattle.runs.specs.Record.{block_limit, zeros, opened}
use Rattle.runs.specs.Forward.{started}
use Rattle.runs.specs.Calls.{block_at}
use Rattle.runs.proofs.RecordLaws.{Reached, reached-first, reached-next, width-le, width-pos}
use Rattle.runs.proofs.CallLaws.{taken-decided, ended-decided}
use Rattle.runs.proofs.EveryList.{AllBlocks, started-open}
use Rattle.runs.proofs.MadeFrames.{frames_after, all_frames}
use Rattle.text_runs.specs.Decimal.{bits64}
use Rattle.text_runs.specs.Lines.{row, end_line}
use Rattle.text_runs.specs.declared.state.Way.TheVariants.{Forward}
use Rattle.text_runs.specs.declared.state.Phase.TheVariants.{Between}
use Rattle.text_runs.specs.Way.{lent_output, taken_by, ended_by, row_line, last_line, shown_row, shown_last}
use Rattle.text_runs.specs.Input.{Line, printed_from}
use Rattle.text_runs.specs.Return.{row_lines}
use Rattle.text_runs.specs.EveryInput.{refusal_line}
use Rattle.text_runs.proofs.LineLaws.{lines_between}
use Rattle.text_runs.proofs.OneLine.{state, line-counted, row-printed, end-printed, end_refused}
use Rattle.text_runs.proofs.RunRows.{output-long, block-bits, total-bits, block-accepted, finish-accepted}

-- ---- the text of frames, where the last one is shown in its own way: as a line too, or not at all
shown_with : (List ℤ → List ℕ) → List ℤ → List (List ℤ) → List ℕ
shown_with last f [] = last f
shown_with last f (g ∷ gs) = row_line f ++ shown_with last g gs

with-line : (text : List ℕ) (f : List ℤ) (gs : List (List ℤ)) → shown_with (λ g. row_line g ++ text) f gs ≡ row_lines (f ∷ gs) ++ text
unfolding shown_with row_lines
with-line text f [] = ap (λ (line : List ℕ). line ++ text) (sym (append-nil (row_line f)))
with-line text f (g ∷ gs) = ap (λ (more : List ℕ). row_line f ++ more) (with-line text g gs) ∙ sym (append_assoc (row_line f) (row_lines (g ∷ gs)) text)

without-line : (text : List ℕ) (f : List ℤ) (gs : List (List ℤ)) → shown_with (λ _. text) f gs ≡ row_lines (take (length gs) (f ∷ gs)) ++ text
unfolding shown_with row_lines
without-line text f [] = refl
without-line text f (g ∷ gs) = ap (λ (more : List ℕ). row_line f ++ more) (without-line text g gs) ∙ sym (append_assoc (row_line f) (row_lines (take (length gs) (g ∷ gs))) text)

pub frames-counted : (N : ℕ) (xs : List (List ℤ)) → length (frames_after N xs) ≡ length xs
unfolding frames_after
frames-counted N [] = refl
frames-counted N (x ∷ xs) = ap suc (frames-counted N xs)

-- ---- behind b blocks, the last of them `previous`, with the total t
module _ (N b : ℕ) (t : ℤ) (previous : List ℤ) (r : Reached N b t previous) where
  abbrev run : Run
  run = opened N b t (held N previous)

  lent : length (lent_output run) ≡ N
  lent = output-long N b t (held N previous) r.wide

  forward-row : (x : List ℤ) (lines : List Line) → Block N reading_limit x → b < block_limit
      → printed_from (state Forward Between run) ((true, row x) ∷ lines)
      ≡ row_line (frame N (held N previous) x) ++ printed_from (state Forward Between (opened N (suc b) (t +ℤ sum_of x) (held N x))) lines
  unfolding taken_by shown_row
  forward-row x lines h l =
      row-printed Forward run x _ _ lines (omega (arith, h.long, width-le N r.wide)) (omega (arith, h.long, width-pos N r.wide)) (block-bits N x h)
      ((taken-decided N b t previous r x (lent_output run)).when-yes (block-accepted N b x (lent_output run) h l lent))

  module _ (total : ℤ) (bits : bits64 total) where
    forward-end : total ≡ t → printed_from (state Forward Between run) ((true, end_line b total) ∷ []) ≡ row_line (frame N (held N previous) (zeros N)) ++ last_line (suc b) t
    unfolding ended_by opened shown_last
    forward-end same =
        end-printed Forward run (omega (arith, r.counted)) total bits _ _ ((ended-decided N b t previous r (lent_output run)).when-yes (finish-accepted N b (lent_output run) lent)) same

    forward-other : (total ≡ t → ⊥) → printed_from (state Forward Between run) ((true, end_line b total) ∷ []) ≡ refusal_line 16 (suc (suc b)) 0
    unfolding ended_by opened
    forward-other other =
        end_refused Forward run (omega (arith, r.counted)) total bits _ _ ((ended-decided N b t previous r (lent_output run)).when-yes (finish-accepted N b (lent_output run) lent)) other
        ∙ ap (λ (line : ℕ). refusal_line 16 line 0) (line-counted b (omega (arith, r.counted)))

-- ---- all blocks, where it is known what `rest` gives behind them
module _ (N count : ℕ) (total : ℤ) (rest : List Line) (last : List ℤ → List ℕ)
    (ends : (p : List ℤ) → Reached N count total p → printed_from (state Forward Between (opened N count total (held N p))) rest ≡ last (frame N (held N p) (zeros N))) where
  forward-rows : (xs : List (List ℤ)) (b : ℕ) (t : ℤ) (previous : List ℤ) → Reached N b t previous → AllBlocks N xs → b + length xs ≡ count → t +ℤ total_of xs ≡ total → count ≤ block_limit
      → printed_from (state Forward Between (opened N b t (held N previous))) (lines_between xs rest) ≡ shown_with last (frame N (held N previous) (block_at N xs 0)) (frames_after N xs)
  unfolding lines_between shown_with frames_after block_at total_of
  forward-rows [] b t previous r hs e s h =
      let d : b ≡ count = omega arith in
      let z : t ≡ total = sym (+ℤ_idr t) ∙ s in
      rw (d, z) (ends previous (rw (d, z) at r))
  forward-rows (x ∷ xs) b t previous r hs e s h =
      forward-row N b t previous r x _ (hs 0) (omega arith)
      ∙ ap (λ (text : List ℕ). row_line (frame N (held N previous) x) ++ text)
      (forward-rows xs (suc b) (t +ℤ sum_of x) x (reached-next N b t previous x r (omega arith) (hs 0)) (λ i. hs (suc i)) (omega arith) (+ℤ_assoc t (sum_of x) (total_of xs) ∙ s) h)

-- from a fresh start
module _ (N : ℕ) (w : IsWidth N) (xs : List (List ℤ)) (hs : AllBlocks N xs) (few : length xs ≤ block_limit) where
  forward-started : (rest : List Line) (last : List ℤ → List ℕ)
      → ((p : List ℤ) → Reached N (length xs) (total_of xs) p → printed_from (state Forward Between (opened N (length xs) (total_of xs) (held N p))) rest ≡ last (frame N (held N p) (zeros N)))
      → printed_from (state Forward Between (started N).1) (lines_between xs rest) ≡ shown_with last (frame N (held N (zeros N)) (block_at N xs 0)) (frames_after N xs)
  forward-started rest last ends =
      rw (started-open N w) (forward-rows N (length xs) (total_of xs) rest last ends xs 0 (pos 0) (zeros N) (reached-first N w) hs (omega arith) (+ℤ_idl (total_of xs)) few)

  pub forward-whole : printed_from (state Forward Between (started N).1) (lines_between xs ((true, end_line (length xs) (total_of xs)) ∷ []))
      ≡ row_lines (all_frames N xs) ++ last_line (suc (length xs)) (total_of xs)
  forward-whole =
      forward-started _ _ (λ p r. forward-end N (length xs) (total_of xs) p r (total_of xs) (total-bits N w xs hs few) refl) ∙ with-line (last_line (suc (length xs)) (total_of xs)) _ (frames_after N xs)

  pub forward-refused : (total : ℤ) → bits64 total → (total ≡ total_of xs → ⊥)
      → printed_from (state Forward Between (started N).1) (lines_between xs ((true, end_line (length xs) total) ∷ []))
      ≡ row_lines (take (length xs) (all_frames N xs)) ++ refusal_line 16 (suc (suc (length xs))) 0
  forward-refused total bits other =
      forward-started _ _ (λ p r. forward-other N (length xs) (total_of xs) p r total bits other)
      ∙ without-line (refusal_line 16 (suc (suc (length xs))) 0) _ (frames_after N xs)
      ∙ ap (λ (n : ℕ). row_lines (take n (all_frames N xs)) ++ refusal_line 16 (suc (suc (length xs))) 0) (frames-counted N xs)
