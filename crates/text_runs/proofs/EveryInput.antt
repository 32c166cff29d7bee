-- Every input is the text of what a run takes, or is refused; and what is printed for an accepted text gives it again, the other way.
use mathlib.Core.Path.{◌≡◌, refl, sym, ap, ap₂, subst, ◌∙◌}
use mathlib.Core.Logic.{inl, inr, ⊎_elim}
use mathlib.Core.Bool.{true}
use mathlib.Core.List.{List, [], ◌∷◌, ◌++◌}
use Prim.Native.Nat.{ℕ, suc, ◌≤◌}
use native.Mathlib.Omega.{arith}
use lib.IntN.{ℤ, pos, +ℤ_idl}
use lib.ListN.{length, take}
use lib.Seq.{take-length}
use Rattle.integers.specs.Vectors.{total_of}
use Rattle.steps.specs.Steps.{held}
use Rattle.distance.specs.Statement.{IsWidth}
use Rattle.runs.specs.declared.record.Run.{Run}
use Rattle.runs.specs.Record.{block_limit, frame_limit, zeros, opened}
use Rattle.runs.specs.Forward.{started}
use Rattle.runs.specs.Calls.{block_at}
use Rattle.runs.proofs.RecordLaws.{reached-first}
use Rattle.runs.proofs.EveryList.{AllBlocks, started-open}
use Rattle.runs.proofs.MadeFrames.{all-frames}
use Rattle.runs.proofs.Parts.{blocks-rows}
use Rattle.text_runs.specs.Decimal.{decimal}
use Rattle.text_runs.specs.Lines.{line_feed, end_line}
use Rattle.text_runs.specs.declared.state.Way.{Way}
use Rattle.text_runs.specs.declared.state.Way.TheVariants.{Forward, Back}
use Rattle.text_runs.specs.State.{line_between}
use Rattle.text_runs.specs.Way.{ended_by}
use Rattle.text_runs.specs.Input.{printed_of}
use Rattle.text_runs.specs.Return.{row_lines, text_of, frames_made, InRange}
use Rattle.text_runs.specs.EveryInput.{Blocks, rows_read, rows_shown, other, Accepted, first_lines, refusal_line, ReadBefore, RefusedBehind, Refused, refusal_numbers, EveryInputTold, AcceptedText, EveryTextAccepted, AcceptedReturned}
use Rattle.text_runs.proofs.LineLaws.{lines_between, text-lines}
use Rattle.text_runs.proofs.OneLine.{line-counted}
use Rattle.text_runs.proofs.TextReturn.{every-text-run}
use Rattle.text_runs.proofs.TextLines.{same_lines, width-first}
use Rattle.text_runs.proofs.TextEnds.{last_line_of, refusal-last, behind-last, whole-not-refused}
use Rattle.text_runs.proofs.AnyLines.{Source, AllTaken, run_behind, shown_for}
use Rattle.text_runs.proofs.AnyText.{TextWhole, TextRefused, text-is}
use Rattle.text_runs.proofs.AnswersTold.{Told, forward-told, back-told}
use Rattle.text_runs.proofs.BlocksTaken.{BlocksTaken, blocks-taken}
use Rattle.text_runs.proofs.FramesRead.{FramesRead, frames-read}

-- ---- blocks that a run takes
blocks-range : (N : ℕ) (xs : List (List ℤ)) → AllBlocks N xs → InRange xs
unfolding InRange block_at
blocks-range N [] hs = tt
blocks-range N (x ∷ xs) hs = ((hs 0).within, blocks-range N xs (λ i. hs (suc i)))

good-blocks : (N : ℕ) → IsWidth N → (xs : List (List ℤ)) → AllBlocks N xs → length xs ≤ block_limit → Blocks N xs
good-blocks N w xs hs few = record { wide = w; rows = blocks-rows N xs hs; within = blocks-range N xs hs; few = few }

-- ---- an input that is the text of blocks, or of their frames, is accepted
text-shown : (way : Way) (N : ℕ) (xs : List (List ℤ)) → Blocks N xs → printed_of way (text_of N (rows_read way N xs) (total_of xs)) ≡ text_of N (rows_shown way N xs) (total_of xs)
unfolding rows_read rows_shown
text-shown Forward N xs b = (every-text-run N b.wide xs b.rows b.within b.few).forward
text-shown Back N xs b =
    let t = every-text-run N b.wide xs b.rows b.within b.few in
    ap (printed_of Back) (sym t.forward) ∙ t.back

accepted-of : (way : Way) (input : List ℕ) (N : ℕ) (xs : List (List ℤ)) → Blocks N xs → input ≡ text_of N (rows_read way N xs) (total_of xs) → Accepted way input
accepted-of way input N xs b e = record { width = N; blocks = xs; run = b; input-is = e; printed-is = ap (printed_of way) e ∙ text-shown way N xs b }

-- ---- from what any input is, where the record behind its rows has counted them and added their readings
module _ (way : Way) (input : List ℕ) where
  text-of : (a : TextWhole way input) (total : ℤ) → (run_behind way (started a.width).1 a.rows).count ≡ length a.rows → (run_behind way (started a.width).1 a.rows).total ≡ total
      → input ≡ text_of a.width a.rows total
  text-of a total e f =
      same_lines input (text_of a.width a.rows total)
      (a.lines_are ∙ ap₂ (λ (n : ℕ) (t : ℤ). (true, decimal a.width) ∷ lines_between a.rows ((true, end_line n t) ∷ [])) e f ∙ sym (text-lines a.width a.rows total))

  refused-of : (a : TextRefused way input) (xs : List (List ℤ)) → Blocks a.width xs → ReadBefore way a.width a.rows xs
      → shown_for way (started a.width).1 a.rows ≡ row_lines (take (length xs) (rows_shown way a.width xs))
      → (run_behind way (started a.width).1 a.rows).count ≡ length a.rows → length a.rows ≤ frame_limit
      → Told (refusal_numbers way) a.width (a.number, a.place) → RefusedBehind way input
  unfolding first_lines
  refused-of a xs b before e f h t = record {
    width = a.width;
    rows = a.rows;
    blocks = xs;
    rest = a.rest;
    number = a.number;
    place = a.place;
    run = b;
    before = before;
    input-is = a.input-is;
    numbered = t.numbered a.numbered;
    placed = t.placed;
    printed-is =
        a.printed-is
        ∙ ap₂ (λ (text : List ℕ) (line : ℕ). (decimal a.width ++ line_feed ∷ []) ++ (text ++ refusal_line a.number line a.place)) e (ap line_between f ∙ line-counted _ h)
        ∙ width-first a.width (row_lines (take (length xs) (rows_shown way a.width xs))) (refusal_line a.number (suc (suc (length a.rows))) a.place);
  }

-- ---- forward
module _ (N : ℕ) (w : IsWidth N) (rows : List (List ℤ)) (t : AllTaken Forward (started N).1 rows) where
  from_start : BlocksTaken N 0 (pos 0) (zeros N) rows
  from_start = blocks-taken N rows 0 (pos 0) (zeros N) (reached-first N w) (subst (λ (run : Run). AllTaken Forward run rows) (started-open N w) t)

  blocks-behind : run_behind Forward (started N).1 rows ≡ opened N from_start.count from_start.total (held N from_start.last)
  blocks-behind = ap (λ (run : Run). run_behind Forward run rows) (started-open N w) ∙ from_start.behind

  blocks-counted : (run_behind Forward (started N).1 rows).count ≡ length rows
  unfolding opened
  blocks-counted = ap (λ (run : Run). run.count) blocks-behind ∙ omega (arith, from_start.counted)

  blocks-summed : (run_behind Forward (started N).1 rows).total ≡ total_of rows
  unfolding opened
  blocks-summed = ap (λ (run : Run). run.total) blocks-behind ∙ from_start.total-is ∙ +ℤ_idl (total_of rows)

  blocks-good : Blocks N rows
  blocks-good = good-blocks N w rows from_start.blocks (omega (arith, from_start.counted, from_start.reached.counted))

  frames-shown : shown_for Forward (started N).1 rows ≡ row_lines (take (length rows) (rows_shown Forward N rows))
  unfolding rows_shown frames_made
  frames-shown = rw (started-open N w) (from_start.shown-are ∙ ap (λ (frames : List (List ℤ)). row_lines (take (length rows) frames)) (sym (all-frames N rows)))

  answer-forward : (answer : ℕ × ℕ) → Source Forward (run_behind Forward (started N).1 rows) answer → Told (refusal_numbers Forward) N answer
  answer-forward answer s =
      forward-told N from_start.count from_start.total from_start.last from_start.reached answer (subst (λ (run : Run). Source Forward run answer) blocks-behind s)

forward-whole : (input : List ℕ) → TextWhole Forward input → Accepted Forward input
unfolding rows_read
forward-whole input a =
    accepted-of Forward input a.width a.rows (blocks-good a.width a.wide a.rows a.taken)
    (text-of Forward input a (total_of a.rows) (blocks-counted a.width a.wide a.rows a.taken) (blocks-summed a.width a.wide a.rows a.taken))

forward-refused : (input : List ℕ) → TextRefused Forward input → RefusedBehind Forward input
unfolding ReadBefore
forward-refused input a =
    let b = blocks-good a.width a.wide a.rows a.taken in
    refused-of Forward input a a.rows b refl (frames-shown a.width a.wide a.rows a.taken) (blocks-counted a.width a.wide a.rows a.taken) (omega (arith, b.few))
    (answer-forward a.width a.wide a.rows a.taken (a.number, a.place) a.source)

-- ---- back
module _ (N : ℕ) (w : IsWidth N) (rows : List (List ℤ)) (t : AllTaken Back (started N).1 rows) where
  abbrev read_back : FramesRead N (started N).1 rows
  read_back = frames-read N w rows t

  frames-counted : (run_behind Back (started N).1 rows).count ≡ length rows
  unfolding opened
  frames-counted = ap (λ (run : Run). run.count) read_back.behind ∙ read_back.counted

  frames-summed : (run_behind Back (started N).1 rows).total ≡ total_of read_back.xs
  unfolding opened
  frames-summed = ap (λ (run : Run). run.total) read_back.behind ∙ read_back.total-is

  blocks-given : Blocks N read_back.xs
  blocks-given = good-blocks N w read_back.xs read_back.blocks read_back.few

  answer_back : (answer : ℕ × ℕ) → Source Back (run_behind Back (started N).1 rows) answer → Told (refusal_numbers Back) N answer
  answer_back answer s = back-told N read_back.count read_back.total read_back.last read_back.reached answer (subst (λ (run : Run). Source Back run answer) read_back.behind s)

back_whole : (input : List ℕ) → TextWhole Back input → Accepted Back input
unfolding rows_read frames_made ended_by
back_whole input a =
    let f = frames-read a.width a.wide a.rows a.taken in
    accepted-of Back input a.width f.xs (blocks-given a.width a.wide a.rows a.taken)
    (text-of Back input a (total_of f.xs) (frames-counted a.width a.wide a.rows a.taken) (frames-summed a.width a.wide a.rows a.taken)
    ∙ ap (λ (frames : List (List ℤ)). text_of a.width frames (total_of f.xs)) (f.all_are a.ended ∙ sym (all-frames a.width f.xs)))

back-refused : (input : List ℕ) → TextRefused Back input → RefusedBehind Back input
unfolding ReadBefore rows_shown frames_made
back-refused input a =
    let f = frames-read a.width a.wide a.rows a.taken in
    refused-of Back input a f.xs (blocks-given a.width a.wide a.rows a.taken)
    (f.many, f.first-are ∙ ap (take (length f.xs)) (sym (all-frames a.width f.xs)))
    (f.shown-are ∙ ap row_lines (sym (take-length f.xs))) (frames-counted a.width a.wide a.rows a.taken) (omega (arith, f.counted, f.reached.counted))
    (answer_back a.width a.wide a.rows a.taken (a.number, a.place) a.source)

-- ---- 1
whole-accepted : (way : Way) (input : List ℕ) → TextWhole way input → Accepted way input
whole-accepted Forward = forward-whole
whole-accepted Back = back_whole

refused-behind : (way : Way) (input : List ℕ) → TextRefused way input → RefusedBehind way input
refused-behind Forward = forward-refused
refused-behind Back = back-refused

never_both : (way : Way) (input : List ℕ) → Accepted way input → Refused way input → ⊥
never_both way input a =
    ⊎_elim (λ r. whole-not-refused r.number 1 0 _ _ _ _ a.printed-is (ap last_line_of r.printed-is ∙ refusal-last r.number 1 0))
    (λ r. whole-not-refused r.number _ r.place _ _ _ _ a.printed-is (ap last_line_of r.printed-is ∙ behind-last r.number _ r.place _ _ _))

pub every-input : EveryInputTold
every-input way input = record {
  told = ⊎_elim (λ a. inl (whole-accepted way input a)) (⊎_elim (λ r. inr (inl r)) (λ r. inr (inr (refused-behind way input r)))) (text-is way input);
  never_both = never_both way input;
}

-- ---- 2
pub accepted-text : AcceptedText
accepted-text way input h = ⊎_elim (λ a. a) (λ r. absurd (h r)) (every-input way input).told

-- ---- 3
pub every-text-accepted : EveryTextAccepted
every-text-accepted way N xs b = accepted-of way (text_of N (rows_read way N xs) (total_of xs)) N xs b refl

-- ---- 4
read-other : (way : Way) (N : ℕ) (xs : List (List ℤ)) → (rows_shown way N xs ≡ rows_read (other way) N xs) × (rows_shown (other way) N xs ≡ rows_read way N xs)
unfolding rows_read rows_shown other
read-other Forward N xs = (refl, refl)
read-other Back N xs = (refl, refl)

pub accepted-returned : AcceptedReturned
accepted-returned way input a =
    let others = read-other way a.width a.blocks in
    let text : List (List ℤ) → List ℕ = λ rows. text_of a.width rows (total_of a.blocks) in
    let e = a.printed-is ∙ ap text others.0 in
    record {
      accepted = accepted-of (other way) (printed_of way input) a.width a.blocks a.run e;
      same = ap (printed_of (other way)) e ∙ text-shown (other way) a.width a.blocks a.run ∙ ap text others.1 ∙ sym a.input-is;
    }
