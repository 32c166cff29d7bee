use Rattle.std.proofs.Common.{arith, List, ℕ, ℤ, pos, length, take, ap, sym, ◌∙◌, ◌%◌}
use Rattle.integers.proofs.PlaceLaws.{within-up}
use Rattle.tables.proofs.ByWidth.{half-width-le}
use Rattle.steps.specs.Limits.{reading_limit}
use Rattle.steps.proofs.Lengths.{length-unfolded, width-half}
use Rattle.slices.proofs.Parts.{part-long}
use Rattle.runs.specs.Answers.{first_beyond}
use Rattle.runs.proofs.RecordLaws.{width-in-fours}
use Rattle.runs.proofs.Searches.{none_within, beyond-at}
use Rattle.frames.proofs.FrameLaws.{half_le, lower_is, lower-long, upper_is, upper-long}
use Rattle.frames.proofs.UndoLaws.{upper-refused, first_done, later-refused, later-done}
use Rattle.frames.proofs.undo.unfolded_in.Goals as goal

pub slice_bounds-first_beyond-count : goal.slice_bounds-first_beyond-count
slice_bounds-first_beyond-count c = half_le _ c.args.t.now.known c.requires.folded_len.0 c.half-half.ensures

pub slice_bounds-first_beyond-start : goal.slice_bounds-first_beyond-start
slice_bounds-first_beyond-start c = half_le _ c.args.t.now.known c.requires.folded_len.0 c.half-half.ensures

pub overflow_add-result : goal.overflow_add-result
overflow_add-result c =
    let N = c.args.t.now.width in
    record { fits = omega (arith, c.half-half.ensures, half-width-le N, upper-long _ c.args.t.now.known c.requires.folded_len.0 c.half-half.ensures, beyond-at (pos 0) _ _ (sym c.first_beyond.ensures ∙ c.in-Some.is)) }

pub returns-in-Some : goal.returns-in-Some
returns-in-Some c =
    let N = c.args.t.now.width in
    let up = upper_is _ c.args.t.now.known c.requires.folded_len.0 c.half-half.ensures in
    λ total. upper-refused N c.args.count total c.args.held.now c.args.folded.now c.args.block.now c.if-count-eq0.true _ _ c.half-half.ensures
    (ap (λ (l : List ℤ). first_beyond (pos 0) l 0) (sym up) ∙ sym c.first_beyond.ensures ∙ c.in-Some.is)

pub slice_bounds-copy-end : goal.slice_bounds-copy-end
slice_bounds-copy-end c = part-long _ _ (half_le _ c.args.t.now.known c.requires.folded_len.0 c.half-half.ensures)

pub copy-requires : goal.copy-requires
copy-requires c = lower-long _ c.args.t.now.known c.requires.folded_len.0 c.half-half.ensures ∙ sym c.requires.folded_len.1

pub returns-then-count-eq0 : goal.returns-then-count-eq0
returns-then-count-eq0 c =
    let N = c.args.t.now.width in
    let up = upper_is _ c.args.t.now.known c.requires.folded_len.0 c.half-half.ensures in
    λ total. first_done N c.args.count total c.args.held.now c.args.folded.now c.args.block.now c.if-count-eq0.true _
    (c.copy.ensures ∙ lower_is _ c.args.t.now.known c.requires.folded_len.0 c.half-half.ensures)
    (ap (λ (l : List ℤ). first_beyond (pos 0) l 0) (sym up) ∙ sym c.first_beyond.ensures ∙ c.in_default.is)

pub returns-in-Some-first_beyond : goal.returns-in-Some-first_beyond
returns-in-Some-first_beyond c =
    λ total. later-refused c.args.t.now.width c.args.count total c.args.held.now c.args.folded.now c.args.block.now c.if-count-eq0.false c.requires.folded_len.1 c.block_between.ensures _
    (sym c.first_beyond-2.ensures ∙ c.in-Some-first_beyond.is)

pub write-requires-clause-wide_len : goal.write-requires-clause-wide_len
write-requires-clause-wide_len c =
    let N = c.args.t.now.width in
    let long = ap length c.block_between.ensures ∙ length-unfolded N _ _ in
    (long ∙ sym c.requires.folded_len.3, ap (λ n. n % 4) long ∙ width-in-fours N c.args.t.now.known, omega (arith, c.requires.folded_len.0, c.requires.folded_len.1, width-half N c.args.t.now.known))

pub write-requires-clause-within : goal.write-requires-clause-within
write-requires-clause-within c = within-up (none_within reading_limit _ (sym c.first_beyond-2.ensures ∙ c.in_default-first_beyond.is)) (omega arith)

pub returns : goal.returns
returns c =
    λ total. later-done c.args.t.now.width c.args.count total c.args.held.now c.args.folded.now c.args.block.now c.if-count-eq0.false c.requires.folded_len.1 c.block_between.ensures _ _
    (c.write.ensures.0 ∙ ap (λ (n : ℕ). take n c.args.folded.now) c.requires.folded_len.1) c.write.ensures.1 (sym c.first_beyond-2.ensures ∙ c.in_default-first_beyond.is)
