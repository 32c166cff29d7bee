-- From one frame to the next, and the finish.
use Rattle.std.proofs.Common.{◌≡◌, ℕ, ◌+◌, ◌-◌, ◌*◌, ◌/◌, ◌≤◌, ◌<◌, List, ℤ, pos, length, take, drop, arith, sym, ap, subst, ◌∙◌}
use lib.ListN.{length-append, length-replicate}
use Rattle.tables.proofs.ByWidth.{half-width-le}
use Rattle.runs.specs.Answers.{Answer, told, first_beyond}
use Rattle.runs.specs.declared.record.Run.{Run}
use Rattle.runs.specs.Record.{zeros, opened}
use Rattle.runs.specs.Back.{undone_in}
use Rattle.runs.specs.WholeBack.{answer_from, first_answer}
use Rattle.runs.proofs.Told.{refusal-number, done-number}
use Rattle.runs.proofs.RecordLaws.{width-pos}
use Rattle.runs.proofs.BackLaws.{started-back, ReachedBack, back-first}
use Rattle.gate.proofs.FaultLaws.{block_in, no_block, part-is}
use Rattle.gate.proofs.CallFacts.{left-whole, next-place, next-left}
use Rattle.asking_back.specs.Own.Ready.{WholeFrames, told_held}
use Rattle.asking_back.proofs.FrameCounts.{few-numbers, one-frame}
use Rattle.asking_back.proofs.Undoing.{low-within, record_then, AnswerLeft, left-at, FrameAnswer, next-answer, end-answer}
use Rattle.asking_back.proofs.asking.answer_of.Invariants.{outs}
use Rattle.asking_back.proofs.asking.answer_of.Goals as goal

module _ (N : ℕ) (frames : List ℤ) (f : WholeFrames N frames) where
  abbrev whole : ℕ × ℕ
  whole = first_answer N frames (zeros (length frames - N))

  outs-long : length (outs N frames) ≡ length frames
  outs-long = omega (arith, length-append (zeros N) (zeros (length frames - N)), length-replicate N (pos 0), length-replicate (length frames - N) (pos 0), one-frame N frames f)

  -- a frame is left
  module _ (i : ℕ) (h : i < length frames / N) where
    inner : i * N + N ≤ length frames
    inner = block_in (i * N) (length frames / N - i) N (length frames) (left-whole i (length frames / N) N (length frames) f.whole (omega arith)) (omega arith)

    -- what its answer tells of the whole run
    known : (held after lent w : List ℤ) (answer : Answer) (g : AnswerLeft whole N (i * N) i (length frames / N - i) frames (outs N frames) held) → length after ≡ length held
        → (told answer, record_then N i g.total answer after w, w) ≡ undone_in (opened N i g.total held) (take (i * N + N - i * N) (drop (i * N) frames)) lent
        → FrameAnswer whole N (i * N) i (length frames / N - i) frames (outs N frames) after answer
    known held after lent w answer g long e =
        next-answer g after lent w answer (omega arith) (omega (arith, f.few)) inner (omega (arith, outs-long, inner)) (long ∙ g.reached.long)
        (e ∙ ap (λ (x : List ℤ). undone_in (opened N i g.total held) x lent) (part-is (i * N) N frames))

pub nonzero_div-count-end : goal.nonzero_div-count-end
nonzero_div-count-end c = width-pos c.args.t.now.width c.requires.whole_frames.wide

pub loop-count-init : goal.loop-count-init
unfolding first_answer
loop-count-init c =
    let N = c.args.t.now.width in
    let frames = c.args.frames.now in
    let w = c.requires.whole_frames.wide in
    let first : AnswerLeft (first_answer N frames (zeros (length frames - N))) N 0 0 (length frames / N) frames (outs N frames) c.args.held.now = record {
      total = pos 0;
      reached = subst (ReachedBack N 0 (pos 0)) (sym c.requires.held_value) (back-first N w);
      same = ap (λ (r : Run). answer_from N 0 r (length frames / N) frames (outs N frames)) (started-back N w ∙ ap (opened N 0 (pos 0)) (sym c.requires.held_value));
    } in
    left-at (omega arith) (omega arith) first

pub undo-asked-requires-clause-within : goal.undo-asked-requires-clause-within
undo-asked-requires-clause-within c = low-within c.loop-count.invariant.reached

pub placed-requires : goal.placed-requires
placed-requires c =
    let g = c.loop-count.invariant in
    let N = c.args.t.now.width in
    let f = c.requires.whole_frames in
    let k = known N c.args.frames.now f c.loop-count.count c.loop-count-test.true c.loop-count.held _ _ _ _ g c.undo-asked.auto.held (c.in-Err.ensures g.total) in
    (omega (arith, inner N c.args.frames.now f c.loop-count.count c.loop-count-test.true, few-numbers N c.args.frames.now f), k.small)

pub returns-in-Err : goal.returns-in-Err
returns-in-Err c =
    let g = c.loop-count.invariant in
    let k = known c.args.t.now.width c.args.frames.now c.requires.whole_frames c.loop-count.count c.loop-count-test.true c.loop-count.held _ _ _ _ g c.undo-asked.auto.held (c.in-Err.ensures g.total) in
    c.placed.ensures ∙ k.refused (refusal-number c.in-Err.refusal)

pub loop-count-preserved : goal.loop-count-preserved
loop-count-preserved c =
    let g = c.loop-count.invariant in
    let N = c.args.t.now.width in
    let k = known N c.args.frames.now c.requires.whole_frames c.loop-count.count c.loop-count-test.true c.loop-count.held _ _ _ _ g c.undo-asked.auto.held (c.in_default.ensures g.total) in
    left-at (next-place c.loop-count.count N) (next-left c.loop-count.count (length c.args.frames.now / N)) (k.passed done-number)

pub finish_answer-requires : goal.finish_answer-requires
finish_answer-requires c = (omega (arith, few-numbers c.args.t.now.width c.args.frames.now c.requires.whole_frames), omega (arith, c.loop-count.invariant.reached.long, half-width-le c.args.t.now.width))

pub returns : goal.returns
returns c =
    let N = c.args.t.now.width in
    let frames = c.args.frames.now in
    let f = c.requires.whole_frames in
    let i = c.loop-count.count in
    let none : length frames / N - i ≡ 0 = omega arith in
    let at : i * N ≡ length frames = no_block (i * N) (length frames / N - i) N (length frames) (left-whole i (length frames / N) N (length frames) f.whole (omega arith)) none in
    c.finish_answer.ensures
    ∙ ap (λ (p : ℕ). told_held (p - N) (first_beyond (pos 0) c.loop-count.held 0)) (sym at)
    ∙ end-answer c.loop-count.invariant (λ z. omega (arith, z, f.some)) none
