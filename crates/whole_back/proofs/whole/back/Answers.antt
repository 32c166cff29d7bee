-- Questions 1, 6 and 7, and then both passes.
use Rattle.std.proofs.Common.{◌≡◌, ℕ, ◌%◌, ◌<◌, List, ℤ, length, arith, ◌∙◌}
use Rattle.std.specs.Prelude.{Ok, Err}
use Rattle.std.proofs.lemmas.Result.{err_from_is_err_and}
use Rattle.tables.specs.Widths.{half_width}
use Rattle.runs.specs.Answers.{told}
use Rattle.runs.specs.Record.{frame_limit}
use Rattle.runs.proofs.Told.{refusal-number, done-number}
use Rattle.runs.proofs.RecordLaws.{width-pos}
use Rattle.runs.proofs.WholeLaws.{whole-blocks}
use Rattle.runs.proofs.WholeBackLaws.{whole-output-refused, lengths-passed}
use Rattle.gate.specs.Own.Asked.{in_parts}
use Rattle.gate.proofs.AskedLaws.{parts-width, parts_whole, parts-most, parts-least}
use Rattle.asking_back.specs.Own.Ready.{WholeFrames}
use Rattle.asking_back.proofs.FrameCounts.{one-frame}
use Rattle.whole_back.proofs.LoopLaws.{parts-refused}
use Rattle.whole_back.proofs.whole.back.Goals as goal

-- the frames are whole, at least one and not too many
module _ (N : ℕ) (frames : List ℤ) (a : told (Ok tt) ≡ in_parts N (length frames) 1 frame_limit) where
  has_width : half_width N ≡ 0 → ⊥
  has_width = parts-width N (length frames) 1 frame_limit (Ok tt) a done-number

  remainder : length frames % N ≡ 0
  remainder = parts_whole N (length frames) 1 frame_limit (Ok tt) a done-number

  whole : WholeFrames N frames
  whole = record {
    wide = omega (arith, has_width);
    whole = whole-blocks N frames remainder;
    some = parts-least N (length frames) 1 frame_limit (Ok tt) a done-number;
    few = parts-most N (length frames) 1 frame_limit (Ok tt) a done-number;
  }

  some : 0 < length frames
  some = omega (arith, one-frame N frames whole, width-pos N whole.wide)

pub returns-in_err-in_parts : goal.returns-in_err-in_parts
returns-in_err-in_parts c =
    let p = err_from_is_err_and c.from_residual.result c.from_residual.ensures.1 in
    let r = c.in_err-in_parts.field-0.0 in
    rw (p.1, p.2) (parts-refused c.args.width c.args.frames.now c.args.readings.now (Err r) c.in_err-in_parts.ensures (refusal-number r))

pub overflow_sub-frames : goal.overflow_sub-frames
overflow_sub-frames c = one-frame c.args.width c.args.frames.now (whole c.args.width c.args.frames.now c.in_ok-in_parts.ensures)

pub returns-then-frames-width : goal.returns-then-frames-width
returns-then-frames-width c =
    let N = c.args.width in
    let F = c.args.frames.now in
    let a = c.in_ok-in_parts.ensures in
    whole-output-refused N F c.args.readings.now (has_width N F a) (remainder N F a) (whole N F a).few (some N F a) (λ e. c.if-frames-width.true (omega (arith, e)))

pub in_two_passes-requires : goal.in_two_passes-requires
in_two_passes-requires c =
    let w = whole c.args.width c.args.frames.now c.in_ok-in_parts.ensures in
    record { whole_frames = w; width_len = omega (arith, c.if-frames-width.false, one-frame c.args.width c.args.frames.now w) }

pub returns : goal.returns
returns c =
    let N = c.args.width in
    let F = c.args.frames.now in
    let a = c.in_ok-in_parts.ensures in
    let w = whole N F a in
    c.in_two_passes.ensures ∙ lengths-passed N F c.args.readings.now (has_width N F a) (remainder N F a) w.few (some N F a) (omega (arith, c.if-frames-width.false, one-frame N F w))
