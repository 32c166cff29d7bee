-- What the first frame holds, and the outputs of the others.
use Rattle.std.proofs.Common.{◌≡◌, ℕ, ◌+◌, ◌-◌, ◌/◌, ◌≤◌, List, ◌++◌, ℤ, pos, length, take, drop, arith, refl, sym, ap, subst, ◌∙◌}
use mathlib.Core.Path.{ap₂, subst₂}
use lib.ListN.{length-drop}
use Rattle.integers.specs.Places.{Within}
use Rattle.tables.specs.Widths.{half_width}
use Rattle.steps.specs.Limits.{folded_limit}
use Rattle.slices.proofs.Parts.{part-long, front, front_long, front-le}
use Rattle.runs.specs.Record.{zeros, opened}
use Rattle.runs.specs.Forward.{started}
use Rattle.runs.specs.Back.{taken_back}
use Rattle.runs.specs.WholeBack.{answer_from, outputs_from, all_outputs, first_answer}
use Rattle.runs.proofs.OneByOne.{first-yes}
use Rattle.gate.specs.Own.Ready.{WholeBlocks}
use Rattle.gate.proofs.GateLaws.{rest_part}
use Rattle.gate.proofs.FaultLaws.{front_same}
use Rattle.asking_back.specs.Own.Ready.{WholeFrames}
use Rattle.asking_back.proofs.FrameCounts.{one-frame}
use Rattle.asking_back.proofs.RoomLaws.{half_in, held_in, held_none, lent}
use Rattle.whole_back.proofs.LoopLaws.{one-block-less, rest-blocks, answer-left, outputs-left}
use Rattle.whole_back.proofs.whole.readings_of.Goals as goal

-- the frames behind the first one, as they are lent
rest : (N : ℕ) (frames : List ℤ) → take (length frames - N) (drop N frames) ≡ drop N frames
rest N frames = rest_part (length frames) N N frames refl refl

-- the part that was lent is as long as it was
as-long : (half : ℕ) (made kept : List ℤ) → half ≤ length made → length kept ≡ length (take half made) → length kept ≡ half
as-long half made kept h k = k ∙ sym (part-long half made h)

-- behind the first frame, with what it holds in front of `made`
module _ (N : ℕ) (frames out : List ℤ) (f : WholeFrames N frames) (r : length out + N ≡ length frames) (a : (first_answer N frames out).0 ≡ 0) (half : ℕ) (h : half ≡ half_width N) (made kept : List ℤ) (k : length kept ≡ half)
    (step : (taken_back (started N).1 (take N frames) (zeros N)).0.0 ≡ 0 → (opened N 1 (pos 0) kept ≡ (taken_back (started N).1 (take N frames) (zeros N)).1) × Within folded_limit kept) where
  abbrev lent-held : List ℤ
  lent-held = take half (kept ++ drop half made)

  abbrev lent-frames : List ℤ
  lent-frames = take (length frames - N) (drop N frames)

  taken : (taken_back (started N).1 (take N frames) (zeros N)).0.0 ≡ 0
  taken = first-yes N _ frames out (one-block-less N frames out f r) a

  stored : lent-held ≡ kept
  stored = front half kept (drop half made) k

  lens : (length lent-held ≡ half_width N) × (length out ≡ length lent-frames)
  lens = (ap length stored ∙ k ∙ h, omega (arith, ap length (rest N frames), length-drop N frames, r))

  held-within : Within folded_limit lent-held
  held-within = subst (Within folded_limit) (sym stored) (step taken).1

  none-left : (answer_from N N (opened N 1 (pos 0) lent-held) (length lent-frames / N) lent-frames out).0 ≡ 0
  none-left =
      subst₂ (λ (k l : List ℤ). (answer_from N N (opened N 1 (pos 0) k) (length l / N) l out).0 ≡ 0) (sym stored) (sym (rest N frames))
      (ap (λ (x : ℕ × ℕ). x.0) (answer-left N frames out f r (opened N 1 (pos 0) kept) (step taken).0 taken) ∙ a)

  outputs-are : outputs_from N (opened N 1 (pos 0) lent-held) (length lent-frames / N) lent-frames out ≡ drop N (all_outputs N frames out)
  outputs-are =
      ap₂ (λ (k l : List ℤ). outputs_from N (opened N 1 (pos 0) k) (length l / N) l out) stored (rest N frames)
      ∙ outputs-left N frames out f r (opened N 1 (pos 0) kept) (step taken).0

pub slice_bounds-held-end : goal.slice_bounds-held-end
slice_bounds-held-end c = held_in _ _ c.args.t.now.known c.half-half.ensures c.nothing_held-held.result c.nothing_held-held.ensures

pub slice_bounds-first_frame-end-2 : goal.slice_bounds-first_frame-end-2
slice_bounds-first_frame-end-2 c = part-long _ c.nothing_held-held.result (held_in _ _ c.args.t.now.known c.half-half.ensures c.nothing_held-held.result c.nothing_held-held.ensures)

pub slice_bounds-top-end : goal.slice_bounds-top-end
slice_bounds-top-end c = half_in _ _ c.args.t.now.known c.half-half.ensures c.zeros-top.result c.zeros-top.ensures

pub slice_bounds-first_frame-end-3 : goal.slice_bounds-first_frame-end-3
slice_bounds-first_frame-end-3 c = part-long _ c.zeros-top.result (half_in _ _ c.args.t.now.known c.half-half.ensures c.zeros-top.result c.zeros-top.ensures)

pub slice_bounds-bottom-end : goal.slice_bounds-bottom-end
slice_bounds-bottom-end c = half_in _ _ c.args.t.now.known c.half-half.ensures c.zeros-bottom.result c.zeros-bottom.ensures

pub slice_bounds-first_frame-end-4 : goal.slice_bounds-first_frame-end-4
slice_bounds-first_frame-end-4 c = part-long _ c.zeros-bottom.result (half_in _ _ c.args.t.now.known c.half-half.ensures c.zeros-bottom.result c.zeros-bottom.ensures)

pub first_frame-requires-clause-frame_len : goal.first_frame-requires-clause-frame_len
first_frame-requires-clause-frame_len c = (
  sym (part-long _ c.args.frames.now (one-frame c.args.t.now.width c.args.frames.now c.requires.whole_frames)),
  held_none _ _ c.args.t.now.known c.half-half.ensures c.nothing_held-held.result c.nothing_held-held.ensures,
)

pub first_frame-requires-clause-wide_room : goal.first_frame-requires-clause-wide_room
first_frame-requires-clause-wide_room c = lent _ _ c.args.t.now.known c.half-half.ensures c.zeros-top.result c.zeros-bottom.result c.zeros-y.result c.zeros-z.result c.zeros-top.ensures c.zeros-bottom.ensures c.zeros-y.ensures c.zeros-z.ensures

pub slice_bounds-held-end-2 : goal.slice_bounds-held-end-2
slice_bounds-held-end-2 c =
    let i = held_in _ _ c.args.t.now.known c.half-half.ensures c.nothing_held-held.result c.nothing_held-held.ensures in
    front-le _ c.first_frame.new.held _ (as-long _ c.nothing_held-held.result c.first_frame.new.held i c.first_frame.auto.held)

pub slice_bounds-blocks_before-end-2 : goal.slice_bounds-blocks_before-end-2
slice_bounds-blocks_before-end-2 c =
    let i = held_in _ _ c.args.t.now.known c.half-half.ensures c.nothing_held-held.result c.nothing_held-held.ensures in
    front_long _ c.first_frame.new.held _ (as-long _ c.nothing_held-held.result c.first_frame.new.held i c.first_frame.auto.held)

pub slice_bounds-top-end-2 : goal.slice_bounds-top-end-2
slice_bounds-top-end-2 c =
    let i = half_in _ _ c.args.t.now.known c.half-half.ensures c.zeros-top.result c.zeros-top.ensures in
    front-le _ c.first_frame.new.top _ (as-long _ c.zeros-top.result c.first_frame.new.top i c.first_frame.auto.top)

pub slice_bounds-blocks_before-end-3 : goal.slice_bounds-blocks_before-end-3
slice_bounds-blocks_before-end-3 c =
    let i = half_in _ _ c.args.t.now.known c.half-half.ensures c.zeros-top.result c.zeros-top.ensures in
    front_long _ c.first_frame.new.top _ (as-long _ c.zeros-top.result c.first_frame.new.top i c.first_frame.auto.top)

pub slice_bounds-bottom-end-2 : goal.slice_bounds-bottom-end-2
slice_bounds-bottom-end-2 c =
    let i = half_in _ _ c.args.t.now.known c.half-half.ensures c.zeros-bottom.result c.zeros-bottom.ensures in
    front-le _ c.first_frame.new.bottom _ (as-long _ c.zeros-bottom.result c.first_frame.new.bottom i c.first_frame.auto.bottom)

pub slice_bounds-blocks_before-end-4 : goal.slice_bounds-blocks_before-end-4
slice_bounds-blocks_before-end-4 c =
    let i = half_in _ _ c.args.t.now.known c.half-half.ensures c.zeros-bottom.result c.zeros-bottom.ensures in
    front_long _ c.first_frame.new.bottom _ (as-long _ c.zeros-bottom.result c.first_frame.new.bottom i c.first_frame.auto.bottom)

pub blocks_before-requires : goal.blocks_before-requires
blocks_before-requires c =
    let N = c.args.t.now.width in
    let f = c.requires.whole_frames in
    let r = c.requires.width_len in
    let half = c.half-half.result in
    let h = c.half-half.ensures in
    let made = c.nothing_held-held.result in
    let kept = c.first_frame.new.held in
    let top = c.zeros-top.result in
    let bottom = c.zeros-bottom.result in
    let i = half_in N half c.args.t.now.known h top c.zeros-top.ensures in
    let j = half_in N half c.args.t.now.known h bottom c.zeros-bottom.ensures in
    let k : length kept ≡ half = as-long half made kept (held_in N half c.args.t.now.known h made c.nothing_held-held.ensures) c.first_frame.auto.held in
    let a = c.requires.readings_value in
    record {
      whole_blocks = subst (WholeBlocks N) (sym (rest N c.args.frames.now)) (rest-blocks N c.args.frames.now c.args.readings.now f r);
      held_len = lens N c.args.frames.now c.args.readings.now f r a half h made kept k c.first_frame.ensures;
      wide_room = lent N half c.args.t.now.known h _ _ _ _
          (c.zeros-top.ensures ∙ sym (front_same half top c.first_frame.new.top i c.first_frame.auto.top))
          (c.zeros-bottom.ensures ∙ sym (front_same half bottom c.first_frame.new.bottom j c.first_frame.auto.bottom))
          (c.zeros-y.ensures ∙ sym c.first_frame.auto.y)
          (c.zeros-z.ensures ∙ sym c.first_frame.auto.z);
      within = held-within N c.args.frames.now c.args.readings.now f r a half h made kept k c.first_frame.ensures;
      readings_value = none-left N c.args.frames.now c.args.readings.now f r a half h made kept k c.first_frame.ensures;
    }

pub returns : goal.returns
returns c =
    let N = c.args.t.now.width in
    let half = c.half-half.result in
    let h = c.half-half.ensures in
    let made = c.nothing_held-held.result in
    let kept = c.first_frame.new.held in
    let k : length kept ≡ half = as-long half made kept (held_in N half c.args.t.now.known h made c.nothing_held-held.ensures) c.first_frame.auto.held in
    c.blocks_before.ensures
    ∙ outputs-are N c.args.frames.now c.args.readings.now c.requires.whole_frames c.requires.width_len c.requires.readings_value half h made kept k c.first_frame.ensures
