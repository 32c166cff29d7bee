-- From one block to the next, and the finish's block of zeros behind the last.
use Rattle.std.proofs.Common.{rules, ◌≡◌, ℕ, ◌+◌, ◌-◌, ◌*◌, ◌/◌, ◌≤◌, ◌<◌, List, ℤ, pos, length, take, drop, arith, sym, ap, subst, ◌∙◌}
use lib.ListN.{length-drop, length-replicate}
use lib.Seq.{length-take-le}
use borrow.Rule.Slice.PartMut.{put_mid}
use Rattle.integers.specs.Places.{Within}
use Rattle.tables.specs.Widths.{half_width}
use Rattle.steps.specs.Limits.{reading_limit}
use Rattle.steps.specs.Steps.{held, frame}
use Rattle.steps.proofs.Lengths.{length-held}
use Rattle.slices.proofs.Parts.{part-long, front}
use Rattle.width_tables.specs.Own.Parts.{TwoHalves}
use Rattle.runs.specs.Forward.{started}
use Rattle.runs.specs.Calls.{made}
use Rattle.runs.specs.Whole.{calls_of, outputs}
use Rattle.runs.proofs.RecordLaws.{width-pos}
use Rattle.gate.specs.Own.Ready.{WholeBlocks}
use Rattle.gate.proofs.FaultLaws.{width_room, half_room, front_same, block_in, no_block, block-long, part-is}
use Rattle.gate.proofs.ReadyLaws.{zero-part, zero-within}
use Rattle.frames.proofs.RoomSizes.{Lent, large-room, lent-room}
use Rattle.gate.proofs.CallFacts.{left-whole, next-place, next-left}
use Rattle.whole_forward.proofs.Stepping.{stepping-at, stepping-first, kept-within, next-within, stepping-next, stepping-end}
use Rattle.whole_forward.proofs.whole.frames_with.Goals as goal

-- the next block lies within the readings
module _ (N i : ℕ) (readings : List ℤ) (w : WholeBlocks N readings) (h : i < length readings / N) where
  whole : i * N + (length readings / N - i) * N ≡ length readings
  whole = left-whole i (length readings / N) N (length readings) w.whole (omega arith)

  inner : i * N + N ≤ length readings
  inner = block_in (i * N) (length readings / N - i) N (length readings) whole (omega arith)

-- the front of the room, as long as the half of the width
module _ (N half : ℕ) (e : half ≡ half_width N) {top bottom y z : List ℤ} (l : Lent 64 648 top bottom y z) where
  top-part : half ≤ length top
  top-part = half_room N half top e (sym l.top-long)

  bottom-part : half ≤ length bottom
  bottom-part = half_room N half bottom e (sym l.bottom-long)

  halves-part : TwoHalves N (take half top) (take half bottom)
  halves-part = record { top-long = sym (part-long half top top-part) ∙ e; bottom-long = sym (part-long half bottom bottom-part) ∙ e }

-- the room behind the last block
last-long : (n N : ℕ) (frames : List ℤ) → length frames ≡ n + N → length (take (length frames - n) (drop n frames)) ≡ N
last-long n N frames e =
    let l : length frames - n ≤ length (drop n frames) = omega (arith, length-drop n frames) in
    length-take-le (length frames - n) (drop n frames) l ∙ omega arith

pub nonzero_div-i-end : goal.nonzero_div-i-end
nonzero_div-i-end c = width-pos c.args.t.now.width c.requires.whole_blocks.wide

pub loop-i-init : goal.loop-i-init
loop-i-init c =
    let N = c.args.t.now.width in (
      c.requires.frames_len,
      ap length c.nothing_held-held.ensures ∙ length-replicate 64 (pos 0),
      record { top-long = c.zeros-top.ensures; bottom-long = c.zeros-bottom.ensures; y-long = c.zeros-y.ensures; z-long = c.zeros-z.ensures },
      stepping-at (omega arith) (omega arith)
          (stepping-first N c.half-half.result c.args.readings.now c.args.frames.now c.nothing_held-held.result c.half-half.ensures c.requires.whole_blocks c.requires.readings_value c.nothing_held-held.ensures),
    )

pub slice_bounds-held-end : goal.slice_bounds-held-end
slice_bounds-held-end c = half_room c.args.t.now.width _ c.loop-i.held c.half-half.ensures c.loop-i.invariant.1

pub slice_bounds-step-end-in-loop-i : goal.slice_bounds-step-end-in-loop-i
slice_bounds-step-end-in-loop-i c = part-long _ c.loop-i.held (half_room c.args.t.now.width _ c.loop-i.held c.half-half.ensures c.loop-i.invariant.1)

pub slice_bounds-top-end : goal.slice_bounds-top-end
slice_bounds-top-end c = top-part c.args.t.now.width _ c.half-half.ensures c.loop-i.invariant.2

pub slice_bounds-step-end-in-loop-i-3 : goal.slice_bounds-step-end-in-loop-i-3
slice_bounds-step-end-in-loop-i-3 c = part-long _ c.loop-i.top (top-part c.args.t.now.width _ c.half-half.ensures c.loop-i.invariant.2)

pub slice_bounds-bottom-end : goal.slice_bounds-bottom-end
slice_bounds-bottom-end c = bottom-part c.args.t.now.width _ c.half-half.ensures c.loop-i.invariant.2

pub slice_bounds-step-end-in-loop-i-4 : goal.slice_bounds-step-end-in-loop-i-4
slice_bounds-step-end-in-loop-i-4 c = part-long _ c.loop-i.bottom (bottom-part c.args.t.now.width _ c.half-half.ensures c.loop-i.invariant.2)

pub step-requires : goal.step-requires
step-requires c =
    let N = c.args.t.now.width in
    let i = c.loop-i.i in
    let R = c.args.readings.now in
    let w = c.requires.whole_blocks in
    let v = c.loop-i.invariant in
    let r = inner N i R w c.loop-i-test.true in
    let same = part-is (i * N) N R in
    record {
      block_len = (
        ap length same ∙ block-long (i * N) N R r,
        sym (part-long _ c.loop-i.held (half_room N _ c.loop-i.held c.half-half.ensures v.1)) ∙ c.half-half.ensures,
        ap length (part-is (i * N) N c.loop-i.frames) ∙ block-long (i * N) N c.loop-i.frames (omega (arith, r, v.0)),
      );
      two_halves = halves-part N _ c.half-half.ensures v.2;
      room = lent-room (large-room N w.wide) v.2;
      within = kept-within N c.half-half.result (i * N) _ R c.args.frames.now c.loop-i.frames c.loop-i.held v.3;
      within_2 = subst (Within reading_limit) (sym same) (next-within N c.half-half.result (i * N) _ R c.args.frames.now c.loop-i.frames c.loop-i.held v.3 (omega arith) (whole N i R w c.loop-i-test.true) v.0);
    }

pub loop-i-preserved : goal.loop-i-preserved
loop-i-preserved c =
    let N = c.args.t.now.width in
    let half = c.half-half.result in
    let i = c.loop-i.i in
    let R = c.args.readings.now in
    let w = c.requires.whole_blocks in
    let v = c.loop-i.invariant in
    let kept = c.loop-i.held in
    let same = part-is (i * N) N R in (
      search rules,
      front_same half kept c.step.new.held (half_room N _ kept c.half-half.ensures v.1) c.step.auto.held ∙ v.1,
      record {
        top-long = v.2.top-long ∙ sym (front_same half c.loop-i.top c.step.new.top (top-part N half c.half-half.ensures v.2) c.step.auto.top);
        bottom-long = v.2.bottom-long ∙ sym (front_same half c.loop-i.bottom c.step.new.bottom (bottom-part N half c.half-half.ensures v.2) c.step.auto.bottom);
        y-long = v.2.y-long ∙ sym c.step.auto.y;
        z-long = v.2.z-long ∙ sym c.step.auto.z;
      },
      stepping-at (next-place i N) (next-left i (length R / N))
          (stepping-next N half (i * N) (length R / N - i) R c.args.frames.now c.loop-i.frames kept v.3 (omega arith) (whole N i R w c.loop-i-test.true) v.0 _ _
          (c.step.ensures.1 ∙ ap (frame N (take half kept)) same)
          (front half c.step.new.held (drop half kept) (ap length c.step.ensures.0 ∙ length-held N _ ∙ sym c.half-half.ensures) ∙ c.step.ensures.0 ∙ ap (held N) same)),
    )

pub slice_bounds-zeros-end : goal.slice_bounds-zeros-end
slice_bounds-zeros-end c = width_room c.args.t.now.width c.zero_block-zeros.result c.requires.whole_blocks.wide (sym (ap length c.zero_block-zeros.ensures ∙ length-replicate 128 (pos 0)))

pub slice_bounds-step-end-2 : goal.slice_bounds-step-end-2
slice_bounds-step-end-2 c =
    part-long _ c.zero_block-zeros.result (width_room c.args.t.now.width c.zero_block-zeros.result c.requires.whole_blocks.wide (sym (ap length c.zero_block-zeros.ensures ∙ length-replicate 128 (pos 0))))

pub slice_bounds-held-end-2 : goal.slice_bounds-held-end-2
slice_bounds-held-end-2 c = half_room c.args.t.now.width _ c.loop-i.held c.half-half.ensures c.loop-i.invariant.1

pub slice_bounds-step-end-3 : goal.slice_bounds-step-end-3
slice_bounds-step-end-3 c = part-long _ c.loop-i.held (half_room c.args.t.now.width _ c.loop-i.held c.half-half.ensures c.loop-i.invariant.1)

pub slice_bounds-top-end-2 : goal.slice_bounds-top-end-2
slice_bounds-top-end-2 c = top-part c.args.t.now.width _ c.half-half.ensures c.loop-i.invariant.2

pub slice_bounds-step-end-5 : goal.slice_bounds-step-end-5
slice_bounds-step-end-5 c = part-long _ c.loop-i.top (top-part c.args.t.now.width _ c.half-half.ensures c.loop-i.invariant.2)

pub slice_bounds-bottom-end-2 : goal.slice_bounds-bottom-end-2
slice_bounds-bottom-end-2 c = bottom-part c.args.t.now.width _ c.half-half.ensures c.loop-i.invariant.2

pub slice_bounds-step-end-6 : goal.slice_bounds-step-end-6
slice_bounds-step-end-6 c = part-long _ c.loop-i.bottom (bottom-part c.args.t.now.width _ c.half-half.ensures c.loop-i.invariant.2)

pub step-requires-2 : goal.step-requires-2
step-requires-2 c =
    let N = c.args.t.now.width in
    let R = c.args.readings.now in
    let w = c.requires.whole_blocks in
    let v = c.loop-i.invariant in
    let z = c.zero_block-zeros.result in
    record {
      block_len = (
        sym (part-long _ z (width_room N z w.wide (sym (ap length c.zero_block-zeros.ensures ∙ length-replicate 128 (pos 0))))),
        sym (part-long _ c.loop-i.held (half_room N _ c.loop-i.held c.half-half.ensures v.1)) ∙ c.half-half.ensures,
        last-long (length R) N c.loop-i.frames v.0,
      );
      two_halves = halves-part N _ c.half-half.ensures v.2;
      room = lent-room (large-room N w.wide) v.2;
      within = kept-within N c.half-half.result (c.loop-i.i * N) _ R c.args.frames.now c.loop-i.frames c.loop-i.held v.3;
      within_2 = subst (Within reading_limit) (sym (zero-part N z w.wide c.zero_block-zeros.ensures)) (zero-within N);
    }

pub returns : goal.returns
returns c =
    let N = c.args.t.now.width in
    let R = c.args.readings.now in
    let i = c.loop-i.i in
    let w = c.requires.whole_blocks in
    let v = c.loop-i.invariant in
    let none : length R / N - i ≡ 0 = omega arith in
    let whole : i * N + (length R / N - i) * N ≡ length R = left-whole i (length R / N) N (length R) w.whole (omega arith) in
    subst (λ (p : ℕ). put_mid p (length c.loop-i.frames - p) c.loop-i.frames c.step-2.new.frame ≡ outputs (made (started N).1 (calls_of N (length R / N) R c.args.frames.now)))
    (no_block (i * N) (length R / N - i) N (length R) whole none)
    (stepping-end N c.half-half.result (i * N) (length R / N - i) R c.args.frames.now c.loop-i.frames c.loop-i.held v.3 none whole v.0 _
    (c.step-2.ensures.1 ∙ ap (frame N (take c.half-half.result c.loop-i.held)) (zero-part N c.zero_block-zeros.result w.wide c.zero_block-zeros.ensures)))
