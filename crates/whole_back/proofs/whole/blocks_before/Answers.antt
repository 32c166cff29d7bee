-- From one frame to the next, and the end behind the last.
use Rattle.std.proofs.Common.{◌≡◌, ℕ, ◌+◌, ◌-◌, ◌*◌, ◌/◌, ◌≤◌, ◌<◌, List, ℤ, length, arith, sym, ap, subst, ◌∙◌}
use Rattle.steps.specs.Steps.{unfolded}
use Rattle.runs.proofs.RecordLaws.{width-pos}
use Rattle.runs.proofs.BackLaws.{low_half, high_half}
use Rattle.gate.specs.Own.Ready.{WholeBlocks}
use Rattle.gate.proofs.FaultLaws.{block_in, no_block, block-long, part-is}
use Rattle.gate.proofs.CallFacts.{left-whole, next-place, next-left}
use Rattle.frames.specs.Own.Unrefused.{Unrefused}
use Rattle.asking_back.proofs.RoomLaws.{SameRoom, still-room}
use Rattle.asking_back.proofs.Undoing.{low-within}
use Rattle.whole_back.proofs.Giving.{giving-first, next-unrefused, giving-next, giving-end, giving-at}
use Rattle.whole_back.proofs.whole.blocks_before.Goals as goal

-- the next frame lies within the frames
inner : (N i : ℕ) (frames : List ℤ) → WholeBlocks N frames → i < length frames / N → i * N + N ≤ length frames
inner N i frames w h = block_in (i * N) (length frames / N - i) N (length frames) (left-whole i (length frames / N) N (length frames) w.whole (omega arith)) (omega arith)

pub nonzero_div-i-end : goal.nonzero_div-i-end
nonzero_div-i-end c = width-pos c.args.t.now.width c.requires.whole_blocks.wide

pub loop-i-init : goal.loop-i-init
loop-i-init c =
    giving-at (omega arith) (omega arith) (giving-first c.args.t.now.width c.args.frames.now c.args.readings.now c.args.held.now c.requires.whole_blocks c.requires.held_len.0 c.requires.within c.requires.readings_value)

pub give_back-requires : goal.give_back-requires
give_back-requires c =
    let N = c.args.t.now.width in
    let at = c.loop-i.i * N in
    let frames = c.args.frames.now in
    let g = c.loop-i.invariant in
    let r = inner N c.loop-i.i frames c.requires.whole_blocks c.loop-i-test.true in
    let j : at + N ≤ length c.loop-i.readings = omega (arith, r, c.loop-i.auto.readings, c.requires.held_len.1) in
    let same : SameRoom c.args.top.now c.args.bottom.now c.args.y.now c.args.z.now c.loop-i.top c.loop-i.bottom c.loop-i.y c.loop-i.z = record { top-same = c.loop-i.auto.top; bottom-same = c.loop-i.auto.bottom; y-same = c.loop-i.auto.y; z-same = c.loop-i.auto.z } in
    record {
      frame_len = (
        ap length (part-is at N frames) ∙ block-long at N frames r,
        g.reached.long,
        ap length (part-is at N c.loop-i.readings) ∙ block-long at N c.loop-i.readings j,
      );
      wide_room = still-room same N c.requires.wide_room;
      within = low-within g.reached;
      unrefused = subst (Unrefused N c.loop-i.held) (sym (part-is at N frames)) (next-unrefused g (omega arith) r j);
    }

pub loop-i-preserved : goal.loop-i-preserved
loop-i-preserved c =
    let N = c.args.t.now.width in
    let i = c.loop-i.i in
    let frames = c.args.frames.now in
    let r = inner N i frames c.requires.whole_blocks c.loop-i-test.true in
    let j : i * N + N ≤ length c.loop-i.readings = omega (arith, r, c.loop-i.auto.readings, c.requires.held_len.1) in
    giving-at (next-place i N) (next-left i (length frames / N))
    (giving-next c.loop-i.invariant (omega arith) r j c.give_back.new.block c.give_back.new.held
    (c.give_back.ensures.1 ∙ ap (λ (l : List ℤ). unfolded N c.loop-i.held (high_half N l)) (part-is (i * N) N frames))
    (c.give_back.ensures.0 ∙ ap (low_half N) (part-is (i * N) N frames)))

pub returns : goal.returns
returns c =
    let N = c.args.t.now.width in
    let i = c.loop-i.i in
    let frames = c.args.frames.now in
    let none : length frames / N - i ≡ 0 = omega arith in
    let at : i * N ≡ length frames = no_block (i * N) (length frames / N - i) N (length frames) (left-whole i (length frames / N) N (length frames) c.requires.whole_blocks.whole (omega arith)) none in
    giving-end c.loop-i.invariant none (omega (arith, at, c.loop-i.auto.readings, c.requires.held_len.1))
