-- What the three stores of a turn come to, and the lists at the loop's end.
use Rattle.std.proofs.Common.{◌≡◌, ap, ◌∙◌, ◌+◌, ◌*◌, ◌/◌, ◌≤◌, length, w64, to_z, of_z, arith, rules}
use Rattle.integers.specs.Places.{places}
use Rattle.integers.proofs.Fills.{filling-none, filling-all}
use Rattle.tables.specs.Widths.{half_width}
use Rattle.steps.specs.Steps.{held, top_of, bottom_of}
use Rattle.fold.proofs.FoldLaws.{middle-none, middle-all, filling-two, held_at, top_at, bottom_at, quarter-is, top-next, bottom-next}
use Rattle.fold.proofs.folding.fold.Goals as goal

pub loop-k-init : goal.loop-k-init
loop-k-init c =
    let whole = quarter-is c.args.width c.requires.width_nonzero in
    record { whole = whole; top = middle-none _ _ _ (omega (arith, whole)); bottom = middle-none _ _ _ (omega (arith, whole)); held = filling-none _ _ }

pub loop-k-preserved : goal.loop-k-preserved
loop-k-preserved c =
    let a = c.args in
    let h = c.loop-k.invariant in
    let a-is : to_z w64 (of_z w64 c.pair_of-a.result.0) ≡ c.pair_of-a.result.0 = search rules in
    let b-is : to_z w64 (of_z w64 c.pair_of-a.result.1) ≡ c.pair_of-a.result.1 = search rules in
    let c-is : to_z w64 (of_z w64 c.pair_of-c.result.0) ≡ c.pair_of-c.result.0 = search rules in
    let d-is : to_z w64 (of_z w64 c.pair_of-c.result.1) ≡ c.pair_of-c.result.1 = search rules in
    record {
      whole = h.whole;
      top = top-next a.width a.block.now a.held.now h.whole c.loop-k-test.true h.held c.put_two-in-loop-k.ensures h.top (c-is ∙ c.pair_of-c.ensures.0) (search rules);
      bottom = bottom-next a.width a.block.now a.held.now h.whole c.loop-k-test.true h.held c.put_two.ensures h.bottom (a-is ∙ c.pair_of-a.ensures.0) (search rules);
      held = filling-two h.held (2 * (c.loop-k.k + 1)) (omega arith) c.put_two-in-loop-k-2.ensures (b-is ∙ c.pair_of-a.ensures.1) (d-is ∙ c.pair_of-c.ensures.1);
    }

pub returns-clause-held_after : goal.returns-clause-held_after
unfolding held
returns-clause-held_after c =
    let all : 2 * c.loop-k.k ≡ length c.args.held.now = omega (arith, c.loop-k.invariant.whole) in
    filling-all c.loop-k.invariant.held all ∙ ap (λ n. places n (held_at c.args.width c.args.block.now)) c.requires.block_len.1

pub returns-clause-top_after : goal.returns-clause-top_after
unfolding top_of bottom_of
returns-clause-top_after c =
    let a = c.args in
    let h = c.loop-k.invariant in (
      middle-all h.top (omega arith) ∙ ap (λ n. places n (top_at a.width a.block.now a.held.now)) h.whole,
      middle-all h.bottom (omega arith) ∙ ap (λ n. places n (bottom_at a.width a.block.now a.held.now)) h.whole,
    )
