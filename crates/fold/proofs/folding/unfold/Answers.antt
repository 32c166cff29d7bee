-- The pair that a turn rotates back, and the block at the loop's end.
use Rattle.std.proofs.Common.{◌≡◌, sym, ap, ◌∙◌, ◌+◌, ◌-◌, ◌<◌, ◌≤◌, true, List, ℤ, neg_ℤ, length, w64, to_z, of_z, arith, rules}
use Rattle.std.proofs.Math.ListN.{length-set}
use Rattle.integers.specs.Places.{at}
use Rattle.integers.proofs.Num.{Num, num}
use Rattle.tables.specs.Widths.{half_width}
use Rattle.steps.specs.Steps.{tangent, sine, unrotated_a, unrotated_b, unfolded}
use Rattle.steps.proofs.Lengths.{width-half}
use Rattle.width_tables.proofs.TableSizes.{tangents-long, tangents-within, sines-within}
use Rattle.fold.proofs.FoldLaws.{entry-size, ends-none, ends-front, ends-back, ends-all, a-rotated, b-rotated, tangent-num, sine-num, front_at, back_at}
use Rattle.fold.proofs.folding.unfold.Goals as goal

pub loop-n-init : goal.loop-n-init
loop-n-init c = ends-none _ _ _ _ (omega arith) c.requires.block_len

pub rotated-a-requires : goal.rotated-a-requires
rotated-a-requires c = (
  entry-size (tangents-within _ _ c.requires.tangents) tt _,
  entry-size (sines-within _ _ c.requires.sines) tt _,
  entry-size c.requires.within tt _,
  entry-size c.requires.within_2 tt _,
)

pub bounds-block-width : goal.bounds-block-width
bounds-block-width c = simp length-set (omega (arith, width-half c.args.width c.requires.width_nonzero))

pub loop-n-preserved : goal.loop-n-preserved
loop-n-preserved c =
    let a = c.args in
    let n = c.loop-n.n in
    let M = half_width a.width in
    let twice = width-half a.width c.requires.width_nonzero in
    let long = tangents-long a.width a.tangents.now c.requires.tangents in
    let less : n < M = omega (arith, long) in
    let t = tangent-num a.width a.tangents.now n less c.requires.tangents in
    let s = sine-num a.width a.sines.now n less c.requires.sines in
    let far : length a.tangents.now - 1 - n ≡ M - 1 - n = omega (arith, long) in
    let x : Num w64 50000 (of_z w64 (at a.lower.now (length a.tangents.now - 1 - n))) (at a.lower.now (M - 1 - n)) = rw far (num w64 _ (c.requires.within.size _) tt) in
    let y = num w64 (at a.held.now n) (c.requires.within_2.size n) tt in
    let first : to_z w64 (of_z w64 c.rotated-a.result.0) ≡ c.rotated-a.result.0 = search rules in
    let second : to_z w64 (of_z w64 c.rotated-a.result.1) ≡ c.rotated-a.result.1 = search rules in
    let front = ends-front c.loop-n.invariant (omega (arith, twice)) (first ∙ a-rotated a.width n true t s x y c.rotated-a.ensures.a_value ∙ sym (front_at a.width n less a.lower.now a.held.now)) in
    ends-back front (a.width - 1 - n) (a.width - (n + 1)) (omega (arith, twice)) (omega (arith, twice)) (omega arith)
    (second ∙ b-rotated a.width n true t s x y c.rotated-a.ensures.a_value c.rotated-a.ensures.b_value ∙ sym (back_at a.width n less a.lower.now a.held.now twice))

pub returns : goal.returns
unfolding unfolded
returns c = ends-all c.loop-n.invariant (omega (arith, tangents-long c.args.width c.args.tangents.now c.requires.tangents, width-half c.args.width c.requires.width_nonzero))
