-- The block that is asked next, and the first fault of those after it.
use Rattle.std.proofs.Common.{◌≡◌, ℕ, ◌+◌, ◌-◌, ◌*◌, ◌/◌, ◌%◌, ◌≤◌, ◌<◌, List, ℤ, length, take, drop, arith, sym, ap, ap₂, ◌∙◌}
use Rattle.gate.specs.Own.Faults.{Checked, fault_of, first_fault}
use Rattle.gate.specs.Own.Ready.{WholeBlocks}
use Rattle.runs.proofs.RecordLaws.{width-le, width-pos, width-in-fours}
use Rattle.gate.proofs.FaultLaws.{few-readings, block_in, block-long, part-is, dead-place, beyond-place, dead-here, beyond-here, clear-here, none_left}
use Rattle.gate.proofs.CallFacts.{left-whole, next-place, next-left}
use Rattle.whole_forward.proofs.whole.searched.Goals as goal

module _ (N i : ℕ) (readings : List ℤ) (w : WholeBlocks N readings) (h : i < length readings / N) where
  inner : i * N + N ≤ length readings
  inner = block_in (i * N) (length readings / N - i) N (length readings) (left-whole i (length readings / N) N (length readings) w.whole (omega arith)) (omega arith)

  block-is : length (take N (drop (i * N) readings)) ≡ N
  block-is = block-long (i * N) N readings inner

pub nonzero_div-i-end : goal.nonzero_div-i-end
nonzero_div-i-end c = width-pos c.args.width c.requires.wide

pub fault_of-requires : goal.fault_of-requires
fault_of-requires c =
    let N = c.args.width in
    let l = ap length (part-is (c.loop-i.i * N) N c.args.readings.now) ∙ block-is N c.loop-i.i c.args.readings.now c.requires c.loop-i-test.true in
    (omega (arith, l, width-le N c.requires.wide), ap (λ n. n % 4) l ∙ width-in-fours N c.requires.wide)

-- the block that was asked
seen : (N at : ℕ) (readings : List ℤ) (f : Checked) → f ≡ fault_of (take (at + N - at) (drop at readings)) → fault_of (take N (drop at readings)) ≡ f
seen N at readings f e = sym (e ∙ ap fault_of (part-is at N readings))

pub overflow_add-result : goal.overflow_add-result
overflow_add-result c =
    let N = c.args.width in
    let at = c.loop-i.i * N in
    let d = dead-place _ c.in-Err-Dead.place (seen N at c.args.readings.now _ (rw c.in-Err-Dead.field-0-is at c.in-Err-Dead.ensures)) in
    rw c.in-Err-Dead.field-0-is (record { fits = omega (arith, d, width-le N c.requires.wide, block-is N c.loop-i.i c.args.readings.now c.requires c.loop-i-test.true, inner N c.loop-i.i c.args.readings.now c.requires c.loop-i-test.true, few-readings N c.args.readings.now c.requires) })

pub returns-in-Err-Dead : goal.returns-in-Err-Dead
returns-in-Err-Dead c =
    let N = c.args.width in
    let at = c.loop-i.i * N in
    rw c.in-Err-Dead.field-0-is (dead-here N at (length c.args.readings.now / N - c.loop-i.i) _ c.args.readings.now (omega arith) c.loop-i.invariant _ (seen N at c.args.readings.now _ (rw c.in-Err-Dead.field-0-is at c.in-Err-Dead.ensures)))

pub overflow_add-result-in-Err-Beyond : goal.overflow_add-result-in-Err-Beyond
overflow_add-result-in-Err-Beyond c =
    let N = c.args.width in
    let at = c.loop-i.i * N in
    let d = beyond-place _ c.in-Err-Beyond.place (seen N at c.args.readings.now _ (rw c.in-Err-Beyond.field-0-is at c.in-Err-Beyond.ensures)) in
    rw c.in-Err-Beyond.field-0-is (record { fits = omega (arith, d, width-le N c.requires.wide, block-is N c.loop-i.i c.args.readings.now c.requires c.loop-i-test.true, inner N c.loop-i.i c.args.readings.now c.requires c.loop-i-test.true, few-readings N c.args.readings.now c.requires) })

pub returns-in-Err-Beyond : goal.returns-in-Err-Beyond
returns-in-Err-Beyond c =
    let N = c.args.width in
    let at = c.loop-i.i * N in
    rw c.in-Err-Beyond.field-0-is (beyond-here N at (length c.args.readings.now / N - c.loop-i.i) _ c.args.readings.now (omega arith) c.loop-i.invariant _ (seen N at c.args.readings.now _ (rw c.in-Err-Beyond.field-0-is at c.in-Err-Beyond.ensures)))

pub loop-i-preserved : goal.loop-i-preserved
loop-i-preserved c =
    let N = c.args.width in
    let at = c.loop-i.i * N in
    let b = length c.args.readings.now / N in
    clear-here N at (b - c.loop-i.i) _ c.args.readings.now (omega arith) c.loop-i.invariant (seen N at c.args.readings.now _ c.in-Ok.ensures)
    ∙ ap₂ (λ (p l : ℕ). first_fault N p l (drop p c.args.readings.now)) (next-place c.loop-i.i N) (next-left c.loop-i.i b)

pub returns : goal.returns
returns c =
    none_left c.args.width (c.loop-i.i * c.args.width) (length c.args.readings.now / c.args.width - c.loop-i.i) _ (omega arith) ∙ sym c.loop-i.invariant
