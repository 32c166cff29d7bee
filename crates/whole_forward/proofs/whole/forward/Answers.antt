-- Questions 1, 6 and 7, the first fault, and then all frames.
use Rattle.std.proofs.Common.{◌≡◌, ℕ, ◌/◌, ◌%◌, ◌≤◌, List, ℤ, length, arith, sym, ap, subst, ◌∙◌}
use Rattle.std.specs.Prelude.{Ok, Err}
use Rattle.std.proofs.lemmas.Result.{err_from_is_err_and}
use Rattle.tables.specs.Widths.{half_width}
use Rattle.runs.specs.Answers.{told}
use Rattle.runs.specs.Record.{block_limit}
use Rattle.runs.specs.Whole.{WholeRun}
use Rattle.runs.proofs.Told.{refusal-number, done-number}
use Rattle.runs.proofs.RecordLaws.{width-le}
use Rattle.runs.proofs.WholeLaws.{numbered, whole-blocks, whole-output-refused}
use Rattle.gate.specs.Own.Asked.{in_parts}
use Rattle.gate.specs.Own.Faults.{refusal_of}
use Rattle.gate.specs.Own.Ready.{WholeBlocks}
use Rattle.gate.proofs.AskedLaws.{parts-width, parts_whole, parts-most}
use Rattle.gate.proofs.FaultLaws.{few-readings}
use Rattle.whole_forward.proofs.FirstRefusal.{parts-refused, fault-told, whole-done, whole_run}
use Rattle.whole_forward.proofs.whole.forward.Goals as goal

-- the readings are whole blocks, and not too many
module _ (N : ℕ) (readings : List ℤ) (a : told (Ok tt) ≡ in_parts N (length readings) 0 block_limit) where
  has_width : half_width N ≡ 0 → ⊥
  has_width = parts-width N (length readings) 0 block_limit (Ok tt) a done-number

  whole : length readings % N ≡ 0
  whole = parts_whole N (length readings) 0 block_limit (Ok tt) a done-number

  few : length readings / N ≤ block_limit
  few = parts-most N (length readings) 0 block_limit (Ok tt) a done-number

  blocks : WholeBlocks N readings
  blocks = record { wide = omega (arith, has_width); whole = whole-blocks N readings whole; some = few }

pub returns-in_err-in_parts-clause-frames_after : goal.returns-in_err-in_parts-clause-frames_after
returns-in_err-in_parts-clause-frames_after c =
    let p = err_from_is_err_and c.from_residual.result c.from_residual.ensures.1 in
    let r = c.in_err-in_parts.field-0.0 in
    rw (p.1, p.2) (parts-refused c.args.width c.args.readings.now c.args.frames.now (Err r) c.in_err-in_parts.ensures (refusal-number r))

pub returns-in_err-in_parts-clause-whole_run : goal.returns-in_err-in_parts-clause-whole_run
returns-in_err-in_parts-clause-whole_run c =
    let p = err_from_is_err_and c.from_residual.result c.from_residual.ensures.1 in
    let r = c.in_err-in_parts.field-0.0 in
    rw (p.1, p.2) (λ d. absurd (refusal-number r (ap (λ (x : ℕ × ℕ). x.0) d)))

pub overflow_add-readings : goal.overflow_add-readings
overflow_add-readings c =
    let w = blocks c.args.width c.args.readings.now c.in_ok-in_parts.ensures in
    record { fits = omega (arith, few-readings c.args.width c.args.readings.now w, width-le c.args.width w.wide) }

pub returns-then-frames-readings-clause-frames_after : goal.returns-then-frames-readings-clause-frames_after
unfolding told
returns-then-frames-readings-clause-frames_after c =
    let N = c.args.width in
    let R = c.args.readings.now in
    let a = c.in_ok-in_parts.ensures in
    whole-output-refused N R c.args.frames.now (has_width N R a) (whole N R a) (few N R a) c.if-frames-readings.true

pub returns-then-frames-readings-clause-whole_run : goal.returns-then-frames-readings-clause-whole_run
unfolding told
returns-then-frames-readings-clause-whole_run c = λ d. absurd (numbered 6 0 d)

pub first_fault-requires : goal.first_fault-requires
first_fault-requires c = blocks c.args.width c.args.readings.now c.in_ok-in_parts.ensures

pub returns-in_err-first_fault-clause-frames_after : goal.returns-in_err-first_fault-clause-frames_after
returns-in_err-first_fault-clause-frames_after c =
    let p = err_from_is_err_and c.from_residual-in_err-first_fault.result c.from_residual-in_err-first_fault.ensures.1 in
    let N = c.args.width in
    let R = c.args.readings.now in
    let a = c.in_ok-in_parts.ensures in
    rw (p.1, p.2) (fault-told N R c.args.frames.now (has_width N R a) (whole N R a) (few N R a) c.if-frames-readings.false c.in_err-first_fault.field-0.0 (sym c.in_err-first_fault.ensures))

pub returns-in_err-first_fault-clause-whole_run : goal.returns-in_err-first_fault-clause-whole_run
returns-in_err-first_fault-clause-whole_run c =
    let p = err_from_is_err_and c.from_residual-in_err-first_fault.result c.from_residual-in_err-first_fault.ensures.1 in
    rw (p.1, p.2) (λ d. absurd (refusal-number (refusal_of c.in_err-first_fault.field-0.0) (ap (λ (x : ℕ × ℕ). x.0) d)))

pub frames_of-requires-clause-whole_blocks : goal.frames_of-requires-clause-whole_blocks
frames_of-requires-clause-whole_blocks c = blocks c.args.width c.args.readings.now c.in_ok-in_parts.ensures

pub returns-clause-frames_after : goal.returns-clause-frames_after
unfolding told
returns-clause-frames_after c =
    let N = c.args.width in
    let R = c.args.readings.now in
    let a = c.in_ok-in_parts.ensures in
    ap (λ (w : List ℤ). ((0, 0), w)) c.frames_of.ensures ∙ whole-done N R c.args.frames.now (has_width N R a) (whole N R a) (few N R a) c.if-frames-readings.false (sym c.in_ok-first_fault.ensures)

pub returns-clause-whole_run : goal.returns-clause-whole_run
returns-clause-whole_run c =
    let N = c.args.width in
    let R = c.args.readings.now in
    let w = blocks N R c.in_ok-in_parts.ensures in
    λ d. subst (WholeRun N R) (sym c.frames_of.ensures) (whole_run N w.wide R c.args.frames.now w.whole w.some c.if-frames-readings.false (sym c.in_ok-first_fault.ensures))
