-- Questions 2 to 9 of the block, and then its step.
use Rattle.std.proofs.Common.{◌≡◌, ◌≤◌, arith, refl, sym, ap, ap₂, ◌∙◌, List, ◌++◌, ℤ, ◌/◌, length, drop}
use Rattle.std.specs.Prelude.{Ok}
use Rattle.std.proofs.lemmas.Result.{err_from_is_err_and}
use Rattle.steps.specs.Limits.{folded_limit}
use Rattle.slices.proofs.Parts.{part-long}
use Rattle.frames.proofs.FrameLaws.{take_within}
use Rattle.runs.specs.Answers.{told}
use Rattle.runs.specs.declared.record.Run.{Run}
use Rattle.runs.specs.Record.{block_limit, record_of, next_count, next_total}
use Rattle.runs.specs.Forward.{taken_in, taken}
use Rattle.runs.proofs.Told.{refusal-number, done-number}
use Rattle.runs.proofs.RecordLaws.{width-le, width-in-fours}
use Rattle.gate.specs.Own.Asked.{Admitted}
use Rattle.gate.specs.Own.Ready.{Ready}
use Rattle.gate.proofs.ReadyLaws.{advanced-is, frame_on_lem}
use Rattle.gate.proofs.AskedLaws.{admitted-refused, admitted-passed, admitted-open, admitted-given, admitted-room}
use Rattle.gate.proofs.BlockLaws.{taken-done, clear_within}
use Rattle.gate.proofs.CallFacts.{admitted-of_bits, admitted-ready, admitted-half, admitted-front, kept-record, fault-refused}
use Rattle.calls_forward.proofs.in_place.take.Goals as goal

-- the record is ready after questions 2 to 7, and what follows them is what follows in the definition
module _ (run : Run) (block out : List ℤ) (a : Admitted block_limit run (length block) (length out) (Ok tt)) (l : length run.held ≡ 64) where
  ready : Ready run (run.width / 2)
  ready = admitted-ready (omega arith) a l

  half_le : run.width / 2 ≤ length run.held
  half_le = admitted-half (omega arith) a l

  taken_is : taken_in run block out ≡ taken run block out
  unfolding taken
  taken_is = admitted-passed a block out _ refl refl done-number

pub returns-in_err-admitted : goal.returns-in_err-admitted
unfolding taken
returns-in_err-admitted c =
    let p = err_from_is_err_and c.from_residual.result c.from_residual.ensures.1 in
    let a = admitted-of_bits c.args.total c.ranges.total.sfits c.in_err-admitted.ensures in
    rw (p.1, p.2) (admitted-refused a c.args.block.now c.args.frame.now _ refl refl c.args.block.now (refusal-number c.in_err-admitted.field-0.0))

pub fault_of-requires : goal.fault_of-requires
fault_of-requires c =
    let a = admitted-of_bits c.args.total c.ranges.total.sfits c.in_ok-admitted.ensures in
    let l = admitted-given a done-number in
    let w = (ready _ c.args.block.now c.args.frame.now a c.requires).wide in
    (omega (arith, width-le c.args.width w), omega (arith, width-in-fours c.args.width w))

pub returns-in_err-fault_of : goal.returns-in_err-fault_of
returns-in_err-fault_of c =
    let p = err_from_is_err_and c.from_residual-in_err-fault_of.result c.from_residual-in_err-fault_of.ensures.1 in
    let a = admitted-of_bits c.args.total c.ranges.total.sfits c.in_ok-admitted.ensures in
    let f = c.in_err-fault_of.field-0.0 in
    rw (p.1, p.2) (kept-record _ c.args.frame.now c.args.block.now _ _ (fault-refused _ c.args.block.now c.args.frame.now f (sym c.in_err-fault_of.ensures) ∙ taken_is _ c.args.block.now c.args.frame.now a c.requires))

pub slice_bounds-step_in-end : goal.slice_bounds-step_in-end
slice_bounds-step_in-end c =
    let a = admitted-of_bits c.args.total c.ranges.total.sfits c.in_ok-admitted.ensures in
    half_le _ c.args.block.now c.args.frame.now a c.requires

pub slice_bounds-step_in-end-2 : goal.slice_bounds-step_in-end-2
slice_bounds-step_in-end-2 c =
    let a = admitted-of_bits c.args.total c.ranges.total.sfits c.in_ok-admitted.ensures in
    part-long _ c.args.held.now (half_le _ c.args.block.now c.args.frame.now a c.requires)

pub step_in-requires : goal.step_in-requires
step_in-requires c =
    let a = admitted-of_bits c.args.total c.ranges.total.sfits c.in_ok-admitted.ensures in
    let s = ready _ c.args.block.now c.args.frame.now a c.requires in
    record {
      width_nonzero = s.wide;
      block_len = (admitted-given a done-number, admitted-front (omega arith) a c.requires, admitted-room a done-number);
      within = take_within c.args.width folded_limit c.args.held.now s.within (c.args.width / 2);
      within_2 = clear_within c.args.block.now (sym c.in_ok-fault_of.ensures);
    }

pub returns : goal.returns
unfolding told next_count next_total
returns c =
    let a = admitted-of_bits c.args.total c.ranges.total.sfits c.in_ok-admitted.ensures in
    let run = record_of c.args.width c.args.count c.args.held.now c.args.finished c.args.total in
    let block = c.args.block.now in
    let out = c.args.frame.now in
    let half = c.args.width / 2 in
    let s = ready run block out a c.requires in
    ap₂ (λ (r : Run) (f : List ℤ). (told (Ok tt), r, f))
    (advanced-is run half s block (admitted-open a done-number) _ (ap (λ (low : List ℤ). low ++ drop half c.args.held.now) c.step_in.ensures.0))
    (c.step_in.ensures.1 ∙ frame_on_lem run half s block)
    ∙ taken-done run block out (sym c.in_ok-fault_of.ensures)
    ∙ taken_is run block out a c.requires
