-- Questions 2 to 7 of the frame, and then its step.
use Rattle.std.proofs.Common.{rules, ◌≡◌, arith, refl, sym, ap, ◌∙◌, ◌++◌, Bool, ◌/◌, length, take, drop}
use Rattle.std.proofs.lemmas.Result.{err_from_is_err_and}
use Rattle.steps.specs.Limits.{folded_limit}
use Rattle.slices.proofs.Parts.{part-long}
use Rattle.frames.proofs.FrameLaws.{take_within}
use Rattle.runs.specs.Answers.{told}
use Rattle.runs.specs.declared.record.Run.{Run}
use Rattle.runs.specs.Record.{record_of, next_count, next_total, readings_given}
use Rattle.runs.specs.Back.{undone_in, taken_back}
use Rattle.runs.proofs.Told.{refusal-number, done-number}
use Rattle.gate.proofs.ReadyLaws.{rest-zero, run_is, stored-opened}
use Rattle.gate.proofs.AskedLaws.{admitted-refused, admitted-passed, admitted-open, admitted-given, admitted-room}
use Rattle.gate.proofs.CallFacts.{admitted-of_bits, admitted-ready, admitted-half, admitted-front}
use Rattle.calls_back.proofs.in_place.take.Goals as goal

pub returns-in_err-admitted : goal.returns-in_err-admitted
unfolding taken_back
returns-in_err-admitted c =
    let p = err_from_is_err_and c.from_residual.result c.from_residual.ensures.1 in
    let a = admitted-of_bits c.args.total c.ranges.total.sfits c.in_err-admitted.ensures in
    rw (p.1, p.2) (admitted-refused a c.args.frame.now c.args.block.now _ refl refl (readings_given c.args.count c.args.block.now) (refusal-number c.in_err-admitted.field-0.0))

pub slice_bounds-undo_in-end : goal.slice_bounds-undo_in-end
slice_bounds-undo_in-end c =
    let a = admitted-of_bits c.args.total c.ranges.total.sfits c.in_ok-admitted.ensures in
    admitted-half (omega arith) a c.requires

pub slice_bounds-undo_in-end-2 : goal.slice_bounds-undo_in-end-2
slice_bounds-undo_in-end-2 c =
    let a = admitted-of_bits c.args.total c.ranges.total.sfits c.in_ok-admitted.ensures in
    part-long _ c.args.held.now (admitted-half (omega arith) a c.requires)

pub undo_in-requires : goal.undo_in-requires
undo_in-requires c =
    let a = admitted-of_bits c.args.total c.ranges.total.sfits c.in_ok-admitted.ensures in
    let s = admitted-ready (omega arith) a c.requires in
    record {
      width_nonzero = s.wide;
      frame_len = (admitted-given a done-number, admitted-front (omega arith) a c.requires, admitted-room a done-number);
      within = take_within c.args.width folded_limit c.args.held.now s.within (c.args.width / 2);
    }

pub returns : goal.returns
unfolding taken_back
returns c =
    let a = admitted-of_bits c.args.total c.ranges.total.sfits c.in_ok-admitted.ensures in
    let N = c.args.width in
    let half = N / 2 in
    let kept = c.args.held.now in
    let run = record_of N c.args.count kept c.args.finished c.args.total in
    let s = admitted-ready (omega arith) a c.requires in
    let low = c.undo_in.new.held in
    let low-long : length low ≡ length (take half kept) = search rules in
    let answer = told c.undo_in.result in
    let block = c.undo_in.new.block in
    let total = next_total answer.0 c.args.total (readings_given c.args.count block) in
    ap (λ (r : Run). (answer, r, block))
    (ap (λ (f : Bool). record_of N (next_count answer.0 c.args.count) (low ++ drop half kept) f total) (admitted-open a done-number)
    ∙ stored-opened N half _ total kept low (rest-zero run half s) (low-long ∙ admitted-front (omega arith) a c.requires) _ refl)
    ∙ c.undo_in.ensures c.args.total
    ∙ ap (λ (r : Run). undone_in r c.args.frame.now c.args.block.now) (sym (run_is run half s (admitted-open a done-number) (admitted-half (omega arith) a c.requires)))
    ∙ admitted-passed a c.args.frame.now c.args.block.now _ refl refl done-number
