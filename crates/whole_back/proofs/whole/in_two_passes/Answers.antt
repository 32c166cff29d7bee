-- The first pass gives the answer, and the second the readings where no call is refused.
use Rattle.std.proofs.Common.{◌≡◌, ℕ, ◌+◌, ◌-◌, List, ℤ, pos, length, arith, sym, ap, ◌∙◌}
use Rattle.std.specs.Prelude.{Ok, Err}
use lib.ListN.{length-replicate}
use Rattle.slices.proofs.Parts.{part-long}
use Rattle.runs.specs.Answers.{told}
use Rattle.runs.specs.Record.{zeros}
use Rattle.runs.specs.WholeBack.{first_answer}
use Rattle.runs.proofs.Told.{refusal-number, done-number}
use Rattle.runs.proofs.WholeBackLaws.{first_alike, ones-refused, ones-done}
use Rattle.frames.proofs.RoomLaws.{filled-lent}
use Rattle.frames.proofs.RoomSizes.{large-room, tables-in, fill-asks}
use Rattle.whole_back.proofs.whole.in_two_passes.Goals as goal

-- the answer does not depend on what the output holds
answer-is : (N : ℕ) (frames out : List ℤ) (answer : ℕ × ℕ) → length out + N ≡ length frames → answer ≡ first_answer N frames (zeros (length frames - N)) → answer ≡ first_answer N frames out
answer-is N frames out answer r e = e ∙ first_alike N frames _ out (length-replicate (length frames - N) (pos 0) ∙ omega arith)

pub slice_bounds-t-end : goal.slice_bounds-t-end
slice_bounds-t-end c = tables-in (large-room c.args.width c.requires.whole_frames.wide) _ c.tables_long-long.ensures c.zeros-t.result c.zeros-t.ensures

pub slice_bounds-fill-end : goal.slice_bounds-fill-end
slice_bounds-fill-end c = part-long _ c.zeros-t.result (tables-in (large-room c.args.width c.requires.whole_frames.wide) _ c.tables_long-long.ensures c.zeros-t.result c.zeros-t.ensures)

pub fill-requires : goal.fill-requires
fill-requires c = fill-asks (large-room c.args.width c.requires.whole_frames.wide) _ c.tables_long-long.ensures c.zeros-t.result _ c.zeros-t.ensures c.zeros-room.ensures

pub invariant_of-tables : goal.invariant_of-tables
invariant_of-tables c = record { known = c.requires.whole_frames.wide; filled = filled-lent _ c.tables_long-long.ensures _ _ c.fill.ensures }

pub returns-in-Err : goal.returns-in-Err
returns-in-Err c =
    let r = c.in-Err.refusal in
    ones-refused c.args.width c.args.frames.now c.args.readings.now
    (answer-is c.args.width c.args.frames.now c.args.readings.now (told (Err r)) c.requires.width_len (ap told (sym c.in-Err.is) ∙ c.first_answer.ensures)) (refusal-number r)

pub readings_of-requires : goal.readings_of-requires
readings_of-requires c =
    let a = answer-is c.args.width c.args.frames.now c.args.readings.now (told (Ok tt)) c.requires.width_len (ap told (sym c.in-Ok.is) ∙ c.first_answer.ensures) in
    record {
      whole_frames = c.requires.whole_frames;
      width_len = c.requires.width_len;
      readings_value = sym (ap (λ (x : ℕ × ℕ). x.0) a) ∙ done-number;
    }

pub returns : goal.returns
returns c =
    let a = answer-is c.args.width c.args.frames.now c.args.readings.now (told (Ok tt)) c.requires.width_len (ap told (sym c.in-Ok.is) ∙ c.first_answer.ensures) in
    ones-done c.args.width c.args.frames.now c.args.readings.now a _ done-number c.readings_of.ensures
