use Rattle.std.proofs.Common.{◌≡◌, ◌∙◌, sym, ap, ℕ, ℤ, List, ◌%◌, ◌≤◌, ◌<◌, length, take, arith}
use Rattle.std.specs.Prelude.{Ok}
use Rattle.std.proofs.lemmas.Result.{err_from_is_err_and}
use Rattle.tables.specs.Widths.{half_width}
use Rattle.slices.proofs.Parts.{part-long}
use Rattle.runs.specs.Answers.{told}
use Rattle.runs.proofs.RecordLaws.{width-in-fours}
use Rattle.frames.proofs.RoomLaws.{filled-lent}
use Rattle.frames.proofs.RoomSizes.{large-room, tables-in, fill-asks, Lent, top-le, bottom-le, lent-wide}
use Rattle.gate.proofs.AskedLaws.{refusal-number, done-number}
use Rattle.alone.proofs.WayLaws.{Made, way-made, way-refused}
use Rattle.alone.proofs.transform.in_room.Goals as goal

-- the room made
pub slice_bounds-t-end : goal.slice_bounds-t-end
slice_bounds-t-end c = tables-in (large-room _ c.requires.width_nonzero) _ c.tables_long-long.ensures c.zeros-t.result c.zeros-t.ensures

pub slice_bounds-fill-end : goal.slice_bounds-fill-end
slice_bounds-fill-end c = part-long _ c.zeros-t.result (tables-in (large-room _ c.requires.width_nonzero) _ c.tables_long-long.ensures c.zeros-t.result c.zeros-t.ensures)

pub fill-requires : goal.fill-requires
fill-requires c = fill-asks (large-room _ c.requires.width_nonzero) _ c.tables_long-long.ensures c.zeros-t.result c.zeros-y.result c.zeros-t.ensures c.zeros-y.ensures

-- what is lent of it
lent : {top bottom y z : List ℤ} {n : ℕ} → 64 ≡ length top → 64 ≡ length bottom → 648 ≡ n → length y ≡ n → 648 ≡ length z → Lent 64 648 top bottom y z
lent t b e k z = record { top-long = t; bottom-long = b; y-long = e ∙ sym k; z-long = z }

pub slice_bounds-top-end : goal.slice_bounds-top-end
slice_bounds-top-end c = top-le (large-room _ c.requires.width_nonzero) (lent c.zeros-top.ensures c.zeros-bottom.ensures c.zeros-y.ensures c.fill.auto.room c.zeros-z.ensures)

pub slice_bounds-either_way-end : goal.slice_bounds-either_way-end
slice_bounds-either_way-end c = part-long _ _ (top-le (large-room _ c.requires.width_nonzero) (lent c.zeros-top.ensures c.zeros-bottom.ensures c.zeros-y.ensures c.fill.auto.room c.zeros-z.ensures))

pub slice_bounds-bottom-end : goal.slice_bounds-bottom-end
slice_bounds-bottom-end c = bottom-le (large-room _ c.requires.width_nonzero) (lent c.zeros-top.ensures c.zeros-bottom.ensures c.zeros-y.ensures c.fill.auto.room c.zeros-z.ensures)

pub slice_bounds-either_way-end-2 : goal.slice_bounds-either_way-end-2
slice_bounds-either_way-end-2 c = part-long _ _ (bottom-le (large-room _ c.requires.width_nonzero) (lent c.zeros-top.ensures c.zeros-bottom.ensures c.zeros-y.ensures c.fill.auto.room c.zeros-z.ensures))

pub invariant_of-tables : goal.invariant_of-tables
invariant_of-tables c = record { known = c.requires.width_nonzero; filled = filled-lent _ c.tables_long-long.ensures c.fill.new.t _ c.fill.ensures }

pub either_way-requires-clause-wide_room : goal.either_way-requires-clause-wide_room
either_way-requires-clause-wide_room c = lent-wide (large-room _ c.requires.width_nonzero) (lent c.zeros-top.ensures c.zeros-bottom.ensures c.zeros-y.ensures c.fill.auto.room c.zeros-z.ensures)

pub returns-in_err-either_way : goal.returns-in_err-either_way
returns-in_err-either_way c =
    let p = err_from_is_err_and c.from_residual.result c.from_residual.ensures.1 in
    rw (p.1, p.2) (way-refused c.args.width c.args.given.now _ _ c.args.undo c.in_err-either_way.ensures (refusal-number _) c.args.out.now)

pub slice_bounds-y-end : goal.slice_bounds-y-end
slice_bounds-y-end c = omega (arith, (large-room c.args.width c.requires.width_nonzero).for-block, c.either_way.auto.y, c.fill.auto.room, c.zeros-y.ensures)

pub slice_bounds-narrow-end : goal.slice_bounds-narrow-end
slice_bounds-narrow-end c =
    let h : c.args.width ≤ length c.either_way.new.y = omega (arith, (large-room c.args.width c.requires.width_nonzero).for-block, c.either_way.auto.y, c.fill.auto.room, c.zeros-y.ensures) in
    part-long _ _ h

-- what is made
pub narrow-requires-clause-x_len : goal.narrow-requires-clause-x_len
narrow-requires-clause-x_len c =
    let made = way-made c.args.width c.args.given.now _ _ c.args.undo c.in_ok-either_way.ensures (done-number _) c.requires.width_nonzero c.requires.given_len.0 in
    (made.long ∙ sym c.requires.given_len.1, ap (λ n. n % 4) made.long ∙ width-in-fours c.args.width c.requires.width_nonzero)

pub narrow-requires-clause-within : goal.narrow-requires-clause-within
narrow-requires-clause-within c = (way-made c.args.width c.args.given.now _ _ c.args.undo c.in_ok-either_way.ensures (done-number _) c.requires.width_nonzero c.requires.given_len.0).within

pub returns : goal.returns
returns c =
    let made = way-made c.args.width c.args.given.now _ _ c.args.undo c.in_ok-either_way.ensures (done-number _) c.requires.width_nonzero c.requires.given_len.0 in
    ap (λ (l : List ℤ). (told (Ok tt), l)) c.narrow.ensures ∙ made.given_is c.args.out.now
