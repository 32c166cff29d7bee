-- What the steps of a width take is filled into the front of the room, whose sizes suffice for the width.
use Rattle.std.proofs.Common.{arith}
use Rattle.tables.proofs.Reading.{half_is}
use Rattle.frames.proofs.RoomLaws.{filled-lent, halves-lent}
use Rattle.calls_forward.proofs.in_place.in_room.Goals as goal

pub invariant_of-tables : goal.invariant_of-tables
invariant_of-tables g c = record { known = c.requires.width_nonzero; filled = filled-lent _ c.tables_long-long.ensures c.fill.new.t _ c.fill.ensures }

pub whole_as_front-step : goal.whole_as_front-step
whole_as_front-step g c =
    let e = half_is c.args.width c.requires.width_nonzero in
    (omega arith, omega arith)

pub step-requires-clause-two_halves : goal.step-requires-clause-two_halves
step-requires-clause-two_halves g c =
    let e = half_is c.args.width c.requires.width_nonzero in
    halves-lent c.args.width c.requires.width_nonzero _ _ (omega arith) (omega arith)
