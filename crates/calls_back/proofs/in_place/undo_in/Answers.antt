-- The room of each size suffices for the widths that it is made for.
use Rattle.std.proofs.Common.{arith}
use Rattle.tables.proofs.ByWidth.{half-width-le}
use Rattle.runs.proofs.RecordLaws.{width-le}
use Rattle.frames.proofs.RoomLaws.{half-small, tables-small, tables-le, lists-small, lists-le, product_small, product_le}
use Rattle.calls_back.proofs.in_place.undo_in.Goals as goal

pub in_room-requires-clause-room_wide : goal.in_room-requires-clause-room_wide
in_room-requires-clause-room_wide c =
    let n = c.args.width in
    let h = c.if-width-le32.true in
    (tables-small n h, half-small n h, lists-small n h, product_small n h, omega arith)

pub in_room-requires-else-width-le32-clause-room_wide : goal.in_room-requires-else-width-le32-clause-room_wide
in_room-requires-else-width-le32-clause-room_wide c =
    let n = c.args.width in
    (tables-le n, half-width-le n, lists-le n, product_le n, omega (arith, width-le n c.requires.width_nonzero))
