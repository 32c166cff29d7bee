-- What the steps of the width take, filled into the front of room for the widest.
use Rattle.frames.proofs.RoomLaws.{filled-lent}
use Rattle.frames.proofs.RoomSizes.{large-room, tables-in, fill-asks}
use Rattle.slices.proofs.Parts.{part-long}
use Rattle.whole_forward.proofs.whole.frames_of.Goals as goal

pub slice_bounds-t-end : goal.slice_bounds-t-end
slice_bounds-t-end c = tables-in (large-room c.args.width c.requires.whole_blocks.wide) _ c.tables_long-long.ensures c.zeros-t.result c.zeros-t.ensures

pub slice_bounds-fill-end : goal.slice_bounds-fill-end
slice_bounds-fill-end c = part-long _ c.zeros-t.result (tables-in (large-room c.args.width c.requires.whole_blocks.wide) _ c.tables_long-long.ensures c.zeros-t.result c.zeros-t.ensures)

pub fill-requires : goal.fill-requires
fill-requires c = fill-asks (large-room c.args.width c.requires.whole_blocks.wide) _ c.tables_long-long.ensures c.zeros-t.result _ c.zeros-t.ensures c.zeros-room.ensures

pub invariant_of-tables : goal.invariant_of-tables
invariant_of-tables c = record { known = c.requires.whole_blocks.wide; filled = filled-lent _ c.tables_long-long.ensures _ _ c.fill.ensures }
