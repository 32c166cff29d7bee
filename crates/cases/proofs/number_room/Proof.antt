-- `cases::number_room` meets its contract: its length by the law, since to count it takes seconds.
use mathlib.Core.Path.{sym}
use lib.IntN.{pos}
use lib.ListN.{length-replicate}
use Rattle.cases.proofs.number_room.Statement.{statement}
use Rattle.cases.proofs.number_room.Tie as tie

returns : tie.Need-returns
returns c = sym (length-replicate 525000 (pos 0))

pub number_room_spec : {M : Type 1} → statement M
number_room_spec = tie.close (tie.spec returns)
