-- `case_lines::stored::text_room` meets its contract: its length by the law, since to count it takes seconds.
use mathlib.Core.Path.{sym}
use Prim.Native.Nat.{ℕ}
use lib.ListN.{length-replicate}
use Rattle.case_lines.proofs.stored.text_room.Statement.{statement}
use Rattle.case_lines.proofs.stored.text_room.Tie as tie

returns : tie.Need-returns
returns c = sym (length-replicate {A = ℕ} 131072 0)

pub text_room_spec : {M : Type 1} → statement M
text_room_spec = tie.close (tie.spec returns)
