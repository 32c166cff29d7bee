-- `lapped::calls::total_after` meets its contract.
use mathlib.Core.Path.{◌≡◌, ◌∙◌}
use mir.Syntax.{w64}
use mir.Val.{to_z, of_z}
use Rattle.integers.proofs.Held.{held-ok}
use Rattle.c_record.specs.Ready.{readings_of}
use Rattle.lapped.proofs.calls.total_after.Statement.{statement}
use Rattle.lapped.proofs.calls.total_after.Tie as tie

total-is : (t : tie.After-struct_told-1) → to_z w64 (of_z w64 t.args.head.total) ≡ t.args.head.total
total-is t = (held-ok w64 _ t.struct_told-1.given.1.1.1.0.1).is

total-after-requires : tie.Need-total_after-requires
unfolding readings_of
total-after-requires c κs z = let t = c.before in let h = t.requires z in (h.1, rw (total-is t) (rw c.if-back.true at h.2))

returns : tie.Need-returns-then-back
unfolding readings_of
returns c =
    let t = c.before.before in
    (held-ok w64 _ c.total_after.type_inv).is ∙ (rw (total-is t) at c.total_after.ensures) ∙ rw c.if-back.true

next-total-requires : tie.Need-next_total-requires
unfolding readings_of
next-total-requires c κs z = let t = c.before in let h = t.requires z in (h.0, rw (total-is t) (rw c.if-back.false at h.2))

returns-2 : tie.Need-returns
unfolding readings_of
returns-2 c =
    let t = c.before.before in
    (held-ok w64 _ c.next_total.type_inv).is ∙ (rw (total-is t) at c.next_total.ensures) ∙ rw c.if-back.false

pub total_after_spec : {M : Type 1} → statement M
total_after_spec = tie.close (tie.spec total-after-requires returns next-total-requires returns-2)
