-- `lapped::calls::take_held` meets its contract.
use borrow.Author.Rules.{rules}
use mathlib.Core.Path.{◌≡◌}
use mir.Syntax.{w64}
use mir.Val.{to_z, of_z}
use Rattle.integers.proofs.Held.{held-ok}
use Rattle.c_record.specs.Ready.{readings_of}
use Rattle.lapped.proofs.calls.take_held.Statement.{statement}
use Rattle.lapped.proofs.calls.take_held.Tie as tie

total-is : (t : tie.After-struct_told-1) → to_z w64 (of_z w64 t.args.head.total) ≡ t.args.head.total
total-is t = (held-ok w64 _ t.struct_told-1.given.1.1.1.0.1).is

returns : tie.Need-returns-then-back
unfolding readings_of
returns c =
    let called = c in
    let way = called in
    rw way.if-back.true (rw (total-is way.before.before.before.before.before.before) at called.take.ensures)

returns-2 : tie.Need-returns
unfolding readings_of
returns-2 c =
    let called = c in
    let way = called in
    rw way.if-back.false (rw (total-is way.before.before.before.before.before.before) at called.take-2.ensures)

pub take_held_spec : {M : Type 1} → statement M
take_held_spec =
    tie.close
    (tie.spec
    (λ c κs. search rules)
    (λ c. search rules)
    (λ c. search rules)
    returns
    (λ c κs. search rules)
    (λ c. search rules)
    (λ c. search rules)
    returns-2)
