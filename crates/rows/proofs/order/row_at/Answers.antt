-- What is read is the number of the order, and their product fits.
use Rattle.std.proofs.Common.{◌≡◌, ap, ◌∙◌, nat_abs, w64, to_z, of_z, arith, rules}
use Rattle.integers.specs.Floor.{above}
use Rattle.integers.specs.Places.{at}
use Rattle.integers.proofs.Held.{held}
use Rattle.integers.proofs.Words.{small}
use Rattle.rows.specs.Orders.{row_at}
use Rattle.rows.proofs.order.row_at.Goals as goal

pub returns : goal.returns
returns c =
    let a = c.args in
    let place = at a.places.now a.m in
    let read : to_z w64 (of_z w64 place) ≡ place = search rules in
    let from : nat_abs (to_z w64 (of_z w64 place)) ≡ above place = ap nat_abs (read ∙ c.requires.order.natural a.m c.requires.m_in_bounds) in
    let sign : to_z w64 (of_z w64 (at a.signs.now a.m)) ≡ at a.signs.now a.m = search rules in
    let number : to_z w64 (of_z w64 (at a.x.now (nat_abs (to_z w64 (of_z w64 place))))) ≡ at a.x.now (nat_abs (to_z w64 (of_z w64 place))) = search rules in
    rw (sign, number, from) (held w64 (row_at a.places.now a.signs.now a.x.now a.m) (small w64 _ (omega (arith, c.requires.m_bound)))).is
