-- `calls_back::in_place::total_after` meets its contract.
use borrow.Author.Rules.{rules}
use native.Mathlib.Omega.{arith}
use mathlib.Core.Path.{◌≡◌, ap, ◌∙◌}
use mathlib.Core.List.{List, []}
use Prim.Native.Nat.{ℕ}
use borrow.Author.Tests.{eq-eqb, ne_eqb}
use lib.IntN.{ℤ}
use mir.Syntax.{w64}
use mir.Val.{to_z, of_z}
use Rattle.integers.proofs.Held.{held, held-ok}
use Rattle.runs.specs.Answers.{told}
use Rattle.runs.specs.Record.{next_total, readings_given}
use Rattle.calls_back.proofs.in_place.total_after.Statement.{statement}
use Rattle.calls_back.proofs.in_place.total_after.Tie as tie

-- the first frame gives nothing, a later one its block
none-given : (count : ℕ) (block : List ℤ) → count ≡ 0 → readings_given count block ≡ []
unfolding readings_given
none-given count block e = rw (eq-eqb count 0 e)

block-given : (count : ℕ) (block : List ℤ) → (count ≡ 0 → ⊥) → readings_given count block ≡ block
unfolding readings_given
block-given count block n = rw (ne_eqb count 0 n)

module _ (s : tie.Start) where
  abbrev block : List ℤ
  block = s.args.block.now

  total-is : to_z w64 (of_z w64 s.args.total) ≡ s.args.total
  total-is = (held w64 _ s.ranges.total).is

next-total-requires : tie.Need-next_total-requires
next-total-requires c κs z =
    let s = c.before in
    (omega arith, rw (total-is s) (rw (none-given s.args.count (block s) c.if-count-eq0.true) at (s.requires z).1))

returns : tie.Need-returns-then-count-eq0
returns c =
    let s = c.before.before in
    (held-ok w64 _ c.next_total.type_inv).is ∙ (rw (total-is s) at c.next_total.ensures)
    ∙ rw (none-given s.args.count (block s) c.if-count-eq0.true)

next-total-requires-2 : tie.Need-next_total-requires-2
next-total-requires-2 c κs z =
    let s = c.before in
    ((s.requires z).0, rw (total-is s) (rw (block-given s.args.count (block s) c.if-count-eq0.false) at (s.requires z).1))

returns-2 : tie.Need-returns
returns-2 c =
    let s = c.before.before in
    (held-ok w64 _ c.next_total-2.type_inv).is ∙ (rw (total-is s) at c.next_total-2.ensures)
    ∙ rw (block-given s.args.count (block s) c.if-count-eq0.false)

pub total_after_spec : {M : Type 1} → statement M
total_after_spec = tie.close (tie.spec (λ c. search rules) next-total-requires returns next-total-requires-2 returns-2)
