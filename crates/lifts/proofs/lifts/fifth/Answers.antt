-- What four products are asked, and what a turn comes to.
use Rattle.std.proofs.Common.{◌≡◌, ℕ, ◌+◌, ◌-◌, ◌≤◌, ◌^◌, ap, List, ℤ, length, arith}
use Rattle.integers.specs.Places.{places, at}
use Rattle.slices.specs.declared.fours.Four.{Four}
use Rattle.slices.specs.Own.Fours.{listed}
use Rattle.slices.proofs.FourLaws.{listed-within, reversed-is}
use Rattle.lifts.proofs.FourLaws.{turns-none, turns-size, turns-all, products-next}
use Rattle.lifts.proofs.lifts.fifth.Invariants.{place}
use Rattle.lifts.proofs.lifts.fifth.Goals as goal

-- the factors of a turn
factors : (c : List ℤ) (i : ℕ) {n : ℕ} {x y : Four} → listed x ≡ places 4 (λ j. at c (n - 4 - i + j)) → listed y ≡ places 4 (λ j. at (listed x) (3 - j)) → i + 4 ≤ n → listed y ≡ places 4 (λ j. at c (place n (i + j)))
factors c i e d left = reversed-is c _ _ _ _ e d (λ j l. ap (at c) (omega (arith, left)))

pub loop-i-init : goal.loop-i-init
loop-i-init c = turns-none _ _

pub move_by_products-requires-clause-by_index : goal.move_by_products-requires-clause-by_index
move_by_products-requires-clause-by_index c = λ j. turns-size c.loop-i.invariant c.requires.within_3 _ (omega arith)

pub move_by_products-requires-clause-within : goal.move_by_products-requires-clause-within
move_by_products-requires-clause-within c = listed-within _ _ (2 ^ 28) (factors c.args.c.now c.loop-i.i c.four_at.ensures c.reversed-factors.ensures (omega arith)) (λ j l. c.requires.within.size _)

pub move_by_products-requires-clause-within_2 : goal.move_by_products-requires-clause-within_2
move_by_products-requires-clause-within_2 c = listed-within _ _ (2 ^ 34) c.four_at-in-loop-i.ensures (λ j l. c.requires.within_2.size _)

pub loop-i-preserved : goal.loop-i-preserved
loop-i-preserved c =
    products-next c.args.undo place c.args.c.now c.args.x.now c.loop-i.invariant c.requires.y_len c.loop-i-test.true
    (factors c.args.c.now c.loop-i.i c.four_at.ensures c.reversed-factors.ensures (omega arith)) c.four_at-in-loop-i.ensures c.move_by_products.ensures

pub returns : goal.returns
returns c = turns-all c.loop-i.invariant (omega arith)

pub returns-2 : goal.returns-2
returns-2 c =
    turns-all
    (products-next c.args.undo place c.args.c.now c.args.x.now c.loop-i.invariant c.requires.y_len c.loop-i-test.true
    (factors c.args.c.now c.loop-i.i c.four_at.ensures c.reversed-factors.ensures (omega arith)) c.four_at-in-loop-i.ensures c.move_by_products.ensures)
    (omega arith)
