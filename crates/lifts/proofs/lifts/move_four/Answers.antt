-- The four sums or differences, as they are stored.
use Rattle.std.proofs.Common.{◌≡◌, sym, ap, ◌∙◌, Bool, List, ℕ, ◌+◌, ◌^◌, ◌-◌, ℤ, arith}
use Rattle.integers.specs.Places.{tab, places, at}
use Rattle.slices.specs.declared.fours.Four.{Four}
use Rattle.slices.specs.Own.Fours.{listed, stored}
use Rattle.slices.specs.Own.Moves.{moved}
use Rattle.slices.proofs.FourLaws.{four-places, listed-within}
use Rattle.lifts.specs.Own.Moves.{moved_four}
use Rattle.lifts.proofs.lifts.move_four.Goals as goal

-- four numbers that are listed alike are stored alike
stored_same : (l : List ℤ) (p : ℕ) (f g : Four) → listed f ≡ listed g → stored l p f ≡ stored l p g
unfolding stored
stored_same l p f g e = rw (ap (λ x. at x 0) e, ap (λ x. at x 1) e, ap (λ x. at x 2) e, ap (λ x. at x 3) e)

-- sums or differences of four numbers from place i on
joined_is : (undo : Bool) (y : List ℤ) (i : ℕ) (f x : Four) → listed x ≡ places 4 (λ j. at y (i + j)) → places 4 (λ j. moved undo (at (listed x) j) (at (listed f) j)) ≡ listed (moved_four undo y i f)
unfolding tab
joined_is undo y i f x e =
    let zero : i ≡ i + 0 = omega arith in
    sym
    (four-places (λ j. moved undo (at (listed x) j) (at (listed f) j))
    (ap (λ z. moved undo z f.a) (ap (at y) zero ∙ sym (ap (λ l. at l 0) e)))
    (ap (λ z. moved undo z f.b) (sym (ap (λ l. at l 1) e)))
    (ap (λ z. moved undo z f.c) (sym (ap (λ l. at l 2) e)))
    (ap (λ z. moved undo z f.d) (sym (ap (λ l. at l 3) e))))

pub sum_or_difference-made-requires-clause-within : goal.sum_or_difference-made-requires-clause-within
sum_or_difference-made-requires-clause-within c = listed-within _ _ (2 ^ 62 - 1) c.four_at.ensures (λ j l. omega (arith, c.requires.by_index j))

pub returns : goal.returns
returns c = c.put.ensures ∙ stored_same _ _ _ _ (c.sum_or_difference-made.ensures ∙ joined_is c.args.undo c.args.y.now c.args.i c.args.amounts _ c.four_at.ensures)
