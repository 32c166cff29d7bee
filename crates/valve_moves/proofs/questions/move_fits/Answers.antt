-- A position in the travel and a move within ±500 have a sum of 32 bits.
use Rattle.std.proofs.Common.{◌≡◌, true, pos, neg_ℤ, ◌+ℤ◌, FitsSigned, w32, refl, sym, ◌∙◌}
use Rattle.std.proofs.lemmas.Int.{to_z-of_z}
use Rattle.valves.specs.Record.{greatest_move, between}
use Rattle.valve_moves.proofs.QuestionLaws.{moved-fits}
use Rattle.valve_moves.proofs.questions.move_fits.Goals as goal
use Rattle.valve_moves.proofs.questions.move_fits.Goals.{Then-between}

module _ (c : Then-between) where
  small : between (neg_ℤ (pos greatest_move)) (pos greatest_move) c.args.steps ≡ true
  small = rw (to_z-of_z w32 _ c.ranges.steps) at (sym c.between.ensures ∙ c.if-between.true)

  fits : FitsSigned w32 (c.args.position +ℤ c.args.steps)
  fits = moved-fits _ _ c.requires small

pub overflow_add-position : goal.overflow_add-position
overflow_add-position c = rw (to_z-of_z w32 _ c.ranges.position, to_z-of_z w32 _ c.ranges.steps) (fits c)

pub returns-then-between : goal.returns-then-between
returns-then-between c =
    let t = c.before in
    c.in_travel.ensures
    ∙ rw (to_z-of_z w32 _ c.ranges.position, to_z-of_z w32 _ c.ranges.steps, to_z-of_z w32 _ (fits t), small t) refl
