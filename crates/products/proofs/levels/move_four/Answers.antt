-- The sum or difference of what stands at x and z.
use Rattle.std.proofs.Common.{ℕ, ◌+◌, ◌-◌, ◌^◌, ℤ, arith}
use Rattle.integers.specs.Places.{at}
use Rattle.slices.specs.Own.Fours.{listed}
use Rattle.slices.specs.Own.Moves.{moved}
use Rattle.slices.proofs.FourLaws.{listed-within}
use Rattle.products.proofs.RoomLaws.{op-is, written-stored}
use Rattle.products.proofs.levels.move_four.Goals as goal

pub sum_or_difference-requires-clause-within : goal.sum_or_difference-requires-clause-within
sum_or_difference-requires-clause-within c = listed-within c.four_at-y.result _ (2 ^ 62 - 1) c.four_at-y.ensures (λ j l. c.requires.2.small _ (omega arith) (omega arith))

pub returns : goal.returns
returns c =
    let a = c.args in
    let f : ℕ → ℤ = λ j. moved a.less (at a.room.now (a.x + j)) (at (listed a.z) j) in
    let z = c.sum_or_difference in
    rw c.put.ensures
    (written-stored f a.to a.room.now z.result c.requires.1 (op-is (moved a.less) c.four_at-y.result a.z z.result _ c.four_at-y.ensures z.ensures))
