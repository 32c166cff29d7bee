-- The four numbers are so small that they fit with their signs changed.
use Rattle.std.proofs.Common.{◌≡◌, ◌-◌, ◌^◌, ◌≤◌, pos, neg_ℤ, ◌-ℤ◌, ℤ, nat_abs, FitsSigned, w64, to_z, of_z, arith}
use Rattle.integers.specs.Places.{at}
use Rattle.integers.proofs.Words.{small, minus-small}
use Rattle.integers.proofs.Held.{held, asks-minus, h-minus}
use Rattle.slices.specs.Own.Fours.{listed}
use Rattle.slices.proofs.FourLaws.{four-places}
use Rattle.width_tables.proofs.matrices.negated.Goals as goal

module _ (x : ℤ) (h : nat_abs x ≤ 2 ^ 62 - 1) where
  asks : FitsSigned w64 (pos 0 -ℤ to_z w64 (of_z w64 x))
  asks = asks-minus (held w64 x (small w64 x (omega arith))) (minus-small w64 x (omega arith))

  is : to_z w64 (of_z w64 (pos 0 -ℤ to_z w64 (of_z w64 x))) ≡ neg_ℤ x
  is = (h-minus (held w64 x (small w64 x (omega arith))) (minus-small w64 x (omega arith))).is

pub overflow_sub-result : goal.overflow_sub-result
overflow_sub-result c = asks c.args.x.a (c.requires.size 0)

pub overflow_sub-result-2 : goal.overflow_sub-result-2
overflow_sub-result-2 c = asks c.args.x.b (c.requires.size 1)

pub overflow_sub-result-3 : goal.overflow_sub-result-3
overflow_sub-result-3 c = asks c.args.x.c (c.requires.size 2)

pub overflow_sub-result-4 : goal.overflow_sub-result-4
overflow_sub-result-4 c = asks c.args.x.d (c.requires.size 3)

pub returns : goal.returns
returns c =
    let x = c.args.x in
    four-places (λ j. neg_ℤ (at (listed x) j)) (is x.a (c.requires.size 0)) (is x.b (c.requires.size 1)) (is x.c (c.requires.size 2)) (is x.d (c.requires.size 3))
