-- Every number on the way fits.
use Rattle.std.proofs.Common.{◌≡◌, ◌∙◌, ℤ, ◌+ℤ◌, ◌*ℤ◌, arith}
use Rattle.std.proofs.lemmas.Int.{to_z-of_z}
use mir.Syntax.{w64}
use mir.Val.{SFits}
use Rattle.integers.proofs.Order.{nat_abs-+ℤ}
use Rattle.integers.proofs.Words.{small}
use Rattle.products.specs.Own.Leaf.{Fit}
use Rattle.products.proofs.LeafLaws.{read}
use Rattle.products.proofs.leaf.two.Goals as goal

module _ {l m n x y : ℤ} (rl : SFits w64 l) (rm : SFits w64 m) (rn : SFits w64 n) (rx : SFits w64 x) (ry : SFits w64 y) (f : Fit l m n x y) where
  sum : SFits w64 (x +ℤ y)
  sum = small w64 _ (omega (arith, f.sum))

  middle : SFits w64 (n *ℤ (x +ℤ y))
  middle = small w64 _ (omega (arith, f.middle))

  middle-fits : SFits w64 (read n *ℤ read (read x +ℤ read y))
  middle-fits = let s = sum in simp to_z-of_z middle

  middle_is : read (read n *ℤ read (read x +ℤ read y)) ≡ n *ℤ (x +ℤ y)
  middle_is = let s = sum in let z = middle in simp to_z-of_z

  left_is : read (read l *ℤ read x) ≡ l *ℤ x
  left_is = let z : SFits w64 (l *ℤ x) = small w64 _ (omega (arith, f.left)) in simp to_z-of_z

  right_is : read (read m *ℤ read y) ≡ m *ℤ y
  right_is = let z : SFits w64 (m *ℤ y) = small w64 _ (omega (arith, f.right)) in simp to_z-of_z

  first-fits : SFits w64 (read (read l *ℤ read x) +ℤ read (read n *ℤ read (read x +ℤ read y)))
  first-fits = rw (middle_is, left_is) (small w64 _ (omega (arith, nat_abs-+ℤ (l *ℤ x) (n *ℤ (x +ℤ y)), f.left, f.middle)))

  second-fits : SFits w64 (read (read m *ℤ read y) +ℤ read (read n *ℤ read (read x +ℤ read y)))
  second-fits = rw (middle_is, right_is) (small w64 _ (omega (arith, nat_abs-+ℤ (m *ℤ y) (n *ℤ (x +ℤ y)), f.right, f.middle)))

  first_is : read (read (read l *ℤ read x) +ℤ read (read n *ℤ read (read x +ℤ read y))) ≡ l *ℤ x +ℤ n *ℤ (x +ℤ y)
  first_is = to_z-of_z w64 _ first-fits ∙ cc (left_is, middle_is)

  second_is : read (read (read m *ℤ read y) +ℤ read (read n *ℤ read (read x +ℤ read y))) ≡ m *ℤ y +ℤ n *ℤ (x +ℤ y)
  second_is = to_z-of_z w64 _ second-fits ∙ cc (right_is, middle_is)

pub overflow_mul-z : goal.overflow_mul-z
overflow_mul-z c = let r = c.ranges in middle-fits r.l r.m r.n r.x r.y c.requires

pub overflow_add-result : goal.overflow_add-result
overflow_add-result c = let r = c.ranges in first-fits r.l r.m r.n r.x r.y c.requires

pub overflow_add-result-2 : goal.overflow_add-result-2
overflow_add-result-2 c = let r = c.ranges in second-fits r.l r.m r.n r.x r.y c.requires

pub returns : goal.returns
returns c = let r = c.ranges in (first_is r.l r.m r.n r.x r.y c.requires, second_is r.l r.m r.n r.x r.y c.requires)
