-- What the four products are asked, and what they gave.
use lib.Signed.{mag}
use Rattle.std.proofs.Common.{◌≡◌, ◌^◌, ◌≤◌, ◌<◌, ap, ap₂, ◌∙◌, ℤ, nat_abs, ◌*ℤ◌, w64, to_z, of_z, arith}
use Rattle.integers.specs.Floor.{round}
use Rattle.integers.proofs.Num.{num}
use Rattle.slices.specs.Own.Fours.{stored}
use Rattle.lifts.specs.Own.Moves.{moved_four, rounded_products}
use Rattle.lifts.proofs.NumLaws.{num-within}
use Rattle.lifts.proofs.FourLaws.{Gave, called_is, called-within}
use Rattle.lifts.proofs.lifts.move_by_products.Goals as goal

module _ (c x : ℤ) (hc : nat_abs c ≤ 2 ^ 28) (hx : nat_abs x ≤ 2 ^ 34) where
  product_gave : {r : ℤ} → mag r < 2 ^ 63 → (r ≡ round 28 (to_z w64 (of_z w64 c) *ℤ to_z w64 (of_z w64 x))) × (nat_abs r ≤ 2 ^ 61) → Gave r (round 28 (c *ℤ x))
  product_gave ok e = record { ok = ok; is = e.0 ∙ ap₂ (λ u v. round 28 (u *ℤ v)) (num w64 c hc tt).holds.is (num w64 x hx tt).holds.is; small = e.1 }

  asked : (nat_abs (to_z w64 (of_z w64 c)) ≤ 2 ^ 28) × (nat_abs (to_z w64 (of_z w64 x)) ≤ 2 ^ 34)
  asked = (num-within (num w64 c hc tt) (omega arith), num-within (num w64 x hx tt) (omega arith))

pub rounded_product-requires : goal.rounded_product-requires
rounded_product-requires c = asked c.args.c.a c.args.x.d (c.requires.within.size 0) (c.requires.within_2.size 3)

pub rounded_product-requires-2 : goal.rounded_product-requires-2
rounded_product-requires-2 c = asked c.args.c.b c.args.x.c (c.requires.within.size 1) (c.requires.within_2.size 2)

pub rounded_product-requires-3 : goal.rounded_product-requires-3
rounded_product-requires-3 c = asked c.args.c.c c.args.x.b (c.requires.within.size 2) (c.requires.within_2.size 1)

pub rounded_product-requires-4 : goal.rounded_product-requires-4
rounded_product-requires-4 c = asked c.args.c.d c.args.x.a (c.requires.within.size 3) (c.requires.within_2.size 0)

pub move_four-requires-clause-within : goal.move_four-requires-clause-within
move_four-requires-clause-within c =
    let a = c.args.c in
    let x = c.args.x in
    called-within
    (product_gave a.a x.d (c.requires.within.size 0) (c.requires.within_2.size 3) c.rounded_product.type_inv c.rounded_product.ensures)
    (product_gave a.b x.c (c.requires.within.size 1) (c.requires.within_2.size 2) c.rounded_product-2.type_inv c.rounded_product-2.ensures)
    (product_gave a.c x.b (c.requires.within.size 2) (c.requires.within_2.size 1) c.rounded_product-3.type_inv c.rounded_product-3.ensures)
    (product_gave a.d x.a (c.requires.within.size 3) (c.requires.within_2.size 0) c.rounded_product-4.type_inv c.rounded_product-4.ensures)

pub returns : goal.returns
returns c =
    let a = c.args.c in
    let x = c.args.x in
    let same = called_is (rounded_products a x)
    (product_gave a.a x.d (c.requires.within.size 0) (c.requires.within_2.size 3) c.rounded_product.type_inv c.rounded_product.ensures)
    (product_gave a.b x.c (c.requires.within.size 1) (c.requires.within_2.size 2) c.rounded_product-2.type_inv c.rounded_product-2.ensures)
    (product_gave a.c x.b (c.requires.within.size 2) (c.requires.within_2.size 1) c.rounded_product-3.type_inv c.rounded_product-3.ensures)
    (product_gave a.d x.a (c.requires.within.size 3) (c.requires.within_2.size 0) c.rounded_product-4.type_inv c.rounded_product-4.ensures) in
    c.move_four.ensures ∙ ap (λ f. stored c.args.y.now c.args.i (moved_four c.args.undo c.args.y.now c.args.i f)) same
