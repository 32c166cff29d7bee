-- What a turn reads is small, and what it comes to.
use lib.Signed.{nat_abs-le}
use Rattle.std.proofs.Common.{◌≡◌, ◌*◌, ◌^◌, ◌≤◌, ℕ, ℤ, nat_abs, ◌*ℤ◌, length, sym, ap, ap₂, subst, ◌∙◌, w64, to_z, of_z, arith}
use Rattle.integers.specs.Floor.{round}
use Rattle.integers.specs.Places.{at}
use Rattle.integers.proofs.Num.{num, num-call, num-mul, mul-asks}
use Rattle.integers.proofs.Rounding.{round-within}
use Rattle.rows.specs.Orders.{row_at, secant_out}
use Rattle.lifts.specs.Own.Moves.{stage3_amount}
use Rattle.lifts.proofs.NumLaws.{call-is, num-within, num-rounded}
use Rattle.lifts.proofs.lifts.third_at.Goals as goal

third-same : {a a' b b' t t' : ℤ} → a ≡ a' → b ≡ b' → t ≡ t' → stage3_amount a b t ≡ stage3_amount a' b' t'
third-same {a' = a'} {b = b} {t = t} p q r = ap (λ x. stage3_amount x b t) p ∙ ap₂ (stage3_amount a') q r

pub overflow_mul-tangents : goal.overflow_mul-tangents
overflow_mul-tangents c =
    let j = c.args.j in
    mul-asks (num w64 (at c.args.tangents.now j) (c.requires.within.size j) tt) (num w64 (at c.args.top.now j) (c.requires.within_2.size j) tt) tt

pub third_amount-sum-requires : goal.third_amount-sum-requires
third_amount-sum-requires c =
    let a = c.args in
    let less = c.requires.i_in_bounds.0 in
    let secant = call-is w64 c.secant_row.type_inv (c.secant_row.ensures ∙ ap (λ m. secant_out m (at a.z.now) a.i) c.requires.tangents_len.2) in
    let cosine = call-is w64 c.row_at.type_inv c.row_at.ensures in
    let product = num-mul (num w64 (at a.tangents.now a.j) (c.requires.within.size a.j) tt) (num w64 (at a.top.now a.j) (c.requires.within_2.size a.j) tt) tt in (
      omega arith,
      subst (λ v. nat_abs v ≤ 2 ^ 60) (sym secant) (c.requires.thirds.secant a.i less),
      subst (λ v. nat_abs v ≤ 2 ^ 56) (sym cosine) (c.requires.thirds.cosine a.i less),
      num-within product (omega arith),
    )

pub returns : goal.returns
returns c =
    let a = c.args in
    let secant = call-is w64 c.secant_row.type_inv (c.secant_row.ensures ∙ ap (λ m. secant_out m (at a.z.now) a.i) c.requires.tangents_len.2) in
    let cosine = call-is w64 c.row_at.type_inv c.row_at.ensures in
    let product = num-mul (num w64 (at a.tangents.now a.j) (c.requires.within.size a.j) tt) (num w64 (at a.top.now a.j) (c.requires.within_2.size a.j) tt) tt in
    let summed = c.third_amount-sum.ensures.0 ∙ third-same secant cosine product.holds.is in
    let small = subst (λ v. nat_abs v ≤ 2 ^ 34 * 2 ^ 61) summed (omega (arith, nat_abs-le c.third_amount-sum.result c.third_amount-sum.type_inv)) in
    let r = num-rounded 34 (2 ^ 61) c.third_amount-sum.type_inv summed small c.rounded.type_inv c.rounded.ensures in
    (r.holds.is, num-within r (omega arith))
