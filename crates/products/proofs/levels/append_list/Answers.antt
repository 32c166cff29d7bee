-- What a turn reads is as it was: the sums stand behind it.
use Rattle.std.proofs.Common.{◌≡◌, ◌∙◌, ℕ, ◌+◌, ◌-◌, ◌*◌, ◌^◌, ◌≤◌, ◌<◌, ℤ, ◌+ℤ◌, nat_abs, false, List, ap, ap₂, subst, arith}
use Rattle.integers.specs.Places.{places, at}
use Rattle.integers.proofs.PlaceLaws.{at_places}
use Rattle.slices.specs.declared.fours.Four.{Four}
use Rattle.slices.specs.Own.Fours.{listed}
use Rattle.slices.specs.Own.Moves.{moved}
use Rattle.slices.proofs.FourLaws.{listed-within}
use Rattle.products.specs.Own.Rooms.{Written}
use Rattle.products.proofs.RoomLaws.{written-before, written-four}
use Rattle.products.proofs.levels.append_list.Goals as goal

sums-four : (r₀ : List ℤ) (from h : ℕ) {to i n : ℕ} {r r' : List ℤ} {y : Four} → Written (λ j. at r₀ (from + j) +ℤ at r₀ (from + h + j)) to i r₀ r → from + (h + h) ≤ to → n ≤ h → i + 4 ≡ n
    → listed y ≡ places 4 (λ j. at r (from + h + i + j)) → Written (λ j. moved false (at r (from + i + j)) (at (listed y) j)) (to + i) 4 r r' → Written (λ j. at r₀ (from + j) +ℤ at r₀ (from + h + j)) to n r₀ r'
unfolding moved
sums-four r₀ from h {to} {i} {n} {r} {r'} w apart l e ey t =
    let same : (p q : ℕ) → p < from + (h + h) → p ≡ q → at r p ≡ at r₀ q = λ p q b e. written-before w p (omega arith) ∙ ap (at r₀) e in
    subst (λ n. Written (λ j. at r₀ (from + j) +ℤ at r₀ (from + h + j)) to n r₀ r') e
    (written-four (λ j. at r₀ (from + j) +ℤ at r₀ (from + h + j)) w t
    (λ j m. ap₂ ◌+ℤ◌ (same (from + i + j) (from + (i + j)) (omega arith) (omega arith)) (ap (λ x. at x j) ey ∙ at_places 4 _ j m ∙ same (from + h + i + j) (from + h + (i + j)) (omega arith) (omega arith))))

pub move_four-requires : goal.move_four-requires
move_four-requires c =
    let w = c.loop-u.invariant in
    let small : (p : ℕ) → c.args.from ≤ p → p < c.args.from + (c.args.h + c.args.h) → nat_abs (at c.loop-u.room p) ≤ 2 ^ 62 - 1 =
    λ p b l. rw (written-before w p (omega arith)) (c.requires.small.small p b l) in
    (omega arith, omega arith, record { small = λ p b l. small p (omega arith) (omega arith) }, listed-within c.four_at-y.result _ (2 ^ 62 - 1) c.four_at-y.ensures (λ j l. small _ (omega arith) (omega arith)))

pub loop-u-preserved : goal.loop-u-preserved
loop-u-preserved c = sums-four c.args.room.now c.args.from c.args.h c.loop-u.invariant (omega arith) (omega arith) (omega arith) c.four_at-y.ensures c.move_four.ensures

pub returns : goal.returns
returns c =
    let e : 4 * c.loop-u.u ≡ c.args.h = omega arith in
    rw e at c.loop-u.invariant
