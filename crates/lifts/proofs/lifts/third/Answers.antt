-- What the four calls of a turn gave, and what it comes to.
use Rattle.std.proofs.Common.{◌≡◌, ◌+◌, ◌^◌, ℕ, ◌-◌, ◌≤◌, ◌<◌, List, ℤ, nat_abs, ◌*ℤ◌, length, ap, ◌∙◌, arith}
use lib.Signed.{mag}
use Rattle.integers.specs.Floor.{round}
use Rattle.integers.specs.Places.{at}
use Rattle.rows.specs.Orders.{row_at, secant_out}
use Rattle.lifts.specs.Own.Moves.{stage3_amount}
use Rattle.lifts.proofs.FourLaws.{Gave, turns-none, turns-size, turns-moved, turns-all, called-within, gave}
use Rattle.lifts.proofs.lifts.third.Goals as goal

module _ (tangents top z back flips y : List ℤ) where
  -- what stage 3 adds at place i of n, where j is the same place counted from the end
  abbrev amount : ℕ → ℕ → ℕ → ℤ
  amount n i j = round 34 (stage3_amount (secant_out n (at z) i) (row_at back flips y i) (at tangents j *ℤ at top j))

  -- a call gave it
  gave_from : {n m : ℕ} → n ≡ m → (i j : ℕ) (r : ℤ) → mag r < 2 ^ 63 → (r ≡ amount n i j) × (nat_abs r ≤ 2 ^ 61) → j ≡ m - 1 - i → Gave r (amount m i (m - 1 - i))
  gave_from {m = m} long i j r ok e far = gave ok (e.0 ∙ ap (λ n. amount n i j) long ∙ ap (amount m i) far, e.1)

pub loop-i-init : goal.loop-i-init
loop-i-init c = turns-none _ _

pub move_four-requires-clause-by_index : goal.move_four-requires-clause-by_index
move_four-requires-clause-by_index c = λ j. turns-size c.loop-i.invariant c.requires.within_3 _ (omega arith)

pub move_four-requires-clause-within : goal.move_four-requires-clause-within
move_four-requires-clause-within c =
    called-within
    (gave c.third_at.type_inv c.third_at.ensures) (gave c.third_at-in-loop-i.type_inv c.third_at-in-loop-i.ensures)
    (gave c.third_at-in-loop-i-2.type_inv c.third_at-in-loop-i-2.ensures) (gave c.third_at-in-loop-i-3.type_inv c.third_at-in-loop-i-3.ensures)

pub loop-i-preserved : goal.loop-i-preserved
loop-i-preserved c =
    let a = c.args in
    let i = c.loop-i.i in
    let long : length a.y.now ≡ length c.loop-i.bottom = omega arith in
    let given = gave_from a.tangents.now a.top.now a.z.now a.back.now a.flips.now a.y.now long in
    turns-moved _ _ c.loop-i.invariant c.requires.bottom_len c.loop-i-test.true
    (given i _ _ c.third_at.type_inv c.third_at.ensures (omega arith))
    (given (i + 1) _ _ c.third_at-in-loop-i.type_inv c.third_at-in-loop-i.ensures (omega arith))
    (given (i + 2) _ _ c.third_at-in-loop-i-2.type_inv c.third_at-in-loop-i-2.ensures (omega arith))
    (given (i + 3) _ _ c.third_at-in-loop-i-3.type_inv c.third_at-in-loop-i-3.ensures (omega arith))
    c.move_four.ensures

pub returns : goal.returns
returns c = turns-all c.loop-i.invariant (omega arith)

pub returns-2 : goal.returns-2
returns-2 c =
    let a = c.args in
    let i = c.loop-i.i in
    let long : length a.y.now ≡ length c.loop-i.bottom = omega arith in
    let given = gave_from a.tangents.now a.top.now a.z.now a.back.now a.flips.now a.y.now long in
    turns-all
    (turns-moved _ _ c.loop-i.invariant c.requires.bottom_len c.loop-i-test.true
    (given i _ _ c.third_at.type_inv c.third_at.ensures (omega arith))
    (given (i + 1) _ _ c.third_at-in-loop-i.type_inv c.third_at-in-loop-i.ensures (omega arith))
    (given (i + 2) _ _ c.third_at-in-loop-i-2.type_inv c.third_at-in-loop-i-2.ensures (omega arith))
    (given (i + 3) _ _ c.third_at-in-loop-i-3.type_inv c.third_at-in-loop-i-3.ensures (omega arith))
    c.move_four.ensures)
    (omega arith)
