-- The first number is put, and then each with its comma in front of what is left.
use Rattle.std.proofs.Common.{◌≡◌, ◌+◌, ◌-◌, List, length, take, drop, get_or, length-drop, refl, suc, ℤ, pos, w32, arith, ap, sym, ◌∙◌, ◌∷◌}
use Rattle.integers.proofs.Held.{held-ok}
use Rattle.text_runs.specs.Decimal.{printed}
use Rattle.text_runs.specs.Lines.{comma, behind_commas}
use Rattle.text_runs.proofs.TextLaws.{row-none, row_first, commas-next, commas-none}
use Rattle.decimal.proofs.PutLaws.{left-all, left_as, left-put, left-none, put-none, put_then, put_as}
use Rattle.decimal.proofs.ReadLaws.{rest_part}
use Rattle.decimal.proofs.print.numbers.Goals as goal

pub returns-in_default : goal.returns-in_default
returns-in_default c = (put_as _ _ _ _ (row-none c.args.x.now (omega (arith, c.in_default.len_below))) (put-none _ _), omega arith)

pub loop-y-init : goal.loop-y-init
loop-y-init c = (refl, omega arith, left-all _ _ _)

pub loop-y-preserved : goal.loop-y-preserved
loop-y-preserved c =
    let q = c.next_number-n.ensures in
    let k = c.loop-y in
    let x = c.args.x.now in
    let i = k.y-index in
    let s : i + 1 ≡ suc i = omega arith in
    let e = rest_part 1 x in
    let y = get_or (take (length x - 1) (drop 1 x)) i (pos 0) in
    let here = rw e at c.loop-y-test.true in
    let put = put_as _ _ _ _ (ap (λ z. comma ∷ printed z) ((held-ok w32 y (omega arith)).is ∙ ap (λ (ys : List ℤ). get_or ys i (pos 0)) e)) q.0 in
    let next = left-put (left_as (commas-next (drop 1 x) i here) k.invariant.2) put in
    (omega arith, omega (arith, q.1), left_as (ap (λ n. behind_commas (drop n (drop 1 x))) (sym s)) next)

pub returns : goal.returns
returns c =
    let p = c.number-n.ensures in
    let k = c.loop-y in
    let x = c.args.x.now in
    let e = ap length (rest_part 1 x) in
    let all : k.y-index ≡ length (drop 1 x) = omega arith in
    let first = put_as _ _ _ _ (ap printed (held-ok w32 (get_or x 0 (pos 0)) (omega arith)).is) p.0 in (
      put_as _ _ _ _ (row_first x (omega arith)) (put_then first (left-none (left_as (commas-none (drop 1 x) k.y-index all) k.invariant.2))),
      omega (arith, p.1, length-drop 1 x),
    )
