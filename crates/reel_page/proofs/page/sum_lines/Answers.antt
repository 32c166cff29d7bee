-- Each line is put behind those before it.
use Rattle.std.proofs.Common.{rules, arith, suc, ℤ, List, ◌≡◌, ◌*◌, ◌+◌, pos, length, drop, get_or, add-one, length-append, sym, ap, FitsSigned, w64}
use Rattle.std.proofs.lemmas.Int.{to_z-of_z}
use Rattle.decimal.proofs.PutLaws.{left-all, left_as, left-put, left-none, put_as}
use Rattle.runs.specs.Record.{frame_limit}
use Rattle.reels.specs.Page.{sum_line, sum_lines}
use Rattle.reels.specs.Reel.{run_limit}
use Rattle.reels.proofs.SumLaws.{sum-at}
use Rattle.reel_page.proofs.SumLines.{lines_next, lines_none}
use Rattle.reel_page.proofs.page.sum_lines.Goals as goal

pub loop-i-init : goal.loop-i-init
loop-i-init c = left-all _ _ _

pub sum_line-n-requires-clause-sum_within : goal.sum_line-n-requires-clause-sum_within
sum_line-n-requires-clause-sum_within c =
    let e : FitsSigned w64 (get_or c.args.sums.now c.loop-i.i (pos 0)) = search rules in
    rw (to_z-of_z w64 _ e) (sum-at (run_limit * frame_limit) c.args.sums.now c.loop-i.i c.requires.sums_within)

pub sum_line-n-requires-clause-sum_in_bounds : goal.sum_line-n-requires-clause-sum_in_bounds
sum_line-n-requires-clause-sum_in_bounds c =
    let i = c.loop-i.i in
    let sums = c.args.sums.now in
    let x = get_or sums i (pos 0) in
    let e : FitsSigned w64 (get_or c.args.sums.now c.loop-i.i (pos 0)) = search rules in
    rw (to_z-of_z w64 _ e)
    (omega (arith, c.loop-i.invariant.count, c.loop-i.auto.out, c.requires.sums_in_bounds, ap length (lines_next sums i i c.loop-i-test.true), length-append (sum_line i x) (sum_lines (suc i) (drop (suc i) sums))))

pub loop-i-preserved : goal.loop-i-preserved
loop-i-preserved c =
    let i = c.loop-i.i in
    let sums = c.args.sums.now in
    let e : FitsSigned w64 (get_or c.args.sums.now c.loop-i.i (pos 0)) = search rules in
    let put = put_as _ _ _ _ (ap (sum_line i) (to_z-of_z w64 _ e)) c.sum_line-n.ensures in
    rw (add-one i) (left-put (left_as (lines_next sums i i c.loop-i-test.true) c.loop-i.invariant) put)

pub returns : goal.returns
returns c = left-none (left_as (lines_none _ c.loop-i.i c.loop-i.i (omega (arith, c.loop-i-test.false, c.loop-i.auto.i-end))) c.loop-i.invariant)
