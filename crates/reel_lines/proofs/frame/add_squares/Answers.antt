-- A sum and a square fit 64 bits, and the sums are those of one coefficient more.
use Rattle.std.proofs.Common.{rules, ◌≡◌, pos, take, get_or, add-one, sym, FitsSigned, w32, w64}
use Rattle.std.proofs.lemmas.Int.{to_z-of_z}
use Rattle.reels.specs.Reel.{squares_added}
use Rattle.reel_lines.proofs.SumLaws.{none-added, added-step, added-fits}
use Rattle.reel_lines.proofs.frame.add_squares.Goals as goal

pub loop-i-init : goal.loop-i-init
loop-i-init c = sym (none-added c.args.sums.now c.args.frame.now)

pub overflow_add-sums : goal.overflow_add-sums
overflow_add-sums c =
    let i = c.loop-i.i in
    let inv : c.loop-i.sums ≡ squares_added c.args.sums.now (take i c.args.frame.now) = c.loop-i.invariant in
    let e : FitsSigned w64 (get_or c.loop-i.sums i (pos 0)) = search rules in
    let q : FitsSigned w64 c.square.result = search rules in
    let x : FitsSigned w32 (get_or c.args.frame.now i (pos 0)) = search rules in
    rw (to_z-of_z w64 _ e, to_z-of_z w64 _ q, c.square.ensures, to_z-of_z w32 _ x, inv)
    (added-fits c.args.sums.now c.args.frame.now i c.loop-i-test.true c.requires.within c.requires.sums_within)

pub loop-i-preserved : goal.loop-i-preserved
loop-i-preserved c =
    let i = c.loop-i.i in
    let inv : c.loop-i.sums ≡ squares_added c.args.sums.now (take i c.args.frame.now) = c.loop-i.invariant in
    let e : FitsSigned w64 (get_or c.loop-i.sums i (pos 0)) = search rules in
    let q : FitsSigned w64 c.square.result = search rules in
    let x : FitsSigned w32 (get_or c.args.frame.now i (pos 0)) = search rules in
    let fits = added-fits c.args.sums.now c.args.frame.now i c.loop-i-test.true c.requires.within c.requires.sums_within in
    rw (to_z-of_z w64 _ e, to_z-of_z w64 _ q, c.square.ensures, to_z-of_z w32 _ x, inv, to_z-of_z w64 _ fits, add-one i)
    (added-step c.args.sums.now c.args.frame.now i c.loop-i-test.true)
