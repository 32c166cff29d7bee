use native.Mathlib.Omega.{arith}
use lib.ListN.{drop, length-drop}
use Rattle.text_runs.proofs.UpToLaws.{part_length}
use Rattle.text_cases.proofs.samples.show_each.Goals as goal

-- a name ends within the list
pub slice_bounds-show-end : goal.slice_bounds-show-end
slice_bounds-show-end c =
    let l = c.args.list.now in
    let at = c.loop-at.at in
    omega (arith, c.end_of-end.ensures, part_length 10 (drop at l), length-drop at l, c.loop-at-test.true)
