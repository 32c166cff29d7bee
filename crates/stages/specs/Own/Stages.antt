-- The halves of a frame through the stages.
use Rattle.std.specs.Prelude.{List, ℕ, ℤ}
use Rattle.steps.specs.Steps.{stage1, stage2, stage3, stage4, stage5, unstage1, unstage2, unstage3, unstage4, unstage5}

-- after stages 1, 2 and 3, and the halves of the frame
unfoldable pub bottom1 : ℕ → List ℤ → List ℤ → List ℤ
bottom1 N top bottom = stage1 N top bottom

unfoldable pub top2 : ℕ → List ℤ → List ℤ → List ℤ
top2 N top bottom = stage2 N top (bottom1 N top bottom)

unfoldable pub bottom3 : ℕ → List ℤ → List ℤ → List ℤ
bottom3 N top bottom = stage3 N (top2 N top bottom) (bottom1 N top bottom)

unfoldable pub top4 : ℕ → List ℤ → List ℤ → List ℤ
top4 N top bottom = stage4 N (top2 N top bottom) (bottom3 N top bottom)

unfoldable pub bottom5 : ℕ → List ℤ → List ℤ → List ℤ
bottom5 N top bottom = stage5 N (top4 N top bottom) (bottom3 N top bottom)

-- and back
unfoldable pub unbottom5 : ℕ → List ℤ → List ℤ → List ℤ
unbottom5 N top bottom = unstage5 N top bottom

unfoldable pub untop4 : ℕ → List ℤ → List ℤ → List ℤ
untop4 N top bottom = unstage4 N top (unbottom5 N top bottom)

unfoldable pub unbottom3 : ℕ → List ℤ → List ℤ → List ℤ
unbottom3 N top bottom = unstage3 N (untop4 N top bottom) (unbottom5 N top bottom)

unfoldable pub untop2 : ℕ → List ℤ → List ℤ → List ℤ
untop2 N top bottom = unstage2 N (untop4 N top bottom) (unbottom3 N top bottom)

unfoldable pub unbottom1 : ℕ → List ℤ → List ℤ → List ℤ
unbottom1 N top bottom = unstage1 N (untop2 N top bottom) (unbottom3 N top bottom)
