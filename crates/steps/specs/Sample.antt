-- The sample of document 01, computed on the definitions.
use Rattle.std.specs.Prelude.{◌≡◌, refl, List, [], ◌∷◌, ◌++◌, ℤ, pos, negsuc, replicate}
use Rattle.integers.specs.Floor.{round, floor_div}
use Rattle.tables.specs.Widths.{by_width, half_width}
use Rattle.tables.specs.Angles.{half_turn, reflected, below_zero, signed}
use Rattle.tables.specs.Numbers.{sines, half_tangents, half_tangents8, secants, secants8, cosine_of, sine_of, half_tangent_of, secant_of}
use Rattle.steps.specs.Places.{tab, sum}
use Rattle.steps.specs.Steps.{root_log, tangent, sine, cosine, odd_of, secant, alternate, tangent_amount, sine_amount, rotated_a, rotated_b, lower, held, top_of, bottom_of, amount1, amount2, amount3, stage1, stage2, stage3, stage4, stage5, stages, frame, unrotated_a, unrotated_b, unfolded, unstage1, unstage2, unstage3, unstage4, unstage5, interleaved, unstages}

abbrev block : List ℤ
block = pos 100 ∷ pos 0 ∷ pos 0 ∷ pos 0 ∷ pos 0 ∷ pos 0 ∷ pos 0 ∷ pos 0 ∷ []

abbrev none : List ℤ
none = pos 0 ∷ pos 0 ∷ pos 0 ∷ pos 0 ∷ []

abbrev first : List ℤ
first = pos 39 ∷ negsuc 23 ∷ negsuc 47 ∷ pos 4 ∷ pos 50 ∷ pos 14 ∷ negsuc 43 ∷ negsuc 32 ∷ []

lower-is : lower 8 block ≡ pos 0 ∷ pos 0 ∷ pos 0 ∷ pos 100 ∷ []
unfolding lower rotated_a tangent_amount sine_amount tangent sine half_tangent_of half_tangents half_tangents8 by_width half_width sine_of cosine_of sines half_turn reflected below_zero signed round floor_div tab
lower-is = refl

held-is : held 8 block ≡ negsuc 9 ∷ pos 0 ∷ pos 0 ∷ pos 0 ∷ []
unfolding held rotated_b rotated_a tangent_amount sine_amount tangent sine half_tangent_of half_tangents half_tangents8 by_width half_width sine_of cosine_of sines half_turn reflected below_zero signed round floor_div tab
held-is = refl

frame_is : frame 8 none block ≡ first
unfolding frame lower rotated_a tangent_amount sine_amount tangent sine half_tangent_of half_tangents half_tangents8 by_width half_width sine_of cosine_of sines half_turn reflected below_zero signed round floor_div tab stages stage1 stage2 stage3 stage4 stage5 amount1 amount2 amount3 top_of bottom_of root_log sum alternate cosine secant odd_of secant_of secants secants8
frame_is = refl
