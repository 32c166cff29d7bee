-- The sample of document 01: the exact coefficient 0 of its first frame, some 38.46 (the steps give 39), computed on the definitions.
use Rattle.std.specs.Prelude.{◌≡◌, refl, List, ◌∷◌, ℤ, pos, replicate}
use Rattle.integers.specs.Floor.{above}
use Rattle.tables.specs.Angles.{half_turn, reflected, below_zero}
use Rattle.tables.specs.Boxes.{only, negated, root_by, root, root_up, under, halved, at_double, box_by, cosine_box}
use Rattle.steps.specs.Places.{sum}
use Rattle.distance.specs.Exact.{signed_box, any_cosine, any_sine, sine_angle, cosine_angle, lesser, greater, term, total, least, greatest}

abbrev none : List ℤ
none = replicate 8 (pos 0)

abbrev block : List ℤ
block = pos 100 ∷ replicate 7 (pos 0)

least-is : least 8 0 none block ≡ pos 102255940793974542674387133903089091000
unfolding least total greater term sum sine_angle cosine_angle any_sine any_cosine signed_box below_zero reflected half_turn cosine_box box_by at_double halved under root_up root root_by negated only above
least-is = refl

greatest-is : greatest 8 0 none block ≡ pos 102255940793974543082105183383979211200
unfolding greatest total lesser term sum sine_angle cosine_angle any_sine any_cosine signed_box below_zero reflected half_turn cosine_box box_by at_double halved under root_up root root_by negated only above
greatest-is = refl
