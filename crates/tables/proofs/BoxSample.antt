-- The number that document 01 gives of the tables, and three boxes, computed on the definitions.
use mathlib.Core.Path.{◌≡◌, refl}
use lib.IntN.{pos}
use lib.ListN.{get_or}
use Rattle.integers.specs.Floor.{above}
use Rattle.tables.specs.Numbers.{sines}
use Rattle.tables.specs.Boxes.{only, negated, root_by, root, root_up, under, halved, at_double, box_by, cosine_box}

-- "2^28 × sin(π/4) gives 189,812,531."
eighth : get_or sines 128 0 ≡ 189812531
unfolding sines
eighth = refl

-- the cosine of π/4; that of π/8, whose double is π/4; and that of 3π/8, whose double passes the right angle
quarter-box : cosine_box 256 ≡ record { low = pos 815238614083298888; high = pos 815238614083298889 }
unfolding cosine_box box_by at_double halved under root_up root root_by negated only above
quarter-box = refl

eighth-box : cosine_box 128 ≡ record { low = pos 1065160580698383124; high = pos 1065160580698383125 }
unfolding cosine_box box_by at_double halved under root_up root root_by negated only above
eighth-box = refl

past-box : cosine_box 384 ≡ record { low = pos 441203958630471859; high = pos 441203958630471861 }
unfolding cosine_box box_by at_double halved under root_up root root_by negated only above
past-box = refl
