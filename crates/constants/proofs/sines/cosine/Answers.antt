use Rattle.std.proofs.Common.{◌≡◌, ◌-◌, ◌∙◌, map, pos, length, arith, refl, ap, ap₂, get_or, w64, to_z, of_z}
use Rattle.std.proofs.lemmas.Int.{ints}
use lib.ListN.{get_or-map}
use Rattle.integers.specs.Places.{at}
use Rattle.integers.proofs.Held.{held-ok}
use Rattle.tables.specs.Angles.{signed}
use Rattle.tables.specs.Numbers.{sines, cosine_of}
use Rattle.tables.proofs.Quadrants.{reflected-le}
use Rattle.constants.proofs.sines.cosine.Goals as goal

long : length (map pos sines) ≡ 257
unfolding sines
long = refl

pub overflow_sub-at : goal.overflow_sub-at
overflow_sub-at c = omega (arith, c.from-at.ensures, c.first_quadrant-folded.ensures.0, reflected-le 256 c.args.j (omega arith))

pub bounds-table-at : goal.bounds-table-at
bounds-table-at c = omega (arith, ap length c.requires ∙ long)

pub returns : goal.returns
unfolding cosine_of
returns c =
    let folded = c.first_quadrant-folded.ensures in
    let place = 256 - c.from-at.result in
    let read : to_z w64 (of_z w64 c.from.result) ≡ at c.args.table.now place = omega (arith, ints) in
    (held-ok w64 c.signed.result c.signed.type_inv).is ∙ c.signed.ensures
    ∙ ap₂ signed folded.1
    (read ∙ ap (λ l. at l place) c.requires ∙ get_or-map pos sines place 0
    ∙ ap (λ k. pos (get_or sines (256 - k) 0)) (c.from-at.ensures ∙ folded.0))
