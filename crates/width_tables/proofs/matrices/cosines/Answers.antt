-- The first half stands in the room, and the second half half a turn on.
use Rattle.std.proofs.Common.{◌≡◌, ◌+◌, ◌/◌, ◌%◌, ◌≤◌, ◌<◌, ◌^◌, length, take, sym, ◌∙◌, arith}
use lib.Seq.{length-take-le}
use Rattle.integers.specs.Places.{places}
use Rattle.tables.specs.Widths.{half_width}
use Rattle.tables.proofs.Sizes.{cosine-size}
use Rattle.width_tables.proofs.PartLaws.{measured}
use Rattle.width_tables.proofs.ListLaws.{cosine_in, cosine-turn, cosines-by-threes, cosine-list, room-same, front-now, front-small, both_halves}
use Rattle.width_tables.proofs.matrices.cosines.Goals as goal

pub nonzero_div-half-2 : goal.nonzero_div-half-2
nonzero_div-half-2 c = omega (arith, measured c.args.width c.requires.width_nonzero.0)

pub overflow_cast-half : goal.overflow_cast-half
overflow_cast-half c = omega (arith, measured c.args.width c.requires.width_nonzero.0)

pub slice_bounds-cosines_by_threes-end : goal.slice_bounds-cosines_by_threes-end
slice_bounds-cosines_by_threes-end c = omega (arith, measured c.args.width c.requires.width_nonzero.0)

pub slice_bounds-cosines_by_threes-end-2 : goal.slice_bounds-cosines_by_threes-end-2
slice_bounds-cosines_by_threes-end-2 c = sym (length-take-le (c.args.width / 2) c.args.room.now (omega (arith, measured c.args.width c.requires.width_nonzero.0)))

pub half_turn_on-requires : goal.half_turn_on-requires
half_turn_on-requires c =
    let N = c.args.width in
    let h = N / 2 in
    let m = measured N c.requires.width_nonzero.0 in
    let ys = c.cosines_by_threes.new.out in
    let filled = cosines-by-threes N h m.half _ ys c.cosines_by_threes.ensures in
    let fits : h ≤ length c.args.room.now = omega (arith, m) in (
      omega (arith, m),
      omega (arith, m, room-same h (cosine_in N) ys c.args.room.now filled fits),
      front-small h (2 ^ 28) (cosine_in N) _ (front-now h (cosine_in N) ys c.args.room.now filled fits) (λ i. cosine-size _) (omega arith),
    )

pub returns : goal.returns
returns c =
    let N = c.args.width in
    let h = N / 2 in
    let m = measured N c.requires.width_nonzero.0 in
    let ys = c.cosines_by_threes.new.out in
    let filled = cosines-by-threes N h m.half _ ys c.cosines_by_threes.ensures in
    let fits : h ≤ length c.args.room.now = omega (arith, m) in
    both_halves N h (cosine_in N) (omega (arith, m)) (omega (arith, m, room-same h (cosine_in N) ys c.args.room.now filled fits)) (front-now h (cosine_in N) ys c.args.room.now filled fits) (cosine-turn N h m.half) c.half_turn_on.ensures
    ∙ cosine-list N
