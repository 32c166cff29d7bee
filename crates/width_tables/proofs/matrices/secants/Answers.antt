-- The first half stands in the room, each number taken so many times, and the second half half a turn on.
use Rattle.std.proofs.Common.{◌≡◌, ◌+◌, ◌*◌, ◌/◌, ◌%◌, ◌≤◌, ◌<◌, ◌^◌, ℕ, List, ℤ, pos, ◌*ℤ◌, length, take, sym, ap₂, subst, ◌∙◌, w64, to_z, of_z, arith}
use borrow.Rule.Slice.PartMut.{put_mid}
use lib.Seq.{length-take-le}
use Rattle.integers.specs.Places.{places, at, Within}
use Rattle.integers.proofs.PlaceLaws.{within-places}
use Rattle.integers.proofs.Num.{Num, num, num-mul, mul-asks}
use Rattle.tables.specs.Widths.{half_width, scale}
use Rattle.tables.specs.Numbers.{secant_of}
use Rattle.tables.proofs.Sizes.{secant-size}
use Rattle.width_tables.specs.Filled.{list_room}
use Rattle.width_tables.proofs.OrderLaws.{scale-le}
use Rattle.width_tables.proofs.PartLaws.{measured}
use Rattle.width_tables.proofs.ListLaws.{secant_in, secant-turn, secant-list, room-same, front-now, front-small, both_halves, square_le, scaled-size, scaled-is}
use Rattle.width_tables.proofs.matrices.secants.Goals as goal

module _ (N : ℕ) (by : ℤ) (e : by ≡ pos (scale N)) where
  times : Num w64 4 (of_z w64 by) by
  times = num w64 by (rw e (scale-le N)) tt

  square-is : to_z w64 (of_z w64 (to_z w64 (of_z w64 by) *ℤ to_z w64 (of_z w64 by))) ≡ pos (scale N * scale N)
  square-is = (num-mul times times tt).holds.is ∙ ap₂ ◌*ℤ◌ e e

module _ (N : ℕ) (z : 0 < half_width N) (room : List ℤ) (long : list_room N ≤ length room) where
  abbrev h : ℕ
  h = N / 2

  abbrev g : ℕ → ℤ
  g k = secant_of N (pos (2 * k + 1))

  front_long : length (take h room) ≡ h
  front_long = length-take-le h room (omega (arith, measured N z))

  -- the secants of the first half stand in the room
  module _ (ys : List ℤ) (filled : ys ≡ places (length (take h room)) g) where
    abbrev room1 : List ℤ
    room1 = put_mid 0 h room ys

    room1-long : length room1 ≡ length room
    room1-long = room-same h g ys room filled (omega (arith, measured N z))

    first-half : take h room1 ≡ places h g
    first-half = front-now h g ys room filled (omega (arith, measured N z))

    half-long : length (take h room1) ≡ h
    half-long = length-take-le h room1 (omega (arith, measured N z, room1-long))

    -- each taken so many times
    module _ (zs : List ℤ) (by : ℤ) (scaled : zs ≡ places (length (take h room1)) (λ k. by *ℤ at (take h room1) k)) (is : by ≡ pos (scale N * scale N)) where
      scaled-are : zs ≡ places (length (take h room1)) (secant_in N)
      scaled-are = scaled-is h (pos (scale N * scale N)) g (take h room1) zs first-half scaled is

      room2-long : length (put_mid 0 h room1 zs) ≡ length room
      room2-long = room-same h (secant_in N) zs room1 scaled-are (omega (arith, measured N z, room1-long)) ∙ room1-long

      scaled-half : take h (put_mid 0 h room1 zs) ≡ places h (secant_in N)
      scaled-half = front-now h (secant_in N) zs room1 scaled-are (omega (arith, measured N z, room1-long))

pub slice_bounds-secants-end : goal.slice_bounds-secants-end
slice_bounds-secants-end c = omega (arith, measured c.args.width c.requires.0)

pub slice_bounds-secants-end-2 : goal.slice_bounds-secants-end-2
slice_bounds-secants-end-2 c = sym (front_long c.args.width c.requires.0 c.args.room.now c.requires.1)

pub secants-requires : goal.secants-requires
secants-requires c = (c.requires.0, omega (arith, front_long c.args.width c.requires.0 c.args.room.now c.requires.1, measured c.args.width c.requires.0))

pub overflow_mul-scale : goal.overflow_mul-scale
overflow_mul-scale c = let t = times c.args.width c.args.scale c.requires.2 in mul-asks t t tt

pub slice_bounds-scaled-end : goal.slice_bounds-scaled-end
slice_bounds-scaled-end c = omega (arith, measured c.args.width c.requires.0, room1-long c.args.width c.requires.0 c.args.room.now c.requires.1 c.secants.new.out c.secants.ensures)

pub slice_bounds-scaled-end-2 : goal.slice_bounds-scaled-end-2
slice_bounds-scaled-end-2 c = sym (half-long c.args.width c.requires.0 c.args.room.now c.requires.1 c.secants.new.out c.secants.ensures)

pub scaled-requires : goal.scaled-requires
scaled-requires c =
    let N = c.args.width in
    record {
      by_bound = rw (square-is N c.args.scale c.requires.2) (square_le N);
      within = subst (Within 11000000000) (sym (first-half N c.requires.0 c.args.room.now c.requires.1 c.secants.new.out c.secants.ensures)) (within-places (N / 2) 11000000000 (λ k. secant_of N (pos (2 * k + 1))) (λ i l. secant-size N _));
    }

pub half_turn_on-requires : goal.half_turn_on-requires
half_turn_on-requires c =
    let N = c.args.width in
    let m = measured N c.requires.0 in
    let is = square-is N c.args.scale c.requires.2 in
    let long = room2-long N c.requires.0 c.args.room.now c.requires.1 c.secants.new.out c.secants.ensures c.scaled.new.list _ c.scaled.ensures is in
    let half = scaled-half N c.requires.0 c.args.room.now c.requires.1 c.secants.new.out c.secants.ensures c.scaled.new.list _ c.scaled.ensures is in
    (omega (arith, m), omega (arith, m, long), front-small (N / 2) 176000000000 (secant_in N) _ half (λ i. scaled-size N _) (omega arith))

pub returns : goal.returns
returns c =
    let N = c.args.width in
    let m = measured N c.requires.0 in
    let is = square-is N c.args.scale c.requires.2 in
    let long = room2-long N c.requires.0 c.args.room.now c.requires.1 c.secants.new.out c.secants.ensures c.scaled.new.list _ c.scaled.ensures is in
    let half = scaled-half N c.requires.0 c.args.room.now c.requires.1 c.secants.new.out c.secants.ensures c.scaled.new.list _ c.scaled.ensures is in
    both_halves N (N / 2) (secant_in N) (omega (arith, m)) (omega (arith, m, long)) half (secant-turn N (N / 2) m.half) c.half_turn_on.ensures ∙ secant-list N
