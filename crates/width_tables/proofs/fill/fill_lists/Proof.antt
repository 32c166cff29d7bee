-- `width_tables::fill::fill_lists` meets its contract: the list of 7·M + 2·n numbers is cut at 7·M and at 7·M + n.
use borrow.Author.Rules.{rules}
use mathlib.Core.Path.{◌≡◌, ap, ◌∙◌}
use mathlib.Core.List.{List}
use Prim.Native.Nat.{ℕ, ◌+◌, ◌-◌, ◌*◌, ◌/◌, ◌^◌, ◌≤◌}
use native.Mathlib.Omega.{arith}
use lib.IntN.{ℤ}
use lib.ListN.{length, length-take, length-drop}
use mir.Syntax.{w64}
use Rattle.integers.proofs.Held.{held}
use Rattle.tables.specs.Widths.{half_width}
use Rattle.products.specs.Own.Whole.{LeafLists}
use Rattle.width_tables.specs.Filled.{leaves_long, list_room, cosine_list, secant_list}
use Rattle.width_tables.proofs.PartLaws.{Measured, measured}
use Rattle.width_tables.proofs.ListLaws.{leaves-are, tabled, leaves_of, cosines-within, cosines-fit, secants-within, secants-fit}
use Rattle.width_tables.proofs.FillLaws.{lists-made}
use Rattle.width_tables.proofs.fill.fill_lists.Statement.{statement}
use Rattle.width_tables.proofs.fill.fill_lists.Tie as tie

module _ (s : tie.Start) where
  abbrev N : ℕ
  N = s.args.width

  abbrev h : ℕ
  h = N / 2

  abbrev t : List ℤ
  t = s.args.t.now

  m : Measured N (half_width N)
  m = measured N s.requires.0.0

  abbrev middle : ℕ
  middle = (7 * h + length t) / 2

  middle-is : middle ≡ 7 * half_width N + leaves_long N
  middle-is = omega (arith, m, s.requires.0.1)

  first_count : middle - 7 * h ≡ leaves_long N
  first_count = omega (arith, m, middle-is)

  second-count : length t - middle ≡ leaves_long N
  second-count = omega (arith, m, middle-is, s.requires.0.1)

-- the cosines stand in the room
module _ (c : tie.After-cosines) where
  abbrev s1 : tie.Start
  s1 = c.before.before

  abbrev room : List ℤ
  room = c.cosines.new.room

  room_fits : list_room (N s1) ≤ length room
  room_fits = omega (arith, c.cosines.auto.room, s1.requires.0.2)

-- their leaf lists stand in the list
module _ (c : tie.After-leaf_lists) where
  abbrev c1 : tie.After-cosines
  c1 = c.before.before.before.before

  abbrev s2 : tie.Start
  s2 = s1 c1

  abbrev out1 : List ℤ
  out1 = c.leaf_lists.new.out

  room1-fits : list_room (N s2) ≤ length c.leaf_lists.new.room
  room1-fits = omega (arith, c.leaf_lists.auto.room, room_fits c1)

  out1-long : length out1 ≡ leaves_long (N s2)
  out1-long = c.leaf_lists.auto.out ∙ simp (length-take, length-drop) (omega (arith, m s2, middle-is s2, s2.requires.0.1))

  cosines : LeafLists (half_width (N s2)) (cosine_list (N s2)) out1
  cosines = leaves_of (N s2) (h s2) s2.requires.0.0 (m s2).half (cosine_list (N s2)) (room c1) c1.cosines.ensures (room_fits c1) out1 c.leaf_lists.ensures

-- the secants stand in the room
module _ (c : tie.After-secants) where
  abbrev c2 : tie.After-leaf_lists
  c2 = c.before.before.before.before

  abbrev s3 : tie.Start
  s3 = s2 c2

  abbrev back : tie.After-t-1
  back = c.before.before

  abbrev room2 : List ℤ
  room2 = c.secants.new.room

  room2-fits : list_room (N s3) ≤ length room2
  room2-fits = omega (arith, c.secants.auto.room, room1-fits c2)

-- and their leaf lists in the list
module _ (c : tie.After-leaf_lists-2) where
  abbrev c3 : tie.After-secants
  c3 = c.before.before.before.before

  abbrev s4 : tie.Start
  s4 = s3 c3

  abbrev out2 : List ℤ
  out2 = c.leaf_lists-2.new.out

  out2-long : length out2 ≡ leaves_long (N s4)
  out2-long = c.leaf_lists-2.auto.out ∙ simp (length-take, length-drop) (omega (arith, (back c3).t-1.given.1, m s4, middle-is s4, s4.requires.0.1))

  secants : LeafLists (half_width (N s4)) (secant_list (N s4)) out2
  secants = leaves_of (N s4) (h s4) s4.requires.0.0 (m s4).half (secant_list (N s4)) (room2 c3) c3.secants.ensures (room2-fits c3) out2 c.leaf_lists-2.ensures

mul-from : tie.Need-overflow_mul-from
mul-from c = omega (arith, m c)

add-middle : tie.Need-overflow_add-middle
add-middle c = omega (arith, m c)

cosines-requires : tie.Need-cosines-requires
cosines-requires c κs = let s = c in ((s.requires.0.0, s.requires.0.2), s.requires.1)

mul-leaf-lists : tie.Need-offset_bounds-t-from
mul-leaf-lists c = let s = s1 c.before.before in omega (arith, m s, middle-is s)

sub-leaf-lists : tie.Need-slice_bounds-leaf_lists-count
sub-leaf-lists c = let s = s1 c.before.before in omega (arith, m s, middle-is s)

part-leaf-lists-start : tie.Need-slice_bounds-leaf_lists-start
part-leaf-lists-start c = let s = s1 c.before.before in omega (arith, m s, middle-is s)

part-leaf-lists-end : tie.Need-slice_bounds-leaf_lists-end
part-leaf-lists-end c = let s = s1 c.before.before in omega (arith, m s, middle-is s)

leaf-lists-requires : tie.Need-leaf_lists-requires
leaf-lists-requires c κs =
    let a = c.before.before.before in
    let s = s1 a in (
      tabled (N s) (h s) s.requires.0.0 (m s).half (cosine_list (N s)) (room a) a.cosines.ensures (room_fits a) (2 ^ 28) (cosines-within (N s)) (cosines-fit (N s)),
      λ p. simp (length-take, length-drop) (omega (arith, leaves-are (N s) (h s) s.requires.0.0 (m s).half p, m s, middle-is s, s.requires.0.1)),
    )

secants-requires : tie.Need-secants-requires
secants-requires c κs = let a = c.before.before.before in let s = s2 a in (s.requires.0.0, room1-fits a, (held w64 s.args.scale s.ranges.scale).is ∙ s.requires.0.3)

mul-leaf-lists-2 : tie.Need-offset_bounds-t-middle
mul-leaf-lists-2 c = let s = s3 c.before.before in record { fits = omega (arith, m s, middle-is s) }

sub-leaf-lists-2 : tie.Need-slice_bounds-leaf_lists-count-2
sub-leaf-lists-2 c = let s = s3 c.before.before in omega (arith, m s, middle-is s, s.requires.0.1)

part-leaf-lists-start-2 : tie.Need-slice_bounds-leaf_lists-start-2
part-leaf-lists-start-2 c = let s = s3 c.before.before in omega (arith, m s, middle-is s, s.requires.0.1)

part-leaf-lists-end-2 : tie.Need-slice_bounds-leaf_lists-end-2
part-leaf-lists-end-2 c = let a = c.before.before in let s = s3 a in omega (arith, (back a).t-1.given.1, m s, middle-is s, s.requires.0.1)

leaf-lists-requires-2 : tie.Need-leaf_lists-requires-2
leaf-lists-requires-2 c κs =
    let a = c.before.before.before in
    let s = s3 a in (
      tabled (N s) (h s) s.requires.0.0 (m s).half (secant_list (N s)) (room2 a) a.secants.ensures (room2-fits a) 176000000000 (secants-within (N s)) (secants-fit (N s)),
      λ p. simp (length-take, length-drop) (omega (arith, leaves-are (N s) (h s) s.requires.0.0 (m s).half p, (back a).t-1.given.1, m s, middle-is s, s.requires.0.1)),
    )

returns : tie.Need-returns
returns c =
    let d = c.before.before in
    let b = c2 (c3 d) in
    let s = s4 d in
    lists-made (N s) (t s) (out1 b) (out2 d) s.requires.0.1 s.requires.0.0 (ap (λ x. 7 * x) (m s).half) (middle-is s)
    (first_count s) (second-count s) (out1-long b) (out2-long d) (cosines b) (secants d)

pub fill_lists_spec : {M : Type 1} → statement M
fill_lists_spec =
    tie.close
    (tie.spec
    mul-from
    add-middle
    cosines-requires
    mul-leaf-lists
    sub-leaf-lists
    part-leaf-lists-start
    part-leaf-lists-end
    leaf-lists-requires
    secants-requires
    mul-leaf-lists-2
    sub-leaf-lists-2
    part-leaf-lists-start-2
    part-leaf-lists-end-2
    leaf-lists-requires-2
    (λ c. search rules)
    (λ c. search rules)
    returns)
