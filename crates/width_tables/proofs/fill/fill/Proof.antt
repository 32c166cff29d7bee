-- `width_tables::fill::fill` meets its contract.
use borrow.Author.Rules.{rules}
use mathlib.Core.Path.{◌≡◌, sym, ap, ◌∙◌}
use mathlib.Core.List.{List, map}
use Prim.Native.Nat.{ℕ}
use native.Mathlib.Omega.{arith}
use lib.IntN.{ℤ, pos}
use lib.ListN.{length}
use mir.Syntax.{w64}
use mir.Val.{to_z, of_z}
use Rattle.integers.proofs.Held.{held-ok}
use Rattle.tables.specs.Widths.{half_width, scale}
use Rattle.tables.specs.Numbers.{sines}
use Rattle.width_tables.specs.Filled.{tables_long}
use Rattle.width_tables.proofs.PartLaws.{Measured, measured, quarter-long}
use Rattle.width_tables.proofs.FillLaws.{filled-made}
use Rattle.width_tables.proofs.fill.fill.Statement.{statement}
use Rattle.width_tables.proofs.fill.fill.Tie as tie

module _ (s : tie.Start) where
  abbrev N : ℕ
  N = s.args.width

  m : Measured N (half_width N)
  m = measured N s.requires.0

-- the list after each step
module _ (c : tie.After-fill_lifts) where
  abbrev s1 : tie.Start
  s1 = c.before.before.before.before.before

  abbrev scaled : tie.After-scale-scale
  scaled = c.before.before.before

  scale-is : to_z w64 (of_z w64 scaled.scale-scale.result) ≡ pos (scale (N s1))
  scale-is = (held-ok w64 scaled.scale-scale.result scaled.scale-scale.type_inv).is ∙ scaled.scale-scale.ensures

  quarter-is : scaled.quarter-quarter.result ≡ map pos sines
  quarter-is = scaled.quarter-quarter.ensures

  abbrev t1 : List ℤ
  t1 = c.fill_lifts.new.t

  t1-long : length t1 ≡ tables_long (N s1)
  t1-long = c.fill_lifts.ensures.long ∙ s1.requires.1

module _ (c : tie.After-by_threes) where
  abbrev c1 : tie.After-fill_lifts
  c1 = c.before.before.before

  abbrev s2 : tie.Start
  s2 = s1 c1

  abbrev t2 : List ℤ
  t2 = c.by_threes.new.t

  t2-long : length t2 ≡ tables_long (N s2)
  t2-long = c.by_threes.ensures.long ∙ t1-long c1

module _ (c : tie.After-fill_lists) where
  abbrev c2 : tie.After-by_threes
  c2 = c.before.before.before.before.before

  abbrev s3 : tie.Start
  s3 = s2 c2

  abbrev t3 : List ℤ
  t3 = c.fill_lists.new.t

  t3-long : length t3 ≡ tables_long (N s3)
  t3-long = c.fill_lists.ensures.long ∙ t2-long c2

slice-aggregate-fill-lifts : tie.Need-slice_bounds-fill_lifts-end
slice-aggregate-fill-lifts c = sym (ap length c.quarter-quarter.ensures ∙ quarter-long)

fill-lifts-requires : tie.Need-fill_lifts-requires
fill-lifts-requires c κs = let q = c in let s = q in ((s.requires.0, s.requires.1), q.quarter-quarter.ensures)

by-threes-requires : tie.Need-by_threes-requires
by-threes-requires c κs = let a = c.before.before in ((s1 a).requires.0, omega (arith, m (s1 a), t1-long a), scale-is a)

slice-aggregate-fill-lists : tie.Need-slice_bounds-fill_lists-end
slice-aggregate-fill-lists c = sym (ap length (quarter-is (c1 c.before.before)) ∙ quarter-long)

fill-lists-requires : tie.Need-fill_lists-requires
fill-lists-requires c κs = let a = c.before.before.before.before in let s = s2 a in ((s.requires.0, t2-long a, s.requires.2, scale-is (c1 a)), quarter-is (c1 a))

same_length : tie.Need-shape_of-t
same_length c = let a = c.before.before in t3-long a ∙ sym (s3 a).requires.1

returns : tie.Need-returns
returns c =
    let a = c.before.before in
    let b = c2 a in
    let s = s3 a in
    filled-made (N s) s.requires.0 s.requires.1 (c1 b).fill_lifts.ensures b.by_threes.ensures a.fill_lists.ensures

pub fill_spec : {M : Type 1} → statement M
fill_spec =
    tie.close
    (tie.spec
    (λ c κs. tt)
    (λ c κs. tt)
    slice-aggregate-fill-lifts
    fill-lifts-requires
    by-threes-requires
    slice-aggregate-fill-lists
    fill-lists-requires
    same_length
    (λ c. search rules)
    returns)
