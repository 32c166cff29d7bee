-- `width_tables::fill::fill_lifts` meets its contract.
use borrow.Author.Rules.{rules}
use mathlib.Core.Path.{◌≡◌, sym, ◌∙◌}
use Prim.Native.Nat.{ℕ, ◌/◌}
use native.Mathlib.Omega.{arith}
use lib.ListN.{length, take}
use lib.Seq.{length-take-le}
use Rattle.tables.specs.Widths.{half_width}
use Rattle.width_tables.proofs.PartLaws.{Measured, measured}
use Rattle.width_tables.proofs.FillLaws.{sines-end, lifts-made}
use Rattle.width_tables.proofs.fill.fill_lifts.Statement.{statement}
use Rattle.width_tables.proofs.fill.fill_lifts.Tie as tie

module _ (s : tie.Start) where
  abbrev N : ℕ
  N = s.args.width

  m : Measured N (half_width N)
  m = measured N s.requires.0.0

  front_long : length (take (N / 2) s.args.t.now) ≡ N / 2
  front_long = length-take-le (N / 2) s.args.t.now (omega (arith, m, s.requires.0.1))

div-step : tie.Need-nonzero_div-step
div-step c = omega (arith, m c)

cast-step : tie.Need-overflow_cast-step
cast-step c = omega (arith, m c)

slice-relend-prefix-half-tangents : tie.Need-slice_bounds-half_tangents-end
slice-relend-prefix-half-tangents c = omega (arith, m c)

slice-aggregate-half-tangents : tie.Need-slice_bounds-half_tangents-end-2
slice-aggregate-half-tangents c = sym (front_long c.before)

half-tangents-requires : tie.Need-half_tangents-requires
half-tangents-requires c κs = (c.requires.0.0, front_long c.before ∙ (m c.before).half)

add-cosines : tie.Need-overflow_add-step
add-cosines c = omega (arith, m c.before.before.before)

mul-cosines : tie.Need-overflow_mul-step
mul-cosines c = omega (arith, m c.before.before.before)

mul-cosines-2 : tie.Need-offset_bounds-t-half
mul-cosines-2 c = omega (arith, m c.before.before.before)

part-cosines-end : tie.Need-slice_bounds-cosines-end
part-cosines-end c =
    let s = c.before.before.before in
    sines-end (N s) (N s / 2) s.args.t.now c.half_tangents.new.out s.requires.0.0 (m s).half s.requires.0.1 c.half_tangents.ensures

returns : tie.Need-returns
returns c =
    let at-half-tangents = c in
    let s = at-half-tangents.before.before.before.before.before.before in
    lifts-made (N s) (N s / 2) s.args.t.now at-half-tangents.half_tangents.new.out s.requires.0.0 (m s).half s.requires.0.1
    at-half-tangents.half_tangents.ensures c.cosines.new.out c.cosines.ensures

pub fill_lifts_spec : {M : Type 1} → statement M
fill_lifts_spec =
    tie.close
    (tie.spec
    div-step
    cast-step
    slice-relend-prefix-half-tangents
    slice-aggregate-half-tangents
    half-tangents-requires
    add-cosines
    mul-cosines
    mul-cosines-2
    (λ c. search rules)
    (λ c. search rules)
    part-cosines-end
    (λ c κs. search rules)
    (λ c. search rules)
    returns)
