-- How large the halves of a frame become, stage by stage, and how long they are.
use mathlib.Core.Path.{◌≡◌}
use mathlib.Core.Bool.{true, false}
use mathlib.Core.List.{List}
use Prim.Native.Nat.{ℕ}
use lib.IntN.{ℤ}
use lib.ListN.{length}
use Rattle.integers.specs.Places.{Within}
use Rattle.tables.specs.Widths.{half_width}
use Rattle.stages.specs.Own.Stages.{bottom1, top2, bottom3, top4, bottom5, unbottom5, untop4, unbottom3, untop2, unbottom1}
use Rattle.stages.proofs.StageSizes.{size1, size2, size3, size4, size5}
use Rattle.steps.proofs.Lengths.{length-stage1, length-stage2, length-stage3, length-stage4, length-stage5, length-unstage1, length-unstage2, length-unstage3, length-unstage4, length-unstage5}

module _ (N : ℕ) (top bottom : List ℤ) where
  -- forward, from folded values within 50,000
  module _ (ht : Within 50000 top) (hb : Within 50000 bottom) where
    pub within1 : Within 650000 (bottom1 N top bottom)
    unfolding bottom1
    within1 = size1 N 50000 50000 top bottom false ht hb

    pub within2 : Within 3950000 (top2 N top bottom)
    unfolding top2
    within2 = size2 N 650000 50000 top (bottom1 N top bottom) false within1 ht

    pub within3 : Within 63850000 (bottom3 N top bottom)
    unfolding bottom3
    within3 = size3 N 3950000 650000 (top2 N top bottom) (bottom1 N top bottom) false within2 within1

    pub within4 : Within 67800000 (top4 N top bottom)
    unfolding top4
    within4 = size4 N 63850000 3950000 (top2 N top bottom) (bottom3 N top bottom) false within3 within2

    pub within5 : Within 97750000 (bottom5 N top bottom)
    unfolding bottom5
    within5 = size5 N 33900000 63850000 (top4 N top bottom) (bottom3 N top bottom) false within4 within3

  -- back, from coefficients within 1,048,576
  module _ (ht : Within 1048576 top) (hb : Within 1048576 bottom) where
    pub unwithin5 : Within 1572864 (unbottom5 N top bottom)
    unfolding unbottom5
    unwithin5 = size5 N 524288 1048576 top bottom true ht hb

    pub unwithin4 : Within 2621440 (untop4 N top bottom)
    unfolding untop4
    unwithin4 = size4 N 1572864 1048576 top (unbottom5 N top bottom) true unwithin5 ht

    pub unwithin3 : Within 43515904 (unbottom3 N top bottom)
    unfolding unbottom3
    unwithin3 = size3 N 2621440 1572864 (untop4 N top bottom) (unbottom5 N top bottom) true unwithin4 unwithin5

    pub unwithin2 : Within 263716864 (untop2 N top bottom)
    unfolding untop2
    unwithin2 = size2 N 43515904 2621440 (untop4 N top bottom) (unbottom3 N top bottom) true unwithin3 unwithin4

  pub long1 : length (bottom1 N top bottom) ≡ half_width N
  unfolding bottom1
  long1 = length-stage1 N top bottom

  pub long2 : length (top2 N top bottom) ≡ half_width N
  unfolding top2
  long2 = length-stage2 N top (bottom1 N top bottom)

  pub long3 : length (bottom3 N top bottom) ≡ half_width N
  unfolding bottom3
  long3 = length-stage3 N (top2 N top bottom) (bottom1 N top bottom)

  pub long4 : length (top4 N top bottom) ≡ half_width N
  unfolding top4
  long4 = length-stage4 N (top2 N top bottom) (bottom3 N top bottom)

  pub long5 : length (bottom5 N top bottom) ≡ half_width N
  unfolding bottom5
  long5 = length-stage5 N (top4 N top bottom) (bottom3 N top bottom)

  pub unlong5 : length (unbottom5 N top bottom) ≡ half_width N
  unfolding unbottom5
  unlong5 = length-unstage5 N top bottom

  pub unlong4 : length (untop4 N top bottom) ≡ half_width N
  unfolding untop4
  unlong4 = length-unstage4 N top (unbottom5 N top bottom)

  pub unlong3 : length (unbottom3 N top bottom) ≡ half_width N
  unfolding unbottom3
  unlong3 = length-unstage3 N (untop4 N top bottom) (unbottom5 N top bottom)

  pub unlong2 : length (untop2 N top bottom) ≡ half_width N
  unfolding untop2
  unlong2 = length-unstage2 N (untop4 N top bottom) (unbottom3 N top bottom)

  pub unlong1 : length (unbottom1 N top bottom) ≡ half_width N
  unfolding unbottom1
  unlong1 = length-unstage1 N (untop2 N top bottom) (unbottom3 N top bottom)
