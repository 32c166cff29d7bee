-- The halves behind each stage, from those that the stage took; and how large they are then.
use mathlib.Core.Path.{◌≡◌, sym, ap, ap₂, subst, ◌∙◌}
use mathlib.Core.List.{List}
use Prim.Native.Nat.{ℕ}
use lib.IntN.{ℤ}
use Rattle.integers.specs.Places.{Within}
use Rattle.steps.specs.Steps.{stage1, stage2, stage3, stage4, stage5, unstage1, unstage2, unstage3, unstage4, unstage5}
use Rattle.stages.specs.Own.Stages.{bottom1, top2, bottom3, top4, bottom5, unbottom5, untop4, unbottom3, untop2, unbottom1}
use Rattle.stages.proofs.FrameSizes.{within1, within2, within3, within4, unwithin5, unwithin4, unwithin3, unwithin2}

module _ (N : ℕ) (top bottom : List ℤ) where
  -- forward
  module _ {b1 : List ℤ} (e1 : b1 ≡ stage1 N top bottom) where
    first_is : b1 ≡ bottom1 N top bottom
    unfolding bottom1
    first_is = e1

    pub first-within : Within 50000 top → Within 50000 bottom → Within 650000 b1
    first-within w v = subst (Within 650000) (sym first_is) (within1 N top bottom w v)

    module _ {t2 : List ℤ} (e2 : t2 ≡ stage2 N top b1) where
      second_is : t2 ≡ top2 N top bottom
      unfolding top2
      second_is = e2 ∙ ap (stage2 N top) first_is

      pub second-within : Within 50000 top → Within 50000 bottom → Within 3950000 t2
      second-within w v = subst (Within 3950000) (sym second_is) (within2 N top bottom w v)

      module _ {b3 : List ℤ} (e3 : b3 ≡ stage3 N t2 b1) where
        third_is : b3 ≡ bottom3 N top bottom
        unfolding bottom3
        third_is = e3 ∙ ap₂ (stage3 N) second_is first_is

        pub third-within : Within 50000 top → Within 50000 bottom → Within 63850000 b3
        third-within w v = subst (Within 63850000) (sym third_is) (within3 N top bottom w v)

        module _ {t4 : List ℤ} (e4 : t4 ≡ stage4 N t2 b3) where
          pub fourth_is : t4 ≡ top4 N top bottom
          unfolding top4
          fourth_is = e4 ∙ ap₂ (stage4 N) second_is third_is

          pub fourth-within : Within 50000 top → Within 50000 bottom → Within 67800000 t4
          fourth-within w v = subst (Within 67800000) (sym fourth_is) (within4 N top bottom w v)

          pub fifth_is : {b5 : List ℤ} → b5 ≡ stage5 N t4 b3 → b5 ≡ bottom5 N top bottom
          unfolding bottom5
          fifth_is e5 = e5 ∙ ap₂ (stage5 N) fourth_is third_is

  -- back
  module _ {b5 : List ℤ} (e5 : b5 ≡ unstage5 N top bottom) where
    unfifth_is : b5 ≡ unbottom5 N top bottom
    unfolding unbottom5
    unfifth_is = e5

    pub unfifth-within : Within 1048576 top → Within 1048576 bottom → Within 1572864 b5
    unfifth-within w v = subst (Within 1572864) (sym unfifth_is) (unwithin5 N top bottom w v)

    module _ {t4 : List ℤ} (e4 : t4 ≡ unstage4 N top b5) where
      unfourth_is : t4 ≡ untop4 N top bottom
      unfolding untop4
      unfourth_is = e4 ∙ ap (unstage4 N top) unfifth_is

      pub unfourth-within : Within 1048576 top → Within 1048576 bottom → Within 2621440 t4
      unfourth-within w v = subst (Within 2621440) (sym unfourth_is) (unwithin4 N top bottom w v)

      module _ {b3 : List ℤ} (e3 : b3 ≡ unstage3 N t4 b5) where
        unthird_is : b3 ≡ unbottom3 N top bottom
        unfolding unbottom3
        unthird_is = e3 ∙ ap₂ (unstage3 N) unfourth_is unfifth_is

        pub unthird-within : Within 1048576 top → Within 1048576 bottom → Within 43515904 b3
        unthird-within w v = subst (Within 43515904) (sym unthird_is) (unwithin3 N top bottom w v)

        module _ {t2 : List ℤ} (e2 : t2 ≡ unstage2 N t4 b3) where
          pub unsecond_is : t2 ≡ untop2 N top bottom
          unfolding untop2
          unsecond_is = e2 ∙ ap₂ (unstage2 N) unfourth_is unthird_is

          pub unsecond-within : Within 1048576 top → Within 1048576 bottom → Within 263716864 t2
          unsecond-within w v = subst (Within 263716864) (sym unsecond_is) (unwithin2 N top bottom w v)

          pub unfirst_is : {b1 : List ℤ} → b1 ≡ unstage1 N t2 b3 → b1 ≡ unbottom1 N top bottom
          unfolding unbottom1
          unfirst_is e1 = e1 ∙ ap₂ (unstage1 N) unsecond_is unthird_is
