-- The folded values of a block behind what was held, and the frame that they make.
use mathlib.Core.Path.{◌≡◌, refl, sym, ap, ap₂, subst, ◌∙◌}
use mathlib.Core.List.{List, ◌++◌}
use Prim.Native.Nat.{ℕ, ◌^◌}
use native.Mathlib.Omega.{arith}
use lib.IntN.{ℤ}
use lib.ListN.{length}
use Rattle.integers.specs.Places.{Within}
use Rattle.integers.proofs.PlaceLaws.{within_all, within-up}
use Rattle.integers.proofs.Products.{all_append}
use Rattle.tables.specs.Widths.{half_width}
use Rattle.steps.specs.Limits.{reading_limit, folded_limit}
use Rattle.steps.specs.Steps.{lower, top_of, bottom_of, stages, frame}
use Rattle.steps.proofs.Rotation.{lower-gate}
use Rattle.stages.specs.Own.Stages.{top4, bottom5}
use Rattle.stages.proofs.FrameSizes.{long4, long5, within4, within5}
use Rattle.runs.proofs.Searches.{all-within}
use Rattle.frames.proofs.FrameLaws.{stages-halves, top_within, bottom-within}

module _ (N : ℕ) (previous block : List ℤ) where
  abbrev folded : List ℤ
  folded = lower N block ++ previous

  frame_is : stages N folded ≡ frame N previous block
  unfolding frame
  frame_is = refl

  -- the halves folded
  module _ {top bottom : List ℤ} (h : (top ≡ top_of N folded) × (bottom ≡ bottom_of N folded)) where
    module _ (p : Within folded_limit previous) (b : Within reading_limit block) where
      folded-within : Within folded_limit folded
      folded-within = within_all folded_limit _ (all_append folded_limit (lower N block) previous (lower-gate N block (all-within reading_limit block b)) (all-within folded_limit previous p))

      pub folded-top : Within folded_limit top
      folded-top = subst (Within folded_limit) (sym h.0) (top_within N folded_limit folded folded-within)

      pub folded-bottom : Within folded_limit bottom
      folded-bottom = subst (Within folded_limit) (sym h.1) (bottom-within N folded_limit folded folded-within)

    -- and those of the frame
    module _ {top₂ bottom₂ : List ℤ} (k : (top₂ ≡ top4 N top bottom) × (bottom₂ ≡ bottom5 N top bottom)) where
      pub top-long : length top₂ ≡ half_width N
      top-long = ap length k.0 ∙ long4 N top bottom

      pub bottom-long : length bottom₂ ≡ half_width N
      bottom-long = ap length k.1 ∙ long5 N top bottom

      module _ (p : Within folded_limit previous) (b : Within reading_limit block) where
        pub top-within : Within (2 ^ 30) top₂
        top-within = subst (Within (2 ^ 30)) (sym k.0) (within-up (within4 N top bottom (folded-top p b) (folded-bottom p b)) (omega arith))

        pub bottom-within₂ : Within (2 ^ 30) bottom₂
        bottom-within₂ = subst (Within (2 ^ 30)) (sym k.1) (within-up (within5 N top bottom (folded-top p b) (folded-bottom p b)) (omega arith))

      pub frame_made : top₂ ++ bottom₂ ≡ frame N previous block
      frame_made = ap₂ ◌++◌ (k.0 ∙ ap₂ (top4 N) h.0 h.1) (k.1 ∙ ap₂ (bottom5 N) h.0 h.1) ∙ stages-halves N folded ∙ frame_is
