-- How long what each step gives is.
use mathlib.Core.Path.{◌≡◌, refl}
use mathlib.Core.List.{List}
use Prim.Native.Nat.{ℕ, ◌+◌, ◌<◌}
use native.Mathlib.Omega.{arith}
use lib.IntN.{ℤ}
use lib.ListN.{length, length-append}
use Rattle.tables.specs.Widths.{half_width}
use Rattle.tables.proofs.ByWidth.{at_each}
use Rattle.integers.proofs.PlaceLaws.{length-places}
use Rattle.steps.specs.Steps.{lower, held, unfolded, top_of, bottom_of, interleaved, stage1, stage2, stage3, stage4, stage5, stages, unstage1, unstage2, unstage3, unstage4, unstage5, unstages}

-- every width is twice its half
pub width-half : (N : ℕ) → 0 < half_width N → half_width N + half_width N ≡ N
unfolding half_width
width-half = at_each (λ N M. 0 < M → M + M ≡ N) 4 16 64 0 (λ h. refl) (λ h. refl) (λ h. refl) (λ N x y z h. absurd (omega arith))

module _ (N : ℕ) where
  pub length-top : (f : List ℤ) → length (top_of N f) ≡ half_width N
  unfolding top_of
  length-top f = length-places (half_width N) _

  pub length-bottom : (f : List ℤ) → length (bottom_of N f) ≡ half_width N
  unfolding bottom_of
  length-bottom f = length-places (half_width N) _

  pub length-stage1 : (top bottom : List ℤ) → length (stage1 N top bottom) ≡ half_width N
  unfolding stage1
  length-stage1 top bottom = length-places (half_width N) _

  pub length-stage2 : (top bottom : List ℤ) → length (stage2 N top bottom) ≡ half_width N
  unfolding stage2
  length-stage2 top bottom = length-places (half_width N) _

  pub length-stage3 : (top bottom : List ℤ) → length (stage3 N top bottom) ≡ half_width N
  unfolding stage3
  length-stage3 top bottom = length-places (half_width N) _

  pub length-stage4 : (top bottom : List ℤ) → length (stage4 N top bottom) ≡ half_width N
  unfolding stage4
  length-stage4 top bottom = length-places (half_width N) _

  pub length-stage5 : (top bottom : List ℤ) → length (stage5 N top bottom) ≡ half_width N
  unfolding stage5
  length-stage5 top bottom = length-places (half_width N) _

  pub length-unstage1 : (top bottom : List ℤ) → length (unstage1 N top bottom) ≡ half_width N
  unfolding unstage1
  length-unstage1 top bottom = length-places (half_width N) _

  pub length-unstage2 : (top bottom : List ℤ) → length (unstage2 N top bottom) ≡ half_width N
  unfolding unstage2
  length-unstage2 top bottom = length-places (half_width N) _

  pub length-unstage3 : (top bottom : List ℤ) → length (unstage3 N top bottom) ≡ half_width N
  unfolding unstage3
  length-unstage3 top bottom = length-places (half_width N) _

  pub length-unstage4 : (top bottom : List ℤ) → length (unstage4 N top bottom) ≡ half_width N
  unfolding unstage4
  length-unstage4 top bottom = length-places (half_width N) _

  pub length-unstage5 : (top bottom : List ℤ) → length (unstage5 N top bottom) ≡ half_width N
  unfolding unstage5
  length-unstage5 top bottom = length-places (half_width N) _

  pub length-stages : (f : List ℤ) → length (stages N f) ≡ half_width N + half_width N
  unfolding stages
  length-stages f = simp (length-append, length-stage4, length-stage5)

  pub length-unstages : (c : List ℤ) → length (unstages N c) ≡ N
  unfolding unstages interleaved
  length-unstages c = length-places N _

  pub length-lower : (x : List ℤ) → length (lower N x) ≡ half_width N
  unfolding lower
  length-lower x = length-places (half_width N) _

  pub length-held : (x : List ℤ) → length (held N x) ≡ half_width N
  unfolding held
  length-held x = length-places (half_width N) _

  pub length-unfolded : (low high : List ℤ) → length (unfolded N low high) ≡ N
  unfolding unfolded
  length-unfolded low high = length-places N _
