-- Where the parts of a filled list begin and end, for `omega`.
use native.Mathlib.Omega.{arith}
use mathlib.Core.Path.{◌≡◌, ap₂, subst, ◌∙◌}
use mathlib.Core.List.{List}
use Prim.Native.Nat.{ℕ, ◌+◌, ◌-◌, ◌*◌, ◌/◌, ◌≤◌, ◌<◌}
use lib.IntN.{ℤ}
use lib.ListN.{length}
use Rattle.tables.specs.Widths.{half_width}
use Rattle.products.specs.Own.Whole.{LeafLists}
use Rattle.width_tables.specs.Filled.{Filled, part, leaves_long, cosine_list, secant_list}
use Rattle.width_tables.specs.Own.Parts.{Sines}
use Rattle.width_tables.proofs.PartLaws.{measured}

pub record Cut (N : ℕ) (t : List ℤ) : Type 0 where
  pub double : N ≡ half_width N + half_width N
  pub most : half_width N ≤ 64
  pub leaves : leaves_long N ≤ 729
  pub long : length t ≡ 7 * half_width N + 2 * leaves_long N

pub cut : {N : ℕ} {t : List ℤ} → 0 < half_width N → Filled N t → Cut N t
cut {N} z f = let m = measured N z in record { double = m.double; most = m.most; leaves = m.leaves; long = f.long ∙ m.long }

module _ {N : ℕ} {t : List ℤ} (z : 0 < half_width N) (f : Filled N t) (h : ℕ) (e : h ≡ half_width N) where
  w : Cut N t
  w = cut z f

  part-is : (a n b m : ℕ) → a ≡ b → n ≡ m → part a n t ≡ part b m t
  part-is a n b m = ap₂ (λ a n. part a n t)

  pub sines-cut : Sines N (part h (N - h) t)
  sines-cut = record { is = part-is h (N - h) (half_width N) (half_width N) e (omega (arith, w, e)) ∙ f.sines }

  pub cosine-leaves-cut : LeafLists (half_width N) (cosine_list N) (part (7 * h) ((7 * h + length t) / 2 - 7 * h) t)
  cosine-leaves-cut = subst (LeafLists (half_width N) (cosine_list N)) (part-is (7 * half_width N) (leaves_long N) (7 * h) ((7 * h + length t) / 2 - 7 * h) (omega (arith, e)) (omega (arith, w, e))) f.cosines

  pub secant-leaves-cut : LeafLists (half_width N) (secant_list N) (part ((7 * h + length t) / 2) (length t - (7 * h + length t) / 2) t)
  secant-leaves-cut =
      subst (LeafLists (half_width N) (secant_list N))
      (part-is (7 * half_width N + leaves_long N) (leaves_long N) ((7 * h + length t) / 2) (length t - (7 * h + length t) / 2) (omega (arith, w, e)) (omega (arith, w, e)))
      f.secants
