-- The rows of a width and what the steps make of them: how long they are.
use mathlib.Core.Path.{◌≡◌, refl}
use mathlib.Core.List.{List}
use Prim.Native.Nat.{ℕ}
use lib.IntN.{ℤ}
use lib.ListN.{length}
use Rattle.integers.specs.Vectors.{Rows}
use Rattle.integers.proofs.PlaceLaws.{length-tab}
use Rattle.tables.specs.Widths.{half_width}
use Rattle.steps.specs.Steps.{root_log, tangent, cosine, secant}
use Rattle.steps.specs.RowForm.{lift, RowTables, stage3_entry, row_tables_of, tan_amounts, sin_amounts, rot_a, rot_b}
use Rattle.steps.proofs.Lists.{Len, len-lift, len-times, rows-tab}

-- ---- the tables of a width have its lengths
pub record Good (w : RowTables) : Type 0 where
  pub tan-len : length w.tan ≡ w.M
  pub sin-len : length w.sin ≡ w.M
  pub cs-len : length w.cs ≡ w.M
  pub cs-rows : Rows w.M w.cs
  pub a3-len : length w.a3 ≡ w.M
  pub a3-rows : Rows w.M w.a3

pub good : (N : ℕ) → Good (row_tables_of N)
unfolding row_tables_of
good N =
    let M = half_width N in
    record {
      tan-len = length-tab _ M 0;
      sin-len = length-tab _ M 0;
      cs-len = length-tab _ M 0;
      cs-rows = rows-tab (cosine N) M M 0;
      a3-len = length-tab _ M 0;
      a3-rows = rows-tab (λ m n. stage3_entry M (root_log N) m n (secant N m n) (cosine N m n) (tangent N n)) M M 0;
    }

-- adds round(−t·a) to b; adds round(s·b) to a
abbrev pub lift_b : RowTables → List ℤ → List ℤ → List ℤ
lift_b w a b = lift 28 b (tan_amounts w a)

abbrev pub lift_a : RowTables → List ℤ → List ℤ → List ℤ
lift_a w a b = lift 28 a (sin_amounts w b)

pub M-of : (N : ℕ) → (row_tables_of N).M ≡ half_width N
unfolding row_tables_of
M-of N = refl

-- ---- lengths
module _ (w : RowTables) (ok : Good w) where
  pub len-tangents : (a : List ℤ) → Len w.M a → Len w.M (tan_amounts w a)
  unfolding tan_amounts
  len-tangents a h = len-times w.tan a ok.tan-len h

  pub len-sines : (b : List ℤ) → Len w.M b → Len w.M (sin_amounts w b)
  unfolding sin_amounts
  len-sines b l = len-times w.sin b ok.sin-len l

  pub len-lift_b : (a b : List ℤ) → Len w.M a → Len w.M b → Len w.M (lift_b w a b)
  len-lift_b a b h l = len-lift 28 b (tan_amounts w a) l (len-tangents a h)

  pub len-lift_a : (a b : List ℤ) → Len w.M a → Len w.M b → Len w.M (lift_a w a b)
  len-lift_a a b h l = len-lift 28 a (sin_amounts w b) h (len-sines b l)

  pub len-rot_a : (a b : List ℤ) → Len w.M a → Len w.M b → Len w.M (rot_a w a b)
  unfolding rot_a
  len-rot_a a b h l = len-lift_a a (lift_b w a b) h (len-lift_b a b h l)

  pub len-rot_b : (a b : List ℤ) → Len w.M a → Len w.M b → Len w.M (rot_b w a b)
  unfolding rot_b
  len-rot_b a b h l = len-lift_b (rot_a w a b) (lift_b w a b) (len-rot_a a b h l) (len-lift_b a b h l)
