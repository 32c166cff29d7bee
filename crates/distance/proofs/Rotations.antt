-- The row of a coefficient before each lift of all pairs, and before their rotation.
use mathlib.Core.Path.{sym, ◌∙◌}
use mathlib.Core.List.{List}
use lib.IntN.{ℤ}
use Rattle.steps.specs.RowForm.{times, RowTables, tan_amounts, sin_amounts, rot_a, rot_b}
use Rattle.steps.proofs.Lists.{Len, len-times}
use Rattle.steps.proofs.RowLengths.{Good, lift_a, lift_b, len-lift_b, len-rot_a}
use Rattle.distance.proofs.Transposed.{dot-times}
use Rattle.distance.proofs.Carried.{Row, row_a, row_b, row_rot}
use Rattle.distance.proofs.Closeness.{Close, Fit, close_a, close_b, fit_a, fit_b}

module _ (w : RowTables) (ok : Good w) where
  pub fit-row_b : (r : Row) → Fit w.M r → Fit w.M (row_b w r)
  unfolding row_b
  fit-row_b r f = fit_b 28 _ r (len-times w.tan r.b ok.tan-len f.fb) f

  pub fit-row_a : (r : Row) → Fit w.M r → Fit w.M (row_a w r)
  unfolding row_a
  fit-row_a r f = fit_a 28 _ r (len-times w.sin r.a ok.sin-len f.fa) f

  pub close-lift_b : (r : Row) (c : ℤ) (x y : List ℤ) → Fit w.M r → Len w.M x → Len w.M y → Close r c x (lift_b w x y) → Close (row_b w r) c x y
  unfolding tan_amounts row_b
  close-lift_b r c x y f h l = close_b 28 (times w.tan r.b) r c x y (times w.tan x) (l ∙ sym (len-times w.tan x ok.tan-len h))
      (dot-times r.b w.tan x f.fb ok.tan-len h) (f.fa ∙ sym (len-times w.tan r.b ok.tan-len f.fb))

  pub close-lift_a : (r : Row) (c : ℤ) (x y : List ℤ) → Fit w.M r → Len w.M x → Len w.M y → Close r c (lift_a w x y) y → Close (row_a w r) c x y
  unfolding sin_amounts row_a
  close-lift_a r c x y f h l = close_a 28 (times w.sin r.a) r c x y (times w.sin y) (h ∙ sym (len-times w.sin y ok.sin-len l))
      (dot-times r.a w.sin y f.fa ok.sin-len l) (f.fb ∙ sym (len-times w.sin r.a ok.sin-len f.fa))

  -- ---- the rotation
  pub fit-rot : (r : Row) → Fit w.M r → Fit w.M (row_rot w r)
  unfolding row_rot
  fit-rot r f = fit-row_b _ (fit-row_a _ (fit-row_b r f))

  pub close-rot : (r : Row) (c : ℤ) (x y : List ℤ) → Fit w.M r → Len w.M x → Len w.M y → Close r c (rot_a w x y) (rot_b w x y) → Close (row_rot w r) c x y
  unfolding rot_a rot_b row_rot
  close-rot r c x y f h l k =
      let fB = fit-row_b r f in
      let y1 = lift_b w x y in
      let l1 = len-lift_b w ok x y h l in
      let k1 = close-lift_b r c (rot_a w x y) y1 f (len-rot_a w ok x y h l) l1 k in
      let k2 = close-lift_a (row_b w r) c x y1 fB h l1 k1 in
      close-lift_b (row_a w (row_b w r)) c x y (fit-row_a (row_b w r) fB) h l k2
