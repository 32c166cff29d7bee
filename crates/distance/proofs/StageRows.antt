-- The row of coefficient k before the five stages: close to the coefficient on the folded values.
use mathlib.Core.Path.{◌≡◌, sym, ◌∙◌, ap}
use mathlib.Core.List.{List, ◌++◌}
use Prim.Native.Nat.{ℕ, ◌+◌, ◌*◌}
use native.Mathlib.Omega.{arith}
use lib.ListN.{length, take, drop, length-append}
use lib.IntN.{ℤ, ◌+ℤ◌}
use Rattle.integers.specs.Vectors.{dot, plus, mul_vec}
use Rattle.integers.proofs.Ring.{ring}
use Rattle.integers.proofs.Products.{dot-plus, dot-plus-r}
use Rattle.steps.specs.Places.{at}
use Rattle.steps.specs.RowForm.{rev, negated_row, alt, evens, odds, RowTables, row_stage1, row_stage2, row_stage3, row_stage4, row_stage5, row_stages}
use Rattle.steps.proofs.Lists.{Len, len-lift, len-plus, len-mul, len-rev, len-alt, len-negative, len-evens, len-odds, len_take, len-drop}
use Rattle.steps.proofs.RowLengths.{Good, lift_a, lift_b, len-lift_a, len-lift_b}
use Rattle.distance.proofs.Transposed.{unit, len-unit, dot-unit, dot-rev, dot-alt, dot-signs, dot-halves}
use Rattle.distance.proofs.Columns.{cols, len-cols, mul_parts, mul_sparse, len-parts, len-sparse, dot-parts, dot-sparse}
use Rattle.distance.proofs.Carried.{Row, down_a, down_b, row_a, row_b, row_at, turned, row3, signed, row2, added, row1, row_of, columns}
use Rattle.distance.proofs.Closeness.{Close, Fit, close_a, close_b, fit_a, fit_b, re_read, exact}
use Rattle.distance.proofs.Rotations.{fit-row_a, fit-row_b, close-lift_a, close-lift_b}

module _ (w : RowTables) (ok : Good w) where
  -- ---- the frame's place k, and stages 4 and 5, which are the lifts of the rotation on (top, reversed bottom)
  close_at : (k : ℕ) (t b : List ℤ) → Len w.M t → Len w.M b → Close (row_at w k) (at (t ++ rev b) k) t b
  unfolding row_at
  close_at k t b h l =
      let u = unit (w.M + w.M) k in
      let lu = len-unit (w.M + w.M) k in
      let all : Len (w.M + w.M) (t ++ rev b) = omega (arith, length-append t (rev b), len-rev b l) in
      record {
        le = exact (at (t ++ rev b) k) (dot (take w.M u) t +ℤ dot (rev (drop w.M u)) b)
            (sym (dot-unit (w.M + w.M) k (t ++ rev b) all) ∙ dot-halves u t (rev b) lu h ∙ ap (λ z. dot (take w.M u) t +ℤ z) (dot-rev (drop w.M u) b (len-drop u lu) l));
      }

  fit_at : (k : ℕ) → Fit w.M (row_at w k)
  unfolding row_at
  fit_at k =
      let u = unit (w.M + w.M) k in
      let lu = len-unit (w.M + w.M) k in
      record { fa = len_take u lu; fb = len-rev (drop w.M u) (len-drop u lu); pp = omega arith }

  close-turned : (r : Row) (c : ℤ) (t b : List ℤ) → Fit w.M r → Len w.M b → Close r c t (rev b) → Close (turned r) c t b
  unfolding turned
  close-turned r c t b f l k = record {
    le = re_read c (dot r.a t +ℤ dot r.b (rev b)) (dot r.a t +ℤ dot (rev r.b) b) r.p r.e
        (ap (λ z. dot r.a t +ℤ z) (dot-rev r.b b f.fb l)) k.le;
  }

  fit-turned : (r : Row) → Fit w.M r → Fit w.M (turned r)
  unfolding turned
  fit-turned r f = record { fa = f.fa; fb = len-rev r.b f.fb; pp = f.pp }

  -- stages 4 and 5: the frame's place k on the top and the bottom behind stage 3
  row45 : ℕ → Row
  row45 k = turned (row_a w (row_b w (row_at w k)))

  fit45 : (k : ℕ) → Fit w.M (row45 k)
  unfolding row45
  fit45 k = fit-turned _ (fit-row_a w ok _ (fit-row_b w ok _ (fit_at k)))

  close45 : (k : ℕ) (t b : List ℤ) → Len w.M t → Len w.M b → Close (row45 k) (at (row_stage4 w t b ++ row_stage5 w (row_stage4 w t b) b) k) t b
  unfolding row45 row_stage4 row_stage5
  close45 k t b h l =
      let y = rev b in
      let ly = len-rev b l in
      let t2 = lift_a w t y in
      let lt = len-lift_a w ok t y h ly in
      let f0 = fit_at k in
      let c = at (t2 ++ rev (lift_b w t2 y)) k in
      let k0 = close_at k t2 (lift_b w t2 y) lt (len-lift_b w ok t2 y lt ly) in
      let k1 = close-lift_b w ok (row_at w k) c t2 y f0 lt ly k0 in
      let k2 = close-lift_a w ok (row_b w (row_at w k)) c t y (fit-row_b w ok (row_at w k) f0) h ly k1 in
      close-turned (row_a w (row_b w (row_at w k))) c t b (fit-row_a w ok _ (fit-row_b w ok _ f0)) l k2

  -- the dense stages
  len-ct : (x : List ℤ) → Len w.M (mul_parts (columns w) x)
  unfolding columns
  len-ct x = len-parts (cols w.M w.cs) x (len-cols w.M w.cs ok.cs-rows)

  close3 : (r : Row) (c : ℤ) (t b : List ℤ) → Fit w.M r → Len w.M b → Close r c t (row_stage3 w t b) → Close (row3 w r) c t b
  unfolding row_stage3 row3
  close3 r c t b f l = close_b (28 + 2 * w.l) (mul_sparse w.M r.b w.a3) r c t b (mul_vec w.a3 t) (l ∙ sym (len-mul w.a3 t ok.a3-len))
      (dot-sparse w.M r.b w.a3 t ok.a3-rows) (f.fa ∙ sym (len-sparse w.M r.b w.a3 ok.a3-rows))

  fit3 : (r : Row) → Fit w.M r → Fit w.M (row3 w r)
  unfolding row3
  fit3 r f = fit_b (28 + 2 * w.l) (mul_sparse w.M r.b w.a3) r (len-sparse w.M r.b w.a3 ok.a3-rows) f

  close-signed : (r : Row) (c : ℤ) (t b : List ℤ) → Close r c (negated_row (alt t)) b → Close (signed r) c t b
  unfolding signed
  close-signed r c t b k = record {
    le = re_read c (dot r.a (negated_row (alt t)) +ℤ dot r.b b) (dot (negated_row (alt r.a)) t +ℤ dot r.b b) r.p r.e
        (ap (λ z. z +ℤ dot r.b b) (dot-signs r.a t)) k.le;
  }

  close2 : (r : Row) (c : ℤ) (t b : List ℤ) → Fit w.M r → Len w.M t → Close r c (row_stage2 w t b) b → Close (row2 w (columns w) r) c t b
  unfolding row_stage2 row2 columns
  close2 r c t b f h k = close-signed (down_a (28 + w.l) (mul_parts (columns w) r.a) r) c t b
      (close_a (28 + w.l) (mul_parts (cols w.M w.cs) r.a) r c (negated_row (alt t)) b (mul_vec w.cs b) (len-negative (alt t) (len-alt t h) ∙ sym (len-mul w.cs b ok.cs-len))
      (dot-parts w.M r.a w.cs b ok.cs-rows (f.fa ∙ sym ok.cs-len)) (f.fb ∙ sym (len-ct r.a)) k)

  fit2 : (r : Row) → Fit w.M r → Fit w.M (row2 w (columns w) r)
  unfolding row2 signed
  fit2 r f =
      let g = fit_a (28 + w.l) (mul_parts (columns w) r.a) r (len-ct r.a) f in
      let d = down_a (28 + w.l) (mul_parts (columns w) r.a) r in
      record { fa = len-negative (alt d.a) (len-alt d.a g.fa); fb = g.fb; pp = g.pp }

  close-added : (r : Row) (c : ℤ) (t b : List ℤ) → Fit w.M r → Len w.M t → Len w.M b → Close r c t (plus b t) → Close (added r) c t b
  unfolding added
  close-added r c t b f h l k = record {
    le = re_read c (dot r.a t +ℤ dot r.b (plus b t)) (dot (plus r.a r.b) t +ℤ dot r.b b) r.p r.e
        (rw (dot-plus-r r.b b t (l ∙ sym h), dot-plus r.a r.b t (f.fa ∙ sym f.fb)) (swapped (dot r.a t) (dot r.b b) (dot r.b t))) k.le;
  }
    where
      swapped : (x y z : ℤ) → x +ℤ (y +ℤ z) ≡ (x +ℤ z) +ℤ y
      swapped x y z = simp ring

  close1 : (r : Row) (c : ℤ) (t b : List ℤ) → Fit w.M r → Len w.M t → Len w.M b → Close r c t (row_stage1 w t b) → Close (row1 w (columns w) r) c t b
  unfolding row_stage1 row1 columns
  close1 r c t b f h l k =
      let gs = alt (mul_parts (cols w.M w.cs) r.b) in
      let lg = len-alt (mul_parts (cols w.M w.cs) r.b) (len-ct r.b) in
      close-added (down_b (27 + w.l) gs r) c t b (fit_b (27 + w.l) gs r lg f) h l
      (close_b (27 + w.l) gs r c t (plus b t) (mul_vec w.cs (alt t)) (len-plus b t l h ∙ sym (len-mul w.cs (alt t) ok.cs-len))
      (dot-parts w.M r.b w.cs (alt t) ok.cs-rows (f.fb ∙ sym ok.cs-len) ∙ dot-alt (mul_parts (cols w.M w.cs) r.b) t) (f.fa ∙ sym lg) k)

  fit1 : (r : Row) → Fit w.M r → Fit w.M (row1 w (columns w) r)
  unfolding row1 added
  fit1 r f =
      let gs = alt (mul_parts (columns w) r.b) in
      let g = fit_b (27 + w.l) gs r (len-alt (mul_parts (columns w) r.b) (len-ct r.b)) f in
      let d = down_b (27 + w.l) gs r in
      record { fa = len-plus d.a d.b g.fa g.fb; fb = g.fb; pp = g.pp }

  len-one : (t b : List ℤ) → Len w.M t → Len w.M b → Len w.M (row_stage1 w t b)
  unfolding row_stage1
  len-one t b h l = len-lift (27 + w.l) (plus b t) (mul_vec w.cs (alt t)) (len-plus b t l h) (len-mul w.cs (alt t) ok.cs-len)

  len-two : (t b : List ℤ) → Len w.M t → Len w.M (row_stage2 w t b)
  unfolding row_stage2
  len-two t b h = len-lift (28 + w.l) (negated_row (alt t)) (mul_vec w.cs b) (len-negative (alt t) (len-alt t h)) (len-mul w.cs b ok.cs-len)

  len-three : (t b : List ℤ) → Len w.M b → Len w.M (row_stage3 w t b)
  unfolding row_stage3
  len-three t b l = len-lift (28 + 2 * w.l) b (mul_vec w.a3 t) l (len-mul w.a3 t ok.a3-len)

  pub fit_row : (k : ℕ) → Fit w.M (row_of w (columns w) k)
  unfolding row_of row45
  fit_row k = fit1 _ (fit2 _ (fit3 _ (fit45 k)))

  pub close-stages : (k : ℕ) (f : List ℤ) → length f ≡ w.M + w.M → Close (row_of w (columns w) k) (at (row_stages w f) k) (evens f) (odds f)
  unfolding row_stages row_of row45
  close-stages k f h =
      let t = evens f in
      let b = odds f in
      let lt = len-evens f h in
      let lb = len-odds f h in
      let b1 = row_stage1 w t b in
      let lb1 = len-one t b lt lb in
      let t1 = row_stage2 w t b1 in
      let lt1 = len-two t b1 lt in
      let b2 = row_stage3 w t1 b1 in
      let lb2 = len-three t1 b1 lb1 in
      let c = at (row_stage4 w t1 b2 ++ row_stage5 w (row_stage4 w t1 b2) b2) k in
      let r3 = row3 w (row45 k) in
      let f3 = fit3 (row45 k) (fit45 k) in
      let k3 = close3 (row45 k) c t1 b1 (fit45 k) lb1 (close45 k t1 b2 lt1 lb2) in
      let k2 = close2 r3 c t b1 f3 lt k3 in
      close1 (row2 w (columns w) r3) c t b (fit2 r3 f3) lt lb k2
