-- A row on the folded values of two blocks, carried before the fold: close on the 2N readings.
use mathlib.Core.Path.{◌≡◌, refl, sym, ◌∙◌, ap}
use mathlib.Core.List.{List, ◌++◌}
use Prim.Native.Nat.{ℕ, ◌+◌, ◌≤◌}
use native.Mathlib.Omega.{arith}
use lib.ListN.{length, take, drop, length-append, length-replicate}
use lib.IntN.{ℤ, pos, nat_abs, ◌+ℤ◌, ◌-ℤ◌, ◌*ℤ◌, +ℤ_comm, +ℤ_idl, +ℤ_idr}
use Rattle.integers.specs.Vectors.{dot}
use Rattle.integers.proofs.Ring.{*ℤ-distribl}
use Rattle.integers.proofs.Order.{near_add}
use Rattle.integers.proofs.Products.{dot-zeros, dot-append}
use Rattle.steps.specs.RowForm.{rev, RowTables, rot_a, rot_b, row_lower, row_held}
use Rattle.steps.proofs.Lists.{Len, len-rev, len_take, len-drop}
use Rattle.steps.proofs.RowLengths.{Good, len-rot_a, len-rot_b}
use Rattle.distance.proofs.Transposed.{zeros, dot-rev, dot-halves, dot-joined}
use Rattle.distance.proofs.Carried.{Row, down_a, down_b, row_a, row_b, row_rot, low_row, high_row, current_row, previous_row, flat}
use Rattle.distance.proofs.Closeness.{Close, Fit, re_read, exact}
use Rattle.distance.proofs.Rotations.{fit-rot, close-rot}

-- this block's lower places, and what the block before held
abbrev pub folded_rows : RowTables → List ℤ → List ℤ → List ℤ
folded_rows w previous current = row_lower w current ++ row_held w previous

-- two numbers, each near its own
two-near : (q : ℕ) (x₁ x₂ y₁ y₂ : ℤ) {e₁ e₂ : ℕ} → nat_abs (pos q *ℤ x₁ -ℤ y₁) ≤ e₁ → nat_abs (pos q *ℤ x₂ -ℤ y₂) ≤ e₂
    → nat_abs (pos q *ℤ (x₁ +ℤ x₂) -ℤ (y₂ +ℤ y₁)) ≤ e₁ + e₂
two-near q x₁ x₂ y₁ y₂ h k = rw (*ℤ-distribl (pos q) x₁ x₂, +ℤ_comm y₂ y₁) (near_add (pos q *ℤ x₁) y₁ (pos q *ℤ x₂) y₂ h k)

module _ (w : RowTables) (ok : Good w) where
  pub len-flat : (r : Row) → Fit w.M r → length (flat r) ≡ w.M + w.M
  unfolding flat
  len-flat r f = omega (arith, length-append r.a (rev r.b), len-rev r.b f.fb, f.fa)

  -- ---- a row on the folded places
  module _ (f : List ℤ) (h : length f ≡ w.M + w.M) where
    fit_low : Fit w.M (low_row w f)
    unfolding low_row
    fit_low = record { fa = len-rev (take w.M f) (len_take f h); fb = length-replicate w.M (pos 0); pp = omega arith }

    fit-high : Fit w.M (high_row w f)
    unfolding high_row
    fit-high = record { fa = length-replicate w.M (pos 0); fb = len-drop f h; pp = omega arith }

    pub fit-current : Fit w.M (current_row w f)
    unfolding current_row
    fit-current = fit-rot w ok (low_row w f) fit_low

    pub fit-previous : Fit w.M (previous_row w f)
    unfolding previous_row
    fit-previous = fit-rot w ok (high_row w f) fit-high

    same_scale : (previous_row w f).p ≡ (current_row w f).p
    unfolding previous_row current_row low_row high_row row_rot row_a row_b down_a down_b
    same_scale = refl

  -- ---- a block
  module _ (x : List ℤ) (l : length x ≡ w.M + w.M) where
    abbrev front : List ℤ
    front = take w.M x

    abbrev behind : List ℤ
    behind = rev (drop w.M x)

    len-front : Len w.M front
    len-front = len_take x l

    len-behind : Len w.M behind
    len-behind = len-rev (drop w.M x) (len-drop x l)

    abbrev rotated_a : List ℤ
    rotated_a = rot_a w front behind

    abbrev rotated_b : List ℤ
    rotated_b = rot_b w front behind

    len-low : Len w.M (row_lower w x)
    unfolding row_lower
    len-low = len-rev rotated_a (len-rot_a w ok front behind len-front len-behind)

    len-high : Len w.M (row_held w x)
    unfolding row_held
    len-high = len-rot_b w ok front behind len-front len-behind

    -- what is close on the rotated pairs is close on the readings
    before-fold : (r : Row) (c : ℤ) → Fit w.M r → Close r c rotated_a rotated_b → nat_abs (pos (row_rot w r).p *ℤ c -ℤ dot (flat (row_rot w r)) x) ≤ (row_rot w r).e
    unfolding flat
    before-fold r c f k =
        let t = row_rot w r in
        let g = fit-rot w ok r f in
        re_read c (dot t.a front +ℤ dot t.b behind) (dot (t.a ++ rev t.b) x) t.p t.e
        (ap (λ z. dot t.a front +ℤ z) (dot-rev t.b (drop w.M x) g.fb (len-drop x l)) ∙ dot-joined t.a (rev t.b) x l g.fa)
        (close-rot w ok r c front behind f len-front len-behind k).le

    module _ (f : List ℤ) (h : length f ≡ w.M + w.M) where
      near-current : nat_abs (pos (current_row w f).p *ℤ dot (take w.M f) (row_lower w x) -ℤ dot (flat (current_row w f)) x) ≤ (current_row w f).e
      unfolding current_row low_row row_lower
      near-current =
          let g = take w.M f in
          before-fold (low_row w f) (dot g (rev rotated_a)) (fit_low f h)
          (record {
            le = exact (dot g (rev rotated_a)) (dot (rev g) rotated_a +ℤ dot (zeros w.M) rotated_b)
                (dot-rev g rotated_a (len_take f h) (len-rot_a w ok front behind len-front len-behind)
                ∙ sym (ap (λ z. dot (rev g) rotated_a +ℤ z) (dot-zeros w.M rotated_b) ∙ +ℤ_idr (dot (rev g) rotated_a)));
          })

      near-previous : nat_abs (pos (previous_row w f).p *ℤ dot (drop w.M f) (row_held w x) -ℤ dot (flat (previous_row w f)) x) ≤ (previous_row w f).e
      unfolding previous_row high_row row_held
      near-previous =
          let g = drop w.M f in
          before-fold (high_row w f) (dot g rotated_b) (fit-high f h)
          (record {
            le = exact (dot g rotated_b) (dot (zeros w.M) rotated_a +ℤ dot g rotated_b)
                (sym (ap (λ z. z +ℤ dot g rotated_b) (dot-zeros w.M rotated_a) ∙ +ℤ_idl (dot g rotated_b)));
          })

  -- ---- both blocks
  module _ (previous current : List ℤ) (lp : length previous ≡ w.M + w.M) (lc : length current ≡ w.M + w.M) where
    pub len-folded : length (folded_rows w previous current) ≡ w.M + w.M
    len-folded = omega (arith, length-append (row_lower w current) (row_held w previous), len-low current lc, len-high previous lp)

    pub near-folded : (f : List ℤ) → length f ≡ w.M + w.M
        → nat_abs (pos (current_row w f).p *ℤ dot f (folded_rows w previous current)
        -ℤ dot (flat (previous_row w f) ++ flat (current_row w f)) (previous ++ current)) ≤ (current_row w f).e + (previous_row w f).e
    near-folded f h =
        let v = previous_row w f in
        let c = current_row w f in
        rw (dot-halves f (row_lower w current) (row_held w previous) h (len-low current lc), dot-append (flat v) previous (flat c) current (len-flat v (fit-previous f h) ∙ sym lp))
        (two-near c.p (dot (take w.M f) (row_lower w current)) (dot (drop w.M f) (row_held w previous)) (dot (flat c) current) (dot (flat v) previous)
        (near-current current lc f h) (rw (← same_scale f h) (near-previous previous lp f h)))
