-- The tests are sound, at every width: what passes at k holds of coefficient k for all readings.
use mathlib.Core.Path.{◌≡◌, sym, ap}
use mathlib.Core.List.{List, ◌++◌}
use Prim.Native.Nat.{ℕ, ◌+◌, ◌*◌, ◌≤◌, ◌<◌}
use native.Mathlib.Omega.{arith}
use native.Mathlib.Nat.{mul-pos, mul-le-mul_right, le_of_mul-le-mul_left, zero-add}
use lib.Dec.{T, leb, leb→le}
use lib.ListN.{length, length-append}
use lib.IntN.{ℤ, pos, neg_ℤ, nat_abs, ◌+ℤ◌, ◌-ℤ◌, ◌*ℤ◌}
use Rattle.integers.specs.Vectors.{dot, sum_abs, AllAbs}
use Rattle.integers.proofs.Order.{near-chain, nat_abs-*ℤ, nat_abs-near}
use Rattle.integers.proofs.Products.{nat_abs-dot, all_append}
use Rattle.integers.proofs.PlaceLaws.{sum-ext}
use Rattle.integers.proofs.Tested.{and_left, and_right}
use Rattle.tables.specs.Boxes.{Box}
use Rattle.steps.specs.Places.{at, sum}
use Rattle.steps.specs.RowForm.{evens, odds, weave, RowTables, row_held, row_stages, row_frame}
use Rattle.steps.proofs.Lists.{len-weave}
use Rattle.steps.proofs.RowLengths.{Good}
use Rattle.distance.specs.Exact.{sine_angle, cosine_angle, denominator, term}
use Rattle.distance.proofs.Transposed.{dot-weave}
use Rattle.distance.proofs.Carried.{Row, Limits, row_of, columns, current_row, previous_row, flat, fars, near_by, sized_by, sine_boxes, cosine_boxes}
use Rattle.distance.proofs.Closeness.{re_read}
use Rattle.distance.proofs.StageRows.{fit_row, close-stages}
use Rattle.distance.proofs.FoldRows.{folded_rows, fit-current, fit-previous, len-flat, len-folded, near-folded}
use Rattle.distance.proofs.Ends.{Picks, total-near, off-scale}

module _ (w : RowTables) (ok : Good w) (k : ℕ) where
  -- the row of coefficient k on the folded places
  abbrev row : Row
  row = row_of w (columns w) k

  abbrev on_folded : List ℤ
  on_folded = weave row.a row.b

  len-on_folded : length on_folded ≡ w.M + w.M
  len-on_folded = len-weave row.a row.b (fit_row w ok k).fa (fit_row w ok k).fb

  near-stages : (f : List ℤ) → length f ≡ w.M + w.M → nat_abs (pos row.p *ℤ at (row_stages w f) k -ℤ dot on_folded f) ≤ row.e
  near-stages f l =
      let r = fit_row w ok k in
      re_read (at (row_stages w f) k) (dot row.a (evens f) +ℤ dot row.b (odds f)) (dot on_folded f) row.p row.e
      (dot-weave row.a row.b f r.fa r.fb l) (close-stages w ok k f l).le

  -- ---- the size of a frame
  sized : (p B G E S e : ℕ) (c v : ℤ) → 0 < p → nat_abs (pos p *ℤ c -ℤ v) ≤ e → nat_abs v ≤ S * B → 100 * S ≤ G * p → e ≤ E * p → 100 * nat_abs c ≤ G * B + 100 * E
  sized p B G E S e c v z h k g r =
      let m = mul-le-mul_right B g in
      let d : p * (100 * nat_abs c) ≤ p * (G * B + 100 * E) = omega (arith, nat_abs-*ℤ (pos p) c, nat_abs-near (pos p *ℤ c) v) in
      le_of_mul-le-mul_left d z

  pub size-sound : (lim : Limits) → T (sized_by lim row on_folded) → (B : ℕ) (f : List ℤ) → length f ≡ w.M + w.M → AllAbs B f
      → 100 * nat_abs (at (row_stages w f) k) ≤ lim.gain * B + 100 * lim.rounding
  unfolding sized_by
  size-sound lim t B f l b =
      let g = leb (100 * sum_abs on_folded) (lim.gain * row.p) in
      let e = leb row.e (lim.rounding * row.p) in
      sized row.p B lim.gain lim.rounding (sum_abs on_folded) row.e (at (row_stages w f) k) (dot on_folded f) (fit_row w ok k).pp (near-stages f l)
      (nat_abs-dot on_folded f B b) (leb→le _ _ (and_left g e t)) (leb→le _ _ (and_right g e t))

  -- ---- the distance
  module _ (previous current : List ℤ) (lp : length previous ≡ w.M + w.M) (lc : length current ≡ w.M + w.M) where
    abbrev before : Row
    before = previous_row w on_folded

    abbrev now : Row
    now = current_row w on_folded

    near-frame : nat_abs (pos (now.p * row.p) *ℤ at (row_frame w (row_held w previous) current) k -ℤ dot (flat before ++ flat now) (previous ++ current)) ≤ now.p * row.e + (now.e + before.e)
    unfolding row_frame
    near-frame =
        let F = folded_rows w previous current in
        near-chain row.p now.p (at (row_stages w F) k) (dot on_folded F) (dot (flat before ++ flat now) (previous ++ current))
        (near-stages F (len-folded w ok previous current lp lc)) (near-folded w ok previous current lp lc on_folded len-on_folded)

    module _ (N : ℕ) (twice : w.M + w.M ≡ N) (box : ℕ → Box) (lim : Limits) (bp : AllAbs lim.reading previous) (bc : AllAbs lim.reading current) where
      -- either end, by the way it is picked
      pub end-sound : (pick : ℤ → ℤ → ℤ) → Picks pick → T (near_by (denominator N) (sine_boxes N box) (cosine_boxes N box k) lim row now before)
          → nat_abs (pos (denominator N) *ℤ at (row_frame w (row_held w previous) current) k
          -ℤ neg_ℤ (sum (2 * N) (λ n. term pick (at (previous ++ current) n) (box (sine_angle N n + 1536)) (box (cosine_angle N k n))))) ≤ lim.distance * denominator N
      unfolding near_by sine_boxes cosine_boxes
      end-sound pick picks t =
          let q = denominator N in
          let p = now.p * row.p in
          let L = flat before ++ flat now in
          let xs = previous ++ current in
          let s : ℕ → Box = λ n. box (sine_angle N n + 1536) in
          let c : ℕ → Box = λ n. box (cosine_angle N k n) in
          let fb = fit-previous w ok on_folded len-on_folded in
          let fn = fit-current w ok on_folded len-on_folded in
          let lL : length L ≡ 2 * N = omega (arith, length-append (flat before) (flat now), len-flat w ok before fb, len-flat w ok now fn) in
          let lx : length xs ≡ 2 * N = omega (arith, length-append previous current) in
          let here = sum-ext (2 * N) (λ n. term pick (at xs n) (s n) (c n)) (λ n. term pick (at xs n) (s (0 + n)) (c (0 + n))) (λ n h. ap (λ m. term pick (at xs n) (s m) (c m)) (sym (zero-add n))) in
          off-scale p q lim.distance (now.p * row.e + (now.e + before.e)) (lim.reading * fars (pos q) (pos p) (sine_boxes N box) (cosine_boxes N box k) L)
          (at (row_frame w (row_held w previous) current) k) (dot L xs) (sum (2 * N) (λ n. term pick (at xs n) (s n) (c n))) (mul-pos fn.pp (fit_row w ok k).pp) near-frame
          (rw here (total-near pick picks (pos q) (pos p) lim.reading s c (2 * N) 0 L xs lL lx (all_append lim.reading previous current bp bc)))
          (leb→le _ _ t)
