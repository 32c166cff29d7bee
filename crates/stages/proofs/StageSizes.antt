-- How large the stages' numbers become: the limits for 64 bits, both ways.
use mathlib.Core.Path.{ap}
use mathlib.Core.Bool.{Bool, true, false, cond}
use mathlib.Core.List.{List}
use Prim.Native.Nat.{ℕ, ◌+◌, ◌-◌, ◌*◌, ◌^◌, ◌≤◌, ◌<◌}
use native.Mathlib.Nat.{mul-le-mul, le_refl}
use native.Mathlib.Omega.{arith}
use lib.Dec.{lit≤}
use lib.IntN.{ℤ, pos, neg_ℤ, nat_abs, ◌+ℤ◌, ◌-ℤ◌, ◌*ℤ◌}
use lib.Pow.{pow_mono}
use Rattle.integers.specs.Places.{places, at, sum, Within}
use Rattle.integers.proofs.Order.{nat_abs-+ℤ, nat_abs--ℤ, nat_abs-negℤ, nat_abs-*ℤ, nat_abs-*ℤ-le}
use Rattle.integers.proofs.Rounding.{round-within}
use Rattle.integers.proofs.PlaceLaws.{at_places, within-places, sum-ext, row-sum, dot-size, products-le}
use Rattle.tables.specs.Widths.{by_width, half_width}
use Rattle.tables.proofs.ByWidth.{at_each}
use Rattle.steps.specs.Steps.{root_log, cosine, secant, alternate, amount1, amount2, amount3, sine_amount, tangent_amount, sine, tangent, stage1, stage2, stage3, stage4, stage5, unstage1, unstage2, unstage3, unstage4, unstage5}
use Rattle.width_tables.proofs.TableSizes.{tangent-size, sine-size}
use Rattle.lifts.proofs.MoveLaws.{alternate-size}
use Rattle.stages.proofs.SecantRows.{cosine-row, secant-row}

-- ---- sums
module _ (N B : ℕ) (x : List ℤ) (h : Within B x) where
  pub cosine-sum-size : (m : ℕ) → m < half_width N → nat_abs (sum (half_width N) (λ n. cosine N m n *ℤ at x n)) ≤ 11 * half_width N * 2 ^ 24 * B
  cosine-sum-size m l =
      let r = places (half_width N) (cosine N m) in
      let s = mul-le-mul (cosine-row N m l) (le_refl B) in
      rw (← row-sum (half_width N) (cosine N m) x) (omega (arith, dot-size r x, products-le r x B h))

  pub secant-sum-size : (m : ℕ) → m < half_width N → nat_abs (sum (half_width N) (λ n. secant N m n *ℤ at x n)) ≤ 4 * half_width N * 2 ^ 28 * B
  secant-sum-size m l =
      let r = places (half_width N) (secant N m) in
      let s = mul-le-mul (secant-row N m l) (le_refl B) in
      rw (← row-sum (half_width N) (secant N m) x) (omega (arith, dot-size r x, products-le r x B h))

-- ---- powers of two at a width
scales : (N : ℕ) → (11 * half_width N * 2 ^ 24 ≤ 2 ^ (27 + root_log N) * 11) × (11 * half_width N * 2 ^ 24 ≤ 2 ^ (28 + root_log N) * 6) × (half_width N * 2 ^ 28 ≤ 2 ^ (28 + 2 * root_log N))
unfolding half_width root_log by_width
scales =
    at_each (λ n M. (11 * M * 2 ^ 24 ≤ 2 ^ (27 + by_width 1 2 3 0 n) * 11) × (11 * M * 2 ^ 24 ≤ 2 ^ (28 + by_width 1 2 3 0 n) * 6) × (M * 2 ^ 28 ≤ 2 ^ (28 + 2 * by_width 1 2 3 0 n))) 4 16 64 0
    (lit≤ tt, lit≤ tt, lit≤ tt) (lit≤ tt, lit≤ tt, lit≤ tt) (lit≤ tt, lit≤ tt, lit≤ tt) (λ n x y z. (omega arith, omega arith, omega arith))

root-le : (N : ℕ) → root_log N ≤ 3
unfolding root_log
root-le = at_each (λ n l. l ≤ 3) 1 2 3 0 (lit≤ tt) (lit≤ tt) (lit≤ tt) (λ n x y z. lit≤ tt)

-- ---- the amounts
up : (a p c B v : ℕ) → a ≤ p * c → v ≤ a * B → v ≤ p * (c * B)
up a p c B v h k = omega (arith, mul-le-mul h (le_refl B))

amount1-size : (N B m : ℕ) (top : List ℤ) → m < half_width N → Within B top → nat_abs (amount1 N top m) ≤ 11 * B
unfolding amount1
amount1-size N B m top k h =
    let x = places (half_width N) (λ n. alternate n (at top n)) in
    let w : Within B x = within-places (half_width N) B _ (λ n l. rw (alternate-size n (at top n)) (h.size n)) in
    let e = sum-ext (half_width N) (λ n. cosine N m n *ℤ at x n) (λ n. cosine N m n *ℤ alternate n (at top n)) (λ n l. ap (λ z. cosine N m n *ℤ z) (at_places (half_width N) _ n l)) in
    round-within (27 + root_log N) (11 * B) _ (rw (← e) (up (11 * half_width N * 2 ^ 24) (2 ^ (27 + root_log N)) 11 B _ (scales N).0 (cosine-sum-size N B x w m k)))

amount2-size : (N B m : ℕ) (bottom : List ℤ) → m < half_width N → Within B bottom → nat_abs (amount2 N bottom m) ≤ 6 * B
unfolding amount2
amount2-size N B m bottom k h = round-within (28 + root_log N) (6 * B) _ (up (11 * half_width N * 2 ^ 24) (2 ^ (28 + root_log N)) 6 B _ (scales N).1 (cosine-sum-size N B bottom h m k))

three-sums : (S C T : ℤ) (u a c B : ℕ) → nat_abs S ≤ 4 * a * B → nat_abs C ≤ c * B → 16 * c ≤ 11 * a → nat_abs T ≤ a * B → u ≤ 16 → nat_abs (neg_ℤ S -ℤ pos u *ℤ C -ℤ T) ≤ 16 * (a * B)
three-sums S C T u a c B hs hc he ht hu =
    let p = mul-le-mul hu hc in
    let q = mul-le-mul he (le_refl B) in
    omega (arith, nat_abs--ℤ (neg_ℤ S -ℤ pos u *ℤ C) T, nat_abs--ℤ (neg_ℤ S) (pos u *ℤ C), nat_abs-negℤ S, nat_abs-*ℤ (pos u) C)

amount3-size : (N B m : ℕ) (top : List ℤ) → m < half_width N → Within B top → nat_abs (amount3 N top m) ≤ 16 * B
unfolding amount3
amount3-size N B m top l h =
    let M = half_width N in
    let j = M - 1 - m in
    let T = pos M *ℤ (tangent N j *ℤ at top j) in
    let t : nat_abs T ≤ M * (2 ^ 28 * B) = nat_abs-*ℤ-le (pos M) (tangent N j *ℤ at top j) (le_refl M) (nat_abs-*ℤ-le (tangent N j) (at top j) (omega (arith, tangent-size N j)) (h.size j)) in
    let r : 2 * 2 ^ root_log N ≤ 16 = omega (arith, pow_mono {i = root_log N} {j = 3} (root-le N)) in
    let v = three-sums (sum M (λ n. secant N m n *ℤ at top n)) (sum M (λ n. cosine N m n *ℤ at top n)) T (2 * 2 ^ root_log N) (M * 2 ^ 28) (11 * M * 2 ^ 24) B
    (omega (arith, secant-sum-size N B top h m l)) (cosine-sum-size N B top h m l) (omega arith) (omega arith) r in
    round-within (28 + 2 * root_log N) (16 * B) _ (omega (arith, mul-le-mul (scales N).2 (le_refl (16 * B))))

sine_amount-size : (N B m : ℕ) (b : ℤ) → nat_abs b ≤ B → nat_abs (sine_amount N m b) ≤ B
unfolding sine_amount
sine_amount-size N B m b h = round-within 28 B _ (nat_abs-*ℤ-le (sine N m) b (sine-size N m) h)

tangent_amount-size : (N B m : ℕ) (a : ℤ) → nat_abs a ≤ 2 * B → nat_abs (tangent_amount N m a) ≤ B
unfolding tangent_amount
tangent_amount-size N B m a h =
    let t : nat_abs (neg_ℤ (tangent N m)) ≤ 2 ^ 27 = rw (nat_abs-negℤ (tangent N m)) (tangent-size N m) in
    round-within 28 B _ (omega (arith, nat_abs-*ℤ-le (neg_ℤ (tangent N m)) a t h))

-- ---- the stages, done or undone
module _ (N B C : ℕ) (top bottom : List ℤ) where
  pub size1 : (undo : Bool) → Within B top → Within C bottom → Within (C + 12 * B) (cond undo (unstage1 N top bottom) (stage1 N top bottom))
  unfolding stage1 unstage1
  size1 true h k =
      within-places (half_width N) _ _ (λ m l. omega (arith, nat_abs--ℤ (at bottom m -ℤ amount1 N top m) (at top m), nat_abs--ℤ (at bottom m) (amount1 N top m), amount1-size N B m top l h, h.size m, k.size m))
  size1 false h k =
      within-places (half_width N) _ _ (λ m l. omega (arith, nat_abs-+ℤ (at bottom m +ℤ at top m) (amount1 N top m), nat_abs-+ℤ (at bottom m) (at top m), amount1-size N B m top l h, h.size m, k.size m))

  pub size2 : (undo : Bool) → Within B bottom → Within C top → Within (C + 6 * B) (cond undo (unstage2 N top bottom) (stage2 N top bottom))
  unfolding stage2 unstage2
  size2 true h k =
      within-places (half_width N) _ _ (λ m l. omega (arith, nat_abs-negℤ (alternate m (at top m -ℤ amount2 N bottom m)), alternate-size m (at top m -ℤ amount2 N bottom m), nat_abs--ℤ (at top m) (amount2 N bottom m), amount2-size N B m bottom l h, k.size m))
  size2 false h k =
      within-places (half_width N) _ _ (λ m l. omega (arith, nat_abs-+ℤ (neg_ℤ (alternate m (at top m))) (amount2 N bottom m), nat_abs-negℤ (alternate m (at top m)), alternate-size m (at top m), amount2-size N B m bottom l h, k.size m))

  pub size3 : (undo : Bool) → Within B top → Within C bottom → Within (C + 16 * B) (cond undo (unstage3 N top bottom) (stage3 N top bottom))
  unfolding stage3 unstage3
  size3 true h k = within-places (half_width N) _ _ (λ m l. omega (arith, nat_abs--ℤ (at bottom m) (amount3 N top m), amount3-size N B m top l h, k.size m))
  size3 false h k = within-places (half_width N) _ _ (λ m l. omega (arith, nat_abs-+ℤ (at bottom m) (amount3 N top m), amount3-size N B m top l h, k.size m))

  pub size4 : (undo : Bool) → Within B bottom → Within C top → Within (C + B) (cond undo (unstage4 N top bottom) (stage4 N top bottom))
  unfolding stage4 unstage4
  size4 true h k = within-places (half_width N) _ _ (λ m l. let b = at bottom (half_width N - 1 - m) in omega (arith, nat_abs--ℤ (at top m) (sine_amount N m b), sine_amount-size N B m b (h.size _), k.size m))
  size4 false h k = within-places (half_width N) _ _ (λ m l. let b = at bottom (half_width N - 1 - m) in omega (arith, nat_abs-+ℤ (at top m) (sine_amount N m b), sine_amount-size N B m b (h.size _), k.size m))

  pub size5 : (undo : Bool) → Within (2 * B) top → Within C bottom → Within (C + B) (cond undo (unstage5 N top bottom) (stage5 N top bottom))
  unfolding stage5 unstage5
  size5 true h k = within-places (half_width N) _ _ (λ i l. let m = half_width N - 1 - i in omega (arith, nat_abs--ℤ (at bottom i) (tangent_amount N m (at top m)), tangent_amount-size N B m (at top m) (h.size m), k.size i))
  size5 false h k = within-places (half_width N) _ _ (λ i l. let m = half_width N - 1 - i in omega (arith, nat_abs-+ℤ (at bottom i) (tangent_amount N m (at top m)), tangent_amount-size N B m (at top m) (h.size m), k.size i))
