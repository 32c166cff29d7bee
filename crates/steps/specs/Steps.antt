-- The steps forward, place by place, and each undone: document 01, "The steps forward". N is the width, M is N/2.
-- A table number stands for its value times 2^28, so a sum of them is rounded by 2^28 and by the power of 2 that the formula divides by.
use Rattle.std.specs.Prelude.{true, false, cond, List, ◌++◌, ℕ, ◌+◌, ◌-◌, ◌*◌, ◌/◌, ◌%◌, ◌^◌, eqb, ltb, ℤ, pos, neg_ℤ, ◌+ℤ◌, ◌-ℤ◌, ◌*ℤ◌, take, drop}
use Rattle.integers.specs.Floor.{round}
use Rattle.tables.specs.Widths.{by_width, half_width}
use Rattle.tables.specs.Angles.{signed}
use Rattle.tables.specs.Numbers.{cosine_of, sine_of, half_tangent_of, secant_of}
use Rattle.steps.specs.Places.{places, at, sum}

-- √M is 2^l
unfoldable pub root_log : ℕ → ℕ
root_log = by_width 1 2 3 0

-- ---- table numbers at a width
-- t(m) and s(m) = sin((2m+1)π/(4N))
unfoldable pub tangent : ℕ → ℕ → ℤ
tangent N m = half_tangent_of N m

unfoldable pub sine : ℕ → ℕ → ℤ
sine N m = sine_of ((2 * m + 1) * (128 / N))

-- C(m,n) = cos((2m+1)(2n+1)π/(4M))
unfoldable pub cosine : ℕ → ℕ → ℕ → ℤ
cosine N m n = cosine_of ((2 * m + 1) * (2 * n + 1) * (128 / half_width N))

-- r is whichever of m+n+1 and m−n is odd; its secant is 1/cos(rπ/N)
unfoldable pub odd_of : ℕ → ℕ → ℤ
odd_of m n = cond (eqb ((m + n + 1) % 2) 1) (pos (m + n + 1)) (pos m -ℤ pos n)

unfoldable pub secant : ℕ → ℕ → ℕ → ℤ
secant N m n = secant_of N (odd_of m n)

-- d(n)·z: z where n is even, −z where n is odd
unfoldable pub alternate : ℕ → ℤ → ℤ
alternate n z = signed (eqb (n % 2) 1) z

-- ---- Rotation of a pair (a, b) at m: adds round(−t·a) to b, then round(s·b) to a, then round(−t·a) to b. Undone, each is subtracted, the
-- last one first.
unfoldable pub tangent_amount : ℕ → ℕ → ℤ → ℤ
tangent_amount N m a = round 28 (neg_ℤ (tangent N m) *ℤ a)

unfoldable pub sine_amount : ℕ → ℕ → ℤ → ℤ
sine_amount N m b = round 28 (sine N m *ℤ b)

unfoldable pub rotated_a : ℕ → ℕ → ℤ → ℤ → ℤ
rotated_a N m a b = a +ℤ sine_amount N m (b +ℤ tangent_amount N m a)

unfoldable pub rotated_b : ℕ → ℕ → ℤ → ℤ → ℤ
rotated_b N m a b = b +ℤ tangent_amount N m a +ℤ tangent_amount N m (rotated_a N m a b)

unfoldable pub unrotated_a : ℕ → ℕ → ℤ → ℤ → ℤ
unrotated_a N m a b = a -ℤ sine_amount N m (b -ℤ tangent_amount N m a)

unfoldable pub unrotated_b : ℕ → ℕ → ℤ → ℤ → ℤ
unrotated_b N m a b = b -ℤ tangent_amount N m a -ℤ tangent_amount N m (unrotated_a N m a b)

-- ---- Fold: reading n (as a) and reading N−1−n (as b) are rotated at n, for n below M. The new a is folded value M−1−n of this frame; the new
-- b is held, as folded value M+n of the next one.
unfoldable pub lower : ℕ → List ℤ → List ℤ
lower N x = places (half_width N) (λ i. let n = half_width N - 1 - i in rotated_a N n (at x n) (at x (N - 1 - n)))

unfoldable pub held : ℕ → List ℤ → List ℤ
held N x = places (half_width N) (λ n. rotated_b N n (at x n) (at x (N - 1 - n)))

-- the block whose fold gave these lower places and held these upper ones
unfoldable pub unfolded : ℕ → List ℤ → List ℤ → List ℤ
unfolded N low high =
    places N (λ j.
    cond (ltb j (half_width N))
    (unrotated_a N j (at low (half_width N - 1 - j)) (at high j))
    (let n = N - 1 - j in unrotated_b N n (at low (half_width N - 1 - n)) (at high n)))

-- ---- Five stages, on the folded values at even places (top) and at odd places (bottom)
unfoldable pub top_of : ℕ → List ℤ → List ℤ
top_of N f = places (half_width N) (λ m. at f (2 * m))

unfoldable pub bottom_of : ℕ → List ℤ → List ℤ
bottom_of N f = places (half_width N) (λ m. at f (2 * m + 1))

-- what each stage adds at m, rounded
-- 1: 2·C(m,n)·d(n)·top(n)/√M
unfoldable pub amount1 : ℕ → List ℤ → ℕ → ℤ
amount1 N top m = round (27 + root_log N) (sum (half_width N) (λ n. cosine N m n *ℤ alternate n (at top n)))

-- 2: C(m,n)·bottom(n)/√M
unfoldable pub amount2 : ℕ → List ℤ → ℕ → ℤ
amount2 N bottom m = round (28 + root_log N) (sum (half_width N) (λ n. cosine N m n *ℤ at bottom n))

-- 3: minus the secant sum, minus the cosine sum, minus t(M−1−m)·top(M−1−m): one amount, over M = 2^(2l), and rounded once
unfoldable pub amount3 : ℕ → List ℤ → ℕ → ℤ
amount3 N top m =
    let M = half_width N in
    round (28 + 2 * root_log N)
    (neg_ℤ (sum M (λ n. secant N m n *ℤ at top n))
    -ℤ pos (2 * 2 ^ root_log N) *ℤ sum M (λ n. cosine N m n *ℤ at top n)
    -ℤ pos M *ℤ (tangent N (M - 1 - m) *ℤ at top (M - 1 - m)))

-- 1: adds top(m) and amount 1 to bottom(m)
unfoldable pub stage1 : ℕ → List ℤ → List ℤ → List ℤ
stage1 N top bottom = places (half_width N) (λ m. at bottom m +ℤ at top m +ℤ amount1 N top m)

-- 2: replaces top(m) by −d(m)·top(m), and adds amount 2
unfoldable pub stage2 : ℕ → List ℤ → List ℤ → List ℤ
stage2 N top bottom = places (half_width N) (λ m. neg_ℤ (alternate m (at top m)) +ℤ amount2 N bottom m)

-- 3: adds amount 3, which has its minus signs inside, to bottom(m)
unfoldable pub stage3 : ℕ → List ℤ → List ℤ → List ℤ
stage3 N top bottom = places (half_width N) (λ m. at bottom m +ℤ amount3 N top m)

-- 4: adds round(s(m)·bottom(M−1−m)) to top(m)
unfoldable pub stage4 : ℕ → List ℤ → List ℤ → List ℤ
stage4 N top bottom = places (half_width N) (λ m. at top m +ℤ sine_amount N m (at bottom (half_width N - 1 - m)))

-- 5: adds round(−t(m)·top(m)) to bottom(i), where i is M−1−m
unfoldable pub stage5 : ℕ → List ℤ → List ℤ → List ℤ
stage5 N top bottom = places (half_width N) (λ i. let m = half_width N - 1 - i in at bottom i +ℤ tangent_amount N m (at top m))

-- all five; the frame is top followed by bottom
unfoldable pub stages : ℕ → List ℤ → List ℤ
stages N f =
    let top = top_of N f in
    let bottom = bottom_of N f in
    let bottom₁ = stage1 N top bottom in
    let top₂ = stage2 N top bottom₁ in
    let bottom₃ = stage3 N top₂ bottom₁ in
    let top₄ = stage4 N top₂ bottom₃ in
    top₄ ++ stage5 N top₄ bottom₃

-- the frame of a block, with what the block before it held
unfoldable pub frame : ℕ → List ℤ → List ℤ → List ℤ
frame N before block = stages N (lower N block ++ before)

-- ---- back: the same amounts are subtracted, and the last stage is undone first
unfoldable pub unstage1 : ℕ → List ℤ → List ℤ → List ℤ
unstage1 N top bottom = places (half_width N) (λ m. at bottom m -ℤ amount1 N top m -ℤ at top m)

unfoldable pub unstage2 : ℕ → List ℤ → List ℤ → List ℤ
unstage2 N top bottom = places (half_width N) (λ m. neg_ℤ (alternate m (at top m -ℤ amount2 N bottom m)))

unfoldable pub unstage3 : ℕ → List ℤ → List ℤ → List ℤ
unstage3 N top bottom = places (half_width N) (λ m. at bottom m -ℤ amount3 N top m)

unfoldable pub unstage4 : ℕ → List ℤ → List ℤ → List ℤ
unstage4 N top bottom = places (half_width N) (λ m. at top m -ℤ sine_amount N m (at bottom (half_width N - 1 - m)))

unfoldable pub unstage5 : ℕ → List ℤ → List ℤ → List ℤ
unstage5 N top bottom = places (half_width N) (λ i. let m = half_width N - 1 - i in at bottom i -ℤ tangent_amount N m (at top m))

-- top at the even folded places, bottom at the odd ones
unfoldable pub interleaved : ℕ → List ℤ → List ℤ → List ℤ
interleaved N top bottom = places N (λ i. cond (eqb (i % 2) 0) (at top (i / 2)) (at bottom (i / 2)))

unfoldable pub unstages : ℕ → List ℤ → List ℤ
unstages N c =
    let top₄ = take (half_width N) c in
    let bottom₃ = unstage5 N top₄ (drop (half_width N) c) in
    let top₂ = unstage4 N top₄ bottom₃ in
    let bottom₁ = unstage3 N top₂ bottom₃ in
    let top = unstage2 N top₂ bottom₁ in
    interleaved N top (unstage1 N top bottom₁)
