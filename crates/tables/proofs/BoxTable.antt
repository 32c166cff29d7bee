-- The boxes as numbers are those of the definition, and have the square property: one test over all angles, and a lemma.
use mathlib.Core.Path.{◌≡◌, refl, sym, ap, ap₂, subst, subst₂, ◌∙◌}
use mathlib.Core.Bool.{Bool, true, false, ◌&&◌}
use Prim.Native.Nat.{ℕ, zero, suc, ◌+◌, ◌-◌, ◌*◌, ◌^◌, ◌≤◌, ◌<◌}
use native.Mathlib.Nat.{pow-suc}
use native.Mathlib.Omega.{arith}
use borrow.Author.Tests.{leb-true, leb-false, ne_eqb, eqb-true, eqb-false}
use lib.Dec.{T, leb, ltb, eqb, leb→le, ltb→lt}
use lib.IntN.{ℤ, pos, negsuc, nat_abs, ◌+ℤ◌, ◌*ℤ◌}
use lib.ListN.{length, get_or}
use lib.Signed.{◌≤ℤ◌}
use Rattle.integers.specs.Tests.{every}
use Rattle.integers.specs.Floor.{above}
use Rattle.integers.proofs.Differences.{dif, zb}
use Rattle.integers.proofs.Order.{above-pos, pos-≤-iff, nat_abs-negℤ}
use Rattle.integers.proofs.Tested.{every-at, every-le, and_left, and_right}
use Rattle.tables.specs.Boxes.{Box, only, negated, under, halved, at_double, box_by, cosine_box, Squares}
use Rattle.tables.specs.BoxEnds.{lows, highs}
use Rattle.tables.specs.Statement.{Boxed}
use Rattle.tables.proofs.Roots.{square-lt, root_is, root_up-is}

unfoldable pub box_at : ℕ → Box
box_at a = record { low = pos (get_or lows a 0); high = pos (get_or highs a 0) }

-- each lower end is at most the upper one
ordered-tested : T (every (λ a l. leb l (get_or highs a 0)) 0 lows)
unfolding lows highs
ordered-tested = tt

-- l and u have the square property over the ends b
square : Box → ℕ → ℕ → Bool
square b l u =
    let m = under b.low in
    let n = under b.high in
    leb (l * l) m && ltb m (suc l * suc l) && leb n (u * u) && ltb ((u - 1) * (u - 1)) n && ltb m (4 ^ 61) && ltb n (4 ^ 61)

-- at an angle between 0 and the right angle
square_at : ℕ → ℕ → Bool
square_at a l = elim (eqb a 0) [ true ↦ true | false ↦ elim (eqb a 512) [ true ↦ true | false ↦ square (at_double box_at a) l (get_or highs a 0) ] ]

tested : T (every square_at 0 lows)
unfolding square_at square box_at lows highs under at_double negated above
tested = tt

lows-long : length lows ≡ 513
unfolding lows
lows-long = refl

square-at : (a : ℕ) → 0 < a → a < 512 → T (square (at_double box_at a) (get_or lows a 0) (get_or highs a 0))
unfolding square_at
square-at a z h =
    let t = every-at square_at lows tested a (omega (arith, lows-long)) in
    rw (square_at, ne_eqb a 0 (λ e. omega arith), ne_eqb a 512 (λ e. omega arith)) at t

-- what the test says
record Tested (b : Box) (l u : ℕ) : Type 0 where
  low : l * l ≤ under b.low
  low-next : under b.low < suc l * suc l
  high : under b.high ≤ u * u
  high-prev : (u - 1) * (u - 1) < under b.high
  low-short : under b.low < 4 ^ 61
  high-short : under b.high < 4 ^ 61

says : (b : Box) (l u : ℕ) → T (square b l u) → Tested b l u
unfolding square
says b l u t₆ =
    let m = under b.low in
    let n = under b.high in
    let p₁ = leb (l * l) m in
    let p₂ = p₁ && ltb m (suc l * suc l) in
    let p₃ = p₂ && leb n (u * u) in
    let p₄ = p₃ && ltb ((u - 1) * (u - 1)) n in
    let p₅ = p₄ && ltb m (4 ^ 61) in
    let t₅ = and_left p₅ (ltb n (4 ^ 61)) t₆ in
    let t₄ = and_left p₄ (ltb m (4 ^ 61)) t₅ in
    let t₃ = and_left p₃ (ltb ((u - 1) * (u - 1)) n) t₄ in
    let t₂ = and_left p₂ (leb n (u * u)) t₃ in
    record {
      low = leb→le (l * l) m (and_left p₁ (ltb m (suc l * suc l)) t₂);
      low-next = ltb→lt m (suc l * suc l) (and_right p₁ (ltb m (suc l * suc l)) t₂);
      high = leb→le n (u * u) (and_right p₂ (leb n (u * u)) t₃);
      high-prev = ltb→lt ((u - 1) * (u - 1)) n (and_right p₃ (ltb ((u - 1) * (u - 1)) n) t₄);
      low-short = ltb→lt m (4 ^ 61) (and_right p₄ (ltb m (4 ^ 61)) t₅);
      high-short = ltb→lt n (4 ^ 61) (and_right p₅ (ltb n (4 ^ 61)) t₆);
    }

at : (a : ℕ) → 0 < a → a < 512 → Tested (at_double box_at a) (get_or lows a 0) (get_or highs a 0)
at a z h = says (at_double box_at a) (get_or lows a 0) (get_or highs a 0) (square-at a z h)

halved_is : (a : ℕ) → 0 < a → a < 512 → halved (at_double box_at a) ≡ box_at a
unfolding halved box_at
halved_is a z h =
    let t = at a z h in
    ap₂ (λ l u. record { low = pos l; high = pos u })
    (root_is _ _ t.low-short t.low t.low-next)
    (root_up-is _ _ t.high-short t.high t.high-prev)

-- two boxes for each angle that agree where the double is taken
double-same : (f g : ℕ → Box) (a : ℕ) → (2 * a ≤ 512 → f (2 * a) ≡ g (2 * a)) → (512 < 2 * a → f (1024 - 2 * a) ≡ g (1024 - 2 * a)) → at_double f a ≡ at_double g a
unfolding at_double
double-same f g a near past = by (leb (2 * a) 512) refl
  where
    by : (t : Bool) → leb (2 * a) 512 ≡ t → at_double f a ≡ at_double g a
    by true e = rw (at_double, e) (near (leb-true (2 * a) 512 e))
    by false e = rw (at_double, e) (ap negated (past (leb-false (2 * a) 512 e)))

whole : only (2 ^ 60) ≡ box_at 0
unfolding only box_at lows highs
whole = refl

none : only 0 ≡ box_at 512
unfolding only box_at lows highs
none = refl

reflect : (y a c x : ℕ) → y + 2 * a ≡ 1024 → a * (2 * x) ≡ c * 1024 → y * x ≡ (x - c) * 1024
reflect y a c x e f = omega (arith, ap (λ s. s * x) e)

-- a · 2^f is a multiple of 1024, so that f doublings end at angle 0 or at the right angle
box_by-is : (f a c : ℕ) → a ≤ 512 → a * 2 ^ f ≡ c * 1024 → box_by f a ≡ box_at a
unfolding box_by
box_by-is zero a c h e = let z : a ≡ 0 = omega arith in rw z whole
box_by-is (suc f) a c h e = by (box_by-is f) (eqb a 0) (eqb a 512) refl refl
  where
    by : ((b d : ℕ) → b ≤ 512 → b * 2 ^ f ≡ d * 1024 → box_by f b ≡ box_at b) → (s t : Bool) → eqb a 0 ≡ s → eqb a 512 ≡ t → box_by (suc f) a ≡ box_at a
    by ih true t p q = rw (box_by, p) (whole ∙ ap box_at (sym (eqb-true a 0 p)))
    by ih false true p q = rw (box_by, p, q) (none ∙ ap box_at (sym (eqb-true a 512 q)))
    by ih false false p q =
        let g : a * (2 * 2 ^ f) ≡ c * 1024 = ap (λ s. a * s) (omega (arith, pow-suc 2 f)) ∙ e in
        let l : 0 < a = omega (arith, eqb-false a 0 p) in
        let r : a < 512 = omega (arith, eqb-false a 512 q) in
        rw (box_by, p, q)
        (ap halved (double-same (box_by f) box_at a
        (λ n. ih (2 * a) c n (omega arith))
        (λ n. ih (1024 - 2 * a) (2 ^ f - c) (omega arith) (reflect (1024 - 2 * a) a c (2 ^ f) (omega arith) g)))
        ∙ halved_is a l r)

pub cosine-box-is : (a : ℕ) → a ≤ 512 → cosine_box a ≡ box_at a
unfolding cosine_box
cosine-box-is a h = box_by-is 10 a a h (omega arith)

-- ---- the square property
lows-le : (a : ℕ) → get_or lows a 0 ≤ 2 ^ 60
unfolding lows
lows-le = every-le (2 ^ 60) lows tt

highs-le : (a : ℕ) → get_or highs a 0 ≤ 2 ^ 60
unfolding highs
highs-le = every-le (2 ^ 60) highs tt

-- ends at most 2^60 in size leave nothing below zero
under-above : (e : ℤ) → nat_abs e ≤ 2 ^ 60 → pos 0 ≤ℤ (pos (2 ^ 59) *ℤ (pos (2 ^ 60) +ℤ e))
under-above e = rw (dif e) (simp zb (omega arith))

under-is : (e : ℤ) → nat_abs e ≤ 2 ^ 60 → pos (under e) ≡ pos (2 ^ 59) *ℤ (pos (2 ^ 60) +ℤ e)
unfolding under
under-is e h = above-pos _ (under-above e h)

greatest : (l m : ℕ) → m < suc l * suc l → (x : ℤ) → (x *ℤ x) ≤ℤ pos m → x ≤ℤ pos l
greatest l m h (pos k) s = let f = square-lt k (suc l) (omega (arith, (pos-≤-iff (k * k) m).0 s)) in (pos-≤-iff k l).1 (omega arith)
greatest l m h (negsuc k) s = record { le = tt }

least : (u n : ℕ) → (u - 1) * (u - 1) < n → (x : ℕ) → pos n ≤ℤ (pos x *ℤ pos x) → pos u ≤ℤ pos x
least u n h x s = let f = square-lt (u - 1) x (omega (arith, (pos-≤-iff n (x * x)).0 s)) in (pos-≤-iff u x).1 (omega arith)

squares-of : (b : Box) (l u : ℕ) → nat_abs b.low ≤ 2 ^ 60 → nat_abs b.high ≤ 2 ^ 60 → Tested b l u → Squares b (record { low = pos l; high = pos u })
squares-of b l u bl bh t = record {
  low-square = subst (λ z. (pos l *ℤ pos l) ≤ℤ z) (under-is b.low bl) ((pos-≤-iff (l * l) (under b.low)).1 t.low);
  low-greatest = λ x s. greatest l (under b.low) t.low-next x (subst (λ z. (x *ℤ x) ≤ℤ z) (sym (under-is b.low bl)) s);
  high-square = subst (λ z. z ≤ℤ (pos u *ℤ pos u)) (under-is b.high bh) ((pos-≤-iff (under b.high) (u * u)).1 t.high);
  high-least = λ x s. least u (under b.high) t.high-prev x (subst (λ z. z ≤ℤ (pos x *ℤ pos x)) (sym (under-is b.high bh)) s);
}

-- a box whose ends are at most 2^60 in size
abbrev Small : Box → Type 0
Small b = (nat_abs b.low ≤ 2 ^ 60) × (nat_abs b.high ≤ 2 ^ 60)

box-small : (a : ℕ) → Small (box_at a)
unfolding box_at
box-small a = (lows-le a, highs-le a)

negated-small : (b : Box) → Small b → Small (negated b)
unfolding negated
negated-small b h = (rw nat_abs-negℤ h.1, rw nat_abs-negℤ h.0)

double-small : (a : ℕ) → Small (at_double box_at a)
unfolding at_double
double-small a = by (leb (2 * a) 512) refl
  where
    by : (t : Bool) → leb (2 * a) 512 ≡ t → Small (at_double box_at a)
    by true e = rw (at_double, e) (box-small (2 * a))
    by false e = rw (at_double, e) (negated-small (box_at (1024 - 2 * a)) (box-small (1024 - 2 * a)))

box-squares : (a : ℕ) → 0 < a → a < 512 → Squares (at_double cosine_box a) (cosine_box a)
unfolding box_at
box-squares a z h =
    let b = double-small a in
    subst₂ Squares
    (sym (double-same cosine_box box_at a (λ n. cosine-box-is (2 * a) n) (λ n. cosine-box-is (1024 - 2 * a) (omega arith))))
    (sym (cosine-box-is a (omega arith)))
    (squares-of (at_double box_at a) (get_or lows a 0) (get_or highs a 0) b.0 b.1 (at a z h))

-- ---- the lower end is at most the upper one
ends-ordered : (a : ℕ) → a < 513 → (cosine_box a).low ≤ℤ (cosine_box a).high
unfolding box_at
ends-ordered a h =
    rw (cosine-box-is a (omega arith)) ((pos-≤-iff _ _).1 (leb→le _ _ (every-at (λ a l. leb l (get_or highs a 0)) lows ordered-tested a (omega (arith, lows-long)))))

pub boxed : Boxed
boxed = record { angle-0 = cosine-box-is 0 (omega arith) ∙ sym whole; right-angle = cosine-box-is 512 (omega arith) ∙ sym none; squares = box-squares; ordered = ends-ordered }
