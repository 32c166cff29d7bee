-- The order of the powers of 3 and its way back, and a turn of the loop that stores them.
use mathlib.Core.Path.{◌≡◌, refl, sym, ap, ap₂, subst, ◌∙◌}
use mathlib.Core.Bool.{Bool, true, false}
use mathlib.Core.List.{List}
use Prim.Native.Nat.{ℕ, ◌+◌, ◌*◌, ◌/◌, ◌%◌, ◌^◌, ◌≤◌, ◌<◌}
use native.Mathlib.Nat.{add-mul-mod_self_left, mod-mod, mul-le-mul, pow-suc}
use native.Mathlib.Numerals.{add-one}
use native.Mathlib.Omega.{arith}
use borrow.Author.Tests.{eqb-true, eqb-false}
use lib.Dec.{T, eqb}
use lib.IntN.{ℤ, pos, nat_abs, ◌*ℤ◌}
use lib.Signed.{mag}
use lib.ListN.{length, set, length-set}
use lib.Seq.{get_or-set_same, get_or-set_other}
use mir.Syntax.{w64}
use mir.Val.{to_z, of_z}
use Rattle.integers.specs.Places.{at}
use Rattle.integers.specs.Tests.{every_below}
use Rattle.integers.proofs.Permutations.{back, back_at}
use Rattle.integers.proofs.Words.{small}
use Rattle.integers.proofs.Held.{held, held-ok}
use Rattle.integers.proofs.Num.{Num, num-call}
use Rattle.tables.specs.Widths.{by_width, half_width, scale}
use Rattle.tables.specs.Angles.{half_turn, reflected, below_zero, signed}
use Rattle.tables.proofs.ByWidth.{at_each, half-width-le}
use Rattle.tables.proofs.Reading.{half_is}
use Rattle.tables.proofs.Quadrants.{same_turn, reflected-le, signed-size}
use Rattle.steps.specs.Steps.{alternate}
use Rattle.width_tables.specs.Orders.{angle_at, place_in, sign_in, places_out, place_out, order_stored, Ordered}

-- ---- the places of one order and of the other, computed
all_in : (N : ℕ) → T (every_below (half_width N) (back (place_in N) (place_out N) (half_width N)))
unfolding half_width by_width angle_at half_turn reflected places_out place_in place_out
all_in = at_each (λ N M. T (every_below M (back (place_in N) (place_out N) M))) 4 16 64 0 tt tt tt (λ N x y z. tt)

all-out : (N : ℕ) → T (every_below (half_width N) (back (place_out N) (place_in N) (half_width N)))
unfolding half_width by_width angle_at half_turn reflected places_out place_in place_out
all-out = at_each (λ N M. T (every_below M (back (place_out N) (place_in N) M))) 4 16 64 0 tt tt tt (λ N x y z. tt)

pub in-out : (N j : ℕ) → j < half_width N → (place_in N j < half_width N) × (place_out N (place_in N j) ≡ j)
in-out N = back_at (place_in N) (place_out N) (half_width N) (all_in N)

pub out-in : (N m : ℕ) → m < half_width N → (place_out N m < half_width N) × (place_in N (place_out N m) ≡ m)
out-in N = back_at (place_out N) (place_in N) (half_width N) (all-out N)

-- 8/√M is 4, 2 or 1
pub scale-le : (N : ℕ) → scale N ≤ 4
unfolding scale
scale-le = at_each (λ N s. s ≤ 4) 4 2 1 0 (omega arith) (omega arith) (omega arith) (λ N x y z. omega arith)

-- ---- what is stored
module _ (M : ℕ) (by : ℤ) (e p : ℕ) (b : Bool) (t : List ℤ) where
  abbrev sign : ℤ
  sign = signed b (pos 1)

  abbrev t1 : List ℤ
  t1 = set t (2 * M + e) (pos p)

  abbrev t2 : List ℤ
  t2 = set t1 (3 * M + e) sign

  abbrev t3 : List ℤ
  t3 = set t2 (4 * M + e) (alternate p sign)

  abbrev t4 : List ℤ
  t4 = set t3 (5 * M + p) (pos e)

  pub stored-long : length (order_stored M by e p b t) ≡ length t
  unfolding order_stored
  stored-long = simp length-set

  -- elsewhere nothing is
  pub stored-out : (q : ℕ) → (q ≡ 2 * M + e → ⊥) → (q ≡ 3 * M + e → ⊥) → (q ≡ 4 * M + e → ⊥) → (q ≡ 5 * M + p → ⊥) → (q ≡ 6 * M + p → ⊥) → at (order_stored M by e p b t) q ≡ at t q
  unfolding order_stored
  stored-out q h2 h3 h4 h5 h6 =
      get_or-set_other t4 (6 * M + p) q _ (pos 0) h6
      ∙ get_or-set_other t3 (5 * M + p) q _ (pos 0) h5
      ∙ get_or-set_other t2 (4 * M + e) q _ (pos 0) h4
      ∙ get_or-set_other t1 (3 * M + e) q _ (pos 0) h3
      ∙ get_or-set_other t (2 * M + e) q _ (pos 0) h2

  module _ (long : 7 * M ≤ length t) (l : e < M) (k : p < M) where
    pub stored-place : at (order_stored M by e p b t) (2 * M + e) ≡ pos p
    unfolding order_stored
    stored-place =
        get_or-set_other t4 (6 * M + p) (2 * M + e) _ (pos 0) (λ q. omega arith)
        ∙ get_or-set_other t3 (5 * M + p) (2 * M + e) _ (pos 0) (λ q. omega arith)
        ∙ get_or-set_other t2 (4 * M + e) (2 * M + e) _ (pos 0) (λ q. omega arith)
        ∙ get_or-set_other t1 (3 * M + e) (2 * M + e) _ (pos 0) (λ q. omega arith)
        ∙ get_or-set_same t (2 * M + e) (pos p) (pos 0) (omega arith)

    pub stored-sign : at (order_stored M by e p b t) (3 * M + e) ≡ sign
    unfolding order_stored
    stored-sign =
        get_or-set_other t4 (6 * M + p) (3 * M + e) _ (pos 0) (λ q. omega arith)
        ∙ get_or-set_other t3 (5 * M + p) (3 * M + e) _ (pos 0) (λ q. omega arith)
        ∙ get_or-set_other t2 (4 * M + e) (3 * M + e) _ (pos 0) (λ q. omega arith)
        ∙ get_or-set_same t1 (3 * M + e) sign (pos 0) (simp length-set (omega arith))

    pub stored-alternated : at (order_stored M by e p b t) (4 * M + e) ≡ alternate p sign
    unfolding order_stored
    stored-alternated =
        get_or-set_other t4 (6 * M + p) (4 * M + e) _ (pos 0) (λ q. omega arith)
        ∙ get_or-set_other t3 (5 * M + p) (4 * M + e) _ (pos 0) (λ q. omega arith)
        ∙ get_or-set_same t2 (4 * M + e) (alternate p sign) (pos 0) (simp length-set (omega arith))

    pub stored_back : at (order_stored M by e p b t) (5 * M + p) ≡ pos e
    unfolding order_stored
    stored_back =
        get_or-set_other t4 (6 * M + p) (5 * M + p) _ (pos 0) (λ q. omega arith)
        ∙ get_or-set_same t3 (5 * M + p) (pos e) (pos 0) (simp length-set (omega arith))

    pub stored-sign-back : at (order_stored M by e p b t) (6 * M + p) ≡ by *ℤ sign
    unfolding order_stored
    stored-sign-back = get_or-set_same t4 (6 * M + p) (by *ℤ sign) (pos 0) (simp length-set (omega arith))

-- a number's bits are the number
pub nat-is : (n : ℕ) → n < 64 → to_z w64 n ≡ pos n
nat-is n h = (held w64 (pos n) (small w64 (pos n) (omega arith))).is

-- a sign fits
pub sign_fits : (b : Bool) (r : ℤ) → mag r < 2 ^ 63 → r ≡ signed b (pos 1) → nat_abs (to_z w64 (of_z w64 r)) < 2 ^ 63
sign_fits b r ok e = rw ((held-ok w64 r ok).is, e, signed-size b (pos 1)) (omega arith)

pub sign-num : (b : Bool) {r : ℤ} → mag r < 2 ^ 63 → r ≡ signed b (pos 1) → Num w64 1 (of_z w64 r) (signed b (pos 1))
sign-num b {r} ok e = num-call w64 r ok e (rw (signed-size b (pos 1)) (omega arith))

pub put_is : (M : ℕ) (by : ℤ) (e p : ℕ) (b : Bool) (t : List ℤ) {x s a y v : ℤ} → x ≡ pos p → s ≡ signed b (pos 1) → a ≡ alternate p (signed b (pos 1)) → y ≡ pos e → v ≡ by *ℤ signed b (pos 1)
    → set (set (set (set (set t (2 * M + e) x) (3 * M + e) s) (4 * M + e) a) (5 * M + p) y) (6 * M + p) v ≡ order_stored M by e p b t
unfolding order_stored
put_is M by e p b t c d f g h = rw (c, d, f, g, h)

-- ---- the loop
pub ordered-none : (N : ℕ) (t : List ℤ) → Ordered N 0 t t
ordered-none N t = record {
  long = refl;
  places = λ i l. absurd (omega arith);
  signs = λ i l. absurd (omega arith);
  alternated = λ i l. absurd (omega arith);
  places-out = λ m h l. absurd (omega arith);
  signs-out = λ m h l. absurd (omega arith);
  before = λ p l. refl;
  behind = λ p l. refl;
}

-- a fact at each place below e, and at e
next : (P : ℕ → Type 0) (e : ℕ) → ((i : ℕ) → i < e → P i) → P e → (i : ℕ) → i < e + 1 → P i
next P e f g i l = by (eqb i e) refl
  where
    by : (b : Bool) → eqb i e ≡ b → P i
    by true q = subst P (sym (eqb-true i e q)) g
    by false q = f i (omega (arith, eqb-false i e q))

module _ {N e : ℕ} {t₀ t : List ℤ} (o : Ordered N e t₀ t) (fits : 7 * half_width N ≤ length t₀) (l : e < half_width N) where
  abbrev M : ℕ
  M = half_width N

  abbrev p : ℕ
  p = place_in N e

  abbrev t' : List ℤ
  t' = order_stored M (pos (scale N)) e p (below_zero 256 (angle_at N e)) t

  k : p < M
  k = (in-out N e l).0

  long : 7 * M ≤ length t
  long = omega (arith, o.long)

  -- what stands elsewhere still does
  kept : (q : ℕ) → (q ≡ 2 * M + e → ⊥) → (q ≡ 3 * M + e → ⊥) → (q ≡ 4 * M + e → ⊥) → (q ≡ 5 * M + p → ⊥) → (q ≡ 6 * M + p → ⊥) → at t' q ≡ at t q
  kept = stored-out M (pos (scale N)) e p (below_zero 256 (angle_at N e)) t

  pub ordered-next : Ordered N (e + 1) t₀ t'
  unfolding sign_in
  ordered-next =
      let by = pos (scale N) in
      let b = below_zero 256 (angle_at N e) in
      record {
        long = stored-long M by e p b t ∙ o.long;
        places = next (λ i. at t' (2 * M + i) ≡ pos (place_in N i)) e
            (λ i h. kept (2 * M + i) (λ q. omega arith) (λ q. omega arith) (λ q. omega arith) (λ q. omega (arith, k)) (λ q. omega (arith, k)) ∙ o.places i h)
            (stored-place M by e p b t long l k);
        signs = next (λ i. at t' (3 * M + i) ≡ sign_in N i) e
            (λ i h. kept (3 * M + i) (λ q. omega arith) (λ q. omega arith) (λ q. omega arith) (λ q. omega (arith, k)) (λ q. omega (arith, k)) ∙ o.signs i h)
            (stored-sign M by e p b t long l k);
        alternated = next (λ i. at t' (4 * M + i) ≡ alternate (place_in N i) (sign_in N i)) e
            (λ i h. kept (4 * M + i) (λ q. omega arith) (λ q. omega arith) (λ q. omega arith) (λ q. omega (arith, k)) (λ q. omega (arith, k)) ∙ o.alternated i h)
            (stored-alternated M by e p b t long l k);
        places-out = λ m h d. out m (at t' (5 * M + m) ≡ pos (place_out N m))
            (λ z u. kept (5 * M + m) (λ q. omega arith) (λ q. omega arith) (λ q. omega arith) (λ q. u (omega arith)) (λ q. omega (arith, k)) ∙ o.places-out m h z)
            (λ z u. ap (λ x. at t' (5 * M + x)) u ∙ stored_back M by e p b t long l k ∙ ap pos (sym z)) h d;
        signs-out = λ m h d. out m (at t' (6 * M + m) ≡ pos (scale N) *ℤ sign_in N (place_out N m))
            (λ z u. kept (6 * M + m) (λ q. omega arith) (λ q. omega arith) (λ q. omega arith) (λ q. omega (arith, k)) (λ q. u (omega arith)) ∙ o.signs-out m h z)
            (λ z u. ap (λ x. at t' (6 * M + x)) u ∙ stored-sign-back M by e p b t long l k ∙ ap (λ i. by *ℤ sign_in N i) (sym z)) h d;
        before = λ q h. kept q (λ q. omega arith) (λ q. omega arith) (λ q. omega arith) (λ q. omega (arith, k)) (λ q. omega (arith, k)) ∙ o.before q h;
        behind = λ q h. kept q (λ q. omega arith) (λ q. omega arith) (λ q. omega arith) (λ q. omega (arith, k)) (λ q. omega (arith, k)) ∙ o.behind q h;
      }
    where
      -- m stood in the order before, or is the place stored now
      out : (m : ℕ) (P : Type 0) → (place_out N m < e → (m ≡ p → ⊥) → P) → (place_out N m ≡ e → m ≡ p → P) → m < M → place_out N m < e + 1 → P
      out m P f g h d = by (eqb (place_out N m) e) refl
        where
          by : (b : Bool) → eqb (place_out N m) e ≡ b → P
          by true q = let z = eqb-true (place_out N m) e q in g z (sym (out-in N m h).1 ∙ ap (place_in N) z)
          by false q = f (omega (arith, eqb-false (place_out N m) e q)) (λ u. eqb-false (place_out N m) e q (ap (place_out N) u ∙ (in-out N e l).1))

-- ---- the angle of a turn, less whole turns
first-is : (N : ℕ) → 128 / half_width N ≡ (3 ^ 0 * (128 / half_width N)) % 1024
unfolding half_width
first-is = at_each (λ N M. 128 / M ≡ (3 ^ 0 * (128 / M)) % 1024) 4 16 64 0 refl refl refl (λ N x y z. refl)

pub angle-first : (N : ℕ) → 0 < half_width N → 128 / (N / 2) ≡ angle_at N 0 % 1024
unfolding angle_at
angle-first N z = ap (λ m. 128 / m) (half_is N z) ∙ first-is N

pub angle-next : (N e : ℕ) → (3 * (angle_at N e % 1024)) % 1024 ≡ angle_at N (e + 1) % 1024
unfolding angle_at
angle-next N e =
    let x = angle_at N e in
    let n : 3 ^ (e + 1) ≡ 3 ^ e * 3 = rw add-one (pow-suc 3 e) in
    let q : 3 * (x % 1024) + 1024 * (3 * (x / 1024)) ≡ angle_at N (e + 1) = omega (arith, ap (λ n. n * (128 / half_width N)) n) in
    sym (add-mul-mod_self_left (3 * (x % 1024)) 1024 (3 * (x / 1024))) ∙ ap (λ n. n % 1024) q

module _ (N e : ℕ) {h j a : ℕ} (half : h ≡ half_width N) (turn : j ≡ angle_at N e % 1024) (angle : a ≡ reflected 256 j) where
  same : (reflected 256 j ≡ reflected 256 (angle_at N e)) × (below_zero 256 j ≡ below_zero 256 (angle_at N e))
  same = same_turn 256 j (angle_at N e) (ap (λ x. x % 1024) turn ∙ mod-mod (angle_at N e) 1024)

  pub place_is : a * h / 256 ≡ place_in N e
  unfolding place_in
  place_is = ap₂ (λ x y. x * y / 256) (angle ∙ same.0) half

  pub place-product : a * h ≤ 256 * 64
  place-product =
      let x : a ≤ 256 = omega (arith, reflected-le 256 j (omega arith)) in
      let y : h ≤ 64 = omega (arith, half-width-le N) in
      mul-le-mul x y

  -- a turn of the loop
  pub ordered-turn : {t₀ t t' : List ℤ} {m : Bool} {by : ℤ} → by ≡ pos (scale N) → Ordered N e t₀ t → 7 * half_width N ≤ length t₀ → e < half_width N → m ≡ below_zero 256 j → t' ≡ order_stored h by e (a * h / 256) m t → Ordered N (e + 1) t₀ t'
  ordered-turn {t₀ = t₀} {t = t} {m = m} {by = by} r o fits l b s =
      subst (Ordered N (e + 1) t₀) (sym (s ∙ ap₂ (λ x y. order_stored x by e y m t) half place_is ∙ ap₂ (λ x y. order_stored (half_width N) x e (place_in N e) y t) r (b ∙ same.1))) (ordered-next o fits l)
