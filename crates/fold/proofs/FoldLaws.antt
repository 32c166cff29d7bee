-- What a fold's rotations come to, and a list that is stored from both ends.
use mathlib.Core.Path.{◌≡◌, refl, sym, ap, ap₂, subst, ◌∙◌}
use mathlib.Core.Bool.{Bool, true, false, cond}
use mathlib.Core.List.{List, ◌++◌}
use Prim.Native.Nat.{ℕ, ◌+◌, ◌-◌, ◌*◌, ◌/◌, ◌^◌, ◌≤◌, ◌<◌}
use native.Mathlib.Omega.{arith}
use borrow.Author.Tests.{ltb-true, ltb-false, eqb-true, eqb-false, lt-ltb, le-ltb}
use lib.Dec.{T, eqb, ltb}
use lib.IntN.{ℤ, pos, neg_ℤ, nat_abs, ◌*ℤ◌}
use lib.ListN.{length, set, length-set, get_or-append}
use lib.Signed.{mag}
use lib.Seq.{get_or-set_same, get_or-set_other, get_or-append-add}
use mir.Syntax.{w64}
use mir.Val.{to_z, of_z}
use Rattle.integers.specs.Floor.{round}
use Rattle.integers.specs.Places.{places, at, Within}
use Rattle.integers.proofs.Order.{nat_abs-*ℤ-le}
use Rattle.integers.proofs.Num.{Num, num, num-call}
use Rattle.integers.proofs.Rounding.{round-within}
use Rattle.integers.proofs.PlaceLaws.{at_places, by-places}
use Rattle.integers.proofs.Fills.{Filling, filling-next, filling-here}
use Rattle.tables.specs.Widths.{half_width}
use Rattle.tables.proofs.ByWidth.{at_each, half-width-le}
use Rattle.steps.specs.Steps.{tangent, sine, tangent_amount, sine_amount, rotated_a, rotated_b, unrotated_a, unrotated_b, lower}
use Rattle.steps.proofs.Lengths.{length-lower, width-half}
use Rattle.slices.specs.Own.Moves.{moved}
use Rattle.width_tables.specs.Own.Parts.{Tangents, Sines}
use Rattle.slices.proofs.MoveLaws.{moved-size}
use Rattle.width_tables.proofs.TableSizes.{tangents-long, tangents-within, sines-long, sines-within}

-- ---- one lift
abbrev pub lifted : Bool → ℤ → ℤ → ℤ → ℤ
lifted undo c x y = moved undo y (round 28 (c *ℤ x))

pub bits-size : {m x : ℕ} {a : ℤ} → Num w64 m x a → nat_abs (to_z w64 x) ≤ m
bits-size p = rw p.holds.is p.size

pub entry-size : {m : ℕ} {xs : List ℤ} → Within m xs → T (ltb m (2 ^ 63)) → (i : ℕ) → nat_abs (to_z w64 (of_z w64 (at xs i))) ≤ m
entry-size {xs = xs} h t i = bits-size (num w64 (at xs i) (h.size i) t)

pub num-lifted : (undo : Bool) {B C i j k : ℕ} {c x y : ℤ} → Num w64 (2 ^ 28) i c → Num w64 B j x → Num w64 C k y
    → (r : ℤ) → mag r < 2 ^ 63 → r ≡ lifted undo (to_z w64 i) (to_z w64 j) (to_z w64 k) → Num w64 (C + B) (of_z w64 r) (lifted undo c x y)
num-lifted undo {B = B} {j = j} {k = k} {c = c} {x = x} {y = y} p q n r ok e =
    num-call w64 r ok
    (e ∙ ap₂ (λ u v. lifted undo u v (to_z w64 k)) p.holds.is q.holds.is ∙ ap (lifted undo c x) n.holds.is)
    (moved-size undo y _ n.size (round-within 28 B (c *ℤ x) (nat_abs-*ℤ-le c x p.size q.size)))

-- ---- a list whose places below i and from j on are final
pub record Ends (f : ℕ → ℤ) (n i j : ℕ) (d : List ℤ) : Type 0 where
  pub long : length d ≡ n
  front : (k : ℕ) → k < i → at d k ≡ f k
  back : (k : ℕ) → j ≤ k → k < n → at d k ≡ f k

pub ends-none : (f : ℕ → ℤ) (n j : ℕ) (d : List ℤ) → n ≤ j → length d ≡ n → Ends f n 0 j d
ends-none f n j d g l = record { long = l; front = λ k h. absurd (omega arith); back = λ k h b. absurd (omega arith) }

-- a store of what is final keeps what is
stored : (f : ℕ → ℤ) (d : List ℤ) (p k : ℕ) (v : ℤ) → p < length d → v ≡ f p → ((k ≡ p → ⊥) → at d k ≡ f k) → at (set d p v) k ≡ f k
stored f d p k v l e h = by (eqb k p) refl
  where
    by : (b : Bool) → eqb k p ≡ b → at (set d p v) k ≡ f k
    by true t = let q = eqb-true k p t in rw q (get_or-set_same d p v (pos 0) l ∙ e)
    by false t = let q = eqb-false k p t in get_or-set_other d p k v (pos 0) q ∙ h q

module _ {f : ℕ → ℤ} {n i j : ℕ} {d : List ℤ} {v : ℤ} (s : Ends f n i j d) where
  pub ends-front : i < n → v ≡ f i → Ends f n (i + 1) j (set d i v)
  ends-front l e =
      let p : i < length d = omega (arith, s.long) in
      record { long = length-set d i v ∙ s.long; front = λ k h. stored f d i k v p e (λ q. s.front k (omega (arith, q))); back = λ k h b. stored f d i k v p e (λ q. s.back k h b) }

  pub ends-back : (m j' : ℕ) → m < n → j ≤ m + 1 → m ≤ j' → v ≡ f m → Ends f n i j' (set d m v)
  ends-back m j' l g r e =
      let p : m < length d = omega (arith, s.long) in
      record { long = length-set d m v ∙ s.long; front = λ k h. stored f d m k v p e (λ q. s.front k h); back = λ k h b. stored f d m k v p e (λ q. s.back k (omega (arith, q)) b) }

pub ends-all : {f : ℕ → ℤ} {n i j : ℕ} {d : List ℤ} → Ends f n i j d → j ≤ i → d ≡ places n f
ends-all {f = f} {n = n} {i = i} {d = d} s l = by-places n d f s.long (λ k h. by k h (ltb k i) refl)
  where
    by : (k : ℕ) → k < n → (b : Bool) → ltb k i ≡ b → at d k ≡ f k
    by k h true t = s.front k (ltb-true k i t)
    by k h false t = s.back k (omega (arith, ltb-false k i t)) h

-- ---- a list of 2q places, final from its middle k to either side
pub record Middle (f : ℕ → ℤ) (q k : ℕ) (d : List ℤ) : Type 0 where
  pub long : length d ≡ q + q
  inside : (p : ℕ) → q ≤ p + k → p < q + k → at d p ≡ f p

pub middle-none : (f : ℕ → ℤ) (q : ℕ) (d : List ℤ) → length d ≡ q + q → Middle f q 0 d
middle-none f q d l = record { long = l; inside = λ p h b. absurd (omega arith) }

middle-next : {f : ℕ → ℤ} {q k : ℕ} {d : List ℤ} {a b : ℤ} → Middle f q k d → k < q → a ≡ f (q - 1 - k) → b ≡ f (q + k)
    → Middle f q (k + 1) (set (set d (q - 1 - k) a) (q + k) b)
middle-next {f = f} {q = q} {k = k} {d = d} {a = a} {b = b} s h e g =
    let i = q - 1 - k in
    let j = q + k in
    let t = length-set d i a in
    record {
      long = length-set (set d i a) j b ∙ t ∙ s.long;
      inside = λ p l r.
          stored f (set d i a) j p b (omega (arith, s.long)) g (λ u.
          stored f d i p a (omega (arith, s.long)) e (λ v.
          s.inside p (omega (arith, v)) (omega (arith, u))));
    }

pub middle-all : {f : ℕ → ℤ} {q k : ℕ} {d : List ℤ} → Middle f q k d → q ≤ k → d ≡ places (q + q) f
middle-all {f = f} {q = q} {d = d} s l = by-places (q + q) d f s.long (λ p h. s.inside p (omega arith) (omega arith))

-- ---- a list filled from its front by twos: what stands past the first place, and a turn
module _ {f : ℕ → ℤ} {d₀ : List ℤ} {i : ℕ} {d : List ℤ} (s : Filling f d₀ i d) where
  filling-past : at d (i + 1) ≡ at d₀ (i + 1)
  filling-past =
      let e : i + 1 ≡ i → ⊥ = λ h. omega arith in
      sym (get_or-set_other d i (i + 1) (f i) (pos 0) e) ∙ filling-here (filling-next s refl)

  pub filling-two : (j : ℕ) → j ≡ i + 2 → {u v : ℤ} {d' : List ℤ} → d' ≡ set (set d i u) (i + 1) v → u ≡ f i → v ≡ f (i + 1) → Filling f d₀ j d'
  filling-two j e {u = u} {v = v} {d' = d'} is g h =
      let n : i + 1 + 1 ≡ j = omega arith in
      subst (Filling f d₀ j) (sym is) (subst (λ m. Filling f d₀ m (set (set d i u) (i + 1) v)) n (filling-next (filling-next s g) h))

-- ---- the three lifts are the rotation
abbrev turned_a : Bool → ℤ → ℤ → ℤ → ℤ → ℤ
turned_a undo t s a b = lifted undo s (lifted undo t a b) a

abbrev turned_b : Bool → ℤ → ℤ → ℤ → ℤ → ℤ
turned_b undo t s a b = lifted undo t (turned_a undo t s a b) (lifted undo t a b)

module _ (N m : ℕ) (a b : ℤ) where
  abbrev pub rotation_a : Bool → ℤ
  rotation_a undo = cond undo (unrotated_a N m a b) (rotated_a N m a b)

  abbrev pub rotation_b : Bool → ℤ
  rotation_b undo = cond undo (unrotated_b N m a b) (rotated_b N m a b)

  turned_a-is : (undo : Bool) → turned_a undo (neg_ℤ (tangent N m)) (sine N m) a b ≡ rotation_a undo
  unfolding rotated_a unrotated_a tangent_amount sine_amount moved
  turned_a-is true = refl
  turned_a-is false = refl

  turned_b-is : (undo : Bool) → turned_b undo (neg_ℤ (tangent N m)) (sine N m) a b ≡ rotation_b undo
  unfolding rotated_a rotated_b unrotated_a unrotated_b tangent_amount sine_amount moved
  turned_b-is true = refl
  turned_b-is false = refl

-- the pair that comes of numbers as their bits hold them
module _ (N m : ℕ) (undo : Bool) {i j k l : ℕ} {x y : ℤ} (t : Num w64 (2 ^ 28) i (neg_ℤ (tangent N m))) (s : Num w64 (2 ^ 28) j (sine N m)) (hx : Num w64 50000 k x) (hy : Num w64 50000 l y) where
  carried : (f : ℤ → ℤ → ℤ → ℤ → ℤ) → f (to_z w64 i) (to_z w64 j) (to_z w64 k) (to_z w64 l) ≡ f (neg_ℤ (tangent N m)) (sine N m) x y
  carried f = ap₂ (λ u v. f u v (to_z w64 k) (to_z w64 l)) t.holds.is s.holds.is ∙ ap₂ (f (neg_ℤ (tangent N m)) (sine N m)) hx.holds.is hy.holds.is

  module _ {p : ℤ} (hp : p ≡ turned_a undo (to_z w64 i) (to_z w64 j) (to_z w64 k) (to_z w64 l)) where
    pub a-rotated : p ≡ rotation_a N m x y undo
    a-rotated = hp ∙ carried (turned_a undo) ∙ turned_a-is N m x y undo

    pub b-rotated : {q : ℤ} → q ≡ lifted undo (to_z w64 i) p (lifted undo (to_z w64 i) (to_z w64 k) (to_z w64 l)) → q ≡ rotation_b N m x y undo
    b-rotated hq = hq ∙ ap (λ z. lifted undo (to_z w64 i) z (lifted undo (to_z w64 i) (to_z w64 k) (to_z w64 l))) hp ∙ carried (turned_b undo) ∙ turned_b-is N m x y undo

-- ---- the entries of a width's tables
module _ (N : ℕ) (xs : List ℤ) (n : ℕ) (l : n < half_width N) where
  pub tangent-num : Tangents N xs → Num w64 (2 ^ 28) (of_z w64 (at xs n)) (neg_ℤ (tangent N n))
  tangent-num t = subst (Num w64 (2 ^ 28) (of_z w64 (at xs n))) (ap (λ ys. at ys n) t.is ∙ at_places (half_width N) _ n l) (num w64 _ ((tangents-within N xs t).size n) tt)

  pub sine-num : Sines N xs → Num w64 (2 ^ 28) (of_z w64 (at xs n)) (sine N n)
  sine-num s = subst (Num w64 (2 ^ 28) (of_z w64 (at xs n))) (ap (λ ys. at ys n) s.is ∙ at_places (half_width N) _ n l) (num w64 _ ((sines-within N xs s).size n) tt)

-- ---- what goes to each place
abbrev pub held_at : ℕ → List ℤ → ℕ → ℤ
held_at N x n = rotated_b N n (at x n) (at x (N - 1 - n))

abbrev pub block_at : ℕ → List ℤ → List ℤ → ℕ → ℤ
block_at N low high j =
    cond (ltb j (half_width N))
    (unrotated_a N j (at low (half_width N - 1 - j)) (at high j))
    (let n = N - 1 - j in unrotated_b N n (at low (half_width N - 1 - n)) (at high n))

module _ (N n : ℕ) (l : n < half_width N) where
  abbrev M : ℕ
  M = half_width N

  module _ (low high : List ℤ) where
    pub front_at : block_at N low high n ≡ unrotated_a N n (at low (M - 1 - n)) (at high n)
    front_at = rw (lt-ltb n M l)

    pub back_at : M + M ≡ N → block_at N low high (N - 1 - n) ≡ unrotated_b N n (at low (M - 1 - n)) (at high n)
    back_at w =
        let h : N - 1 - (N - 1 - n) ≡ n = omega arith in
        rw (le-ltb (N - 1 - n) M (omega arith)) (ap (λ k. unrotated_b N k (at low (M - 1 - k)) (at high k)) h)

-- ---- folded values: a block's rotated pairs, and behind them what was held
pub quarter-is : (N : ℕ) → 0 < half_width N → N / 4 + N / 4 ≡ half_width N
unfolding half_width
quarter-is = at_each (λ n m. 0 < m → n / 4 + n / 4 ≡ m) 4 16 64 0 (λ z. refl) (λ z. refl) (λ z. refl) (λ n x y w z. absurd (omega arith))

module _ (N : ℕ) (x h : List ℤ) where
  abbrev folded : ℕ → ℤ
  folded = at (lower N x ++ h)

  folded_low : (n i : ℕ) → n < half_width N → i ≡ half_width N - 1 - n → folded i ≡ rotated_a N n (at x n) (at x (N - 1 - n))
  unfolding lower
  folded_low n i l e =
      let d : half_width N - 1 - i ≡ n = omega arith in
      get_or-append (lower N x) h (pos 0) i (omega (arith, length-lower N x))
      ∙ at_places (half_width N) _ i (omega arith)
      ∙ ap (λ k. rotated_a N k (at x k) (at x (N - 1 - k))) d

  folded-high : (n i : ℕ) → i ≡ half_width N + n → folded i ≡ at h n
  folded-high n i e = let d : i ≡ length (lower N x) + n = omega (arith, length-lower N x) in ap folded d ∙ get_or-append-add (lower N x) h n (pos 0)

  abbrev pub top_at : ℕ → ℤ
  top_at m = folded (2 * m)

  abbrev pub bottom_at : ℕ → ℤ
  bottom_at m = folded (2 * m + 1)

  -- a turn stores the pairs 2k and 2k + 1
  module _ {q k : ℕ} (whole : q + q ≡ half_width N) (below : k < q) {held d d' : List ℤ} {a b : ℤ} (rest : Filling (held_at N x) h (2 * k) held) (is : d' ≡ set (set d (q - 1 - k) a) (q + k) b) where
    pub top-next : Middle top_at q k d → a ≡ (let n = 2 * k + 1 in rotated_a N n (at x n) (at x (N - 1 - n))) → b ≡ at held (2 * k) → Middle top_at q (k + 1) d'
    top-next s e g =
        subst (Middle top_at q (k + 1)) (sym is)
        (middle-next s below
        (e ∙ sym (folded_low (2 * k + 1) (2 * (q - 1 - k)) (omega arith) (omega arith)))
        (g ∙ filling-here rest ∙ sym (folded-high (2 * k) (2 * (q + k)) (omega arith))))

    pub bottom-next : Middle bottom_at q k d → a ≡ (let n = 2 * k in rotated_a N n (at x n) (at x (N - 1 - n))) → b ≡ at held (2 * k + 1) → Middle bottom_at q (k + 1) d'
    bottom-next s e g =
        subst (Middle bottom_at q (k + 1)) (sym is)
        (middle-next s below
        (e ∙ sym (folded_low (2 * k) (2 * (q - 1 - k) + 1) (omega arith) (omega arith)))
        (g ∙ filling-past rest ∙ sym (folded-high (2 * k + 1) (2 * (q + k) + 1) (omega arith))))

-- ---- how long a width's lists are, for `grind`
pub ruleset lengths = (width-half, half-width-le, tangents-long, sines-long)
