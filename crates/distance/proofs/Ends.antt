-- A row against the boxed terms: | q · row x + p · Σ term | ≤ R · Σ far, whichever end is picked; and the common scale taken off.
use mathlib.Core.Path.{◌≡◌, sym, ◌∙◌, ap, ap₂}
use mathlib.Core.Bool.{Bool, true, false, cond}
use mathlib.Core.List.{List, [], ◌∷◌}
use Prim.Native.Nat.{ℕ, zero, suc, max, ◌+◌, ◌*◌, ◌≤◌, ◌<◌}
use native.Mathlib.Omega.{arith}
use native.Mathlib.Nat.{suc_inj, le_refl, le_of_mul-le-mul_left, add-zero, add-suc, suc-add}
use lib.ListN.{length}
use lib.IntN.{ℤ, pos, neg_ℤ, nat_abs, ◌+ℤ◌, ◌-ℤ◌, ◌*ℤ◌}
use lib.Signed.{le_z}
use Rattle.integers.specs.Vectors.{dot, AllAbs}
use Rattle.integers.proofs.Ring.{ring}
use Rattle.integers.proofs.Order.{nat_abs-+ℤ, nat_abs-*ℤ, nat_abs-*ℤ-le}
use Rattle.integers.proofs.PlaceLaws.{sum-ext, sum-front}
use Rattle.tables.specs.Boxes.{Box}
use Rattle.steps.specs.Places.{tab, at, sum}
use Rattle.distance.specs.Exact.{lesser, greater, term}
use Rattle.distance.proofs.Carried.{far, fars}

-- ---- a pick of two is one of the two
abbrev pub Picks : (ℤ → ℤ → ℤ) → Type 1
Picks pick = (Z : ℤ → Type 0) (a b : ℤ) → Z a → Z b → Z (pick a b)

either : (Z : ℤ → Type 0) (a b : ℤ) (t : Bool) → Z a → Z b → Z (cond t a b)
either Z a b true h k = h
either Z a b false h k = k

pub picks-greater : Picks greater
unfolding greater
picks-greater Z a b h k = either Z b a (le_z a b) k h

pub picks-lesser : Picks lesser
unfolding lesser
picks-lesser Z a b h k = either Z a b (le_z a b) h k

-- ---- one term
grouped : (q p L x s c : ℤ) → q *ℤ (L *ℤ x) +ℤ p *ℤ (x *ℤ s *ℤ c) ≡ x *ℤ (q *ℤ L +ℤ p *ℤ (s *ℤ c))
grouped q p L x s c = simp ring

one-near : (q p L x s c : ℤ) {R F : ℕ} → nat_abs x ≤ R → nat_abs (q *ℤ L +ℤ p *ℤ (s *ℤ c)) ≤ F → nat_abs (q *ℤ (L *ℤ x) +ℤ p *ℤ (x *ℤ s *ℤ c)) ≤ R * F
one-near q p L x s c h k = rw (grouped q p L x s c) (nat_abs-*ℤ-le x (q *ℤ L +ℤ p *ℤ (s *ℤ c)) h k)

-- the greatest of four
record Four (a b c d m : ℕ) : Type 0 where
  is-1 : a ≤ m
  is-2 : b ≤ m
  is-3 : c ≤ m
  is-4 : d ≤ m

four : (a b c d : ℕ) → Four a b c d (max (max a b) (max c d))
four a b c d = omega arith

parted : (q p a t d s : ℤ) → q *ℤ (a +ℤ d) +ℤ p *ℤ (t +ℤ s) ≡ (q *ℤ a +ℤ p *ℤ t) +ℤ (q *ℤ d +ℤ p *ℤ s)
parted q p a t d s = simp ring

sum_step : (q p a t d s : ℤ) (R A F : ℕ) → nat_abs (q *ℤ a +ℤ p *ℤ t) ≤ R * A → nat_abs (q *ℤ d +ℤ p *ℤ s) ≤ R * F → nat_abs (q *ℤ (a +ℤ d) +ℤ p *ℤ (t +ℤ s)) ≤ R * (A + F)
sum_step q p a t d s R A F h k = rw (parted q p a t d s) (omega (arith, nat_abs-+ℤ (q *ℤ a +ℤ p *ℤ t) (q *ℤ d +ℤ p *ℤ s)))

nothing : (q p : ℤ) → q *ℤ pos 0 +ℤ p *ℤ pos 0 ≡ pos 0
nothing q p = simp ring

module _ (pick : ℤ → ℤ → ℤ) (picks : Picks pick) (q p : ℤ) (R : ℕ) where
  term-near : (s c : Box) (L x : ℤ) → nat_abs x ≤ R → nat_abs (q *ℤ (L *ℤ x) +ℤ p *ℤ term pick x s c) ≤ R * far q p s c L
  unfolding term far
  term-near s c L x h =
      let Z : ℤ → Type 0 = λ t. nat_abs (q *ℤ (L *ℤ x) +ℤ p *ℤ t) ≤ R * far q p s c L in
      let D : ℤ → ℤ → ℕ = λ s c. nat_abs (q *ℤ L +ℤ p *ℤ (s *ℤ c)) in
      let P : ℤ → ℤ → ℤ = λ s c. x *ℤ s *ℤ c in
      let f = four (D s.low c.low) (D s.low c.high) (D s.high c.low) (D s.high c.high) in
      picks Z (pick (P s.low c.low) (P s.low c.high)) (pick (P s.high c.low) (P s.high c.high))
      (picks Z (P s.low c.low) (P s.low c.high) (one-near q p L x s.low c.low h f.is-1) (one-near q p L x s.low c.high h f.is-2))
      (picks Z (P s.high c.low) (P s.high c.high) (one-near q p L x s.high c.low h f.is-3) (one-near q p L x s.high c.high h f.is-4))

  -- ---- all terms
  module _ (s c : ℕ → Box) where
    abbrev terms : ℕ → List ℤ → ℕ → ℤ
    terms i xs j = term pick (at xs j) (s (i + j)) (c (i + j))

    terms-front : (n i : ℕ) (x : ℤ) (xs : List ℤ) → sum (suc n) (terms i (x ∷ xs)) ≡ term pick x (s i) (c i) +ℤ sum n (terms (suc i) xs)
    terms-front n i x xs =
        sum-front n (terms i (x ∷ xs))
        ∙ ap₂ ◌+ℤ◌ (ap (λ k. term pick x (s k) (c k)) (add-zero i))
        (sum-ext n (λ j. terms i (x ∷ xs) (suc j)) (terms (suc i) xs) (λ j h. ap (λ k. term pick (at xs j) (s k) (c k)) (add-suc i j ∙ sym (suc-add i j))))

    pub total-near : (n i : ℕ) (row xs : List ℤ) → length row ≡ n → length xs ≡ n → AllAbs R xs
        → nat_abs (q *ℤ dot row xs +ℤ p *ℤ sum n (terms i xs)) ≤ R * fars q p (tab s n i) (tab c n i) row
    unfolding fars tab sum
    total-near zero i [] [] h l b = rw (nothing q p) (omega arith)
    total-near zero i [] (x ∷ xs) h l b = let z : ⊥ = omega arith in absurd z
    total-near zero i (r ∷ rs) xs h l b = let z : ⊥ = omega arith in absurd z
    total-near (suc n) i [] xs h l b = let z : ⊥ = omega arith in absurd z
    total-near (suc n) i (r ∷ rs) [] h l b = let z : ⊥ = omega arith in absurd z
    total-near (suc n) i (r ∷ rs) (x ∷ xs) h l b =
        rw (terms-front n i x xs)
        (sum_step q p (r *ℤ x) (term pick x (s i) (c i)) (dot rs xs) (sum n (terms (suc i) xs)) R (far q p (s i) (c i) r) (fars q p (tab s n (suc i)) (tab c n (suc i)) rs)
        (term-near (s i) (c i) r x b.0) (total-near n (suc i) rs xs (suc_inj h) (suc_inj l) b.1))

-- ---- the scale taken off
through : (p q c v t : ℤ) → p *ℤ (q *ℤ c -ℤ neg_ℤ t) ≡ q *ℤ (p *ℤ c -ℤ v) +ℤ (q *ℤ v +ℤ p *ℤ t)
through p q c v t = simp ring

-- | p c − v | ≤ E and | q v + p t | ≤ F, with F + q E ≤ d q p: | q c − (− t) | ≤ d q
pub off-scale : (p q d E F : ℕ) (c v t : ℤ) → 0 < p → nat_abs (pos p *ℤ c -ℤ v) ≤ E → nat_abs (pos q *ℤ v +ℤ pos p *ℤ t) ≤ F → F + q * E ≤ d * (q * p)
    → nat_abs (pos q *ℤ c -ℤ neg_ℤ t) ≤ d * q
off-scale p q d E F c v t z h k l =
    let z₁ = nat_abs-*ℤ (pos p) (pos q *ℤ c -ℤ neg_ℤ t) in
    let z₂ = rw (through (pos p) (pos q) c v t) at z₁ in
    let z₃ = nat_abs-+ℤ (pos q *ℤ (pos p *ℤ c -ℤ v)) (pos q *ℤ v +ℤ pos p *ℤ t) in
    let z₄ = nat_abs-*ℤ-le (pos q) (pos p *ℤ c -ℤ v) (le_refl q) h in
    let z₅ : p * nat_abs (pos q *ℤ c -ℤ neg_ℤ t) ≤ p * (d * q) = omega arith in
    le_of_mul-le-mul_left z₅ z
