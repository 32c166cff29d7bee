-- The order of a sum's terms does not matter: sums of sums, and a sum over permuted places; a test that two orders undo each other.
use mathlib.Core.Path.{◌≡◌, refl, sym, ap, ◌∙◌}
use mathlib.Core.Bool.{Bool, cond, ◌&&◌}
use Prim.Native.Nat.{ℕ, zero, suc, ◌<◌}
use borrow.Author.Tests.{eq-eqb, ne_eqb}
use lib.Dec.{T, ltb, ltb→lt, eqb, eqb→eq}
use lib.IntN.{ℤ, pos, ◌+ℤ◌}
use Rattle.integers.specs.Places.{sum}
use Rattle.integers.specs.Tests.{every_below}
use Rattle.integers.proofs.Tested.{and_left, and_right, below_at}
use Rattle.integers.proofs.PlaceLaws.{sum-ext, sum-only}
use Rattle.integers.proofs.Ring.{+ℤ-swap}

-- q takes each place of p back, computed
abbrev pub back : (ℕ → ℕ) → (ℕ → ℕ) → ℕ → ℕ → Bool
back p q M j = ltb (p j) M && eqb (q (p j)) j

pub back_at : (p q : ℕ → ℕ) (M : ℕ) → T (every_below M (back p q M)) → (j : ℕ) → j < M → (p j < M) × (q (p j) ≡ j)
back_at p q M t j h =
    let u = below_at M (back p q M) t j h in
    (ltb→lt (p j) M (and_left (ltb (p j) M) (eqb (q (p j)) j) u), eqb→eq (q (p j)) j (and_right (ltb (p j) M) (eqb (q (p j)) j) u))

sum-zero : (n : ℕ) → sum n (λ i. pos 0) ≡ pos 0
unfolding sum
sum-zero zero = refl
sum-zero (suc n) = ap (λ z. z +ℤ pos 0) (sum-zero n)

pub sum-plus : (n : ℕ) (f g : ℕ → ℤ) → sum n (λ i. f i +ℤ g i) ≡ sum n f +ℤ sum n g
unfolding sum
sum-plus zero f g = refl
sum-plus (suc n) f g = ap (λ z. z +ℤ (f n +ℤ g n)) (sum-plus n f g) ∙ +ℤ-swap (sum n f) (sum n g) (f n) (g n)

pub sum-exchange : (n m : ℕ) (g : ℕ → ℕ → ℤ) → sum n (λ j. sum m (λ k. g j k)) ≡ sum m (λ k. sum n (λ j. g j k))
unfolding sum
sum-exchange zero m g = sym (sum-zero m)
sum-exchange (suc n) m g = ap (λ z. z +ℤ sum m (λ k. g n k)) (sum-exchange n m g) ∙ sym (sum-plus m (λ k. sum n (λ j. g j k)) (λ k. g n k))

-- f at k = p j alone
abbrev only : (ℕ → ℕ) → (ℕ → ℤ) → ℕ → ℕ → ℤ
only p f j k = cond (eqb k (p j)) (f k) (pos 0)

only-there : (p : ℕ → ℕ) (f : ℕ → ℤ) (j k : ℕ) → k ≡ p j → only p f j k ≡ f k
only-there p f j k e = rw (eq-eqb k (p j) e)

only-else : (p : ℕ → ℕ) (f : ℕ → ℤ) (j k : ℕ) → (k ≡ p j → ⊥) → only p f j k ≡ pos 0
only-else p f j k d = rw (ne_eqb k (p j) d)

-- p and q are inverse to each other below n
pub sum-permuted : (n : ℕ) (p q : ℕ → ℕ) → ((j : ℕ) → j < n → (p j < n) × (q (p j) ≡ j)) → ((k : ℕ) → k < n → (q k < n) × (p (q k) ≡ k))
    → (f : ℕ → ℤ) → sum n (λ j. f (p j)) ≡ sum n f
sum-permuted n p q hp hq f = sum-ext n _ _ terms ∙ sum-exchange n n (only p f) ∙ sum-ext n _ _ columns
  where
    terms : (j : ℕ) → j < n → f (p j) ≡ sum n (λ k. only p f j k)
    terms j h = sym (sum-only n (p j) (only p f j) (hp j h).0 (λ k l d. only-else p f j k d) ∙ only-there p f j (p j) refl)

    columns : (k : ℕ) → k < n → sum n (λ j. only p f j k) ≡ f k
    columns k h =
        sum-only n (q k) (λ j. only p f j k) (hq k h).0 (λ j l d. only-else p f j k (λ e. d (sym (hp j l).1 ∙ ap q (sym e))))
        ∙ only-there p f (q k) k (sym (hq k h).1)
