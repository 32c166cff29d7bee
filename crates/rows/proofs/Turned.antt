-- A matrix that is one list, with its rows and columns in an order and up to signs: its row sums by a product with that list.
use mathlib.Core.Path.{◌≡◌, sym, ap, ◌∙◌}
use mathlib.Core.List.{List, []}
use Prim.Native.Nat.{ℕ, zero, suc, ◌+◌, ◌<◌}
use native.Mathlib.Omega.{arith}
use lib.IntN.{ℤ, ◌+ℤ◌, ◌*ℤ◌, *ℤ-zero}
use lib.ListN.{get_or}
use Rattle.integers.specs.Places.{tab, places, at, sum}
use Rattle.integers.proofs.Ring.{*ℤ-assoc, *ℤ-distribl}
use Rattle.integers.proofs.PlaceLaws.{at-tab, at_places, sum-ext}
use Rattle.integers.proofs.Permutations.{sum-permuted}
use Rattle.products.specs.Own.Products.{product}

-- ---- tests, computed at each width
abbrev pub matrix : ℕ → (ℕ → ℕ → ℤ) → List (List ℤ)
matrix M f = tab (λ m. places M (f m)) M 0

matrix-at : (M : ℕ) (f : ℕ → ℕ → ℤ) (m j : ℕ) → m < M → j < M → at (get_or (matrix M f) m []) j ≡ f m j
matrix-at M f m j h k = ap (λ l. at l j) (at-tab (λ m. places M (f m)) M 0 m [] h ∙ ap (λ i. places M (f i)) (omega arith)) ∙ at_places M (f m) j k

pub same_at : (M : ℕ) (f g : ℕ → ℕ → ℤ) → matrix M f ≡ matrix M g → (m j : ℕ) → m < M → j < M → f m j ≡ g m j
same_at M f g e m j h k = sym (matrix-at M f m j h k) ∙ ap (λ l. at (get_or l m []) j) e ∙ matrix-at M g m j h k

-- ---- matrix(m, place j) is sign(out m)·list(out m + j)·sign(j)
pub record Turned (M : ℕ) (place out : ℕ → ℕ) (sign : ℕ → ℤ) (entry : ℕ → ℕ → ℤ) (list : List ℤ) : Type 0 where
  pub in-out : (j : ℕ) → j < M → (place j < M) × (out (place j) ≡ j)
  pub out-in : (m : ℕ) → m < M → (out m < M) × (place (out m) ≡ m)
  pub is : (m j : ℕ) → m < M → j < M → sign (out m) *ℤ (at list (out m + j) *ℤ sign j) ≡ entry m (place j)

pub sum-scaled : (n : ℕ) (c : ℤ) (f : ℕ → ℤ) → c *ℤ sum n f ≡ sum n (λ i. c *ℤ f i)
unfolding sum
sum-scaled zero c f = *ℤ-zero c
sum-scaled (suc n) c f = *ℤ-distribl c (sum n f) (f n) ∙ ap (λ z. z +ℤ c *ℤ f n) (sum-scaled n c f)

regrouped : (s t r x : ℤ) → s *ℤ (t *ℤ (r *ℤ x)) ≡ (s *ℤ (t *ℤ r)) *ℤ x
regrouped s t r x = ap (λ z. s *ℤ z) (sym (*ℤ-assoc t r x)) ∙ sym (*ℤ-assoc s (t *ℤ r) x)

-- the product y of the list with x, brought into the order as a, has the row sum of m at its place, with its sign
pub turned-sum : {M : ℕ} {place out : ℕ → ℕ} {sign : ℕ → ℤ} {entry : ℕ → ℕ → ℤ} {list : List ℤ} → Turned M place out sign entry list
    → (x a y : ℕ → ℤ) → ((j : ℕ) → j < M → a j ≡ sign j *ℤ x (place j)) → ((i : ℕ) → i < M → y i ≡ product M (at list) a i)
    → (m : ℕ) → m < M → sign (out m) *ℤ y (out m) ≡ sum M (λ n. entry m n *ℤ x n)
unfolding product
turned-sum {M} {place} {out} {sign} {entry} {list} t x a y e f m h =
    ap (λ z. sign (out m) *ℤ z) (f (out m) (t.out-in m h).0)
    ∙ sum-scaled M (sign (out m)) _
    ∙ sum-ext M _ _ (λ j k.
    ap (λ b. sign (out m) *ℤ (at list (out m + j) *ℤ b)) (e j k)
    ∙ regrouped (sign (out m)) (at list (out m + j)) (sign j) (x (place j))
    ∙ ap (λ c. c *ℤ x (place j)) (t.is m j h k))
    ∙ sum-permuted M place out t.in-out t.out-in (λ n. entry m n *ℤ x n)
