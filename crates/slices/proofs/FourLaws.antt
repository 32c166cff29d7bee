-- Four numbers as a list, and stored in a list: what stands where.
use mathlib.Core.Path.{◌≡◌, refl, sym, ap, ap₂, subst, ◌∙◌}
use mathlib.Core.Bool.{Bool, true, false}
use mathlib.Core.List.{List, [], ◌∷◌}
use Prim.Native.Nat.{ℕ, zero, suc, ◌+◌, ◌-◌, ◌≤◌, ◌<◌}
use native.Mathlib.Omega.{arith}
use borrow.Author.Tests.{ltb-true, ltb-false}
use lib.Dec.{ltb}
use lib.IntN.{ℤ, pos, nat_abs}
use lib.ListN.{length, set, length-set}
use lib.Seq.{get_or-set_same, get_or-set_other}
use Rattle.integers.specs.Places.{tab, places, at, Within}
use Rattle.integers.proofs.PlaceLaws.{at_places, places-ext, within-places}
use Rattle.integers.proofs.Fills.{Filling, filling-four}
use Rattle.slices.specs.declared.fours.Four.{Four}
use Rattle.slices.specs.Own.Fours.{listed, stored}

pub four-places : (f : ℕ → ℤ) {a b c d : ℤ} → a ≡ f 0 → b ≡ f 1 → c ≡ f 2 → d ≡ f 3 → (a ∷ b ∷ c ∷ d ∷ []) ≡ places 4 f
unfolding tab
four-places f p q r s = ap₂ ◌∷◌ p (ap₂ ◌∷◌ q (ap₂ ◌∷◌ r (ap (λ z. z ∷ []) s)))

-- a fact at each of four places
pub each-four : (P : ℕ → Type 0) → P 0 → P 1 → P 2 → P 3 → (j : ℕ) → j < 4 → P j
each-four P a b c d zero l = a
each-four P a b c d (suc zero) l = b
each-four P a b c d (suc (suc zero)) l = c
each-four P a b c d (suc (suc (suc zero))) l = d
each-four P a b c d (suc (suc (suc (suc j)))) l = absurd (omega arith)

-- a fact at each place below i, and at the next four
pub next-four : (P : ℕ → Type 0) (i : ℕ) → ((j : ℕ) → j < i → P j) → ((r : ℕ) → r < 4 → P (i + r)) → (j : ℕ) → j < i + 4 → P j
next-four P i f g j l = by (ltb j i) refl
  where
    by : (t : Bool) → ltb j i ≡ t → P j
    by true e = f j (ltb-true j i e)
    by false e = let n : i + (j - i) ≡ j = omega (arith, ltb-false j i e) in subst P n (g (j - i) (omega (arith, ltb-false j i e)))

module _ (l : List ℤ) (p : ℕ) (x : Four) where
  abbrev l1 : List ℤ
  l1 = set l p x.a

  abbrev l2 : List ℤ
  l2 = set l1 (p + 1) x.b

  abbrev l3 : List ℤ
  l3 = set l2 (p + 2) x.c

  pub length-stored : length (stored l p x) ≡ length l
  unfolding stored
  length-stored = simp length-set

  pub stored-out : (q : ℕ) → (p ≤ q → p + 4 ≤ q) → at (stored l p x) q ≡ at l q
  unfolding stored
  stored-out q h =
      get_or-set_other l3 (p + 3) q x.d (pos 0) (λ e. omega (arith, h (omega arith)))
      ∙ get_or-set_other l2 (p + 2) q x.c (pos 0) (λ e. omega (arith, h (omega arith)))
      ∙ get_or-set_other l1 (p + 1) q x.b (pos 0) (λ e. omega (arith, h (omega arith)))
      ∙ get_or-set_other l p q x.a (pos 0) (λ e. omega (arith, h (omega arith)))

  pub stored-in : p + 4 ≤ length l → (j : ℕ) → j < 4 → at (stored l p x) (p + j) ≡ at (listed x) j
  unfolding stored
  stored-in h =
      each-four (λ j. at (stored l p x) (p + j) ≡ at (listed x) j)
      (let e : p + 0 ≡ p = omega arith in rw e
      (get_or-set_other l3 (p + 3) p x.d (pos 0) (λ e. omega arith)
      ∙ get_or-set_other l2 (p + 2) p x.c (pos 0) (λ e. omega arith)
      ∙ get_or-set_other l1 (p + 1) p x.b (pos 0) (λ e. omega arith)
      ∙ get_or-set_same l p x.a (pos 0) (omega arith)))
      (get_or-set_other l3 (p + 3) (p + 1) x.d (pos 0) (λ e. omega arith)
      ∙ get_or-set_other l2 (p + 2) (p + 1) x.c (pos 0) (λ e. omega arith)
      ∙ get_or-set_same l1 (p + 1) x.b (pos 0) (simp length-set (omega arith)))
      (get_or-set_other l3 (p + 3) (p + 2) x.d (pos 0) (λ e. omega arith)
      ∙ get_or-set_same l2 (p + 2) x.c (pos 0) (simp length-set (omega arith)))
      (get_or-set_same l3 (p + 3) x.d (pos 0) (simp length-set (omega arith)))

-- four numbers stored that are f 0 .. f 3
pub stored_is : (l : List ℤ) (p : ℕ) (x : Four) (f : ℕ → ℤ) → p + 4 ≤ length l → listed x ≡ places 4 f → (j : ℕ) → j < 4 → at (stored l p x) (p + j) ≡ f j
stored_is l p x f h e j k = stored-in l p x h j k ∙ ap (λ t. at t j) e ∙ at_places 4 f j k

pub listed-within : (x : Four) (f : ℕ → ℤ) (B : ℕ) → listed x ≡ places 4 f → ((j : ℕ) → j < 4 → nat_abs (f j) ≤ B) → Within B (listed x)
listed-within x f B e s = subst (Within B) (sym e) (within-places 4 B f s)

-- the next four of a list that is filled
pub filling-listed : {f : ℕ → ℤ} {d₀ : List ℤ} {i : ℕ} {d : List ℤ} → Filling f d₀ i d → (x : Four) → listed x ≡ places 4 (λ j. f (i + j)) → Filling f d₀ (i + 4) (stored d i x)
unfolding stored tab
filling-listed {f} {i = i} h x e =
    let zero : i + 0 ≡ i = omega arith in
    filling-four h (ap (λ l. at l 0) e ∙ ap f zero) (ap (λ l. at l 1) e) (ap (λ l. at l 2) e) (ap (λ l. at l 3) e)

-- four numbers from place p on, from the last to the first
pub reversed-is : (l : List ℤ) (p : ℕ) (x y : Four) (f : ℕ → ℤ) → listed x ≡ places 4 (λ j. at l (p + j)) → listed y ≡ places 4 (λ j. at (listed x) (3 - j)) → ((j : ℕ) → j < 4 → at l (p + (3 - j)) ≡ f j) → listed y ≡ places 4 f
reversed-is l p x y f e d g = d ∙ places-ext 4 _ _ (λ j k. ap (λ t. at t (3 - j)) e ∙ at_places 4 (λ j. at l (p + j)) (3 - j) (omega arith) ∙ g j k)
