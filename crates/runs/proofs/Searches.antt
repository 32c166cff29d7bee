-- A search through a list: it finds nothing where its test says no to every number; what one beyond a limit tells that finds nothing; and where
-- a number that it finds stands.
use mathlib.Core.Path.{◌≡◌, refl, ap, subst}
use mathlib.Core.Bool.{Bool, true, false, cond, false≢true}
use mathlib.Core.List.{List, [], ◌∷◌}
use Prim.Native.Nat.{ℕ, zero, suc, ◌+◌, ◌≤◌}
use native.Mathlib.Omega.{arith}
use borrow.Author.Tests.{le-ltb, ltb-false}
use lib.Dec.{T}
use lib.IntN.{ℤ, pos, nat_abs}
use lib.ListN.{length}
use Rattle.integers.specs.Places.{at, Within}
use Rattle.integers.specs.Vectors.{AllAbs}
use Rattle.integers.proofs.Products.{all_get_d}
use Rattle.runs.specs.Answers.{first_where, beyond, first_beyond}
use Rattle.std.specs.Prelude.{Option, Some, None}
use Rattle.runs.specs.Gate.{nothing, inside}

-- each number of a list has a property
abbrev pub All : (ℤ → Type 0) → List ℤ → Type 0
All P [] = Unit {0}
All P (x ∷ xs) = P x × All P xs

pub none_found : (test : ℤ → Bool) (xs : List ℤ) (k : ℕ) → All (λ x. test x ≡ false) xs → first_where test xs k ≡ None
unfolding first_where
none_found test [] k h = refl
none_found test (x ∷ xs) k h = rw h.0 (none_found test xs (suc k) h.1)

not_beyond : (l : ℕ) (xs : List ℤ) → AllAbs l xs → All (λ x. beyond (pos l) x ≡ false) xs
unfolding beyond
not_beyond l [] h = tt
not_beyond l (x ∷ xs) h = (le-ltb l (nat_abs x) h.0, not_beyond l xs h.1)

pub inside-all : (l : ℕ) (xs : List ℤ) → AllAbs l xs → inside (pos l) xs ≡ true
unfolding inside nothing
inside-all l xs h = ap nothing (none_found (beyond (pos l)) xs 0 (not_beyond l xs h))

-- ---- a search without result
found : Option ℕ → Bool
found (Some i) = true
found None = false

unfound : (b : Bool) (k : ℕ) (f : Option ℕ) → cond b (Some k) f ≡ None → (b ≡ false) × (f ≡ None)
unfolding found
unfound true k f e = absurd (subst T (ap found e) tt)
unfound false k f e = (refl, e)

none-beyond : (l : ℕ) (s : List ℤ) (k : ℕ) → first_beyond (pos l) s k ≡ None → (i : ℕ) → nat_abs (at s i) ≤ l
unfolding first_where beyond
none-beyond l [] k e i = omega arith
none-beyond l (x ∷ s) k e zero = ltb-false l (nat_abs x) (unfound (beyond (pos l) x) k (first_beyond (pos l) s (suc k)) e).0
none-beyond l (x ∷ s) k e (suc i) = none-beyond l s (suc k) (unfound (beyond (pos l) x) k (first_beyond (pos l) s (suc k)) e).1 i

pub none_within : (l : ℕ) (s : List ℤ) → first_beyond (pos l) s 0 ≡ None → Within l s
none_within l s e = record { size = none-beyond l s 0 e }

pub all-within : (B : ℕ) (xs : List ℤ) → Within B xs → AllAbs B xs
all-within B xs h = all_get_d B xs (λ i l. h.size i)

pub nothing_is : (f : Option ℕ) → nothing f ≡ true → f ≡ None
unfolding nothing
nothing_is (Some i) e = absurd (false≢true e)
nothing_is None e = refl

pub all-inside : (l : ℕ) (xs : List ℤ) → nothing (first_beyond (pos l) xs 0) ≡ true → AllAbs l xs
all-inside l xs e = all-within l xs (none_within l xs (nothing_is _ e))

-- ---- where a number is found
unfoldable pub place_found : Option ℕ → ℕ
place_found (Some place) = place
place_found None = 0

pub found-place : (test : ℤ → Bool) (xs : List ℤ) (k : ℕ) → place_found (first_where test xs k) ≤ k + length xs
unfolding first_where place_found
found-place test [] k = omega arith
found-place test (x ∷ xs) k = by (test x) (found-place test xs (suc k))
  where
    by : (b : Bool) → place_found (first_where test xs (suc k)) ≤ suc k + length xs → place_found (cond b (Some k) (first_where test xs (suc k))) ≤ k + suc (length xs)
    by true h = omega arith
    by false h = omega arith

-- a number found beyond a limit stands in its list
pub beyond-at : (limit : ℤ) (xs : List ℤ) (place : ℕ) → first_beyond limit xs 0 ≡ Some place → place ≤ length xs
unfolding place_found
beyond-at limit xs place e = omega (arith, found-place (beyond limit) xs 0, ap place_found e)
