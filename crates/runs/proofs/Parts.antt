-- Lists one behind the other, and a list taken apart into parts of N.
use mathlib.Core.Path.{◌≡◌, refl, sym, ap, ◌∙◌}
use mathlib.Core.List.{List, [], ◌∷◌, ◌++◌}
use Prim.Native.Nat.{ℕ, zero, suc, ◌*◌}
use native.Mathlib.Omega.{arith}
use lib.IntN.{ℤ}
use lib.ListN.{length, take, drop, length-append, length-drop, take-append-drop, drop_of_length-le}
use lib.Seq.{length-take-le, take_at, drop_at}
use Rattle.integers.specs.Vectors.{AllAbs, Rows}
use Rattle.integers.proofs.Products.{all_append}
use Rattle.steps.specs.Limits.{reading_limit}
use Rattle.runs.specs.Calls.{block_at}
use Rattle.runs.specs.Whole.{parts_of, joined}
use Rattle.runs.proofs.RecordLaws.{all_take, all_drop}
use Rattle.runs.proofs.EveryList.{AllBlocks, blocks-none, blocks-one}

pub length-joined : (N : ℕ) (xs : List (List ℤ)) → Rows N xs → length (joined xs) ≡ length xs * N
unfolding joined
length-joined N [] h = omega arith
length-joined N (x ∷ xs) h = omega (arith, length-append x (joined xs), length-joined N xs h.1, h.0)

pub parts-joined : (N : ℕ) (xs : List (List ℤ)) → Rows N xs → parts_of N (length xs) (joined xs) ≡ xs
unfolding joined parts_of
parts-joined N [] h = refl
parts-joined N (x ∷ xs) h = rw (take_at x (joined xs) N h.0, drop_at x (joined xs) N h.0, parts-joined N xs h.1)

pub length-parts : (N b : ℕ) (xs : List ℤ) → length (parts_of N b xs) ≡ b
unfolding parts_of
length-parts N zero xs = refl
length-parts N (suc b) xs = ap suc (length-parts N b (drop N xs))

pub rows-parts : (N b : ℕ) (xs : List ℤ) → length xs ≡ b * N → Rows N (parts_of N b xs)
unfolding parts_of
rows-parts N zero xs l = tt
rows-parts N (suc b) xs l = (length-take-le N xs (omega arith), rows-parts N b (drop N xs) (omega (arith, length-drop N xs)))

pub joined-parts : (N b : ℕ) (xs : List ℤ) → length xs ≡ b * N → joined (parts_of N b xs) ≡ xs
unfolding joined parts_of
joined-parts N zero xs l = sym (drop_of_length-le xs {i = 0} (omega arith))
joined-parts N (suc b) xs l = ap (λ (ys : List ℤ). take N xs ++ ys) (joined-parts N b (drop N xs) (omega (arith, length-drop N xs))) ∙ take-append-drop N xs

-- ---- blocks of readings in range
pub parts-blocks : (N b : ℕ) (xs : List ℤ) → length xs ≡ b * N → AllAbs reading_limit xs → AllBlocks N (parts_of N b xs)
unfolding parts_of
parts-blocks N zero xs l h = blocks-none N
parts-blocks N (suc b) xs l h =
    blocks-one N (take N xs) _ (record { long = length-take-le N xs (omega arith); within = all_take reading_limit N xs h })
    (parts-blocks N b (drop N xs) (omega (arith, length-drop N xs)) (all_drop reading_limit N xs h))

pub blocks-rows : (N : ℕ) (xs : List (List ℤ)) → AllBlocks N xs → Rows N xs
unfolding block_at
blocks-rows N [] hs = tt
blocks-rows N (x ∷ xs) hs = ((hs 0).long, blocks-rows N xs (λ i. hs (suc i)))

pub blocks-within : (N : ℕ) (xs : List (List ℤ)) → AllBlocks N xs → AllAbs reading_limit (joined xs)
unfolding block_at joined
blocks-within N [] hs = tt
blocks-within N (x ∷ xs) hs = all_append reading_limit x (joined xs) (hs 0).within (blocks-within N xs (λ i. hs (suc i)))
