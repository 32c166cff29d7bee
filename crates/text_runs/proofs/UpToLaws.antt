-- The part of a text up to a byte: where it ends.
use mathlib.Core.Path.{◌≡◌, refl, ap, ◌∙◌}
use mathlib.Core.Logic.{◌⊎◌, inl, inr, ⊎_elim}
use mathlib.Core.Bool.{Bool, true, false}
use mathlib.Core.List.{List, [], ◌∷◌}
use Prim.Native.Nat.{ℕ, ◌+◌, ◌-◌, ◌≤◌, ◌<◌}
use native.Mathlib.Numerals.{add-one}
use native.Mathlib.Omega.{arith}
use borrow.Author.Tests.{eq-eqb, ne_eqb}
use lib.Dec.{eqb}
use lib.ListN.{length, get_or, take, drop}
use lib.Seq.{drop-cons, drop-length}
use Rattle.text_runs.specs.Lines.{up_to}

module _ (b : ℕ) (s : List ℕ) (i : ℕ) where
  pub part-ends : i < length s → get_or s i 0 ≡ b → i + length (up_to b (drop i s)) ≡ i
  unfolding up_to
  part-ends h e = rw (drop-cons s i 0 h, eq-eqb (get_or s i 0) b e) (omega arith)

  pub part-goes-on : i < length s → (get_or s i 0 ≡ b → ⊥) → i + length (up_to b (drop i s)) ≡ i + 1 + length (up_to b (drop (i + 1) s))
  unfolding up_to
  part-goes-on h e = rw (drop-cons s i 0 h, ne_eqb (get_or s i 0) b e, add-one i) (omega arith)

  pub part-last : i ≡ length s → i + length (up_to b (drop i s)) ≡ i
  unfolding up_to
  part-last e = rw (e, drop-length) (omega arith)

pub tested : (t : Bool) → (t ≡ true) ⊎ (t ≡ false)
tested true = inl refl
tested false = inr refl

pub part_length : (b : ℕ) (s : List ℕ) → length (up_to b s) ≤ length s
unfolding up_to
part_length b [] = omega arith
part_length b (c ∷ bs) = ⊎_elim (λ e. rw e (omega arith)) (λ e. rw e (omega (arith, part_length b bs))) (tested (eqb c b))

pub part-is : (b : ℕ) (s : List ℕ) → take (length (up_to b s)) s ≡ up_to b s
unfolding up_to
part-is b [] = refl
part-is b (c ∷ bs) = ⊎_elim (λ e. rw e) (λ e. rw e (ap (λ f. c ∷ f) (part-is b bs))) (tested (eqb c b))

-- the part from a place on, as code cuts it
pub part_cut : (b : ℕ) (s : List ℕ) (from end : ℕ) → end ≡ from + length (up_to b (drop from s)) → take (end - from) (drop from s) ≡ up_to b (drop from s)
part_cut b s from end h =
    let e : end - from ≡ length (up_to b (drop from s)) = omega arith in
    ap (λ (n : ℕ). take n (drop from s)) e ∙ part-is b (drop from s)
