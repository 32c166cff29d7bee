-- Sums of four terms, put together from the sums of a leaf's nine products.
use mathlib.Core.Path.{◌≡◌, sym, ap, ap₂, ◌∙◌}
use Prim.Native.Nat.{ℕ}
use lib.IntN.{ℤ, ◌+ℤ◌, ◌-ℤ◌, ◌*ℤ◌, +ℤ_idl, +ℤ_assoc}
use Rattle.integers.specs.Places.{sum}
use Rattle.integers.proofs.Ring.{+ℤ-swap}
use Rattle.products.proofs.LevelLaws.{first-term, second-term}

shuffled : (a b c d : ℤ) → (a +ℤ b) +ℤ (c +ℤ d) ≡ a +ℤ c +ℤ b +ℤ d
shuffled a b c d = +ℤ-swap a b c d ∙ sym (+ℤ_assoc (a +ℤ c) b d)

pub upper : (p q r s x y z w : ℤ) → ((p -ℤ r) *ℤ x +ℤ (q -ℤ s) *ℤ y) +ℤ (r *ℤ (x +ℤ z) +ℤ s *ℤ (y +ℤ w)) ≡ p *ℤ x +ℤ q *ℤ y +ℤ r *ℤ z +ℤ s *ℤ w
upper p q r s x y z w =
    +ℤ-swap ((p -ℤ r) *ℤ x) ((q -ℤ s) *ℤ y) (r *ℤ (x +ℤ z)) (s *ℤ (y +ℤ w)) ∙ ap₂ ◌+ℤ◌ (first-term p r x z) (first-term q s y w)
    ∙ shuffled (p *ℤ x) (r *ℤ z) (q *ℤ y) (s *ℤ w)

pub lower : (p q r s x y z w : ℤ) → ((r -ℤ p) *ℤ z +ℤ (s -ℤ q) *ℤ w) +ℤ (p *ℤ (x +ℤ z) +ℤ q *ℤ (y +ℤ w)) ≡ p *ℤ x +ℤ q *ℤ y +ℤ r *ℤ z +ℤ s *ℤ w
lower p q r s x y z w =
    +ℤ-swap ((r -ℤ p) *ℤ z) ((s -ℤ q) *ℤ w) (p *ℤ (x +ℤ z)) (q *ℤ (y +ℤ w)) ∙ ap₂ ◌+ℤ◌ (second-term p r x z) (second-term q s y w)
    ∙ shuffled (p *ℤ x) (r *ℤ z) (q *ℤ y) (s *ℤ w)

pub four-terms : (f : ℕ → ℤ) → f 0 +ℤ f 1 +ℤ f 2 +ℤ f 3 ≡ sum 4 f
unfolding sum
four-terms f = ap (λ z. z +ℤ f 1 +ℤ f 2 +ℤ f 3) (sym (+ℤ_idl (f 0)))
