-- Bytes that a text has not.
use Rattle.std.specs.Prelude.{◌≡◌, List, [], ◌∷◌, ℕ}

-- no byte of a list is b
unfoldable pub lacks : ℕ → List ℕ → Type 0
lacks b [] = Unit {0}
lacks b (c ∷ cs) = (c ≡ b → ⊥) × lacks b cs
