-- Four numbers as a list, and stored in a list.
use Rattle.std.specs.Prelude.{List, [], ◌∷◌, ℕ, ◌+◌, ℤ, set}
use Rattle.slices.specs.declared.fours.Four.{Four}

abbrev pub listed : Four → List ℤ
listed x = x.a ∷ x.b ∷ x.c ∷ x.d ∷ []

-- the four from place p on
unfoldable pub stored : List ℤ → ℕ → Four → List ℤ
stored l p x = set (set (set (set l p x.a) (p + 1) x.b) (p + 2) x.c) (p + 3) x.d
