-- The fields of a line: where the first ends, and those behind it.
use mathlib.Core.Path.{◌≡◌, refl}
use mathlib.Core.Logic.{⊎_elim}
use mathlib.Core.List.{List, [], ◌∷◌}
use Prim.Native.Nat.{ℕ}
use lib.Dec.{eqb}
use lib.ListN.{length, drop}
use Rattle.text_runs.specs.Lines.{longer, comma, fields, up_to}
use Rattle.text_runs.proofs.UpToLaws.{tested}

-- behind the byte that ends a field
unfoldable pub behind : List ℕ → List (List ℕ)
behind [] = []
behind (b ∷ bs) = fields bs

pub fields_split : (s : List ℕ) → fields s ≡ up_to comma s ∷ behind (drop (length (up_to comma s)) s)
unfolding fields up_to behind longer
fields_split [] = refl
fields_split (b ∷ bs) = ⊎_elim (λ e. rw e) (λ e. rw e (rw (fields_split bs))) (tested (eqb b 44))
