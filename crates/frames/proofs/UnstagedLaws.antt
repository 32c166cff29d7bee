-- What question 9, the stages undone and question 10 have told of a frame.
use mathlib.Core.Path.{◌≡◌, refl, ap}
use mathlib.Core.List.{List}
use Prim.Native.Nat.{ℕ}
use native.Mathlib.Omega.{arith}
use lib.IntN.{ℤ, pos}
use Rattle.steps.specs.Limits.{folded_limit, coefficient_limit}
use Rattle.steps.specs.Steps.{unstages}
use Rattle.runs.specs.Answers.{told, first_beyond}
use Rattle.runs.specs.Answers.{Answer}
use Rattle.std.specs.Prelude.{Option, Some, None}
use Rattle.runs.specs.Alone.{StagesResult, refused_at, unstages_asked}

-- an answer, and what the two searches have found
module _ (made folded : List ℤ) (answer : ℕ × ℕ) where
  abbrev Asked : Option ℕ → Option ℕ → Type 0
  Asked f g = ◌≡◌ {A = StagesResult} (answer, folded) (refused_at 9 f folded (refused_at 10 g folded ((0, 0), made)))

  nothing : (f g : Option ℕ) → Asked f g → answer.0 ≡ 0 → (f ≡ None) × (g ≡ None) × (folded ≡ made)
  unfolding refused_at
  nothing (Some place) g e z = absurd (omega (arith, z, ap (λ (x : StagesResult). x.0.0) e))
  nothing None (Some place) e z = absurd (omega (arith, z, ap (λ (x : StagesResult). x.0.0) e))
  nothing None None e z = (refl, refl, ap (λ (x : StagesResult). x.1) e)

  alone : (f g : Option ℕ) → Asked f g → (answer.0 ≡ 0 → ⊥) → (out : List ℤ) → (answer, out) ≡ refused_at 9 f out (refused_at 10 g out ((0, 0), made))
  unfolding refused_at
  alone (Some place) g e h out = ap (λ (x : StagesResult). (x.0, out)) e
  alone None (Some place) e h out = ap (λ (x : StagesResult). (x.0, out)) e
  alone None None e h out = absurd (h (ap (λ (x : StagesResult). x.0.0) e))

module _ (N : ℕ) (frame folded : List ℤ) (answer : Answer) (e : (told answer, folded) ≡ unstages_asked N frame folded) where
  abbrev coefficient : Option ℕ
  coefficient = first_beyond (pos coefficient_limit) frame 0

  abbrev value : Option ℕ
  value = first_beyond (pos folded_limit) (unstages N frame) 0

  asked : Asked (unstages N frame) folded (told answer) coefficient value
  unfolding unstages_asked
  asked = e

  -- nothing is refused: both searches have found nothing, and the folded values are made
  module _ (z : (told answer).0 ≡ 0) where
    none : (coefficient ≡ None) × (value ≡ None) × (folded ≡ unstages N frame)
    none = nothing (unstages N frame) folded (told answer) coefficient value asked z

    pub unstaged-range : coefficient ≡ None
    unstaged-range = none.0

    pub unstaged-inside : value ≡ None
    unstaged-inside = none.1

    pub unstaged-made : folded ≡ unstages N frame
    unstaged-made = none.2

    pub unstaged-done : (out : List ℤ) → ((0, 0), unstages N frame) ≡ unstages_asked N frame out
    unfolding unstages_asked refused_at
    unstaged-done out = rw (none.0, none.1)

  -- the refusal of one of them is that of the call
  module _ (h : (told answer).0 ≡ 0 → ⊥) where
    pub unstaged-refused : (out : List ℤ) → (told answer, out) ≡ unstages_asked N frame out
    unfolding unstages_asked
    unstaged-refused out = alone (unstages N frame) folded (told answer) coefficient value asked h out
