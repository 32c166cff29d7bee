-- What the gate says to the five stages alone, question by question.
use Rattle.std.specs.Prelude.{Ok, Err, Option, Some, None}
use mathlib.Core.Path.{◌≡◌, sym, ap, ◌∙◌}
use mathlib.Core.List.{List}
use Prim.Native.Nat.{ℕ}
use borrow.Author.Tests.{eq-eqb, ne_eqb}
use lib.IntN.{ℤ, pos}
use lib.ListN.{length}
use Rattle.tables.specs.Widths.{half_width}
use Rattle.steps.specs.Limits.{folded_limit, coefficient_limit}
use Rattle.steps.specs.Steps.{stages, unstages}
use Rattle.runs.specs.declared.answer.Refusal.TheVariants.{OutputLength, Range, Folded}
use Rattle.runs.specs.Answers.{told, first_beyond}
use Rattle.runs.specs.Alone.{StagesResult, refused_at, shaped, stages_asked, unstages_asked}

-- ---- what a question about every number decides
refused : (n i : ℕ) (f : Option ℕ) (out : List ℤ) (next : StagesResult) → f ≡ Some i → ((n, i), out) ≡ refused_at n f out next
unfolding refused_at
refused n i f out next e = sym (ap (λ g. refused_at n g out next) e)

passed : (n : ℕ) (f : Option ℕ) (out : List ℤ) (next : StagesResult) → f ≡ None → next ≡ refused_at n f out next
unfolding refused_at
passed n f out next e = sym (ap (λ g. refused_at n g out next) e)

module _ (N : ℕ) (values out : List ℤ) where
  pub stages-refused : (i : ℕ) → first_beyond (pos folded_limit) values 0 ≡ Some i → (told (Err (Folded i)), out) ≡ stages_asked N values out
  unfolding told stages_asked
  stages-refused i e = refused 10 i _ out _ e

  pub stages-done : first_beyond (pos folded_limit) values 0 ≡ None → (told (Ok tt), stages N values) ≡ stages_asked N values out
  unfolding told stages_asked
  stages-done e = passed 10 _ out _ e

  pub unstages-refused : (i : ℕ) → first_beyond (pos coefficient_limit) values 0 ≡ Some i → (told (Err (Range i)), out) ≡ unstages_asked N values out
  unfolding told unstages_asked
  unstages-refused i e = refused 9 i _ out _ e

  module _ (e : first_beyond (pos coefficient_limit) values 0 ≡ None) where
    pub unstaged-refused : (i : ℕ) → first_beyond (pos folded_limit) (unstages N values) 0 ≡ Some i → (told (Err (Folded i)), out) ≡ unstages_asked N values out
    unfolding told unstages_asked
    unstaged-refused i d = refused 10 i _ out _ d ∙ passed 9 _ out _ e

    pub unstages-done : first_beyond (pos folded_limit) (unstages N values) 0 ≡ None → (told (Ok tt), unstages N values) ≡ unstages_asked N values out
    unfolding told unstages_asked
    unstages-done d = passed 10 _ out _ d ∙ passed 9 _ out _ e

-- ---- question 7, where 1 and 6 are passed
module _ (N : ℕ) (given out : List ℤ) (next : StagesResult) (w : half_width N ≡ 0 → ⊥) (g : length given ≡ N) where
  pub output-refused : (length out ≡ N → ⊥) → (told (Err OutputLength), out) ≡ shaped N given out next
  unfolding told shaped
  output-refused e = rw (ne_eqb _ _ w, eq-eqb _ _ g, ne_eqb _ _ e)

  pub shape-passed : length out ≡ N → next ≡ shaped N given out next
  unfolding shaped
  shape-passed e = rw (ne_eqb _ _ w, eq-eqb _ _ g, eq-eqb _ _ e)
