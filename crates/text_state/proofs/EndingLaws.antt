-- The ending that a last line tells.
use mathlib.Core.Path.{◌≡◌, refl, sym, ap, ◌∙◌}
use mathlib.Core.Logic.{◌⊎◌, ⊎_elim}
use mathlib.Core.Bool.{true, false}
use mathlib.Core.List.{List, [], ◌∷◌}
use Rattle.std.specs.Prelude.{Some}
use Prim.Native.Nat.{ℕ, ◌≤◌}
use native.Mathlib.Omega.{arith}
use borrow.Author.Tests.{ne_eqb}
use lib.IntN.{ℤ, pos}
use lib.ListN.{length, take, drop, get_or}
use lib.Seq.{get_or-take, length-take-le}
use Rattle.text_runs.specs.Lines.{line_feed, refused_tag, numbers_in, up_to}
use Rattle.text_runs.specs.declared.state.Phase.{Phase}
use Rattle.text_runs.specs.State.{is_going_on}
use Rattle.decimal.proofs.CompareLaws.{pointwise-same}
use Rattle.std.specs.Cmp.Lexicographic.{pointwise}
use lib.Dec.{eqb}
use Rattle.feeding.specs.declared.session.Ending.{Ending}
use Rattle.feeding.specs.declared.session.Ending.TheVariants.{Open, Whole, Refused}
use Rattle.feeding.specs.Ending.{refused_by, last_said, ending_after, ending_line}

pub refused_as : {a b c a' b' c' : ℤ} → a ≡ a' → b ≡ b' → c ≡ c' → Refused a b c ≡ Refused a' b' c'
refused_as p q r = cc

module _ (n : ℕ) (xs : List ℤ) (h : n ≤ length xs) where
  pub by_three : n ≡ 3 → refused_by (Some (take n xs)) ≡ Refused (get_or xs 0 (pos 0)) (get_or xs 1 (pos 0)) (get_or xs 2 (pos 0))
  unfolding refused_by
  by_three e =
      rw (e, length-take-le 3 xs (omega arith), get_or-take 3 xs 0 (pos 0) (omega arith), get_or-take 3 xs 1 (pos 0) (omega arith), get_or-take 3 xs 2 (pos 0) (omega arith))

  pub by-others : (n ≡ 3 → ⊥) → refused_by (Some (take n xs)) ≡ Whole
  unfolding refused_by
  by-others e = rw (length-take-le n xs h, ne_eqb n 3 e)

module _ (bytes : List ℕ) where
  pub said-other : pointwise eqb (take 8 bytes) refused_tag ≡ false → Whole ≡ last_said bytes
  unfolding last_said
  said-other e = rw (sym (pointwise-same (take 8 bytes) refused_tag) ∙ e)

  pub said-refused : pointwise eqb (take 8 bytes) refused_tag ≡ true → refused_by (numbers_in (up_to line_feed (drop 8 bytes))) ≡ last_said bytes
  unfolding last_said
  said-refused e = rw (sym (pointwise-same (take 8 bytes) refused_tag) ∙ e)

pub told_none : (before : Ending) (phase : Phase) (bytes : List ℕ) → length bytes ≡ 0 → ending_after before phase bytes ≡ before
unfolding ending_after
told_none before phase [] e = refl
told_none before phase (b ∷ bs) e = absurd (omega arith)

pub told-on : (before : Ending) (phase : Phase) (bytes : List ℕ) → is_going_on phase ≡ true → ending_after before phase bytes ≡ before
unfolding ending_after
told-on before phase [] e = refl
told-on before phase (b ∷ bs) e = rw e

pub told-last : (before : Ending) (phase : Phase) (bytes : List ℕ) → (length bytes ≡ 0 → ⊥) → is_going_on phase ≡ false → ending_after before phase bytes ≡ last_said bytes
unfolding ending_after
told-last before phase [] h e = absurd (h refl)
told-last before phase (b ∷ bs) h e = rw e

pub line_none : {ending : Ending} → (ending ≡ Open) ⊎ (ending ≡ Whole) → [] ≡ ending_line ending
unfolding ending_line
line_none = ⊎_elim (λ e. sym (ap ending_line e)) (λ e. sym (ap ending_line e))
