-- The stages alone one way or the other: what their questions have told, and questions 1, 6 and 7 before them.
use mathlib.Core.Path.{◌≡◌, refl, sym, ap, subst, ◌∙◌}
use mathlib.Core.Bool.{Bool, true, false, cond}
use mathlib.Core.List.{List}
use Prim.Native.Nat.{ℕ, ◌^◌, ◌/◌, ◌%◌, ◌<◌}
use native.Mathlib.Nat.{div-add-mod', mod_self, div_self}
use native.Mathlib.Omega.{arith}
use borrow.Author.Tests.{eq-eqb, eqb-true}
use lib.Dec.{eqb}
use lib.IntN.{ℤ, pos}
use lib.ListN.{length}
use Rattle.integers.specs.Places.{Within}
use Rattle.integers.proofs.PlaceLaws.{within-up}
use Rattle.tables.specs.Widths.{half_width}
use Rattle.steps.specs.Limits.{folded_limit}
use Rattle.steps.specs.Steps.{stages, unstages}
use Rattle.steps.proofs.Lengths.{width-half, length-stages, length-unstages}
use Rattle.runs.specs.Answers.{told, first_beyond}
use Rattle.runs.specs.Answers.{Answer}
use Rattle.std.specs.Prelude.{Option, Some, None}
use Rattle.runs.specs.Alone.{StagesResult, refused_at, shaped, stages_asked, unstages_asked, stages_alone, unstages_alone}
use Rattle.runs.proofs.RecordLaws.{width-pos}
use Rattle.runs.proofs.Searches.{none_within}
use Rattle.gate.specs.Own.Asked.{whole_parts, in_parts}
use Rattle.gate.proofs.GateLaws.{same_answer}
use Rattle.gate.proofs.AskedLaws.{all_whole, whole-all, parts-refused, parts_whole, parts-most, parts-least}
use Rattle.frames.proofs.FrameLaws.{stages-within}
use Rattle.frames.proofs.UnstagedLaws.{unstaged-inside, unstaged-made, unstaged-done, unstaged-refused}

-- ---- question 10 of folded values
module _ (made work : List ℤ) (answer : ℕ × ℕ) where
  abbrev Asked : Option ℕ → Type 0
  Asked f = ◌≡◌ {A = StagesResult} (answer, work) (refused_at 10 f work ((0, 0), made))

  nothing : (f : Option ℕ) → Asked f → answer.0 ≡ 0 → (f ≡ None) × (work ≡ made)
  unfolding refused_at
  nothing (Some place) e z = absurd (omega (arith, z, ap (λ (x : StagesResult). x.0.0) e))
  nothing None e z = (refl, ap (λ (x : StagesResult). x.1) e)

  something : (f : Option ℕ) → Asked f → (answer.0 ≡ 0 → ⊥) → (out : List ℤ) → (answer, out) ≡ refused_at 10 f out ((0, 0), made)
  unfolding refused_at
  something (Some place) e h out = ap (λ (x : StagesResult). (x.0, out)) e
  something None e h out = absurd (h (ap (λ (x : StagesResult). x.0.0) e))

-- ---- either way
abbrev pub asked_way : Bool → ℕ → List ℤ → List ℤ → StagesResult
asked_way undo N given out = cond undo (unstages_asked N given out) (stages_asked N given out)

pub record Made (undo : Bool) (N : ℕ) (given work : List ℤ) (answer : Answer) : Type 0 where
  pub long : length work ≡ N
  pub within : Within (2 ^ 30) work
  pub given_is : (out : List ℤ) → (told answer, work) ≡ asked_way undo N given out

module _ (N : ℕ) (given work : List ℤ) (answer : Answer) where
  abbrev value : Option ℕ
  value = first_beyond (pos folded_limit) given 0

  staged-made : (told answer, work) ≡ stages_asked N given work → (told answer).0 ≡ 0 → 0 < half_width N → length given ≡ N → Made false N given work answer
  unfolding stages_asked refused_at
  staged-made e z w l =
      let n = nothing (stages N given) work (told answer) value e z in
      record {
        long = ap length n.1 ∙ length-stages N given ∙ width-half N w;
        within = subst (Within (2 ^ 30)) (sym n.1) (stages-within N given l (width-half N w) (none_within folded_limit given n.0));
        given_is = λ out. e ∙ ap (λ (f : Option ℕ). refused_at 10 f work ((0, 0), stages N given)) n.0 ∙ sym (ap (λ (f : Option ℕ). refused_at 10 f out ((0, 0), stages N given)) n.0);
      }

  staged-refused : (told answer, work) ≡ stages_asked N given work → ((told answer).0 ≡ 0 → ⊥) → (out : List ℤ) → (told answer, out) ≡ stages_asked N given out
  unfolding stages_asked
  staged-refused e h out = something (stages N given) work (told answer) value e h out

  pub way-made : (undo : Bool) → (told answer, work) ≡ asked_way undo N given work → (told answer).0 ≡ 0 → 0 < half_width N → length given ≡ N → Made undo N given work answer
  way-made true e z w l =
      let m = unstaged-made N given work answer e z in
      record {
        long = ap length m ∙ length-unstages N given;
        within = subst (Within (2 ^ 30)) (sym m) (within-up (none_within folded_limit _ (unstaged-inside N given work answer e z)) (omega arith));
        given_is = λ out. e ∙ sym (unstaged-done N given work answer e z work) ∙ unstaged-done N given work answer e z out;
      }
  way-made false e z w l = staged-made e z w l

  pub way-refused : (undo : Bool) → (told answer, work) ≡ asked_way undo N given work → ((told answer).0 ≡ 0 → ⊥) → (out : List ℤ) → (told answer, out) ≡ asked_way undo N given out
  way-refused true e h out = unstaged-refused N given work answer e h out
  way-refused false e h out = staged-refused e h out

-- ---- questions 1, 6 and 7 before it
one-part : (N g : ℕ) → 0 < N → whole_parts N g 1 1 ≡ eqb g N
one-part N g p =
    same_answer _ _
    (λ e. let f = whole-all N g 1 1 e in let o : g / N ≡ 1 = omega (arith, f.1, f.2) in eq-eqb g N (sym (div-add-mod' g N) ∙ rw (o, f.0) (omega arith)))
    (λ e. let s = eqb-true g N e in rw s (all_whole N N 1 1 (mod_self N) (omega (arith, div_self p)) (omega (arith, div_self p))))

module _ (N : ℕ) (given out : List ℤ) where
  pub way-shaped : (undo : Bool) → shaped N given out (asked_way undo N given out) ≡ cond undo (unstages_alone N given out) (stages_alone N given out)
  unfolding unstages_alone stages_alone
  way-shaped true = refl
  way-shaped false = refl

  pub shape-refused : (answer : Answer) → told answer ≡ in_parts N (length given) 1 1 → ((told answer).0 ≡ 0 → ⊥) → (next : StagesResult) → (told answer, out) ≡ shaped N given out next
  unfolding shaped
  shape-refused answer a h next = parts-refused N (length given) 1 1 answer a (eqb (length given) N) (λ w. one-part N (length given) (width-pos N (omega (arith, w)))) out _ h

-- the input of a call that passes them is as long as the width
pub one-given : (N g : ℕ) (answer : Answer) → told answer ≡ in_parts N g 1 1 → (told answer).0 ≡ 0 → g ≡ N
one-given N g answer a z =
    let o : g / N ≡ 1 = omega (arith, parts-most N g 1 1 answer a z, parts-least N g 1 1 answer a z) in
    sym (div-add-mod' g N) ∙ rw (o, parts_whole N g 1 1 answer a z) (omega arith)
