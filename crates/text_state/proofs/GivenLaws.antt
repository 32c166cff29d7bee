-- What the code answers, as the definitions give it.
use Rattle.std.specs.Prelude.{Ok, Err}
use mathlib.Core.Path.{◌≡◌, refl, ap, ap₂, ◌∙◌}
use mathlib.Core.Bool.{false}
use mathlib.Core.List.{List, [], ◌∷◌, ◌++◌}
use Prim.Native.Nat.{ℕ}
use lib.Dec.{eqb}
use lib.IntN.{ℤ}
use lib.ListN.{take}
use mir.Syntax.{w64}
use mir.Val.{of_z}
use Rattle.integers.proofs.Sums.{alike_refl, alike-other}
use Rattle.runs.specs.Answers.{Answer, told}
use Rattle.runs.specs.declared.answer.Refusal.{Refusal}
use Rattle.runs.specs.declared.answer.Refusal.TheVariants.{Width, Record, Closed, Full, Empty, InputLength, OutputLength, DeadMark, Range, Folded, Halves, Unfolded}
use Rattle.runs.specs.declared.record.Run.{Run}
use Rattle.text_runs.specs.Lines.{line_feed, refusal}
use Rattle.text_runs.specs.declared.state.State.{State}
use Rattle.text_runs.specs.declared.state.Phase.TheVariants.{Between, Over}
use Rattle.text_runs.specs.State.{LineResult, result_of, in_phase, with_run, line_number, refused}
use Rattle.text_runs.specs.Way.{shown_row, shown_last}
use Rattle.text_runs.specs.Line.{row_given, total_asked, finish_given}

pub given-text : (s t : State) (n : ℕ) (text after : List ℕ) → s ≡ t → take n after ≡ text → result_of (record { state = s; text = after; length = n }) ≡ (t, text)
unfolding result_of
given-text s t n text after p e = ap₂ (λ (u : State) (x : List ℕ). (u, x)) p e

pub refused-by : (s : State) (number line place : ℕ) → line ≡ line_number s.phase s.run
    → (with_run Over s.run s, refusal number line place ++ (line_feed ∷ [])) ≡ refused s (number, place)
unfolding refused in_phase with_run
refused-by s number line place e = ap (λ n. (with_run Over s.run s, refusal number n place ++ (line_feed ∷ []))) e

-- ---- a refusal has a number
pub told-not : (r : Refusal) → eqb (told (Err r)).0 0 ≡ false
unfolding told
told-not Width = refl
told-not Record = refl
told-not Closed = refl
told-not Full = refl
told-not Empty = refl
told-not InputLength = refl
told-not OutputLength = refl
told-not (DeadMark i) = refl
told-not (Range i) = refl
told-not (Folded i) = refl
told-not (Halves i) = refl
told-not (Unfolded i) = refl

module _ (s : State) (run : Run) (out : List ℤ) where
  pub row-refused : {answer : Answer} (r : Refusal) → answer ≡ Err r → refused s (told (Err r)) ≡ row_given s (told answer, run, out)
  unfolding row_given
  row-refused r e = rw (e, told-not r)

  pub row-done : {answer : Answer} → answer ≡ Ok tt → (with_run Between run s, shown_row s.way s.run out) ≡ row_given s (told answer, run, out)
  unfolding row_given told
  row-done e = rw e

  pub finish-refused : {answer : Answer} (stated : ℤ) (r : Refusal) → answer ≡ Err r → refused s (told (Err r)) ≡ finish_given s stated (told answer, run, out)
  unfolding finish_given
  finish-refused stated r e = rw (e, told-not r)

  pub finish-other : {answer : Answer} (stated : ℤ) → answer ≡ Ok tt → (stated ≡ s.run.total → ⊥) → refused s (16, 0) ≡ finish_given s stated (told answer, run, out)
  unfolding finish_given told total_asked
  finish-other stated e n = rw (e, alike-other stated s.run.total n)

  pub finish-done : {answer : Answer} (stated : ℤ) → answer ≡ Ok tt → stated ≡ s.run.total → (with_run Over run s, shown_last s.way s.run out) ≡ finish_given s stated (told answer, run, out)
  unfolding finish_given told total_asked
  finish-done stated e n = rw (e, n, alike_refl s.run.total)

-- the same, as the code has it: what is told by the gate, what is asked behind it, and what is printed
module _ (s : State) (run : Run) (out : List ℤ) (stated : ℤ) {answer : Answer} {given : LineResult} where
  pub gate_refused : {r : Refusal} → answer ≡ Err r → given ≡ refused s (told (Err r)) → given ≡ finish_given s stated (told answer, run, out)
  gate_refused {r} e by = by ∙ finish-refused s run out stated r e

  pub total_refused : answer ≡ Ok tt → (of_z w64 stated ≡ of_z w64 s.run.total → ⊥) → given ≡ refused s (16, 0) → given ≡ finish_given s stated (told answer, run, out)
  total_refused e n by = by ∙ finish-other s run out stated e (λ same. n (ap (of_z w64) same))
