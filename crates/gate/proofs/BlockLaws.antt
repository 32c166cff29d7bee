-- A block's fault, and what questions 8 and 9 say to a block that has it.
use Rattle.std.specs.Prelude.{Ok, Err, Option, Some, None}
use mathlib.Core.Path.{◌≡◌, refl, sym, ap, ◌∙◌}
use mathlib.Core.Bool.{true}
use mathlib.Core.List.{List}
use Prim.Native.Nat.{ℕ}
use lib.IntN.{ℤ, pos}
use Rattle.integers.specs.Places.{Within}
use Rattle.steps.specs.Limits.{reading_limit}
use Rattle.runs.specs.Answers.{told}
use Rattle.runs.specs.declared.answer.Refusal.TheVariants.{DeadMark, Range}
use Rattle.runs.specs.declared.record.Run.{Run}
use Rattle.runs.specs.Record.{advanced}
use Rattle.runs.specs.Gate.{CallResult, ask_each, inside, first_dead, first_out}
use Rattle.runs.specs.Forward.{frame_on, taken_in}
use Rattle.runs.proofs.Searches.{none_within, nothing_is, all-inside}
use Rattle.gate.specs.declared.questions.Fault.TheVariants.{Dead, Beyond}
use Rattle.gate.specs.Own.Faults.{Checked, fault_by, fault_of}
use Rattle.gate.proofs.GateLaws.{none-marked}

-- ---- a block's fault
module _ (block : List ℤ) where
  pub dead-found : (place : ℕ) → first_dead block 0 ≡ Some place → Err (Dead place) ≡ fault_of block
  unfolding fault_of fault_by
  dead-found place e = rw e

  module _ (d : first_dead block 0 ≡ None) where
    pub beyond-found : (place : ℕ) → first_out block 0 ≡ Some place → Err (Beyond place) ≡ fault_of block
    unfolding fault_of fault_by
    beyond-found place e = rw (d, e)

    pub none_found : first_out block 0 ≡ None → Ok tt ≡ fault_of block
    unfolding fault_of fault_by
    none_found e = rw (d, e)

pub range_clear : (block : List ℤ) → inside (pos reading_limit) block ≡ true → Ok tt ≡ fault_of block
unfolding inside
range_clear block e = none_found block (none-marked block (all-inside reading_limit block e)) (nothing_is _ e)

neither-found : (f g : Option ℕ) → fault_by f g ≡ Ok tt → (f ≡ None) × (g ≡ None)
unfolding fault_by
neither-found (Some place) g e = (cc, cc)
neither-found None (Some place) e = (cc, cc)
neither-found None None e = (refl, refl)

pub clear_both : (block : List ℤ) → fault_of block ≡ Ok tt → (first_dead block 0 ≡ None) × (first_out block 0 ≡ None)
unfolding fault_of
clear_both block e = neither-found (first_dead block 0) (first_out block 0) e

pub clear_within : (block : List ℤ) → fault_of block ≡ Ok tt → Within reading_limit block
clear_within block e = none_within reading_limit block (clear_both block e).1

-- ---- questions 8 and 9 to a block
module _ (run : Run) (block out : List ℤ) where
  by_fault : Checked → CallResult
  by_fault (Err (Dead place)) = ((8, place), run, out)
  by_fault (Err (Beyond place)) = ((9, place), run, out)
  by_fault (Ok x) = ((0, 0), advanced run block, frame_on run block)

  by-fault : (f : Checked) → fault_of block ≡ f → by_fault f ≡ taken_in run block out
  unfolding by_fault fault_of fault_by taken_in ask_each
  by-fault f e = ap by_fault (sym e) ∙ by (first_dead block 0) (first_out block 0)
    where
      by : (f g : Option ℕ) → by_fault (fault_by f g) ≡ ask_each 8 f run out (ask_each 9 g run out ((0, 0), advanced run block, frame_on run block))
      by (Some place) g = refl
      by None (Some place) = refl
      by None None = refl

  pub dead-refused : (place : ℕ) → fault_of block ≡ Err (Dead place) → (told (Err (DeadMark place)), run, out) ≡ taken_in run block out
  unfolding told by_fault
  dead-refused place e = by-fault (Err (Dead place)) e

  pub range-refused : (place : ℕ) → fault_of block ≡ Err (Beyond place) → (told (Err (Range place)), run, out) ≡ taken_in run block out
  unfolding told by_fault
  range-refused place e = by-fault (Err (Beyond place)) e

  pub taken-done : fault_of block ≡ Ok tt → (told (Ok tt), advanced run block, frame_on run block) ≡ taken_in run block out
  unfolding told by_fault
  taken-done e = by-fault (Ok tt) e
