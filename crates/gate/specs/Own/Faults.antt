-- Questions 8 and 9 of a block, and of the blocks of a whole run, as the code asks them: the first fault found.
use Rattle.std.specs.Prelude.{List, ℕ, zero, suc, ◌+◌, ℤ, take, drop, Option, Some, None, Result, Ok, Err, ⊤}
use Rattle.runs.specs.Gate.{first_dead, first_out}
use Rattle.gate.specs.declared.questions.Fault.{Fault}
use Rattle.gate.specs.declared.questions.Fault.TheVariants.{Dead, Beyond}
use Rattle.runs.specs.declared.answer.Refusal.{Refusal}
use Rattle.runs.specs.declared.answer.Refusal.TheVariants.{DeadMark, Range}

-- none, or the first
abbrev pub Checked : Type 0
Checked = Result ⊤ Fault

-- its number and place, as an answer has them, and (0, 0) where there is none
unfoldable pub told_fault : Checked → ℕ × ℕ
told_fault (Err (Dead place)) = (8, place)
told_fault (Err (Beyond place)) = (9, place)
told_fault (Ok x) = (0, 0)

-- the refusal that a fault is
abbrev pub refusal_of : Fault → Refusal
refusal_of (Dead place) = DeadMark place
refusal_of (Beyond place) = Range place

unfoldable pub fault_by : Option ℕ → Option ℕ → Checked
fault_by (Some place) out = Err (Dead place)
fault_by None (Some place) = Err (Beyond place)
fault_by None None = Ok tt

unfoldable pub fault_of : List ℤ → Checked
fault_of block = fault_by (first_dead block 0) (first_out block 0)

-- a block's fault at its place in the run, or what the blocks after it have
unfoldable pub fault_from : ℕ → Checked → Checked → Checked
fault_from before (Err (Dead place)) rest = Err (Dead (before + place))
fault_from before (Err (Beyond place)) rest = Err (Beyond (before + place))
fault_from before (Ok x) rest = rest

-- the first fault of b blocks
unfoldable pub first_fault : ℕ → ℕ → ℕ → List ℤ → Checked
first_fault N before zero readings = Ok tt
first_fault N before (suc b) readings = fault_from before (fault_of (take N readings)) (first_fault N (before + N) b (drop N readings))
