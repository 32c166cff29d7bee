-- What the code of a call reads off the first questions' answer: a total is lent by its bits, and a refusal changes no record.
use Rattle.std.proofs.Common.{Bool, ◌≡◌, ℕ, ◌+◌, ◌-◌, ◌*◌, ◌/◌, ◌<◌, ◌≤◌, ◌^◌, List, ℤ, length, take, arith, refl, sym, ap, ap₂, ◌∙◌}
use Rattle.std.specs.Prelude.{Ok, Err}
use lib.Signed.{mag}
use mir.Syntax.{w64}
use mir.Val.{to_z, of_z}
use Rattle.integers.proofs.Held.{held-ok}
use Rattle.tables.specs.Widths.{half_width}
use Rattle.tables.proofs.Reading.{half_is}
use Rattle.slices.proofs.Parts.{part-long}
use Rattle.runs.specs.Answers.{Answer, told}
use Rattle.runs.specs.declared.answer.Refusal.{Refusal}
use Rattle.runs.specs.declared.record.Run.{Run}
use Rattle.runs.specs.Record.{frame_limit, record_of, next_count, next_total}
use Rattle.runs.specs.Gate.{CallResult}
use Rattle.runs.specs.Forward.{taken_in}
use Rattle.runs.proofs.Told.{refusal-number, done-number}
use Rattle.runs.proofs.Refusals.{count_kept, total_kept}
use Rattle.gate.specs.declared.questions.Fault.{Fault}
use Rattle.gate.specs.declared.questions.Fault.TheVariants.{Dead, Beyond}
use Rattle.gate.specs.Own.Asked.{StillOpen, Admitted}
use Rattle.gate.specs.Own.Faults.{refusal_of, fault_of}
use Rattle.gate.specs.Own.Ready.{Ready}
use Rattle.gate.proofs.AskedLaws.{admitted-sound}
use Rattle.gate.proofs.FaultLaws.{half_room}
use Rattle.gate.proofs.ReadyLaws.{passed}
use Rattle.gate.proofs.BlockLaws.{dead-refused, range-refused}

-- ---- the total, lent by its bits
module _ {top width count : ℕ} {kept : List ℤ} {finished : Bool} {answer : Answer} (total : ℤ) (h : mag total < 2 ^ 63) where
  pub open-of_bits : StillOpen top (record_of width count kept finished (to_z w64 (of_z w64 total))) answer → StillOpen top (record_of width count kept finished total) answer
  open-of_bits a = rw (held-ok w64 total h).is at a

  pub admitted-of_bits : {given room : ℕ} → Admitted top (record_of width count kept finished (to_z w64 (of_z w64 total))) given room answer → Admitted top (record_of width count kept finished total) given room answer
  admitted-of_bits a = rw (held-ok w64 total h).is at a

-- ---- questions 2 to 7 are passed: the record is ready, and the front half of its held values is lent
module _ {top : ℕ} (m : top ≤ frame_limit) {run : Run} {given room : ℕ} (a : Admitted top run given room (Ok tt)) (l : length run.held ≡ 64) where
  pub admitted-ready : Ready run (run.width / 2)
  admitted-ready =
      let whole = passed top m run _ (admitted-sound a done-number) refl l in
      passed top m run _ (admitted-sound a done-number) (half_is run.width whole.wide) l

  pub admitted-half : run.width / 2 ≤ length run.held
  admitted-half = half_room run.width _ run.held admitted-ready.half_is l

  pub admitted-front : length (take (run.width / 2) run.held) ≡ half_width run.width
  admitted-front = sym (part-long _ run.held admitted-half) ∙ admitted-ready.half_is

-- ---- what a refused call hands back
module _ (run : Run) (out readings : List ℤ) where
  pub kept-record : (r : Refusal) (g : CallResult) → (told (Err r), run, out) ≡ g
      → (told (Err r), record_of run.width (next_count (told (Err r)).0 run.count) run.held run.finished (next_total (told (Err r)).0 run.total readings), out) ≡ g
  kept-record r g e =
      ap₂ (λ (n : ℕ) (t : ℤ). (told (Err r), record_of run.width n run.held run.finished t, out)) (sym (count_kept (told (Err r)).0 run.count (refusal-number r))) (sym (total_kept (told (Err r)).0 run.total readings (refusal-number r)))
      ∙ e

module _ (run : Run) (block out : List ℤ) where
  pub fault-refused : (f : Fault) → fault_of block ≡ Err f → (told (Err (refusal_of f)), run, out) ≡ taken_in run block out
  fault-refused (Dead place) e = dead-refused run block out place e
  fault-refused (Beyond place) e = range-refused run block out place e

-- ---- blocks counted from the first
pub next-place : (i N : ℕ) → i * N + N ≡ (i + 1) * N
next-place i N = omega arith

pub next-left : (i b : ℕ) → b - i - 1 ≡ b - (i + 1)
next-left i b = omega arith

pub left-whole : (i b N n : ℕ) → n ≡ b * N → i ≤ b → i * N + (b - i) * N ≡ n
left-whole i b N n e h = by (b - i) (omega arith)
  where
    by : (d : ℕ) → i + d ≡ b → i * N + d * N ≡ n
    by d s = let t : (i + d) * N ≡ b * N = ap (λ x. x * N) s in omega arith
