-- What the first questions of a call tell its code: what a refusal gives, what follows without one, and what is known then.
use mathlib.Core.Path.{◌≡◌, refl, sym, ap, ap₂, ◌∙◌}
use mathlib.Core.Bool.{Bool, true, false, cond, not, ◌&&◌, and-eq-true_iff}
use mathlib.Core.List.{List, []}
use Prim.Native.Nat.{ℕ, suc, ◌/◌, ◌%◌, ◌≤◌, ◌<◌}
use native.Mathlib.Omega.{arith}
use borrow.Author.Tests.{not-true, eq-eqb, ne_eqb, eqb-true, eqb-false, ltb-true, leb-true, le-leb}
use lib.Dec.{eqb, ltb, leb}
use lib.IntN.{ℤ, pos}
use lib.ListN.{length, length-replicate}
use Rattle.tables.specs.Widths.{half_width}
use Rattle.runs.specs.Answers.{told}
use Rattle.runs.specs.Answers.{Answer}
use Rattle.std.specs.Prelude.{Ok, Err, ⊤}
use Rattle.runs.specs.declared.answer.Refusal.{Refusal}
use Rattle.runs.specs.declared.answer.Refusal.TheVariants.{Width, Record, Closed, Full, Empty, InputLength, OutputLength, DeadMark, Range, Folded, Halves, Unfolded}
use Rattle.runs.specs.declared.record.Run.{Run}
use Rattle.runs.specs.Record.{zeros, record_of, next_count, next_total}
use Rattle.runs.specs.Gate.{CallResult, ask, sound, admitted}
use Rattle.runs.proofs.Refusals.{count_kept, total_kept}
use Rattle.gate.specs.Own.Asked.{answered, StillOpen, Admitted, whole_parts, in_parts}

-- the number of a refusal
pub refusal-number : (e : Refusal) → (told (Err e)).0 ≡ 0 → ⊥
unfolding told
refusal-number Width z = omega arith
refusal-number Record z = omega arith
refusal-number Closed z = omega arith
refusal-number Full z = omega arith
refusal-number Empty z = omega arith
refusal-number InputLength z = omega arith
refusal-number OutputLength z = omega arith
refusal-number (DeadMark i) z = omega arith
refusal-number (Range i) z = omega arith
refusal-number (Folded i) z = omega arith
refusal-number (Halves i) z = omega arith
refusal-number (Unfolded i) z = omega arith

pub done-number : (x : ⊤) → (told (Ok x)).0 ≡ 0
unfolding told
done-number x = refl

-- the number of an answer of which it is known which it is
pub done-is : {answer : Answer} {x : ⊤} → answer ≡ Ok x → (told answer).0 ≡ 0
done-is {answer} {x} e = ap (λ (a : Answer). (told a).0) e ∙ done-number x

pub refusal_is : {answer : Answer} {r : Refusal} → answer ≡ Err r → (told answer).0 ≡ 0 → ⊥
refusal_is {answer} {r} e z = refusal-number r (sym (ap (λ (a : Answer). (told a).0) e) ∙ z)

module _ (answer : Answer) (run : Run) (out : List ℤ) (next : CallResult) where
  pub refused : ((told answer).0 ≡ 0 → ⊥) → (told answer, run, out) ≡ answered answer run out next
  unfolding answered
  refused h = rw (ne_eqb (told answer).0 0 h)

  pub passed : (told answer).0 ≡ 0 → next ≡ answered answer run out next
  unfolding answered
  passed h = rw (eq-eqb (told answer).0 0 h)

-- a question to which the answer is 0 has been answered yes
asked-yes : (n : ℕ) (yes : Bool) (run : Run) (out : List ℤ) (next : CallResult) → (ask (suc n) yes run out next).0.0 ≡ 0 → (yes ≡ true) × (next.0.0 ≡ 0)
unfolding ask
asked-yes n true run out next e = (refl, e)
asked-yes n false run out next e = absurd (omega arith)

abbrev done : Run → List ℤ → CallResult
done run out = ((0, 0), run, out)

-- ---- 2 and 3
module _ {top : ℕ} {run : Run} {answer : Answer} (a : StillOpen top run answer) where
  module _ (z : (told answer).0 ≡ 0) where
    asked-2 : (ask 2 (sound top run) run [] (ask 3 (not run.finished) run [] (done run []))).0.0 ≡ 0
    asked-2 = ap (λ (g : CallResult). g.0.0) (sym (passed answer run [] (done run []) z ∙ a.asked [] (done run [])))

    pub open-sound : sound top run ≡ true
    open-sound = (asked-yes 1 _ run [] _ asked-2).0

    pub open-unfinished : run.finished ≡ false
    open-unfinished = not-true _ (asked-yes 2 _ run [] _ (asked-yes 1 _ run [] _ asked-2).1).0

  -- what they refuse, `admitted` refuses
  pub open-refused : (given room : ℕ) → ((told answer).0 ≡ 0 → ⊥) → Admitted top run given room answer
  unfolding admitted
  open-refused given room h = record { asked = λ xs out next l m. sym (refused answer run out next h) ∙ refused answer run out _ h ∙ a.asked out _ }

-- ---- 2, 3, 4, 6 and 7
module _ {top : ℕ} {run : Run} {given room : ℕ} {answer : Answer} (a : Admitted top run given room answer) (xs out : List ℤ) (next : CallResult) (l : length xs ≡ given) (m : length out ≡ room) where
  pub admitted-refused : (readings : List ℤ) → ((told answer).0 ≡ 0 → ⊥)
      → (told answer, record_of run.width (next_count (told answer).0 run.count) run.held run.finished (next_total (told answer).0 run.total readings), out) ≡ admitted top run xs out next
  admitted-refused readings h =
      ap₂ (λ (n : ℕ) (t : ℤ). (told answer, record_of run.width n run.held run.finished t, out)) (sym (count_kept (told answer).0 run.count h)) (sym (total_kept (told answer).0 run.total readings h))
      ∙ refused answer run out next h
      ∙ a.asked xs out next l m

  pub admitted-passed : (told answer).0 ≡ 0 → next ≡ admitted top run xs out next
  admitted-passed z = passed answer run out next z ∙ a.asked xs out next l m

module _ {top : ℕ} {run : Run} {given room : ℕ} {answer : Answer} (a : Admitted top run given room answer) (z : (told answer).0 ≡ 0) where
  abbrev xs : List ℤ
  xs = zeros given

  abbrev out : List ℤ
  out = zeros room

  asked-2-to-7 : (admitted top run xs out (done run out)).0.0 ≡ 0
  asked-2-to-7 = ap (λ (g : CallResult). g.0.0) (sym (passed answer run out (done run out) z ∙ a.asked xs out (done run out) (length-replicate given (pos 0)) (length-replicate room (pos 0))))

  yes-2 : (sound top run ≡ true) × ((ask 3 (not run.finished) run out (ask 4 (ltb run.count top) run out (ask 6 (eqb (length xs) run.width) run out (ask 7 (eqb (length out) run.width) run out (done run out))))).0.0 ≡ 0)
  unfolding admitted
  yes-2 = asked-yes 1 _ run out _ asked-2-to-7

  yes-3 : (not run.finished ≡ true) × ((ask 4 (ltb run.count top) run out (ask 6 (eqb (length xs) run.width) run out (ask 7 (eqb (length out) run.width) run out (done run out)))).0.0 ≡ 0)
  yes-3 = asked-yes 2 _ run out _ yes-2.1

  yes-4 : (ltb run.count top ≡ true) × ((ask 6 (eqb (length xs) run.width) run out (ask 7 (eqb (length out) run.width) run out (done run out))).0.0 ≡ 0)
  yes-4 = asked-yes 3 _ run out _ yes-3.1

  yes-6 : (eqb (length xs) run.width ≡ true) × ((ask 7 (eqb (length out) run.width) run out (done run out)).0.0 ≡ 0)
  yes-6 = asked-yes 5 _ run out _ yes-4.1

  pub admitted-sound : sound top run ≡ true
  admitted-sound = yes-2.0

  pub admitted-open : run.finished ≡ false
  admitted-open = not-true _ yes-3.0

  pub admitted-below : run.count < top
  admitted-below = ltb-true _ _ yes-4.0

  pub admitted-given : given ≡ run.width
  admitted-given = sym (length-replicate given (pos 0)) ∙ eqb-true _ _ yes-6.0

  pub admitted-room : room ≡ run.width
  admitted-room = sym (length-replicate room (pos 0)) ∙ eqb-true _ _ (asked-yes 6 _ run out _ yes-6.1).0

-- ---- whole parts of the width, from least to most of them
module _ (N given least most : ℕ) where
  pub all_whole : given % N ≡ 0 → given / N ≤ most → least ≤ given / N → whole_parts N given least most ≡ true
  unfolding whole_parts
  all_whole e h k = rw (eq-eqb _ _ e, le-leb _ _ h, le-leb _ _ k)

  pub whole-all : whole_parts N given least most ≡ true → (given % N ≡ 0) × (given / N ≤ most) × (least ≤ given / N)
  unfolding whole_parts
  whole-all e =
      let both = (and-eq-true_iff (eqb (given % N) 0 && leb (given / N) most) (leb least (given / N))).0 e in
      let first = (and-eq-true_iff (eqb (given % N) 0) (leb (given / N) most)).0 both.0 in
      (eqb-true _ _ first.0, leb-true _ _ first.1, leb-true _ _ both.1)

-- ---- 1 and 6, where a definition asks the width and then whether the input is good
module _ (N given least most : ℕ) (answer : Answer) (a : told answer ≡ in_parts N given least most) where
  module _ (good : Bool) (same : (half_width N ≡ 0 → ⊥) → whole_parts N given least most ≡ good) (out : List ℤ) (next : (ℕ × ℕ) × List ℤ) where
    abbrev defined : (ℕ × ℕ) × List ℤ
    defined = cond (eqb (half_width N) 0) ((1, 0), out) (cond good next ((6, 0), out))

    by_shape : (w b : Bool) → eqb (half_width N) 0 ≡ w → whole_parts N given least most ≡ b
        → cond (eqb (in_parts N given least most).0 0) next (in_parts N given least most, out) ≡ defined
    unfolding in_parts
    by_shape true b e d = rw e
    by_shape false true e d = rw (e, d, sym (same (eqb-false _ _ e)) ∙ d)
    by_shape false false e d = rw (e, d, sym (same (eqb-false _ _ e)) ∙ d)

    shape_is : cond (eqb (told answer).0 0) next (told answer, out) ≡ defined
    shape_is = ap (λ (x : ℕ × ℕ). cond (eqb x.0 0) next (x, out)) a ∙ by_shape _ _ refl refl

    pub parts-refused : ((told answer).0 ≡ 0 → ⊥) → (told answer, out) ≡ defined
    parts-refused h = rw (ne_eqb (told answer).0 0 h) at shape_is

    pub parts-passed : (told answer).0 ≡ 0 → next ≡ defined
    parts-passed h = rw (eq-eqb (told answer).0 0 h) at shape_is

  module _ (z : (told answer).0 ≡ 0) where
    known : (w b : Bool) → eqb (half_width N) 0 ≡ w → whole_parts N given least most ≡ b → (in_parts N given least most).0 ≡ 0 → (half_width N ≡ 0 → ⊥) × (b ≡ true)
    unfolding in_parts
    known true b e d h = absurd (let f : ◌≡◌ {A = ℕ} 1 0 = rw e at h in omega arith)
    known false true e d h = (eqb-false _ _ e, refl)
    known false false e d h = absurd (let f : ◌≡◌ {A = ℕ} 6 0 = rw (e, d) at h in omega arith)

    facts : (half_width N ≡ 0 → ⊥) × (whole_parts N given least most ≡ true)
    facts = known _ _ refl refl (sym (ap (λ (x : ℕ × ℕ). x.0) a) ∙ z)

    pub parts-width : half_width N ≡ 0 → ⊥
    parts-width = facts.0

    pub parts_whole : given % N ≡ 0
    parts_whole = (whole-all N given least most facts.1).0

    pub parts-most : given / N ≤ most
    parts-most = (whole-all N given least most facts.1).1

    pub parts-least : least ≤ given / N
    parts-least = (whole-all N given least most facts.1).2
