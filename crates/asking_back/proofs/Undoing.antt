-- A whole run back whose frames are undone one by one: from one frame to the next, and the finish.
use mathlib.Core.Path.{◌≡◌, refl, sym, ap, ap₂, subst₂, ◌∙◌}
use mathlib.Core.List.{List}
use Prim.Native.Nat.{ℕ, suc, ◌+◌, ◌-◌, ◌≤◌, ◌<◌}
use native.Mathlib.Numerals.{add-one}
use native.Mathlib.Omega.{arith}
use lib.IntN.{ℤ, pos, ◌+ℤ◌}
use lib.ListN.{length, take, drop}
use lib.Seq.{drop-drop}
use Rattle.integers.specs.Places.{Within}
use Rattle.integers.specs.Vectors.{sum_of}
use Rattle.integers.proofs.PlaceLaws.{within_all}
use Rattle.integers.proofs.Sums.{sum-none}
use Rattle.tables.specs.Widths.{half_width}
use Rattle.steps.specs.Limits.{folded_limit}
use Rattle.runs.specs.Answers.{told, first_beyond}
use Rattle.runs.specs.Answers.{Answer}
use Rattle.std.specs.Prelude.{Option, Some, None}
use Rattle.runs.specs.declared.record.Run.{Run}
use Rattle.runs.specs.Record.{frame_limit, next_count, next_total, readings_given, opened}
use Rattle.runs.specs.Gate.{CallResult}
use Rattle.runs.proofs.Refusals.{count-raised, total-raised}
use Rattle.runs.proofs.RecordLaws.{take-filled}
use Rattle.asking_back.specs.Own.Ready.{told_held}
use Rattle.runs.specs.Back.{undone_in, taken_back, first_held, ended_back}
use Rattle.runs.specs.Answers.{placed}
use Rattle.runs.specs.WholeBack.{answer_from}
use Rattle.runs.proofs.AnswerLaws.{undone-alike, taken-place}
use Rattle.runs.proofs.OneByOne.{answer-here, answer-next, answer-end}
use Rattle.gate.proofs.FaultLaws.{block-long}
use Rattle.runs.proofs.BackLaws.{ReachedBack, back-sound, taken-undone}
use Rattle.runs.proofs.AcceptedLaws.{low-long, undone-next}
use Rattle.runs.proofs.EndLaws.{end-held-refused, ended-done}

pub low-within : {N b : ℕ} {t : ℤ} {low : List ℤ} → ReachedBack N b t low → Within folded_limit low
low-within {low} r = within_all folded_limit low r.within

-- the first frame of a run gives no readings
pub first-total : (w : List ℤ) → pos 0 +ℤ sum_of (readings_given 0 w) ≡ pos 0
unfolding readings_given
first-total w = sum-none (pos 0)

opened-same : (N b : ℕ) (t u : ℤ) (xs ys : List ℤ) → length xs ≡ half_width N → length ys ≡ half_width N → opened N b t xs ≡ opened N b u ys → (t ≡ u) × (xs ≡ ys)
unfolding opened
opened-same N b t u xs ys l m e = (
  ap (λ (r : Run). r.total) e,
  sym (take-filled (half_width N) xs l) ∙ ap (λ (r : Run). take (half_width N) r.held) e ∙ take-filled (half_width N) ys m,
)

-- the record behind a frame that is asked, where `w` is its output afterwards
abbrev pub record_then : ℕ → ℕ → ℤ → Answer → List ℤ → List ℤ → Run
record_then N count t answer after w = opened N (next_count (told answer).0 count) (next_total (told answer).0 t (readings_given count w)) after

-- ---- the frame c is undone, with any output
module _ (N count : ℕ) (t : ℤ) (low after c out w : List ℤ) (answer : Answer) (r : ReachedBack N count t low) (h : count < frame_limit) (long : length after ≡ half_width N)
    (e : (told answer, record_then N count t answer after w, w) ≡ undone_in (opened N count t low) c out) where
  abbrev run : Run
  run = opened N count t low

  pub frame-taken : (other : List ℤ) → length c ≡ N → length other ≡ N → taken_back run c other ≡ (told answer, record_then N count t answer after w, (taken_back run c other).2)
  frame-taken other l m =
      let same = taken-undone N count t low r c other l m h in
      sym
      (ap (λ (g : CallResult). (g.0, g.1, (taken_back run c other).2)) e
      ∙ ap (λ (x : List ℤ). ((undone_in run c out).0, (undone_in run c out).1, x)) (ap (λ (g : CallResult). g.2) same)
      ∙ (undone-alike run c out other).same
      ∙ sym same)

  module _ (z : (told answer).0 ≡ 0) where
    abbrev total-after : ℤ
    total-after = t +ℤ sum_of (readings_given count w)

    pub run-after : record_then N count t answer after w ≡ opened N (count + 1) total-after after
    run-after = ap₂ (λ (n : ℕ) (u : ℤ). opened N n u after) (sym (count-raised (told answer).0 count z)) (sym (total-raised (told answer).0 t (readings_given count w) z))

    run-next : record_then N count t answer after w ≡ opened N (suc count) total-after after
    run-next = run-after ∙ ap (λ (n : ℕ). opened N n total-after after) (add-one count)

    pub reached-after : ReachedBack N (count + 1) total-after after
    reached-after =
        let u = undone-next N count t low r c out h (sym (ap (λ (g : CallResult). g.0.0) e) ∙ z) in
        let same = opened-same N (suc count) total-after u.total after _ long (low-long N r.wide c) (sym run-next ∙ ap (λ (g : CallResult). g.1) e ∙ u.record_is) in
        rw (add-one count) (subst₂ (ReachedBack N (suc count)) (sym same.0) (sym same.1) u.reached)

-- ---- between two frames: the answer of the whole run is that of the calls left. Their record has a total; the code has none.
pub record AnswerLeft (whole : ℕ × ℕ) (N place count left : ℕ) (frames out low : List ℤ) : Type 0 where
  pub total : ℤ
  pub reached : ReachedBack N count total low
  pub same : whole ≡ answer_from N place (opened N count total low) left (drop place frames) (drop place out)

pub left-at : {whole : ℕ × ℕ} {N place count left place₂ left₂ : ℕ} {frames out low : List ℤ} → place ≡ place₂ → left ≡ left₂ → AnswerLeft whole N place count left frames out low → AnswerLeft whole N place₂ count left₂ frames out low
left-at {whole} {N} {count = count} {frames = frames} {out} {low} e d g = subst₂ (λ (p l : ℕ). AnswerLeft whole N p count l frames out low) e d g

-- what the answer to the next frame tells of it
pub record FrameAnswer (whole : ℕ × ℕ) (N place count left : ℕ) (frames out after : List ℤ) (answer : Answer) : Type 0 where
  pub small : (told answer).1 ≤ 128
  pub refused : ((told answer).0 ≡ 0 → ⊥) → placed N place (told answer) ≡ whole
  pub passed : (told answer).0 ≡ 0 → AnswerLeft whole N (place + N) (count + 1) (left - 1) frames out after

module _ {whole : ℕ × ℕ} {N place count left : ℕ} {frames out low : List ℤ} (g : AnswerLeft whole N place count left frames out low) where
  abbrev now : Run
  now = opened N count g.total low

  pub next-answer : (after lent w : List ℤ) (answer : Answer) → 0 < left → count < frame_limit → place + N ≤ length frames → place + N ≤ length out → length after ≡ half_width N
      → (told answer, record_then N count g.total answer after w, w) ≡ undone_in now (take N (drop place frames)) lent → FrameAnswer whole N place count left frames out after answer
  next-answer after lent w answer h few i j long e =
      let more : left ≡ suc (left - 1) = omega arith in
      let part = take N (drop place frames) in
      let other = take N (drop place out) in
      let given = frame-taken N count g.total low after part lent w answer g.reached few long e other (block-long place N frames i) (block-long place N out j) in
      record {
        small = omega (arith, ap (λ (x : CallResult). x.0.1) given, taken-place now part other);
        refused = λ n. answer-here N _ now (drop place frames) (drop place out) more given place n ∙ sym g.same;
        passed = λ z. record {
          total = g.total +ℤ sum_of (readings_given count w);
          reached = reached-after N count g.total low after part lent w answer g.reached few long e z;
          same =
              g.same
              ∙ answer-next N _ now (drop place frames) (drop place out) more given place z
              ∙ rw (drop-drop N place frames, drop-drop N place out, run-after N count g.total low after part lent w answer g.reached few long e z);
        };
      }

  -- behind the last frame, question 11 at the finish
  module _ (n : count ≡ 0 → ⊥) where
    held-asked : (f : Option ℕ) → first_beyond (pos 0) low 0 ≡ f → first_held now ≡ f
    unfolding first_held opened
    held-asked f e = ap (λ (xs : List ℤ). first_beyond (pos 0) xs 0) (take-filled (half_width N) low g.reached.long) ∙ e

    end-told : (before : ℕ) → told_held before (first_beyond (pos 0) low 0) ≡ placed N before (ended_back now).0
    unfolding told placed opened told_held
    end-told before = by (first_beyond (pos 0) low 0) refl
      where
        by : (f : Option ℕ) → first_beyond (pos 0) low 0 ≡ f → told_held before f ≡ placed N before (ended_back now).0
        by (Some place) e = ap (λ (x : CallResult). placed N before x.0) (end-held-refused now (back-sound N count g.total low g.reached) refl n place (held-asked (Some place) e))
        by None e = ap (λ (x : CallResult). placed N before x.0) (ended-done now (back-sound N count g.total low g.reached) refl n (held-asked None e))

    pub end-answer : left ≡ 0 → told_held (place - N) (first_beyond (pos 0) low 0) ≡ whole
    end-answer z = end-told (place - N) ∙ answer-end N place left now (drop place frames) (drop place out) z ∙ sym g.same
