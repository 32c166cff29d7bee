-- The state of a reel keeps its limits.
use Rattle.std.specs.Prelude.{Ok, Err, Option, None, Some}
use mathlib.Core.Path.{◌≡◌, refl}
use mathlib.Core.Logic.{◌⊎◌, inl, inr, ⊎_elim}
use mathlib.Core.Bool.{Bool, true, false, cond}
use mathlib.Core.List.{List}
use Prim.Native.Nat.{ℕ, suc, ◌+◌, ◌-◌, ◌*◌, ◌%◌, ◌≤◌, ◌<◌}
use native.Mathlib.Omega.{arith}
use borrow.Author.Tests.{eqb-true, eqb-false, ltb-true}
use lib.Dec.{eqb, ltb}
use lib.IntN.{ℤ, pos, negsuc}
use lib.ListN.{length}
use Rattle.integers.specs.Vectors.{AllAbs}
use Rattle.tables.specs.Widths.{by_width, half_width}
use Rattle.steps.specs.Limits.{coefficient_limit}
use Rattle.runs.specs.Answers.{first_beyond}
use Rattle.runs.specs.Record.{frame_limit}
use Rattle.runs.proofs.Searches.{none_within, all-within}
use Rattle.text_runs.specs.Decimal.{number_in}
use Rattle.text_runs.specs.Lines.{numbers_in, end_total}
use Rattle.text_runs.proofs.UpToLaws.{tested}
use Rattle.reels.specs.declared.verdict.Refusal.TheVariants.{Width, Full, Length, OtherWidth, RunTooMany}
use Rattle.reels.specs.declared.reel.ReelPhase.{ReelPhase}
use Rattle.reels.specs.declared.reel.ReelPhase.TheVariants.{FirstRun, Frames, NextRun, Whole, Refused}
use Rattle.reels.specs.declared.reel.Reel.{Reel}
use Rattle.reels.specs.Verdicts.{verdict_told}
use Rattle.reels.specs.Reel.{run_limit, reel_begun, to_phase, reel_refused, taken_or, width_asked, run_begun, width_line, range_asked, frame_asked, frame_added, frame_line, run_line_by, run_line, reel_taken, reel_broken, reel_ended}
use Rattle.reels.specs.Limits.{frames_left, WithinLimits, LimitsKept, SumsFit}
use Rattle.reels.proofs.SumLaws.{squares-added, no-sums}

pub frames-few : (s : Reel) → WithinLimits s → s.frames ≤ run_limit * frame_limit
frames-few s w = omega (arith, w.frames, w.runs)

-- ---- what a verdict lets pass
one_not_zero : {n : ℕ} {A : Type 0} → suc n ≡ 0 → A
one_not_zero e = absurd (omega arith)

width-taken : (a b c d : Bool) → (verdict_told (cond a (Err Width) (cond b (Ok tt) (cond c (cond d (Ok tt) (Err RunTooMany)) (Err OtherWidth))))).0 ≡ 0
    → (a ≡ false) × ((b ≡ true) ⊎ ((c ≡ true) × (d ≡ true)))
unfolding verdict_told
width-taken true b c d e = one_not_zero e
width-taken false true c d e = (refl, inl refl)
width-taken false false true true e = (refl, inr (refl, refl))
width-taken false false true false e = one_not_zero e
width-taken false false false d e = one_not_zero e

-- a width, of the first run or the same again
pub first-or-same : (N first runs : ℕ) → (verdict_told (width_asked N first runs)).0 ≡ 0 → (0 < half_width N) × ((runs ≡ 0) ⊎ ((N ≡ first) × (runs < run_limit)))
unfolding width_asked
first-or-same N first runs e =
    let t = width-taken (eqb (half_width N) 0) (eqb runs 0) (eqb N first) (ltb runs run_limit) e in
    let z = eqb-false (half_width N) 0 t.0 in
    (omega (arith, z), ⊎_elim (λ b. inl (eqb-true runs 0 b)) (λ d. inr (eqb-true N first d.0, ltb-true runs run_limit d.1)) t.1)

pub width-passed : (N first runs : ℕ) → (verdict_told (width_asked N first runs)).0 ≡ 0 → (runs < run_limit) × (0 < half_width N)
width-passed N first runs e = let t = first-or-same N first runs e in (⊎_elim (λ z. omega (arith, z)) (λ s. s.1) t.1, t.0)

frame-taken : (a b : Bool) (found : Option ℕ) → (verdict_told (cond a (cond b (range_asked found) (Err Length)) (Err Full))).0 ≡ 0 → (a ≡ true) × (b ≡ true) × (found ≡ None)
unfolding verdict_told range_asked
frame-taken true true (Some place) e = one_not_zero e
frame-taken true true None e = (refl, refl, refl)
frame-taken true false found e = one_not_zero e
frame-taken false b found e = one_not_zero e

pub frame-passed : (N count : ℕ) (frame : List ℤ) → (verdict_told (frame_asked N count frame)).0 ≡ 0
    → (count < frame_limit) × (length frame ≡ N) × AllAbs coefficient_limit frame
unfolding frame_asked
frame-passed N count frame e =
    let t = frame-taken (ltb count frame_limit) (eqb (length frame) N) (first_beyond (pos coefficient_limit) frame 0) e in
    (ltb-true count frame_limit t.0, eqb-true (length frame) N t.1, all-within coefficient_limit frame (none_within coefficient_limit frame t.2))

-- a width is at most 128, in fours
pub width_narrow : (N : ℕ) → 0 < half_width N → (N ≤ 128) × (N % 4 ≡ 0)
unfolding half_width by_width
width_narrow N h = by (eqb N 8) (eqb N 32) (eqb N 128) refl refl refl h
  where
    by : (a b c : Bool) → eqb N 8 ≡ a → eqb N 32 ≡ b → eqb N 128 ≡ c → 0 < cond a 4 (cond b 16 (cond c 64 0)) → (N ≤ 128) × (N % 4 ≡ 0)
    by true b c p q r h = rw (eqb-true N 8 p) (omega arith, refl)
    by false true c p q r h = rw (eqb-true N 32 q) (omega arith, refl)
    by false false true p q r h = rw (eqb-true N 128 r) (omega arith, refl)
    by false false false p q r h = absurd (omega arith)

-- ---- each step
refused-kept : (s : Reel) (told : ℕ × ℕ) → WithinLimits s → WithinLimits (reel_refused s told)
unfolding reel_refused to_phase frames_left
refused-kept s told w = record { runs = w.runs; narrow = w.narrow; fours = w.fours; count = w.count; frames = omega (arith, w.frames); sums = w.sums }

taken-or : (s : Reel) (told : ℕ × ℕ) (next : Reel) → WithinLimits s → (told.0 ≡ 0 → WithinLimits next) → WithinLimits (taken_or s told next)
unfolding taken_or
taken-or s told next w h = ⊎_elim (λ e. rw e (h (eqb-true told.0 0 e))) (λ e. rw e (refused-kept s told w)) (tested (eqb told.0 0))

begun_kept : (s : Reel) (N : ℕ) → WithinLimits s → s.runs < run_limit → 0 < half_width N → WithinLimits (run_begun s N)
unfolding run_begun frames_left
begun_kept s N w h p = let t = width_narrow N p in record {
  runs = omega (arith, h);
  narrow = t.0;
  fours = t.1;
  count = omega arith;
  frames = omega (arith, w.frames);
  sums = w.sums;
}

width-kept : (s : Reel) (field : Option ℤ) → WithinLimits s → WithinLimits (width_line s field)
unfolding width_line
width-kept s (Some (pos N)) w =
    taken-or s _ (run_begun s N) w (λ e. let t = width-passed N s.width s.runs e in begun_kept s N w t.0 t.1)
width-kept s (Some (negsuc n)) w = refused-kept s _ w
width-kept s None w = refused-kept s _ w

added-kept : (s : Reel) (frame : List ℤ) → s.phase ≡ Frames → WithinLimits s → s.count < frame_limit → AllAbs coefficient_limit frame → WithinLimits (frame_added s frame)
unfolding frame_added frames_left
added-kept s frame p w h a =
    let f : s.frames + (frame_limit - s.count) ≤ s.runs * frame_limit = (rw p at w).frames in record {
      runs = w.runs;
      narrow = w.narrow;
      fours = w.fours;
      count = omega (arith, h);
      frames = omega (arith, f, h);
      sums = squares-added s.frames s.sums frame a w.sums;
    }

frame-kept : (s : Reel) (read : Option (List ℤ)) → s.phase ≡ Frames → WithinLimits s → WithinLimits (frame_line s read)
unfolding frame_line
frame-kept s None p w = refused-kept s _ w
frame-kept s (Some frame) p w =
    taken-or s _ (frame_added s frame) w (λ e. let t = frame-passed s.width s.count frame e in added-kept s frame p w t.0 t.2)

-- a phase in which no frame comes
phase-kept : (phase : ReelPhase) (s : Reel) → frames_left phase s.count ≡ 0 → WithinLimits s → WithinLimits (to_phase phase s)
unfolding to_phase
phase-kept phase s e w = record { runs = w.runs; narrow = w.narrow; fours = w.fours; count = w.count; frames = omega (arith, w.frames, e); sums = w.sums }

line_kept : (s : Reel) (bytes : List ℕ) (field : Option ℤ) → s.phase ≡ Frames → WithinLimits s → WithinLimits (run_line_by s bytes field)
unfolding run_line_by frames_left
line_kept s bytes (Some total) p w = taken-or s _ (to_phase NextRun s) w (λ _. phase-kept NextRun s refl w)
line_kept s bytes None p w = frame-kept s (numbers_in bytes) p w

taken-kept : (phase : ReelPhase) (s : Reel) (bytes : List ℕ) → s.phase ≡ phase → WithinLimits s → WithinLimits (reel_taken phase s bytes)
unfolding reel_taken run_line
taken-kept FirstRun s bytes p w = width-kept s (number_in bytes) w
taken-kept Frames s bytes p w = line_kept s bytes (end_total s.count bytes) p w
taken-kept NextRun s bytes p w = width-kept s (number_in bytes) w
taken-kept Whole s bytes p w = w
taken-kept (Refused number line place) s bytes p w = w

broken-kept : (phase : ReelPhase) (s : Reel) → WithinLimits s → WithinLimits (reel_broken phase s)
unfolding reel_broken
broken-kept FirstRun s w = refused-kept s _ w
broken-kept Frames s w = refused-kept s _ w
broken-kept NextRun s w = refused-kept s _ w
broken-kept Whole s w = w
broken-kept (Refused number line place) s w = w

ended-kept : (phase : ReelPhase) (s : Reel) → WithinLimits s → WithinLimits (reel_ended phase s)
unfolding reel_ended frames_left
ended-kept FirstRun s w = refused-kept s _ w
ended-kept Frames s w = refused-kept s _ w
ended-kept NextRun s w = phase-kept Whole s refl w
ended-kept Whole s w = w
ended-kept (Refused number line place) s w = w

begun-within : WithinLimits reel_begun
unfolding reel_begun frames_left
begun-within = record { runs = omega arith; narrow = omega arith; fours = refl; count = omega arith; frames = omega arith; sums = no-sums 0 128 }

pub limits-kept : LimitsKept
limits-kept = record {
  begun = begun-within;
  taken = λ s bytes w. taken-kept s.phase s bytes refl w;
  broken = λ s w. broken-kept s.phase s w;
  ended = λ s w. ended-kept s.phase s w;
}

pub sums-fit : SumsFit
sums-fit frames h = omega (arith, h)
