-- What any line of a reel is: refused, or the width of a run, a frame or the end line, as a reel takes them.
use Rattle.std.specs.Prelude.{Ok, Err, Option, None, Some}
use mathlib.Core.Path.{◌≡◌, refl, sym, ap}
use mathlib.Core.Logic.{◌⊎◌, inl, inr, ⊎_elim}
use mathlib.Core.Bool.{Bool, true, false, cond, ◌&&◌}
use mathlib.Core.List.{List, [], ◌∷◌}
use Prim.Native.Nat.{ℕ, suc, ◌+◌, ◌≤◌, ◌<◌}
use native.Mathlib.Omega.{arith}
use borrow.Author.Tests.{eqb-true, eqb-false, leb-true}
use lib.Dec.{eqb, leb, ltb}
use lib.IntN.{ℤ, pos, negsuc}
use lib.ListN.{length}
use Rattle.integers.specs.Vectors.{AllAbs}
use Rattle.tables.specs.Widths.{half_width}
use Rattle.steps.specs.Limits.{coefficient_limit}
use Rattle.distance.specs.Statement.{IsWidth}
use Rattle.runs.specs.Answers.{first_where, first_beyond}
use Rattle.runs.specs.Record.{frame_limit}
use Rattle.text_runs.specs.Decimal.{decimal, printed, number_in, bits64}
use Rattle.text_runs.specs.Lines.{row, end_line, numbers_in, end_total}
use Rattle.text_runs.specs.Line.{line_limit}
use Rattle.text_runs.specs.Input.{Line}
use Rattle.text_runs.specs.EveryInput.{among}
use Rattle.text_runs.proofs.UpToLaws.{tested}
use Rattle.text_runs.proofs.Inverse.{printed-read, row_read}
use Rattle.text_runs.proofs.EndRead.{end-only}
use Rattle.feeding.specs.Program.{handed}
use Rattle.feeding.specs.Lines.{line_handed}
use Rattle.reels.specs.Verdicts.{Verdict}
use Rattle.reels.specs.declared.verdict.Refusal.TheVariants.{Width, Full, Empty, Length, Range, Form, OtherWidth, RunTooMany}
use Rattle.reels.specs.declared.reel.ReelPhase.TheVariants.{NextRun}
use Rattle.reels.specs.declared.reel.Reel.{Reel}
use Rattle.reels.specs.Verdicts.{verdict_told}
use Rattle.reels.specs.Reel.{run_limit, to_phase, reel_refused, taken_or, width_asked, run_begun, width_line, range_asked, frame_asked, frame_added, frame_line, end_asked, run_line_by, run_line, reel_broken, reel_given}
use Rattle.reels.specs.Program.{reel_cut, reel_program}
use Rattle.reels.proofs.LimitsKept.{first-or-same, frame-passed}

-- ---- refused, with one of the numbers of a reel, and a place in a frame
abbrev pub Numbered : ℕ → Type 0
Numbered number = among number (1 ∷ 4 ∷ 5 ∷ 6 ∷ 9 ∷ 13 ∷ 14 ∷ 15 ∷ []) ≡ true

pub record RefusedTo (s after : Reel) : Type 0 where
  pub told : ℕ × ℕ
  pub numbered : Numbered told.0
  pub placed : s.width ≤ 128 → told.1 < 128
  pub after_is : after ≡ reel_refused s told

-- a line that a verdict takes, or refuses
record TakenTo (v : Verdict) (next after : Reel) : Type 0 where
  taken : (verdict_told v).0 ≡ 0
  after_is : after ≡ next

by-verdict : (s : Reel) (v : Verdict) (next : Reel) → (s.width ≤ 128 → (verdict_told v).1 < 128)
    → TakenTo v next (taken_or s (verdict_told v) next) ⊎ RefusedTo s (taken_or s (verdict_told v) next)
unfolding taken_or verdict_told among
by-verdict s (Ok tt) next p = inl (record { taken = refl; after_is = refl })
by-verdict s (Err Width) next p = inr (record { told = (1, 0); numbered = refl; placed = p; after_is = refl })
by-verdict s (Err Full) next p = inr (record { told = (4, 0); numbered = refl; placed = p; after_is = refl })
by-verdict s (Err Empty) next p = inr (record { told = (5, 0); numbered = refl; placed = p; after_is = refl })
by-verdict s (Err Length) next p = inr (record { told = (6, 0); numbered = refl; placed = p; after_is = refl })
by-verdict s (Err (Range i)) next p = inr (record { told = (9, i); numbered = refl; placed = p; after_is = refl })
by-verdict s (Err Form) next p = inr (record { told = (13, 0); numbered = refl; placed = p; after_is = refl })
by-verdict s (Err OtherWidth) next p = inr (record { told = (14, 0); numbered = refl; placed = p; after_is = refl })
by-verdict s (Err RunTooMany) next p = inr (record { told = (15, 0); numbered = refl; placed = p; after_is = refl })

pub bad-form : (s : Reel) → RefusedTo s (reel_refused s (13, 0))
unfolding among
bad-form s = record { told = (13, 0); numbered = refl; placed = λ _. omega arith; after_is = refl }

-- ---- whole and not too long, or refused
pub record WholeLine (line : Line) : Type 0 where
  pub bytes : List ℕ
  pub is : line ≡ (true, bytes)
  pub short : length bytes ≤ line_limit

module _ (s : Reel) (cut : reel_broken s.phase s ≡ reel_refused s (13, 0)) where
  abbrev CutOff : Line → Type 0
  CutOff line = line_handed reel_program s line ≡ reel_given s (reel_refused s (13, 0))

  not-whole : (whole : Bool) (bytes : List ℕ) → (whole && leb (length bytes) line_limit) ≡ false → CutOff (whole, bytes)
  unfolding line_handed handed reel_cut
  not-whole whole bytes e = rw e (ap (reel_given s) cut)

  parts_whole : (whole : Bool) (bytes : List ℕ) → WholeLine (whole, bytes) ⊎ CutOff (whole, bytes)
  parts_whole true bytes =
      ⊎_elim (λ e. inl (record { bytes = bytes; is = refl; short = leb-true (length bytes) line_limit e })) (λ e. inr (not-whole true bytes e))
      (tested (leb (length bytes) line_limit))
  parts_whole false bytes = inr (not-whole false bytes refl)

  pub line-whole : (line : Line) → WholeLine line ⊎ CutOff line
  line-whole line = parts_whole line.0 line.1

-- ---- a width
pub record WidthIs (s : Reel) (bytes : List ℕ) (after : Reel) : Type 0 where
  pub width : ℕ
  pub wide : IsWidth width
  pub next : (s.runs ≡ 0) ⊎ ((width ≡ s.width) × (s.runs < run_limit))
  pub bytes-are : bytes ≡ decimal width
  pub after_is : after ≡ run_begun s width

width-placed : (N first runs : ℕ) → (verdict_told (width_asked N first runs)).1 < 128
unfolding width_asked verdict_told
width-placed N first runs = by (eqb (half_width N) 0) (eqb runs 0) (eqb N first) (ltb runs run_limit)
  where
    by : (w r n l : Bool) → (verdict_told (cond w (Err Width) (cond r (Ok tt) (cond n (cond l (Ok tt) (Err RunTooMany)) (Err OtherWidth))))).1 < 128
    by true r n l = omega arith
    by false true n l = omega arith
    by false false true true = omega arith
    by false false true false = omega arith
    by false false false l = omega arith

pub width_is : (s : Reel) (bytes : List ℕ) → WidthIs s bytes (width_line s (number_in bytes)) ⊎ RefusedTo s (width_line s (number_in bytes))
unfolding width_line printed verdict_told among
width_is s bytes = by (number_in bytes) refl
  where
    by : (f : Option ℤ) → number_in bytes ≡ f → WidthIs s bytes (width_line s f) ⊎ RefusedTo s (width_line s f)
    by (Some (pos N)) e =
        ⊎_elim
        (λ t. let p = first-or-same N s.width s.runs t.taken in
        inl (record { width = N; wide = p.0; next = p.1; bytes-are = sym (printed-read bytes (pos N) e); after_is = t.after_is }))
        inr
        (by-verdict s (width_asked N s.width s.runs) (run_begun s N) (λ _. width-placed N s.width s.runs))
    by (Some (negsuc n)) e = inr (record { told = (1, 0); numbered = refl; placed = λ _. omega arith; after_is = refl })
    by None e = inr (bad-form s)

-- ---- a frame
pub record FrameIs (s : Reel) (bytes : List ℕ) (after : Reel) : Type 0 where
  pub frame : List ℤ
  pub below : s.count < frame_limit
  pub long : length frame ≡ s.width
  pub within : AllAbs coefficient_limit frame
  pub bytes-are : bytes ≡ row frame
  pub after_is : after ≡ frame_added s frame

-- a number beyond its limit stands in its frame
range-placed : (test : ℤ → Bool) (frame : List ℤ) (k : ℕ) → k + length frame ≤ 128 → (verdict_told (range_asked (first_where test frame k))).1 < 128
unfolding first_where range_asked verdict_told
range-placed test [] k h = omega arith
range-placed test (x ∷ frame) k h = ⊎_elim (λ e. rw e (omega arith)) (λ e. rw e (range-placed test frame (suc k) (omega arith))) (tested (test x))

frame-placed : (N count : ℕ) (frame : List ℤ) → N ≤ 128 → (verdict_told (frame_asked N count frame)).1 < 128
unfolding frame_asked verdict_told
frame-placed N count frame h = by (ltb count frame_limit) (eqb (length frame) N) refl
  where
    by : (l n : Bool) → eqb (length frame) N ≡ n → (verdict_told (cond l (cond n (range_asked (first_beyond (pos coefficient_limit) frame 0)) (Err Length)) (Err Full))).1 < 128
    by true true q = range-placed _ frame 0 (omega (arith, eqb-true (length frame) N q))
    by true false q = omega arith
    by false n q = omega arith

frame_is : (s : Reel) (bytes : List ℕ) → FrameIs s bytes (frame_line s (numbers_in bytes)) ⊎ RefusedTo s (frame_line s (numbers_in bytes))
unfolding frame_line verdict_told
frame_is s bytes = by (numbers_in bytes) refl
  where
    by : (o : Option (List ℤ)) → numbers_in bytes ≡ o → FrameIs s bytes (frame_line s o) ⊎ RefusedTo s (frame_line s o)
    by None e = inr (bad-form s)
    by (Some frame) e =
        ⊎_elim
        (λ t. let p = frame-passed s.width s.count frame t.taken in
        inl (record { frame = frame; below = p.0; long = p.1; within = p.2; bytes-are = sym (row_read bytes frame e); after_is = t.after_is }))
        inr
        (by-verdict s (frame_asked s.width s.count frame) (frame_added s frame) (frame-placed s.width s.count frame))

-- ---- the end line
pub record EndIs (s : Reel) (bytes : List ℕ) (after : Reel) : Type 0 where
  pub some : 1 ≤ s.count
  pub total : ℤ
  pub bits : bits64 total
  pub bytes-are : bytes ≡ end_line s.count total
  pub after_is : after ≡ to_phase NextRun s

end-passed : (count : ℕ) → (verdict_told (end_asked count)).0 ≡ 0 → 1 ≤ count
unfolding end_asked verdict_told
end-passed count e = by (eqb count 0) refl e
  where
    by : (z : Bool) → eqb count 0 ≡ z → (verdict_told (cond z (Err Empty) (Ok tt))).0 ≡ 0 → 1 ≤ count
    by true p e = absurd (omega arith)
    by false p e = omega (arith, eqb-false count 0 p)

end-placed : (count : ℕ) → (verdict_told (end_asked count)).1 < 128
unfolding end_asked verdict_told
end-placed count = ⊎_elim (λ e. rw e (omega arith)) (λ e. rw e (omega arith)) (tested (eqb count 0))

pub run-line-is : (s : Reel) (bytes : List ℕ) → EndIs s bytes (run_line s bytes) ⊎ FrameIs s bytes (run_line s bytes) ⊎ RefusedTo s (run_line s bytes)
unfolding run_line run_line_by
run-line-is s bytes = by (end_total s.count bytes) refl
  where
    by : (f : Option ℤ) → end_total s.count bytes ≡ f → EndIs s bytes (run_line_by s bytes f) ⊎ FrameIs s bytes (run_line_by s bytes f) ⊎ RefusedTo s (run_line_by s bytes f)
    by (Some total) e =
        let only = end-only s.count total bytes e in
        ⊎_elim
        (λ t. inl (record { some = end-passed s.count t.taken; total = total; bits = only.1; bytes-are = only.0; after_is = t.after_is }))
        (λ r. inr (inr r))
        (by-verdict s (end_asked s.count) (to_phase NextRun s) (λ _. end-placed s.count))
    by None e = inr (frame_is s bytes)
