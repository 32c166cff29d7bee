-- The frames that a run back takes from a fresh start: the blocks printed, and which frames they make.
use mathlib.Core.Path.{◌≡◌, refl, sym, ap, ap₂, subst, ◌∙◌}
use mathlib.Core.List.{List, [], ◌∷◌, ◌++◌}
use Prim.Native.Nat.{ℕ, suc, ◌-◌, ◌≤◌}
use native.Mathlib.Omega.{arith}
use lib.IntN.{ℤ, pos, +ℤ_idl}
use lib.ListN.{length, take}
use Rattle.integers.specs.Vectors.{total_of}
use Rattle.tables.specs.Widths.{half_width}
use Rattle.steps.proofs.ZeroBlock.{held-zeros}
use Rattle.distance.specs.Statement.{IsWidth}
use Rattle.runs.specs.declared.record.Run.{Run}
use Rattle.runs.specs.Answers.{told}
use Rattle.runs.specs.Record.{block_limit, zeros, opened}
use Rattle.runs.specs.Gate.{CallResult}
use Rattle.runs.specs.Forward.{started}
use Rattle.runs.specs.Back.{ended_back}
use Rattle.runs.proofs.EndLaws.{end-empty-refused}
use Rattle.runs.proofs.EveryList.{AllBlocks, blocks-none}
use Rattle.runs.proofs.MadeFrames.{all_frames}
use Rattle.runs.proofs.BackLaws.{started-back, ReachedBack, back-first, back-sound, low_half}
use Rattle.runs.proofs.AcceptedLaws.{FirstAccepted, first-accepted, ended-accepted}
use Rattle.text_runs.specs.declared.state.Way.TheVariants.{Back}
use Rattle.text_runs.specs.Way.{lent_output, taken_by}
use Rattle.text_runs.specs.Return.{row_lines}
use Rattle.text_runs.proofs.RunRows.{output-long}
use Rattle.text_runs.proofs.BackRows.{first-shown_row}
use Rattle.text_runs.proofs.AnyLines.{AllTaken, run_behind, shown_for, taken_next, run-next, shown-next}
use Rattle.text_runs.proofs.FramesTaken.{frame-wide, frames-taken}

pub record FramesRead (N : ℕ) (run : Run) (rows : List (List ℤ)) : Type 0 where
  pub xs : List (List ℤ)
  pub blocks : AllBlocks N xs
  pub few : length xs ≤ block_limit
  pub many : length xs ≡ length rows - 1
  pub count : ℕ
  pub counted : count ≡ length rows
  pub total : ℤ
  pub total-is : total ≡ total_of xs
  pub last : List ℤ
  pub behind : run_behind Back run rows ≡ opened N count total last
  pub reached : ReachedBack N count total last
  pub shown-are : shown_for Back run rows ≡ row_lines xs
  pub first-are : take (length xs) rows ≡ take (length xs) (all_frames N xs)
  pub all_are : (ended_back (run_behind Back run rows)).0.0 ≡ 0 → rows ≡ all_frames N xs

module _ (N : ℕ) (w : IsWidth N) where
  abbrev run : Run
  run = opened N 0 (pos 0) (zeros (half_width N))

  -- without a frame no finish works
  none-ended : (ended_back run).0.0 ≡ 0 → ⊥
  unfolding opened told
  none-ended e = omega (arith, ap (λ (g : CallResult). g.0.0) (end-empty-refused run (back-sound N 0 (pos 0) (zeros (half_width N)) (back-first N w)) refl refl), e)

  no-frame : FramesRead N run []
  unfolding run_behind shown_for row_lines total_of
  no-frame = record {
    xs = [];
    blocks = blocks-none N;
    few = omega arith;
    many = refl;
    count = 0;
    counted = refl;
    total = pos 0;
    total-is = refl;
    last = zeros (half_width N);
    behind = refl;
    reached = back-first N w;
    shown-are = refl;
    first-are = refl;
    all_are = λ e. absurd (none-ended e);
  }

  module _ (c : List ℤ) (works : (taken_by Back run c (lent_output run)).0.0 ≡ 0) where
    wide : length c ≡ N
    unfolding taken_by
    wide = frame-wide N 0 (pos 0) (zeros (half_width N)) c (lent_output run) works

    first : FirstAccepted N c (lent_output run)
    unfolding taken_by
    first = first-accepted N w c (lent_output run) wide (output-long N 0 (pos 0) (zeros (half_width N)) w) works

    first-given : taken_by Back run c (lent_output run) ≡ ((0, 0), opened N 1 (pos 0) (low_half N c), lent_output run)
    unfolding taken_by
    first-given = first.given

    some-frames : (rows : List (List ℤ)) → AllTaken Back (opened N 1 (pos 0) (low_half N c)) rows → FramesRead N run (c ∷ rows)
    some-frames rows t =
        let f = frames-taken N rows 0 (pos 0) (low_half N c) c (zeros N) first.reached wide (first.upper ∙ sym (held-zeros N N)) refl t in
        let behind = run-next Back run c rows _ _ first-given ∙ f.behind in
        record {
          xs = f.xs;
          blocks = f.blocks;
          few = omega (arith, f.many, f.counted, f.reached.counted);
          many = omega (arith, f.many);
          count = suc f.count;
          counted = omega (arith, f.counted);
          total = f.total;
          total-is = f.total-is ∙ +ℤ_idl (total_of f.xs);
          last = f.last;
          behind = behind;
          reached = f.reached;
          shown-are = shown-next Back run c rows _ _ first-given ∙ ap₂ (λ (a b : List ℕ). a ++ b) (first-shown_row N (pos 0) (zeros (half_width N)) (lent_output run)) f.shown-are;
          first-are = f.first-are;
          all_are = λ e. f.all_are (ended-accepted N f.count f.total f.last f.reached (subst (λ (r : Run). (ended_back r).0.0 ≡ 0) behind e));
        }

  frames-of : (rows : List (List ℤ)) → AllTaken Back run rows → FramesRead N run rows
  unfolding AllTaken
  frames-of [] t = no-frame
  frames-of (c ∷ rows) t = some-frames c t.0 rows (taken_next Back run c rows _ _ (first-given c t.0) t)

  pub frames-read : (rows : List (List ℤ)) → AllTaken Back (started N).1 rows → FramesRead N (started N).1 rows
  frames-read rows = rw (started-back N w) (frames-of rows)
