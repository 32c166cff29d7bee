-- Frames that a run back takes, one after the other: the blocks printed are in range and not too many, all frames but the last are the first of
-- those that these blocks make, and where the finish works the last one is too.
use mathlib.Core.Path.{◌≡◌, refl, sym, ap, ap₂, ◌∙◌}
use mathlib.Core.List.{List, [], ◌∷◌, ◌++◌}
use Prim.Native.Nat.{ℕ, suc, ◌+◌, ◌<◌}
use native.Mathlib.Omega.{arith}
use lib.IntN.{ℤ, ◌+ℤ◌, +ℤ_assoc, +ℤ_idr}
use lib.ListN.{length, take}
use Rattle.integers.specs.Vectors.{sum_of, total_of}
use Rattle.tables.specs.Widths.{half_width}
use Rattle.steps.specs.Steps.{held, frame, unfolded}
use Rattle.steps.proofs.Lengths.{width-half}
use Rattle.steps.proofs.Undo.{lower-unfolded, held-unfolded}
use Rattle.steps.proofs.ZeroBlock.{lower-zeros}
use Rattle.runs.specs.declared.record.Run.{Run}
use Rattle.runs.specs.Record.{frame_limit, zeros, opened}
use Rattle.runs.specs.Calls.{block_at}
use Rattle.runs.specs.Back.{taken_back}
use Rattle.runs.proofs.Refusals.{admitted-passed, admitted-few}
use Rattle.runs.proofs.EveryList.{AllBlocks, blocks-none, blocks-one}
use Rattle.runs.proofs.MadeFrames.{frames_after}
use Rattle.runs.proofs.BackLaws.{ReachedBack, low_half, high_half}
use Rattle.runs.proofs.AcceptedLaws.{high-long, halves-frame, LaterAccepted, later-accepted}
use Rattle.text_runs.specs.declared.state.Way.TheVariants.{Back}
use Rattle.text_runs.specs.Way.{lent_output, taken_by}
use Rattle.text_runs.specs.Return.{row_lines}
use Rattle.text_runs.proofs.RunRows.{output-long}
use Rattle.text_runs.proofs.BackRows.{later-shown_row}
use Rattle.text_runs.proofs.AnyLines.{AllTaken, run_behind, shown_for, taken_next, run-next, shown-next}

-- ---- a frame that is taken has the run's width, and there was room for it
module _ (N b : ℕ) (t : ℤ) (low c out : List ℤ) (works : (taken_back (opened N b t low) c out).0.0 ≡ 0) where
  pub frame-few : b < frame_limit
  unfolding taken_back opened
  frame-few = admitted-few frame_limit (opened N b t low) c out _ works

  pub frame-wide : length c ≡ N
  unfolding taken_back opened
  frame-wide = (admitted-passed frame_limit (opened N b t low) c out _ works).long

-- ---- frames behind a frame c, whose upper half the block p has and whose lower half is held
pub record FramesTaken (N k : ℕ) (t : ℤ) (low c p : List ℤ) (rows : List (List ℤ)) : Type 0 where
  pub xs : List (List ℤ)
  pub blocks : AllBlocks N xs
  pub many : length xs ≡ length rows
  pub count : ℕ
  pub counted : count ≡ k + length rows
  pub total : ℤ
  pub total-is : total ≡ t +ℤ total_of xs
  pub last : List ℤ
  pub behind : run_behind Back (opened N (suc k) t low) rows ≡ opened N (suc count) total last
  pub reached : ReachedBack N (suc count) total last
  pub shown-are : shown_for Back (opened N (suc k) t low) rows ≡ row_lines xs
  pub first-are : take (length xs) (c ∷ rows) ≡ take (length xs) (frame N (held N p) (block_at N xs 0) ∷ frames_after N xs)
  pub all_are : last ≡ zeros (half_width N) → c ∷ rows ≡ frame N (held N p) (block_at N xs 0) ∷ frames_after N xs

module _ (N k : ℕ) (t : ℤ) (low c p : List ℤ) (r : ReachedBack N (suc k) t low) (long : length c ≡ N) (high : high_half N c ≡ held N p) (is-low : low_half N c ≡ low) where
  frames-none : FramesTaken N k t low c p []
  unfolding run_behind shown_for row_lines frames_after block_at total_of
  frames-none = record {
    xs = [];
    blocks = blocks-none N;
    many = refl;
    count = k;
    counted = omega arith;
    total = t;
    total-is = sym (+ℤ_idr t);
    last = low;
    behind = refl;
    reached = r;
    shown-are = refl;
    first-are = refl;
    all_are = λ z. ap (λ (d : List ℤ). d ∷ []) (sym (halves-frame N r.wide c p (zeros N) long high (is-low ∙ z ∙ sym (lower-zeros N N))));
  }

  abbrev run : Run
  run = opened N (suc k) t low

  module _ (f : List ℤ) (works : (taken_by Back run f (lent_output run)).0.0 ≡ 0) where
    later : LaterAccepted N k t low f (lent_output run)
    unfolding taken_by
    later =
        later-accepted N k t low r f (lent_output run) (frame-wide N (suc k) t low f (lent_output run) works) (output-long N (suc k) t low r.wide) (frame-few N (suc k) t low f (lent_output run) works)
        works

    abbrev x : List ℤ
    x = unfolded N low (high_half N f)

    frame-given : taken_by Back run f (lent_output run) ≡ ((0, 0), opened N (suc (suc k)) (t +ℤ sum_of x) (low_half N f), x)
    unfolding taken_by
    frame-given = later.given

    held_next : high_half N f ≡ held N x
    held_next = sym (held-unfolded N (width-half N r.wide) low (high_half N f) (high-long N r.wide f))

    same : c ≡ frame N (held N p) x
    same = sym (halves-frame N r.wide c p x long high (is-low ∙ sym (lower-unfolded N (width-half N r.wide) low (high_half N f) r.long)))

    frames-more : (rows : List (List ℤ)) → FramesTaken N (suc k) (t +ℤ sum_of x) (low_half N f) f x rows → FramesTaken N k t low c p (f ∷ rows)
    unfolding row_lines frames_after block_at total_of
    frames-more rows rest = record {
      xs = x ∷ rest.xs;
      blocks = blocks-one N x rest.xs later.readings rest.blocks;
      many = ap suc rest.many;
      count = rest.count;
      counted = omega (arith, rest.counted);
      total = rest.total;
      total-is = rest.total-is ∙ +ℤ_assoc t (sum_of x) (total_of rest.xs);
      last = rest.last;
      behind = run-next Back run f rows _ _ frame-given ∙ rest.behind;
      reached = rest.reached;
      shown-are = shown-next Back run f rows _ _ frame-given ∙ ap₂ (λ (a b : List ℕ). a ++ b) (later-shown_row N k t low x) rest.shown-are;
      first-are = ap₂ (λ (d : List ℤ) (ds : List (List ℤ)). d ∷ ds) same rest.first-are;
      all_are = λ z. ap₂ (λ (d : List ℤ) (ds : List (List ℤ)). d ∷ ds) same (rest.all_are z);
    }

pub frames-taken : (N : ℕ) (rows : List (List ℤ)) (k : ℕ) (t : ℤ) (low c p : List ℤ) → ReachedBack N (suc k) t low → length c ≡ N → high_half N c ≡ held N p → low_half N c ≡ low
    → AllTaken Back (opened N (suc k) t low) rows → FramesTaken N k t low c p rows
unfolding AllTaken taken_by
frames-taken N [] k t low c p r long high is-low all = frames-none N k t low c p r long high is-low
frames-taken N (f ∷ rows) k t low c p r long high is-low all =
    let run = opened N (suc k) t low in
    let x = unfolded N low (high_half N f) in
    let given = frame-given N k t low c p r long high is-low f all.0 in
    frames-more N k t low c p r long high is-low f all.0 rows
    (frames-taken N rows (suc k) (t +ℤ sum_of x) (low_half N f) f x (later N k t low c p r long high is-low f all.0).reached (frame-wide N (suc k) t low f (lent_output run) all.0)
    (held_next N k t low c p r long high is-low f all.0) refl (taken_next Back run f rows _ _ given all))
