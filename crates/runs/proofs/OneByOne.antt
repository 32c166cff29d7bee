-- The calls of a whole run back, one by one: the answer and the output of a call, and those of the calls behind it.
use mathlib.Core.Path.{◌≡◌, refl, ap, ◌∙◌}
use mathlib.Core.Bool.{Bool, true, false, cond}
use mathlib.Core.List.{List, [], ◌++◌}
use Prim.Native.Nat.{ℕ, suc, ◌+◌, ◌-◌, ◌/◌}
use borrow.Author.Tests.{eqb-true, eqb-false, eq-eqb, ne_eqb}
use lib.Dec.{eqb}
use lib.IntN.{ℤ, pos}
use lib.ListN.{length, take, drop, length-replicate}
use lib.Seq.{take_at, drop_at}
use Rattle.tables.specs.Widths.{half_width}
use Rattle.runs.specs.Answers.{placed}
use Rattle.std.specs.Prelude.{Option, Some, None}
use Rattle.runs.specs.declared.record.Run.{Run}
use Rattle.runs.specs.Record.{zeros, opened}
use Rattle.runs.specs.Gate.{CallResult, ask, ask_each, admitted}
use Rattle.runs.specs.Forward.{started}
use Rattle.runs.specs.Back.{first_frame, unfolded_in, undone_in, taken_back, ended_back}
use Rattle.runs.specs.WholeBack.{answer_from, outputs_from, all_outputs, first_answer}

-- ---- one call, and those behind it
module _ {left : ℕ} {given : CallResult} (N b : ℕ) (run : Run) (frames out : List ℤ) (l : left ≡ suc b) (e : taken_back run (take N frames) (take N out) ≡ given) where
  pub answer-here : (before : ℕ) → (given.0.0 ≡ 0 → ⊥) → placed N before given.0 ≡ answer_from N before run left frames out
  unfolding answer_from
  answer-here before n = rw (l, e, ne_eqb _ _ n)

  pub answer-next : (before : ℕ) → given.0.0 ≡ 0 → answer_from N before run left frames out ≡ answer_from N (before + N) given.1 b (drop N frames) (drop N out)
  unfolding answer_from
  answer-next before z = rw (l, e, eq-eqb _ _ z)

  pub outputs-next : outputs_from N run left frames out ≡ given.2 ++ outputs_from N given.1 b (drop N frames) (drop N out)
  unfolding outputs_from
  outputs-next = rw (l, e)

  -- where no call is refused, this one is not
  pub here-taken : (before : ℕ) → (answer_from N before run left frames out).0 ≡ 0 → given.0.0 ≡ 0
  unfolding placed
  here-taken before z = by (eqb given.0.0 0) refl
    where
      by : (t : Bool) → eqb given.0.0 0 ≡ t → given.0.0 ≡ 0
      by true d = eqb-true _ 0 d
      by false d = ap (λ (a : ℕ × ℕ). a.0) (answer-here before (eqb-false _ 0 d)) ∙ z

pub answer-end : (N before left : ℕ) (run : Run) (frames out : List ℤ) → left ≡ 0 → placed N (before - N) (ended_back run).0 ≡ answer_from N before run left frames out
unfolding answer_from
answer-end N before left run frames out e = rw e

-- ---- the first frame leaves its output as it was
module _ (run : Run) (out : List ℤ) (next : CallResult) (e : next.2 ≡ out) where
  ask-kept : (n : ℕ) (answer : Bool) → (ask n answer run out next).2 ≡ out
  unfolding ask
  ask-kept n true = e
  ask-kept n false = refl

  each-kept : (n : ℕ) (found : Option ℕ) → (ask_each n found run out next).2 ≡ out
  unfolding ask_each
  each-kept n (Some place) = refl
  each-kept n None = e

first-kept : (run : Run) (frame out : List ℤ) → run.count ≡ 0 → (taken_back run frame out).2 ≡ out
unfolding taken_back admitted undone_in unfolded_in first_frame
first-kept run frame out z =
    ask-kept run out _ (ask-kept run out _ (ask-kept run out _ (ask-kept run out _ (ask-kept run out _ (each-kept run out _ (each-kept run out _ (rw (eq-eqb _ _ z) (each-kept run out _ refl 11 _)) 10 _) 9 _) 7 _) 6 _) 4 _) 3 _) 2 _

started-count : (N : ℕ) → (started N).1.count ≡ 0
unfolding started opened
started-count N = by (eqb (half_width N) 0)
  where
    by : (b : Bool) → (cond {A = (ℕ × ℕ) × Run} b ((1, 0), opened 0 0 (pos 0) []) ((0, 0), opened N 0 (pos 0) [])).1.count ≡ 0
    by true = refl
    by false = refl

-- ---- from a fresh start, with zeros for the output of the first frame
module _ (N b : ℕ) (frames out : List ℤ) (l : length frames / N ≡ suc b) where
  abbrev first : CallResult
  first = taken_back (started N).1 (take N frames) (zeros N)

  given : taken_back (started N).1 (take N frames) (take N (zeros N ++ out)) ≡ first
  given = rw (take_at (zeros N) out N (length-replicate N (pos 0)))

  pub first-yes : (first_answer N frames out).0 ≡ 0 → first.0.0 ≡ 0
  unfolding first_answer
  first-yes = here-taken N b (started N).1 frames (zeros N ++ out) l given 0

  module _ (after : Run) (r : after ≡ first.1) where
    pub first-behind : first.0.0 ≡ 0 → first_answer N frames out ≡ answer_from N (0 + N) after b (drop N frames) out
    unfolding first_answer
    first-behind z = answer-next N b (started N).1 frames (zeros N ++ out) l given 0 z ∙ rw (r, drop_at (zeros N) out N (length-replicate N (pos 0)))

    pub outputs-behind : drop N (all_outputs N frames out) ≡ outputs_from N after b (drop N frames) out
    unfolding all_outputs
    outputs-behind =
        ap (drop N) (outputs-next N b (started N).1 frames (zeros N ++ out) l given)
        ∙ rw (r, first-kept (started N).1 (take N frames) (zeros N) (started-count N), drop_at (zeros N) out N (length-replicate N (pos 0))) (drop_at (zeros N) _ N (length-replicate N (pos 0)))
