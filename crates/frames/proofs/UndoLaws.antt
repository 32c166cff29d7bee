-- What questions 9 to 12 decide of a frame, test by test, where a run holds the lower half of the frame before.
use Rattle.std.specs.Prelude.{Ok, Err, Option, Some, None}
use mathlib.Core.Path.{◌≡◌, refl, sym, ap, ◌∙◌}
use mathlib.Core.Bool.{Bool, true, false, cond}
use mathlib.Core.List.{List, [], ◌∷◌}
use Prim.Native.Nat.{ℕ, suc, ◌+◌}
use native.Mathlib.Nat.{add-suc, add-zero}
use borrow.Author.Tests.{eq-eqb, ne_eqb}
use lib.IntN.{ℤ, pos, ◌+ℤ◌}
use lib.ListN.{length, take, drop}
use Rattle.integers.specs.Vectors.{sum_of}
use Rattle.tables.specs.Widths.{half_width}
use Rattle.steps.specs.Limits.{reading_limit}
use Rattle.steps.specs.Steps.{unstages, unfolded}
use Rattle.runs.specs.Answers.{told, first_where, first_beyond}
use Rattle.runs.specs.Answers.{Answer}
use Rattle.runs.specs.declared.answer.Refusal.TheVariants.{Halves, Unfolded}
use Rattle.runs.specs.declared.record.Run.{Run}
use Rattle.runs.specs.Record.{next_count, next_total, readings_given, opened}
use Rattle.runs.specs.Alone.{StagesResult, refused_at, unstages_asked}
use Rattle.runs.specs.Gate.{CallResult, ask_each, first_out}
use Rattle.runs.proofs.RecordLaws.{take-filled}
use Rattle.frames.proofs.UnstagedLaws.{unstaged-range, unstaged-inside}
use Rattle.runs.specs.Back.{framed, block_on, first_upper, first_frame, later_frame, unfolded_in, undone_in}

-- ---- a search whose places count from elsewhere
from : ℕ → Option ℕ → Option ℕ
from m (Some place) = Some (m + place)
from m None = None

first-from : (test : ℤ → Bool) (xs : List ℤ) (m k : ℕ) → first_where test xs (m + k) ≡ from m (first_where test xs k)
unfolding first_where from
first-from test [] m k = refl
first-from test (x ∷ xs) m k = by (test x) (first-from test xs m (suc k))
  where
    by : (b : Bool) → first_where test xs (m + suc k) ≡ from m (first_where test xs (suc k)) → cond b (Some (m + k)) (first_where test xs (suc (m + k))) ≡ from m (cond b (Some k) (first_where test xs (suc k)))
    by true h = refl
    by false h = rw (← add-suc m k) h

-- ---- 11 and 12, where a run holds `low`
module _ (N count : ℕ) (t : ℤ) (low folded out : List ℤ) where
  abbrev run : Run
  run = opened N count t low

  abbrev upper : List ℤ
  upper = drop (half_width N) folded

  upper-at : (f : Option ℕ) → first_beyond (pos 0) upper 0 ≡ f → first_upper run folded ≡ from (half_width N) f
  unfolding first_upper opened
  upper-at f e = ap (first_where _ upper) (sym (add-zero (half_width N))) ∙ first-from _ upper (half_width N) 0 ∙ ap (from (half_width N)) e

  framed_is : (given kept : List ℤ) → kept ≡ take (half_width N) folded → opened N (suc count) (t +ℤ sum_of given) kept ≡ framed run given folded
  unfolding framed opened
  framed_is given kept e = ap (opened N (suc count) (t +ℤ sum_of given)) e

  module _ (z : count ≡ 0) where
    is-first : first_frame run folded out ≡ unfolded_in run folded out
    unfolding unfolded_in opened
    is-first = rw (eq-eqb _ _ z)

    pub upper-refused : (half place : ℕ) → half ≡ half_width N → first_beyond (pos 0) upper 0 ≡ Some place
        → (told (Err (Halves (half + place))), opened N (next_count (told (Err (Halves (half + place)))).0 count) (next_total (told (Err (Halves (half + place)))).0 t (readings_given count out)) low, out) ≡ unfolded_in run folded out
    unfolding told next_count next_total first_frame ask_each from
    upper-refused half place h e = sym (ap (λ f. ask_each 11 f run out ((0, 0), framed run [] folded, out)) (upper-at (Some place) e) ∙ ap (λ n. ((11, n + place), run, out)) (sym h)) ∙ is-first

    pub first_done : (kept : List ℤ) → kept ≡ take (half_width N) folded → first_beyond (pos 0) upper 0 ≡ None
        → (told (Ok tt), opened N (next_count (told (Ok tt)).0 count) (next_total (told (Ok tt)).0 t (readings_given count out)) kept, out) ≡ unfolded_in run folded out
    unfolding told next_count next_total readings_given first_frame ask_each from
    first_done kept k e =
        ap (λ (b : Bool). ((0, 0), opened N (suc count) (t +ℤ sum_of (cond b [] out)) kept, out)) (eq-eqb count 0 z)
        ∙ ap (λ (r : Run). ((0, 0), r, out)) (framed_is [] kept k)
        ∙ sym (ap (λ f. ask_each 11 f run out ((0, 0), framed run [] folded, out)) (upper-at None e)) ∙ is-first

  -- the block between what is held and the frame's upper half
  module _ (n : count ≡ 0 → ⊥) where
    is_later : later_frame run folded out ≡ unfolded_in run folded out
    unfolding unfolded_in opened
    is_later = rw (ne_eqb _ _ n)

    module _ (l : length low ≡ half_width N) {wide : List ℤ} (w : wide ≡ unfolded N low upper) where
      wide_is : wide ≡ block_on run folded
      unfolding block_on opened
      wide_is = w ∙ ap (λ xs. unfolded N xs upper) (sym (take-filled (half_width N) low l))

      wide-seen : (f : Option ℕ) → first_beyond (pos reading_limit) wide 0 ≡ f → first_out (block_on run folded) 0 ≡ f
      wide-seen f e = ap (λ (xs : List ℤ). first_beyond (pos reading_limit) xs 0) (sym wide_is) ∙ e

      pub later-refused : (place : ℕ) → first_beyond (pos reading_limit) wide 0 ≡ Some place
          → (told (Err (Unfolded place)), opened N (next_count (told (Err (Unfolded place))).0 count) (next_total (told (Err (Unfolded place))).0 t (readings_given count out)) low, out) ≡ unfolded_in run folded out
      unfolding told next_count next_total later_frame ask_each
      later-refused place e = sym (ap (λ f. ask_each 12 f run out ((0, 0), framed run (block_on run folded) folded, block_on run folded)) (wide-seen _ e)) ∙ is_later

      pub later-done : (kept block : List ℤ) → kept ≡ take (half_width N) folded → block ≡ wide → first_beyond (pos reading_limit) wide 0 ≡ None
          → (told (Ok tt), opened N (next_count (told (Ok tt)).0 count) (next_total (told (Ok tt)).0 t (readings_given count block)) kept, block) ≡ unfolded_in run folded out
      unfolding told next_count next_total readings_given later_frame ask_each
      later-done kept block k b e =
          ap (λ (c : Bool). ((0, 0), opened N (suc count) (t +ℤ sum_of (cond c [] block)) kept, block)) (ne_eqb count 0 n)
          ∙ ap (λ (w : List ℤ). ((0, 0), opened N (suc count) (t +ℤ sum_of w) kept, w)) (b ∙ wide_is)
          ∙ ap (λ (r : Run). ((0, 0), r, block_on run folded)) (framed_is (block_on run folded) kept k)
          ∙ sym (ap (λ f. ask_each 12 f run out ((0, 0), framed run (block_on run folded) folded, block_on run folded)) (wide-seen _ e))
          ∙ is_later

-- ---- 9 and 10
module _ (made folded out : List ℤ) (run : Run) (next : CallResult) (answer : ℕ × ℕ) where
  refused-alike : (f g : Option ℕ) → ◌≡◌ {A = StagesResult} (answer, folded) (refused_at 9 f folded (refused_at 10 g folded ((0, 0), made)))
      → (answer.0 ≡ 0 → ⊥) → (answer, run, out) ≡ ask_each 9 f run out (ask_each 10 g run out next)
  unfolding refused_at ask_each
  refused-alike (Some place) g e h = ap (λ (x : StagesResult). (x.0, run, out)) e
  refused-alike None (Some place) e h = ap (λ (x : StagesResult). (x.0, run, out)) e
  refused-alike None None e h = absurd (h (ap (λ (x : StagesResult). x.0.0) e))

module _ (N count : ℕ) (t : ℤ) (low frame out folded : List ℤ) (answer : Answer) (e : (told answer, folded) ≡ unstages_asked N frame folded) where
  abbrev asked : Run
  asked = opened N count t low

  pub undo-refused : ((told answer).0 ≡ 0 → ⊥)
      → (told answer, opened N (next_count (told answer).0 count) (next_total (told answer).0 t (readings_given count out)) low, out) ≡ undone_in asked frame out
  unfolding next_count next_total undone_in unstages_asked opened
  undo-refused h =
      ap (λ b. (told answer, opened N (cond b (suc count) count) (cond b (t +ℤ sum_of (readings_given count out)) t) low, out)) (ne_eqb (told answer).0 0 h)
      ∙ refused-alike (unstages N frame) folded out asked (unfolded_in asked (unstages N frame) out) (told answer) _ _ e h

  pub undo-passed : (told answer).0 ≡ 0 → unfolded_in asked (unstages N frame) out ≡ undone_in asked frame out
  unfolding undone_in ask_each opened
  undo-passed z = rw (unstaged-range N frame folded answer e z, unstaged-inside N frame folded answer e z)
