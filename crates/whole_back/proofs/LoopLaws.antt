-- A whole run back as the code counts it: frames that are whole, and the calls left behind the first frame.
use mathlib.Core.Path.{◌≡◌, sym, ap, ap₂, ◌∙◌}
use mathlib.Core.Bool.{true, ◌&&◌, and-eq-true_iff}
use mathlib.Core.List.{List}
use Prim.Native.Nat.{ℕ, suc, ◌+◌, ◌*◌, ◌/◌, ◌%◌, ◌<◌}
use native.Mathlib.Nat.{mul-le-mul_right, add-div_right}
use native.Mathlib.Numerals.{add-one}
use native.Mathlib.Omega.{arith}
use borrow.Author.Tests.{lt-ltb, le-leb, eq-eqb, eqb-true, leb-true, ltb-true}
use lib.Dec.{eqb, ltb, leb}
use lib.IntN.{ℤ}
use lib.ListN.{length, take, drop, length-drop}
use Rattle.runs.specs.Answers.{told}
use Rattle.runs.specs.Answers.{Answer}
use Rattle.runs.specs.declared.record.Run.{Run}
use Rattle.runs.specs.Record.{frame_limit, zeros}
use Rattle.runs.specs.Forward.{started}
use Rattle.gate.specs.Own.Asked.{whole_parts, in_parts}
use Rattle.gate.specs.Own.Ready.{WholeBlocks}
use Rattle.gate.proofs.GateLaws.{same_answer}
use Rattle.gate.proofs.AskedLaws as Asked
use Rattle.gate.proofs.AskedLaws.{all_whole, whole-all}
use Rattle.runs.proofs.RecordLaws.{width-pos}
use Rattle.runs.proofs.WholeLaws.{whole-blocks, some-blocks}
use Rattle.runs.proofs.OneByOne.{first-behind, outputs-behind}
use Rattle.runs.specs.Back.{taken_back}
use Rattle.runs.specs.WholeBack.{answer_from, outputs_from, all_outputs, first_answer, whole_back}
use Rattle.asking_back.specs.Own.Ready.{WholeFrames}

-- ---- questions 1 and 6: at least one part of the width is at least one number
one-part : (N : ℕ) (frames : List ℤ) → 0 < N → whole_parts N (length frames) 1 frame_limit ≡ (eqb (length frames % N) 0 && leb (length frames / N) frame_limit && ltb 0 (length frames))
one-part N frames p = same_answer _ _ there back
  where
    there : whole_parts N (length frames) 1 frame_limit ≡ true → (eqb (length frames % N) 0 && leb (length frames / N) frame_limit && ltb 0 (length frames)) ≡ true
    there e =
        let f = whole-all N (length frames) 1 frame_limit e in
        let some : 0 < length frames = omega (arith, whole-blocks N frames f.0, mul-le-mul_right N f.2) in
        rw (eq-eqb _ _ f.0, le-leb _ _ f.1, lt-ltb 0 (length frames) some)

    back : (eqb (length frames % N) 0 && leb (length frames / N) frame_limit && ltb 0 (length frames)) ≡ true → whole_parts N (length frames) 1 frame_limit ≡ true
    back e =
        let both = (and-eq-true_iff (eqb (length frames % N) 0 && leb (length frames / N) frame_limit) (ltb 0 (length frames))).0 e in
        let first = (and-eq-true_iff (eqb (length frames % N) 0) (leb (length frames / N) frame_limit)).0 both.0 in
        let r = eqb-true _ _ first.0 in
        all_whole N (length frames) 1 frame_limit r (leb-true _ _ first.1) (some-blocks N frames (whole-blocks N frames r) (ltb-true _ _ both.1))

pub parts-refused : (N : ℕ) (frames out : List ℤ) (answer : Answer) → told answer ≡ in_parts N (length frames) 1 frame_limit → ((told answer).0 ≡ 0 → ⊥) → (told answer, out) ≡ whole_back N frames out
unfolding whole_back
parts-refused N frames out answer a h = Asked.parts-refused N (length frames) 1 frame_limit answer a _ (λ w. one-part N frames (width-pos N (omega (arith, w)))) out _ h

-- readings are one block less
module _ (N : ℕ) (frames out : List ℤ) (f : WholeFrames N frames) (r : length out + N ≡ length frames) where
  pub one-block-less : length frames / N ≡ suc (length out / N)
  one-block-less = ap (λ (n : ℕ). n / N) (sym r) ∙ add-div_right (length out) (width-pos N f.wide) ∙ add-one (length out / N)

  readings-whole : length out / N * N ≡ length out
  readings-whole = let e = rw one-block-less at f.whole in omega (arith, e, r)

  rest-long : length (drop N frames) ≡ length out
  rest-long = omega (arith, length-drop N frames, r)

  rest-count : length (drop N frames) / N ≡ length out / N
  rest-count = ap (λ (n : ℕ). n / N) rest-long

  -- the frames behind the first one
  pub rest-blocks : WholeBlocks N (drop N frames)
  rest-blocks = record {
    wide = f.wide;
    whole = rest-long ∙ sym readings-whole ∙ ap (λ (n : ℕ). n * N) (sym rest-count);
    some = omega (arith, rest-count, one-block-less, f.few);
  }

-- ---- with readings that are one block less, the frames behind the first as the code counts them
module _ (N : ℕ) (frames out : List ℤ) (f : WholeFrames N frames) (r : length out + N ≡ length frames) (after : Run) (e : after ≡ (taken_back (started N).1 (take N frames) (zeros N)).1) where
  pub answer-left : (taken_back (started N).1 (take N frames) (zeros N)).0.0 ≡ 0 → answer_from N N after (length (drop N frames) / N) (drop N frames) out ≡ first_answer N frames out
  answer-left z =
      let d : N ≡ 0 + N = omega arith in
      ap₂ (λ (d n : ℕ). answer_from N d after n (drop N frames) out) d (rest-count N frames out f r) ∙ sym (first-behind N _ frames out (one-block-less N frames out f r) after e z)

  pub outputs-left : outputs_from N after (length (drop N frames) / N) (drop N frames) out ≡ drop N (all_outputs N frames out)
  outputs-left = ap (λ (n : ℕ). outputs_from N after n (drop N frames) out) (rest-count N frames out f r) ∙ sym (outputs-behind N _ frames out (one-block-less N frames out f r) after e)
