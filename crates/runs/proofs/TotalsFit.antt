-- Request 2: whatever the record, a call that takes a block or a frame leaves a total within the limit.
use mathlib.Core.Path.{◌≡◌, refl, sym, ap, subst, ◌∙◌}
use mathlib.Core.Bool.{Bool, true, cond}
use mathlib.Core.List.{List, [], ◌∷◌}
use Prim.Native.Nat.{ℕ, zero, suc, ◌-◌, ◌*◌, ◌≤◌, ◌<◌}
use native.Mathlib.Nat.{mul-le-mul, mul-le-mul_right}
use native.Mathlib.Omega.{arith}
use borrow.Author.Tests.{leb-true}
use lib.Dec.{eqb, eqb-suc-zero}
use lib.IntN.{ℤ, pos, nat_abs, ◌+ℤ◌}
use lib.ListN.{length}
use Rattle.integers.specs.Vectors.{sum_of}
use Rattle.integers.proofs.Sums.{sum-none}
use Rattle.steps.specs.Limits.{reading_limit, folded_limit, coefficient_limit}
use Rattle.steps.specs.Steps.{unstages}
use Rattle.std.specs.Prelude.{Option}
use Rattle.runs.specs.declared.record.Run.{Run}
use Rattle.runs.specs.Answers.{first_beyond}
use Rattle.runs.specs.Record.{block_limit, frame_limit, opened, advanced}
use Rattle.runs.specs.Gate.{CallResult, ask_each, nothing, inside, all_yes, blocks_behind, sound, first_dead, first_out}
use Rattle.runs.specs.Forward.{frame_on, taken_in, taken}
use Rattle.runs.specs.Back.{framed, block_on, first_upper, first_frame, later_frame, unfolded_in, undone_in, taken_back}
use Rattle.runs.specs.Totals.{total_limit, EveryTotalFits}
use Rattle.runs.proofs.Searches.{all-inside}
use Rattle.runs.proofs.RecordLaws.{width-le, blocks-forward, blocks-back, added-limit}
use Rattle.runs.proofs.CallLaws.{Decided, granted, asked-each, answered-yes, every-answer}
use Rattle.runs.proofs.AnswerLaws.{sound-wide}
use Rattle.runs.proofs.BackLaws.{length-block}
use Rattle.runs.proofs.Refusals.{admitted-passed}

-- at most 65,536 blocks of a width
pub within-limit : (b N : ℕ) (t : ℤ) → b ≤ block_limit → N ≤ 128 → nat_abs t ≤ b * N * reading_limit → nat_abs t ≤ total_limit
within-limit b N t h w s =
    let few : b * N ≤ block_limit * 128 = mul-le-mul h w in
    omega (arith, mul-le-mul_right reading_limit few)

sound-total : (top : ℕ) (run : Run) → sound top run ≡ true → nat_abs run.total ≤ blocks_behind top run.count * run.width * reading_limit
unfolding sound
sound-total top run e = leb-true _ _ (every-answer _ e 5)

-- ---- forward
module _ (run : Run) (given out : List ℤ) where
  taken-asked : Decided (all_yes (nothing (first_dead given 0) ∷ nothing (first_out given 0) ∷ [])) run out ((0, 0), advanced run given, frame_on run given) (taken_in run given out)
  unfolding taken_in all_yes
  taken-asked = asked-each 7 _ (asked-each 8 _ (granted _ refl))

  -- no block is longer than 128
  pub forward-long : (taken run given out).0.0 ≡ 0 → length given ≤ 128
  unfolding taken
  forward-long e = let p = admitted-passed block_limit run given out _ e in omega (arith, p.long, width-le run.width (sound-wide block_limit run p.sound-is))

  pub forward-fits : (taken run given out).0.0 ≡ 0 → nat_abs (taken run given out).1.total ≤ total_limit
  unfolding inside opened advanced taken
  forward-fits e =
      let p = admitted-passed block_limit run given out _ e in
      let yes = answered-yes taken-asked (ap (λ (g : CallResult). g.0.0) (sym p.follows) ∙ e) in
      let n = run.count in
      let w = width-le run.width (sound-wide block_limit run p.sound-is) in
      let s = added-limit n run.width run.total given (rw (blocks-forward n) at (sound-total block_limit run p.sound-is)) (record { long = p.long; within = all-inside reading_limit given (every-answer _ yes 1) }) in
      subst (λ (g : CallResult). nat_abs g.1.total ≤ total_limit) (sym (p.follows ∙ taken-asked.when-yes yes)) (within-limit (suc n) run.width (run.total +ℤ sum_of given) p.few w s)

-- ---- back: the first frame, and a later one
module _ (run : Run) (frame out : List ℤ) where
  abbrev folded : List ℤ
  folded = unstages run.width frame

  abbrev behind : CallResult → CallResult
  behind next = ask_each 9 (first_beyond (pos coefficient_limit) frame 0) run out (ask_each 10 (first_beyond (pos folded_limit) folded 0) run out next)

  abbrev asks : Option ℕ → Bool
  asks last = all_yes (nothing (first_beyond (pos coefficient_limit) frame 0) ∷ nothing (first_beyond (pos folded_limit) folded 0) ∷ nothing last ∷ [])

  first-asked : Decided (asks (first_upper run folded)) run out ((0, 0), framed run [] folded, out) (behind (first_frame run folded out))
  unfolding first_frame all_yes
  first-asked = asked-each 8 _ (asked-each 9 _ (asked-each 10 _ (granted _ refl)))

  later-asked : Decided (asks (first_out (block_on run folded) 0)) run out ((0, 0), framed run (block_on run folded) folded, block_on run folded) (behind (later_frame run folded out))
  unfolding later_frame all_yes
  later-asked = asked-each 8 _ (asked-each 9 _ (asked-each 11 _ (granted _ refl)))

  module _ (s : sound frame_limit run ≡ true) (few : run.count < frame_limit) where
    wide : run.width ≤ 128
    wide = width-le run.width (sound-wide frame_limit run s)

    before : nat_abs run.total ≤ (run.count - 1) * run.width * reading_limit
    before = rw (blocks-back run.count) at (sound-total frame_limit run s)

    first_fits : (behind (first_frame run folded out)).0.0 ≡ 0 → nat_abs (behind (first_frame run folded out)).1.total ≤ total_limit
    unfolding framed opened
    first_fits e =
        subst (λ (g : CallResult). nat_abs g.1.total ≤ total_limit) (sym (first-asked.when-yes (answered-yes first-asked e)))
        (rw (sum-none run.total) (within-limit (run.count - 1) run.width run.total (omega arith) wide before))

    later-fits : (b : ℕ) → run.count ≡ suc b → (behind (later_frame run folded out)).0.0 ≡ 0 → nat_abs (behind (later_frame run folded out)).1.total ≤ total_limit
    unfolding framed opened inside
    later-fits b c e =
        let yes = answered-yes later-asked e in
        let less : run.count - 1 ≡ b = omega (arith, c) in
        let s = added-limit b run.width run.total (block_on run folded) (rw less at before) (record { long = length-block run folded; within = all-inside reading_limit (block_on run folded) (every-answer _ yes 2) }) in
        subst (λ (g : CallResult). nat_abs g.1.total ≤ total_limit) (sym (later-asked.when-yes yes)) (within-limit (suc b) run.width (run.total +ℤ sum_of (block_on run folded)) (omega (arith, c, few)) wide s)

    undone-fits : (undone_in run frame out).0.0 ≡ 0 → nat_abs (undone_in run frame out).1.total ≤ total_limit
    unfolding undone_in unfolded_in
    undone-fits = by run.count refl
      where
        by : (n : ℕ) → run.count ≡ n → (behind (cond (eqb n 0) (first_frame run folded out) (later_frame run folded out))).0.0 ≡ 0
            → nat_abs (behind (cond (eqb n 0) (first_frame run folded out) (later_frame run folded out))).1.total ≤ total_limit
        by zero c = first_fits
        by (suc b) c = rw (eqb-suc-zero b) (later-fits b c)

  -- no frame is longer than 128, and so is no block that it gives
  pub back_long : (taken_back run frame out).0.0 ≡ 0 → length out ≤ 128
  unfolding taken_back
  back_long e = let p = admitted-passed frame_limit run frame out _ e in omega (arith, p.room, width-le run.width (sound-wide frame_limit run p.sound-is))

  pub back_fits : (taken_back run frame out).0.0 ≡ 0 → nat_abs (taken_back run frame out).1.total ≤ total_limit
  unfolding taken_back
  back_fits e =
      let p = admitted-passed frame_limit run frame out _ e in
      subst (λ (g : CallResult). nat_abs g.1.total ≤ total_limit) (sym p.follows) (undone-fits p.sound-is p.few (ap (λ (g : CallResult). g.0.0) (sym p.follows) ∙ e))

pub every-total-fits : EveryTotalFits
every-total-fits run given out = record { forward = forward-fits run given out; back = back_fits run given out }
