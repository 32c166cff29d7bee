-- The line of a refusal is put; nothing in another phase.
use Rattle.std.proofs.Common.{rules, arith, ◌≡◌, [], ℕ, refl, sym, ap}
use Rattle.decimal.proofs.PutLaws.{put-none, put_as, put_then}
use Rattle.reels.specs.declared.reel.ReelPhase.{ReelPhase}
use Rattle.reels.specs.declared.reel.ReelPhase.TheVariants.{FirstRun, Frames, NextRun, Whole, Refused}
use Rattle.text_runs.specs.EveryInput.{refusal_line}
use Rattle.reel_page.specs.Own.Refusal.{refusal_in}
use Rattle.reel_page.proofs.page.refusal.Goals as goal

quiet : (p : ReelPhase) → ((x y z : ℕ) → p ≡ Refused x y z → ⊥) → [] ≡ refusal_in p
unfolding refusal_in
quiet FirstRun h = refl
quiet Frames h = refl
quiet NextRun h = refl
quiet Whole h = refl
quiet (Refused x y z) h = absurd (h x y z refl)

pub returns-in-Refused : goal.returns-in-Refused
unfolding refusal_in refusal_line
returns-in-Refused c =
    let p = c.refusal-n.ensures in
    (put_as _ _ _ _ (ap refusal_in (sym c.in-Refused.is)) (put_then p.0 c.bytes.ensures), omega (arith, p.1, c.bytes.ensures.count))

pub returns : goal.returns
returns c = (put_as _ _ _ _ (quiet c.args.phase c.in_default.not-Refused) (put-none _ _), omega arith)
