-- In each arm the phase is known.
use Rattle.std.proofs.Common.{rules, arith, ◌≡◌, List, [], ℕ, take, sym, ap, ◌∙◌}
use Rattle.decimal.proofs.PutLaws.{put-none, put_as}
use Rattle.reels.specs.Page.{page}
use Rattle.reels.specs.Reel.{reel_says}
use Rattle.reels.proofs.PrintedLaws.{sums-printed, prints-few}
use Rattle.reel_page.specs.Own.Refusal.{refusal_in}
use Rattle.reel_page.proofs.page.says.Goals as goal

pub page-requires-clause-sums_within : goal.page-requires-clause-sums_within
page-requires-clause-sums_within c = sums-printed c.args.reel c.requires.0

pub page-requires-clause-frames_in_bounds : goal.page-requires-clause-frames_in_bounds
unfolding reel_says
page-requires-clause-frames_in_bounds c = omega (arith, prints-few c.args.reel c.requires.0, c.requires.1)

pub returns-in-FirstRun : goal.returns-in-FirstRun
unfolding reel_says
returns-in-FirstRun c =
    let e : reel_says c.args.reel.phase c.args.reel ≡ [] = search rules in
    put_as _ _ _ _ (sym e) (put-none _ _)

pub returns-in-Whole : goal.returns-in-Whole
unfolding reel_says
returns-in-Whole c = put_as _ _ _ _ (ap (λ p. reel_says p c.args.reel) (sym c.in-Whole.is)) c.page.ensures

pub returns-in-Refused : goal.returns-in-Refused
unfolding reel_says refusal_in
returns-in-Refused c =
    put_as _ _ _ _ (ap refusal_in c.in-Refused.is ∙ ap (λ p. reel_says p c.args.reel) (sym c.in-Refused.is)) c.refusal.ensures.0
