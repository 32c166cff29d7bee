-- A width below zero is refused, and another is asked.
use Rattle.std.proofs.Common.{rules, ◌≡◌, ℕ, ℤ, pos, nat_abs, true, false, refl, sym, ap, ◌∙◌, FitsSigned, w64}
use Rattle.std.specs.Prelude.{Err, Some}
use lib.Signed.{lt_z}
use Rattle.integers.proofs.Signs.{if-below, if-from, sign-told, usize-is}
use Rattle.reels.specs.declared.reel.Reel.{Reel}
use Rattle.reels.specs.declared.verdict.Refusal.TheVariants.{Width}
use Rattle.reels.specs.Verdicts.{verdict_told}
use Rattle.reels.specs.Reel.{reel_refused, taken_or, width_asked, run_begun, width_line}
use Rattle.reel_lines.proofs.width.take_width.Goals as goal

abbrev started : Reel → ℕ → Reel
started s N = taken_or s (verdict_told (width_asked N s.width s.runs)) (run_begun s N)

below : (s : Reel) (x : ℤ) → lt_z x (pos 0) ≡ true → reel_refused s (verdict_told (Err Width)) ≡ width_line s (Some x)
unfolding width_line
below s = if-below (λ (x : ℤ). reel_refused s (verdict_told (Err Width)) ≡ width_line s (Some x)) (λ (n : ℕ). refl)

from : (s : Reel) (x : ℤ) → lt_z x (pos 0) ≡ false → started s (nat_abs x) ≡ width_line s (Some x)
unfolding width_line
from s = if-from (λ (x : ℤ). started s (nat_abs x) ≡ width_line s (Some x)) (λ (n : ℕ). refl)

pub returns-in_default : goal.returns-in_default
unfolding width_line
returns-in_default c = c.by.ensures ∙ sym (ap (width_line c.args.reel.now) c.in_default.is)

pub returns-then-width-lt0 : goal.returns-then-width-lt0
returns-then-width-lt0 c =
    let f : FitsSigned w64 c.in-Some.width = search rules in
    c.by-then-width-lt0.ensures ∙ below c.args.reel.now c.in-Some.width (sign-told c.in-Some.width f.sfits c.if-width-lt0.true) ∙ sym (ap (width_line c.args.reel.now) c.in-Some.is)

pub returns : goal.returns
returns c =
    let f : FitsSigned w64 c.in-Some.width = search rules in
    c.start_run.ensures
    ∙ ap (started c.args.reel.now) (usize-is c.in-Some.width f.sfits)
    ∙ from c.args.reel.now c.in-Some.width (sign-told c.in-Some.width f.sfits c.if-width-lt0.false)
    ∙ sym (ap (width_line c.args.reel.now) c.in-Some.is)
