use mathlib.Core.Path.{◌≡◌, sym, ap, subst}
use mathlib.Core.Logic.{inr}
use mathlib.Core.List.{List}
use Prim.Native.Nat.{ℕ}
use native.Mathlib.Omega.{arith}
use Rattle.std.specs.Prelude.{Option}
use Rattle.reels.specs.declared.reel.Reel.{Reel}
use Rattle.reels.specs.Limits.{WithinLimits}
use Rattle.reels.specs.Reel.{reel_begun}
use Rattle.reels.specs.Program.{reel_program}
use Rattle.reels.proofs.LimitsKept.{limits-kept}
use Rattle.pieces.specs.Run.{RanToTheEnd}
use Rattle.reel_stream.specs.Run.{phase_of, Finished}
use Rattle.reel_stream.proofs.run.run.Goals as goal

finished : {begun last : Reel} {left left' written written' : Option (List ℕ)} {room : ℕ} → begun ≡ reel_begun
    → RanToTheEnd reel_program begun left left' written written' room last → Finished left left' written written' room last.phase
unfolding phase_of
finished {last = last} {left} {left'} {written} {written'} {room} e r =
    let w = subst (λ (s : Reel). RanToTheEnd reel_program s left left' written written' room last) e r in
    record { last = last; whole = w; phase = ap (λ (s : Reel). s.phase) w.ends }

pub run-requires : goal.run-requires
run-requires g c = (subst WithinLimits (sym c.begin.ensures) limits-kept.begun, omega arith)

pub returns-in-Ok-clause-ended : goal.returns-in-Ok-clause-ended
returns-in-Ok-clause-ended g c = let f = finished c.begin.ensures c.in-Ok.ensures in inr (f.whole.read, f.phase)

pub returns-in-Ok-clause-finished : goal.returns-in-Ok-clause-finished
returns-in-Ok-clause-finished g c = inr (finished c.begin.ensures c.in-Ok.ensures)
