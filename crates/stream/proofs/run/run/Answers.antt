use mathlib.Core.Path.{◌≡◌, ap, subst}
use mathlib.Core.Logic.{inr}
use mathlib.Core.List.{List}
use Prim.Native.Nat.{ℕ}
use Rattle.std.specs.Prelude.{Option}
use Rattle.feeding.specs.declared.session.Session.{Session}
use Rattle.feeding.specs.Text.{session_begun, text_program}
use Rattle.text_runs.specs.declared.state.Way.{Way}
use Rattle.pieces.specs.Run.{RanToTheEnd}
use Rattle.stream.specs.Run.{ending_of, Finished}
use Rattle.stream.proofs.run.run.Goals as goal

finished : {way : Way} {begun last : Session} {left left' written written' : Option (List ℕ)} {room : ℕ} → begun ≡ session_begun way
    → RanToTheEnd text_program begun left left' written written' room last → Finished way left left' written written' room last.ending
unfolding ending_of
finished {last = last} {left} {left'} {written} {written'} {room} e r =
    let w = subst (λ (s : Session). RanToTheEnd text_program s left left' written written' room last) e r in
    record { last = last; whole = w; ending = ap (λ (s : Session). s.ending) w.ends }

pub returns-in-Ok-clause-ended : goal.returns-in-Ok-clause-ended
returns-in-Ok-clause-ended g c = let f = finished c.begin.ensures c.in-Ok.ensures in inr (f.whole.read, f.ending)

pub returns-in-Ok-clause-finished : goal.returns-in-Ok-clause-finished
returns-in-Ok-clause-finished g c = inr (finished c.begin.ensures c.in-Ok.ensures)
