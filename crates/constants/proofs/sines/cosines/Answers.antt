use Rattle.std.proofs.Common.{◌+◌, ◌*◌, ◌%◌, ◌∙◌, w64, arith, sym, ap, ap₂}
use native.Mathlib.Nat.{mod-mod, add-mod}
use Rattle.integers.proofs.Held.{held-ok}
use Rattle.integers.proofs.PlaceLaws.{next_multiple}
use Rattle.integers.proofs.Fills.{filling-none, filling-next, filling-all}
use Rattle.tables.proofs.Reading.{cosine-turn}
use Rattle.constants.proofs.sines.cosines.Goals as goal

pub loop-o-init : goal.loop-o-init
loop-o-init c = record { filling = filling-none _ _; angle = c.within_turn-j.ensures ∙ ap (λ x. x % 1024) (omega arith) }

pub loop-o-preserved : goal.loop-o-preserved
loop-o-preserved c =
    let a = c.args in
    let x = a.first + c.loop-o.o-index * a.step in
    let angle = c.loop-o.invariant.angle in
    record {
      filling = filling-next c.loop-o.invariant.filling
          ((held-ok w64 c.cosine.result c.cosine.type_inv).is ∙ c.cosine.ensures ∙ cosine-turn c.loop-o.j x (ap (λ j. j % 1024) angle ∙ mod-mod x 1024));
      angle = c.within_turn-j-in-loop-o.ensures ∙ ap₂ (λ j s. (j + s) % 1024) angle c.within_turn-by.ensures
          ∙ sym (add-mod x a.step 1024) ∙ ap (λ n. n % 1024) (next_multiple a.first c.loop-o.o-index a.step);
    }

pub returns : goal.returns
returns c = filling-all c.loop-o.invariant.filling (omega arith)
