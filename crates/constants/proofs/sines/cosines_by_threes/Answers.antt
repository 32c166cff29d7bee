use Rattle.std.proofs.Common.{◌≡◌, ℕ, ◌+◌, ◌*◌, ◌/◌, ◌%◌, ◌^◌, ◌∙◌, w64, arith, sym, ap, add-one}
use native.Mathlib.Nat.{mod-mod, pow-suc, add-mul-mod_self_left}
use Rattle.integers.proofs.Held.{held-ok}
use Rattle.integers.proofs.Fills.{filling-none, filling-next, filling-all}
use Rattle.tables.proofs.Reading.{cosine-turn}
use Rattle.constants.proofs.sines.cosines_by_threes.Goals as goal

-- three times the angle of a turn is the next
thrice : (first e : ℕ) → (3 * ((3 ^ e * first) % 1024)) % 1024 ≡ (3 ^ (e + 1) * first) % 1024
thrice first e =
    let x = 3 ^ e * first in
    let p : 3 ^ (e + 1) ≡ 3 ^ e * 3 = rw add-one (pow-suc 3 e) in
    let q : 3 * (x % 1024) + 1024 * (3 * (x / 1024)) ≡ 3 ^ (e + 1) * first = omega (arith, ap (λ n. n * first) p) in
    sym (add-mul-mod_self_left (3 * (x % 1024)) 1024 (3 * (x / 1024))) ∙ ap (λ n. n % 1024) q

pub loop-o-init : goal.loop-o-init
loop-o-init c = record { filling = filling-none _ _; angle = c.within_turn-j.ensures ∙ ap (λ x. x % 1024) (omega arith) }

pub loop-o-preserved : goal.loop-o-preserved
loop-o-preserved c =
    let first = c.args.first in
    let x = 3 ^ c.loop-o.o-index * first in
    let angle = c.loop-o.invariant.angle in
    record {
      filling = filling-next c.loop-o.invariant.filling
          ((held-ok w64 c.cosine.result c.cosine.type_inv).is ∙ c.cosine.ensures ∙ cosine-turn c.loop-o.j x (ap (λ j. j % 1024) angle ∙ mod-mod x 1024));
      angle = c.within_turn-j-in-loop-o.ensures ∙ ap (λ j. (3 * j) % 1024) angle ∙ thrice first c.loop-o.o-index;
    }

pub returns : goal.returns
returns c = filling-all c.loop-o.invariant.filling (omega arith)
