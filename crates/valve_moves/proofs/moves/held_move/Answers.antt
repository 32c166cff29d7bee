-- The two holds, of the numbers that their bits say.
use Rattle.std.proofs.Common.{rules, arith, ◌≡◌, ◌-ℤ◌, neg_ℤ, pos, FitsSigned, w64, ◌∙◌}
use Rattle.std.proofs.lemmas.Int.{ints, to_z-of_z}
use Rattle.valves.specs.Record.{travel, greatest_move}
use Rattle.valves.specs.Moves.{held_between, held_move}
use Rattle.valves.proofs.Moves.{move-kept}
use Rattle.valve_moves.proofs.MoveLaws.{held_same}
use Rattle.valve_moves.proofs.moves.held_move.Goals as goal

pub returns : goal.returns
unfolding held_move
returns c =
    let at = c.args.position in
    let r : FitsSigned w64 c.held_between-2.result = search rules in
    let k : FitsSigned w64 c.held_between.result = search rules in
    let first : c.held_between.result ≡ held_between (neg_ℤ (pos greatest_move)) (pos greatest_move) c.args.x =
    c.held_between.ensures ∙ held_same {low' = neg_ℤ (pos greatest_move)} {high' = pos greatest_move} {x' = c.args.x} (rw c.from-most.ensures) (rw c.from-most.ensures) (to_z-of_z w64 _ c.ranges.x) in
    let is : c.held_between-2.result ≡ held_move at c.args.x =
    c.held_between-2.ensures ∙ held_same {low' = neg_ℤ at} {high' = pos travel -ℤ at} (omega (arith, ints)) (omega (arith, ints)) (to_z-of_z w64 _ k ∙ first) in
    rw (to_z-of_z w64 _ r) (is, rw is (move-kept at c.args.x c.requires.0 c.requires.1).size)
