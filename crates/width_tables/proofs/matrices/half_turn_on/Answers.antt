-- What stands half a turn on: four numbers more.
use Rattle.std.proofs.Common.{◌≡◌, sym, ap, subst, ◌∙◌, ℕ, ◌+◌, ◌-◌, ◌^◌, ◌≤◌, ◌<◌, ℤ, neg_ℤ, List, length, arith}
use Rattle.integers.specs.Places.{places, at, Within}
use Rattle.integers.proofs.PlaceLaws.{at_places, places-ext, within-places}
use Rattle.slices.specs.declared.fours.Four.{Four}
use Rattle.slices.specs.Own.Fours.{listed, stored}
use Rattle.products.specs.Own.Rooms.{Written}
use Rattle.products.proofs.RoomLaws.{written_next, written-before}
use Rattle.width_tables.proofs.matrices.half_turn_on.Goals as goal

module _ {half i : ℕ} {room₀ room : List ℤ} (w : Written (λ j. neg_ℤ (at room₀ j)) half i room₀ room) (left : i + 4 ≤ half) (x : Four) (read : listed x ≡ places 4 (λ j. at room (i + j))) where
  -- four numbers of the first half stand as they did
  as_before : listed x ≡ places 4 (λ j. at room₀ (i + j))
  as_before = read ∙ places-ext 4 _ _ (λ j l. written-before w (i + j) (omega arith))

  four-more : half + half ≤ length room₀ → (z : Four) → listed z ≡ places 4 (λ j. neg_ℤ (at (listed x) j)) → {room' : List ℤ} → room' ≡ stored room (half + i) z → Written (λ j. neg_ℤ (at room₀ j)) half (i + 4) room₀ room'
  four-more long z is e = rw e (written_next w (omega arith) z (is ∙ places-ext 4 _ _ (λ j l. ap neg_ℤ (ap (λ xs. at xs j) as_before ∙ at_places 4 _ j l))))

pub negated-requires : goal.negated-requires
negated-requires c =
    subst (Within (2 ^ 62 - 1)) (sym (as_before c.loop-i.invariant.2 (omega arith) c.four_at-x.result c.four_at-x.ensures))
    (within-places 4 _ _ (λ j l. c.requires.2.small (c.loop-i.i + j) (omega arith) (omega arith)))

pub loop-i-preserved : goal.loop-i-preserved
loop-i-preserved c = (omega arith, omega arith, four-more c.loop-i.invariant.2 (omega arith) c.four_at-x.result c.four_at-x.ensures c.requires.1 c.negated.result c.negated.ensures c.put.ensures)

pub returns-2 : goal.returns-2
returns-2 c =
    let last : c.loop-i.i + 4 ≡ c.args.half = omega arith in
    subst (λ n. Written (λ j. neg_ℤ (at c.args.room.now j)) c.args.half n c.args.room.now c.put.new.x) last
    (four-more c.loop-i.invariant.2 (omega arith) c.four_at-x.result c.four_at-x.ensures c.requires.1 c.negated.result c.negated.ensures c.put.ensures)
