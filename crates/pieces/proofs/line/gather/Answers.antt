use native.Mathlib.Omega.{arith}
use mathlib.Core.Path.{◌≡◌, sym, ap, ◌∙◌}
use Prim.Native.Nat.{ℕ}
use lib.ListN.{length, take, drop, length-set}
use Rattle.pieces.specs.Own.Gathers.{line_gathered}
use Rattle.pieces.proofs.GatherLaws.{at-end, at-feed, at-full, at_more}
use Rattle.pieces.proofs.line.gather.Goals as goal

pub loop-at-preserved : goal.loop-at-preserved
loop-at-preserved c =
    let k = c.loop-at in
    record {
      fits = omega arith;
      long = length-set k.line _ _ ∙ k.invariant.long;
      same = at_more k.line k.length c.args.piece.now k.at (omega arith) c.if-b-eq10.false (omega arith) (omega arith) ∙ k.invariant.same;
    }

pub returns-then-b-eq10 : goal.returns-then-b-eq10
returns-then-b-eq10 c =
    let k = c.loop-at in
    record {
      is = sym (at-feed k.line k.length c.args.piece.now k.at (omega arith) c.if-b-eq10.true) ∙ k.invariant.same;
      fits = omega arith;
      within = omega arith;
      rises = λ h. omega arith;
    }

pub returns-then-length-line : goal.returns-then-length-line
returns-then-length-line c =
    let k = c.loop-at in
    record {
      is = sym (at-full k.line k.length c.args.piece.now k.at (omega arith) c.if-b-eq10.false (omega arith) c.if-length-line.true) ∙ k.invariant.same;
      fits = omega arith;
      within = omega arith;
      rises = λ h. omega arith;
    }

pub returns : goal.returns
returns c =
    let k = c.loop-at in
    let piece = c.args.piece.now in
    let end : length piece ≡ k.at = omega (arith, k.auto.at-end c.requires.0, c.loop-at-test.false) in
    record {
      is = sym (at-end k.line k.length piece (length piece) (omega arith)) ∙ ap (λ (i : ℕ). line_gathered (take k.length k.line) (drop i piece)) end ∙ k.invariant.same;
      fits = omega arith;
      within = omega arith;
      rises = λ h. h;
    }
