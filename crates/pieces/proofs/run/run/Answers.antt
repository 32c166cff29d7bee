-- A turn keeps what holds between turns, and the last one ends the run. That a piece was read and that its output was written is searched for,
-- in whatever form the code asks it.
use Rattle.std.proofs.Common.{rules}
use native.Mathlib.Omega.{arith}
use mathlib.Core.Path.{refl, sym, ◌∙◌}
use Rattle.pieces.specs.Step.{program_of}
use Rattle.pieces.proofs.TurnLaws.{turns-first, turn-begins, stepped, stepped-less, stepped-last}
use Rattle.pieces.proofs.run.run.Goals as goal

pub loop-piece-init : goal.loop-piece-init
loop-piece-init g c = record { turns = turns-first (program_of g.P.Program.letters) _ _ _ _ _ c.requires.0 refl (omega (arith, c.requires.1, g.met.P.Program.most)); same_buffer = refl }

pub refill-requires : goal.refill-requires
refill-requires g c = let k = c.loop-piece.invariant.turns in (k.place, k.within)

pub take_piece-progress-requires : goal.take_piece-progress-requires
take_piece-progress-requires g c = turn-begins (program_of g.P.Program.letters) c.loop-piece.invariant.turns {left″ = g.R.Read.remaining c.refill.new.input.input} (search rules) c.refill.auto.buffer

pub loop-piece-smaller : goal.loop-piece-smaller
loop-piece-smaller g c =
    let on = c.stops.ensures.goes_on c.if-stops.false in
    stepped-less (program_of g.P.Program.letters) c.loop-piece.invariant.turns c.take_piece-progress.ensures {left″ = g.R.Read.remaining c.refill.new.input.input} (search rules) c.refill.auto.buffer
    g.P.Program.bounded on.0 (sym c.is_over.ensures ∙ on.1)

pub loop-piece-preserved : goal.loop-piece-preserved
loop-piece-preserved g c = record {
  turns = stepped (program_of g.P.Program.letters) c.loop-piece.invariant.turns c.take_piece-progress.ensures (search rules) c.refill.auto.buffer (search rules) c.take_piece-progress.auto.line c.take_piece-progress.auto.out;
  same_buffer = c.refill.auto.buffer ∙ c.loop-piece.invariant.same_buffer;
}

pub returns : goal.returns
returns g c =
    stepped-last (program_of g.P.Program.letters) c.loop-piece.invariant.turns c.take_piece-progress.ensures (search rules) c.refill.auto.buffer
    (g.W.Write.contents c.write.new.output.output) (search rules) c.take_piece-progress.auto.line c.take_piece-progress.auto.out
    (rw (sym c.is_over.ensures) (c.stops.ensures.stops c.if-stops.true)) (c.refill.auto.buffer ∙ c.loop-piece.invariant.same_buffer) c.end-ended.ensures (search rules)
