use Rattle.std.proofs.Common.{◌≡◌, ◌∙◌, ℕ, length, arith}
use Rattle.std.proofs.lemmas.Result.{err_from_is_err_and}
use Rattle.tables.specs.Widths.{half_width}
use Rattle.runs.proofs.AloneLaws.{output-refused, shape-passed}
use Rattle.gate.proofs.AskedLaws.{refusal-number, done-number, parts-width}
use Rattle.alone.proofs.WayLaws.{asked_way, way-shaped, shape-refused, one-given}
use Rattle.alone.proofs.frame.alone.Goals as goal

pub returns-in_err-in_parts : goal.returns-in_err-in_parts
returns-in_err-in_parts c =
    let p = err_from_is_err_and c.from_residual.result c.from_residual.ensures.1 in
    let given = c.args.given.now in
    let out = c.args.out.now in
    rw (p.1, p.2) (shape-refused c.args.width given out _ c.in_err-in_parts.ensures (refusal-number _) (asked_way c.args.undo c.args.width given out) ∙ way-shaped c.args.width given out c.args.undo)

pub returns-then-out-width : goal.returns-then-out-width
returns-then-out-width c =
    let given = c.args.given.now in
    let out = c.args.out.now in
    let e = c.in_ok-in_parts.ensures in
    output-refused c.args.width given out (asked_way c.args.undo c.args.width given out) (parts-width _ _ 1 1 _ e (done-number _)) (one-given _ _ _ e (done-number _)) c.if-out-width.true ∙ way-shaped c.args.width given out c.args.undo

pub in_room-requires-clause-width_nonzero : goal.in_room-requires-clause-width_nonzero
in_room-requires-clause-width_nonzero c =
    let w : half_width c.args.width ≡ 0 → ⊥ = parts-width _ _ 1 1 _ c.in_ok-in_parts.ensures (done-number _) in
    omega (arith, w)

pub in_room-requires-clause-given_len : goal.in_room-requires-clause-given_len
in_room-requires-clause-given_len c = (one-given _ _ _ c.in_ok-in_parts.ensures (done-number _), c.if-out-width.false)

pub returns : goal.returns
returns c =
    let given = c.args.given.now in
    let out = c.args.out.now in
    let e = c.in_ok-in_parts.ensures in
    c.in_room.ensures ∙ shape-passed c.args.width given out (asked_way c.args.undo c.args.width given out) (parts-width _ _ 1 1 _ e (done-number _)) (one-given _ _ _ e (done-number _)) c.if-out-width.false ∙ way-shaped c.args.width given out c.args.undo
