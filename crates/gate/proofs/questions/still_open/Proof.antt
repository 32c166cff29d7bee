-- `gate::questions::still_open` meets its contract.
use borrow.Author.Rules.{rules}
use borrow.Author.Tests.{not-true, not-false}
use mathlib.Core.Path.{◌≡◌, sym, ◌∙◌}
use mathlib.Core.Bool.{true}
use mir.Syntax.{w64}
use Rattle.integers.proofs.Held.{held}
use Rattle.runs.specs.Answers.{told}
use Rattle.runs.specs.declared.record.Run.{Run}
use Rattle.runs.specs.Record.{record_of}
use Rattle.runs.specs.Gate.{sound, ask}
use Rattle.runs.proofs.AskLaws.{record-refused, closed-refused}
use Rattle.gate.specs.Own.Asked.{answered}
use Rattle.gate.proofs.questions.still_open.Statement.{statement}
use Rattle.gate.proofs.questions.still_open.Tie as tie

abbrev run : tie.Start → Run
run s = record_of s.args.width s.args.count s.args.held.now s.args.finished s.args.total

-- the total is lent by its bits
answered-by : (c : tie.After-sound) → c.sound.result ≡ sound c.args.top (run c.before)
answered-by c = let s = c in rw (held w64 _ s.ranges.total).is at c.sound.ensures

is-sound : (e : tie.Else-not-sound) → sound e.args.top (run e.before.before) ≡ true
is-sound e = sym (answered-by e.before) ∙ e.if-not-sound.false

returns : tie.Need-returns-then-not-sound
unfolding answered told
returns c = let s = c.before.before in record { asked = λ out next. record-refused s.args.top (run s) out _ (sym (answered-by c.before) ∙ c.if-not-sound.true) }

returns-2 : tie.Need-returns-then-finished
unfolding answered told
returns-2 c = let e = c.before in let s = e.before.before in record { asked = λ out next. closed-refused s.args.top (run s) out next (is-sound e) c.if-finished.true }

returns-3 : tie.Need-returns
unfolding answered told ask
returns-3 c = let e = c.before in record { asked = λ out next. rw (is-sound e, c.if-finished.false) }

pub still_open_spec : {M : Type 1} → statement M
still_open_spec = tie.close (tie.spec (λ c κs. search rules) returns returns-2 returns-3)
