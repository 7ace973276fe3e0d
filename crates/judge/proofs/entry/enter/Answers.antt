use Rattle.std.proofs.Common.{sym, ◌∙◌}
use Rattle.rules.specs.Rules.{enter}
use Rattle.judge.proofs.EnterHeld.{enter_held, enter_past}
use Rattle.judge.proofs.entry.enter.Goals as goal

pub returns-then-here : goal.returns-then-here
unfolding enter
returns-then-here c = simp (c.failed.ensures, c.sense.ensures, c.if-here.true)

pub returns-then-held_off : goal.returns-then-held_off
unfolding enter
returns-then-held_off c =
    rw (c.ended_with.ensures, c.held_status.ensures, c.if-here.false)
    (enter_held c.args.h c.args.c c.args.has_aca c.args.p
    (rw c.asks_aca.ensures at (sym c.held_off.ensures ∙ c.if-held_off.true)))

pub returns : goal.returns
unfolding enter
returns c =
    rw (c.checks_past_aca.ensures, c.if-here.false)
    (enter_past c.args.h c.args.c c.args.has_aca c.args.p
    (rw c.asks_aca.ensures at (sym c.held_off.ensures ∙ c.if-held_off.false)))
