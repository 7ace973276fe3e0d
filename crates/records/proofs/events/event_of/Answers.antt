use borrow.Author.Tests.{eq-eqb, ne_eqb}
use mathlib.Core.Path.{◌∙◌}
use native.Mathlib.Omega.{arith}
use lib.Seq.{take_all}
use Rattle.records.specs.Records.{event_size}
use Rattle.records.specs.Events.{event_of}
use Rattle.records.proofs.events.event_of.Goals as goal

pub returns-then-e-ne-EVENT_SIZE : goal.returns-then-e-ne-EVENT_SIZE
unfolding event_of
returns-then-e-ne-EVENT_SIZE c = simp (ne_eqb _ _ c.if-e-ne-EVENT_SIZE.true)

pub returns-then-not-is_mark : goal.returns-then-not-is_mark
unfolding event_of
returns-then-not-is_mark c =
    let whole = c.get_tagged-r.ensures ∙ take_all event_size c.args.e.now (omega arith) in
    rw (eq-eqb _ _ c.if-e-ne-EVENT_SIZE.false, ← whole, ← c.is_mark.ensures, c.if-not-is_mark.true)

pub returns : goal.returns
unfolding event_of
returns c =
    let whole = c.get_tagged-r.ensures ∙ take_all event_size c.args.e.now (omega arith) in
    rw (c.event_from.ensures, c.tag_in.ensures, eq-eqb _ _ c.if-e-ne-EVENT_SIZE.false, ← whole)
    (rw (← c.is_mark.ensures, c.if-not-is_mark.false))
