use Rattle.std.proofs.Common.{false, sym, ◌∙◌, arith}
use Rattle.rules.specs.Tasks.{of_nexus}
use Rattle.steps.proofs.Losers.{losing_next, losing_all}
use Rattle.note.proofs.loses.Goals as goal

pub loop-j-preserved : goal.loop-j-preserved
loop-j-preserved c =
    let a = c.args in
    let at = c.loop-j in
    let here = (rw (c.of_nexus.ensures, c.is_end.ensures, c.fate.ensures, c.task_from-k.ensures, c.get_tagged.ensures) at c.if-is_end-of_nexus.false) in
    (rw here at (losing_next (of_nexus a.i) a.w a.n a.t.now false at.j c.loop-j-test.true)) ∙ at.invariant

pub returns-then-is_end-of_nexus : goal.returns-then-is_end-of_nexus
returns-then-is_end-of_nexus c =
    let a = c.args in
    let at = c.loop-j in
    let here = (rw (c.of_nexus.ensures, c.is_end.ensures, c.fate.ensures, c.task_from-k.ensures, c.get_tagged.ensures) at c.if-is_end-of_nexus.true) in
    (rw here at (losing_next (of_nexus a.i) a.w a.n a.t.now false at.j c.loop-j-test.true)) ∙ at.invariant

pub returns : goal.returns
returns c =
    let a = c.args in
    let at = c.loop-j in
    sym (losing_all (of_nexus a.i) a.w a.n a.t.now _ at.j (omega arith)) ∙ at.invariant
