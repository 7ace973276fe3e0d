use Rattle.std.proofs.Common.{sym, ◌∙◌, arith}
use Rattle.steps.proofs.Nobody.{nobody_closes}
use Rattle.steps.proofs.Closes.{keep_on, keep_ends}
use Rattle.close.proofs.Counts.{counts}
use Rattle.close.proofs.keep.Goals as goal

pub returns-then-ends_nobody : goal.returns-then-ends_nobody
returns-then-ends_nobody c = nobody_closes _ _ _ (sym c.ends_nobody.ensures ∙ c.if-ends_nobody.true)

pub loop-i-preserved : goal.loop-i-preserved
loop-i-preserved c =
    keep_on c.loop-i.invariant c.loop-i-test.true
    (rw (c.put_record.ensures, c.get_tagged-r.ensures))
    (rw (c.from-k.ensures, counts c.gone.result, c.gone.ensures, c.get_tagged-r.ensures))

pub returns : goal.returns
returns c = keep_ends c.loop-i.invariant (omega arith)
