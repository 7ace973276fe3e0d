use Rattle.std.proofs.Common.{sym, ◌∙◌, arith}
use Rattle.steps.proofs.Nobody.{nobody_listed}
use Rattle.steps.proofs.ListedEnds.{listing_more, listing_all}
use Rattle.report.proofs.list_ends.Goals as goal

pub returns-then-ends_nobody : goal.returns-then-ends_nobody
returns-then-ends_nobody c = nobody_listed c.args.w c.args.n _ _ (sym c.ends_nobody.ensures ∙ c.if-ends_nobody.true)

pub loop-i-preserved : goal.loop-i-preserved
loop-i-preserved c =
    let a = c.args in
    let at = c.loop-i in
    let one = c.list_one-m in
    listing_more a.w a.n a.t.now a.report.now at.report one.new.report at.m at.i one.result
    c.loop-i-test.true at.invariant
    (rw c.get_tagged-r.ensures at one.ensures)

pub returns : goal.returns
returns c =
    let a = c.args in
    let at = c.loop-i in
    listing_all a.w a.n a.t.now a.report.now at.report at.m at.i c.requires (omega arith) at.invariant
