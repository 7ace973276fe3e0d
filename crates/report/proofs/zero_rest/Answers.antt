use borrow.Author.Rules.{rules}
use Rattle.report.proofs.Zeros.{zeros}
use Rattle.report.proofs.zero_rest.Goals as goal

pub returns : goal.returns
returns c =
    let run = c.fill_with.ensures.ran in
    rw (← c.fill_with.ensures.len) (zeros (search rules) _ _ run.0 run.1)
