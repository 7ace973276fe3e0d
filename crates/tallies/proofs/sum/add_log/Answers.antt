use Rattle.std.proofs.Common.{sym, ◌∙◌, arith, rules}
use Rattle.tallies.proofs.Counting.{add_step, add_done}
use Rattle.tallies.proofs.sum.add_log.Goals as goal

pub loop-k-preserved : goal.loop-k-preserved
loop-k-preserved c =
    let loop = c.loop-k in
    record {
      added = sym (add_step loop.k _ loop.all c.args.one.now (omega arith) (omega arith) c.both.ensures) ∙ loop.invariant.added;
      long = search rules;
    }

pub returns : goal.returns
returns c = sym (add_done c.loop-k.k c.loop-k.all c.args.one.now (omega arith)) ∙ c.loop-k.invariant.added
