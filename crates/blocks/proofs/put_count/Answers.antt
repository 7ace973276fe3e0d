use Rattle.blocks.proofs.PutBlocks.{put_none, counted, not_counted}
use Rattle.blocks.proofs.put_count.Goals as goal

-- by hand, so that a count of 0 is refused for what it lacks, and not because a search gave up
pub returns-then-n-gt0-clause-puts : goal.returns-then-n-gt0-clause-puts
returns-then-n-gt0-clause-puts c = rw (counted c.args.word.now c.args.status c.args.n c.if-n-gt0.true) at c.put_status.ensures.puts

pub returns-else-n-gt0-clause-puts : goal.returns-else-n-gt0-clause-puts
returns-else-n-gt0-clause-puts c =
    rw (not_counted c.args.word.now c.args.status c.args.n c.if-n-gt0.false) at (put_none c.args.out.now)
