use Rattle.std.proofs.Common.{arith, ◌+◌, length}
use Rattle.blocks.proofs.PutBlocks.{statuses_begun, statuses_step, room_more}
use Rattle.blocks.proofs.put_statuses.Goals as goal

pub loop-status-init : goal.loop-status-init
loop-status-init c =
    record { puts = statuses_begun c.args.out.now c.args.word.now c.args.counts.now; room = omega arith }

pub loop-status-preserved : goal.loop-status-preserved
loop-status-preserved c =
    let loop = c.loop-status in
    let line = c.put_count.ensures in
    record {
      puts = statuses_step c.args.word.now c.args.counts.now loop.status (omega arith) loop.invariant.puts line.puts;
      room = omega (arith, line.short, room_more loop.status (length c.args.word.now + 25));
    }
