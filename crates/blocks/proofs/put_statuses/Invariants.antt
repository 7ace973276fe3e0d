use Rattle.std.proofs.Common.{◌+◌, ◌*◌, ◌≤◌, length, take}
use Rattle.lines.specs.Lines.{Puts}
use Rattle.blocks.specs.Block.{status_lines}
use Rattle.blocks.proofs.put_statuses.Given as goal

abbrev pub invariant-loop-status : goal.invariant-loop-status
invariant-loop-status l =
    record {
      puts : Puts l.fn.out l.out (status_lines l.word 0 (take l.status l.counts));
      room : l.out.at ≤ l.fn.out.at + l.status * (length l.word + 25);
    }
