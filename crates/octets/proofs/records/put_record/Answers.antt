use Rattle.std.proofs.Common.{arith}
use borrow.Author.Rules.{rules}
use Rattle.octets.proofs.Widths.{put_begins, put_on, put_ends}
use Rattle.octets.proofs.records.put_record.Goals as goal

pub loop-k-init : goal.loop-k-init
loop-k-init g c = put_begins (search rules) c.requires

pub loop-k-preserved : goal.loop-k-preserved
loop-k-preserved g c = put_on c.loop-k.invariant (omega arith)

pub returns : goal.returns
returns g c = put_ends c.loop-k.invariant (omega arith)
