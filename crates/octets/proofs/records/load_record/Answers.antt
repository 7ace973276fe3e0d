use Rattle.std.proofs.Common.{arith}
use Rattle.octets.proofs.Widths.{load_on, load_ends}
use Rattle.octets.proofs.records.load_record.Goals as goal

pub loop-k-preserved : goal.loop-k-preserved
loop-k-preserved g c = load_on c.loop-k.invariant (omega arith) c.requires

pub returns : goal.returns
returns g c = load_ends c.loop-k.invariant (omega arith)
