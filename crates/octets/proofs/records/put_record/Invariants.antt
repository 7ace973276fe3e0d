use Rattle.octets.proofs.Widths.{Putting}
use Rattle.octets.proofs.records.put_record.Given as goal

abbrev pub invariant-loop-k : goal.invariant-loop-k
invariant-loop-k g l = Putting g.row.N l.fn.b l.at l.r l.b l.k
