use Rattle.octets.proofs.Widths.{Loading}
use Rattle.octets.proofs.records.load_record.Given as goal

abbrev pub invariant-loop-k : goal.invariant-loop-k
invariant-loop-k g l = Loading g.row.N l.b l.at l.r l.k
