use Rattle.logs.specs.SoFar.{OfSomeLogs}
use Rattle.totals.proofs.Totals.total_logs.Given as goal

abbrev pub invariant-loop-i : goal.invariant-loop-i
invariant-loop-i g l = OfSomeLogs l.self.all
