use Rattle.steps.proofs.ListedEnds.{Listing}
use Rattle.report.proofs.list_ends.Given as goal

abbrev pub invariant-loop-i : goal.invariant-loop-i
invariant-loop-i l = Listing l.w l.n l.t l.fn.report l.report l.m l.i
