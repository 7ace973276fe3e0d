use Rattle.steps.proofs.Closes.{Keeping}
use Rattle.close.proofs.keep.Given as goal

abbrev pub invariant-loop-i : goal.invariant-loop-i
invariant-loop-i l = Keeping l.w l.n l.fn.t l.t l.k l.i
