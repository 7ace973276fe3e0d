use Rattle.octets.specs.Sizes.{task_size, tasks_at}
use Rattle.steps.specs.Steps.{settled_record, behind_record, settled_bytes}
use Rattle.steps.proofs.InPlace.{Walking}
use Rattle.restate.proofs.settle.Given as goal

abbrev pub invariant-loop-i : goal.invariant-loop-i
invariant-loop-i l = Walking task_size settled_record behind_record tasks_at l.n l.fn.t (settled_bytes l.n l.fn.t) l.t l.o l.i
