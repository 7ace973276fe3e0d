use Rattle.octets.specs.Sizes.{task_size, tasks_at}
use Rattle.steps.specs.Steps.{blocked_record, next_place, blocked_bytes}
use Rattle.steps.proofs.InPlace.{Walking}
use Rattle.restate.proofs.block.Given as goal

abbrev pub invariant-loop-i : goal.invariant-loop-i
invariant-loop-i l = Walking task_size blocked_record next_place tasks_at l.n l.fn.t (blocked_bytes l.n l.fn.t) l.t l.i l.i
