use Rattle.std.proofs.Common.{◌-◌}
use Rattle.octets.specs.Sizes.{task_size, tasks_at}
use Rattle.steps.specs.Steps.{cleared_record, next_place, vacated_bytes}
use Rattle.steps.proofs.InPlace.{Walking}
use Rattle.close.proofs.vacate.Given as goal

abbrev pub invariant-loop-i : goal.invariant-loop-i
invariant-loop-i l = Walking task_size cleared_record next_place tasks_at l.n l.fn.t (vacated_bytes l.from (l.n - l.from) l.fn.t) l.t l.i l.i
