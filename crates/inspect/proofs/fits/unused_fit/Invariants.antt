use Rattle.std.proofs.Common.{◌≡◌, ◌-◌, ◌+◌, ◌*◌, ◌&&◌, eqb, drop}
use Rattle.octets.specs.Sizes.{task_size, tasks_at}
use Rattle.rules.specs.Tasks.{places}
use Rattle.records.specs.Tables.{unused_fit}
use Rattle.inspect.proofs.fits.unused_fit.Given as goal

abbrev pub invariant-loop-i : goal.invariant-loop-i
invariant-loop-i l =
    (eqb l.unlike 0 && unused_fit (places - l.i) (drop (tasks_at + task_size * l.i) l.t)) ≡ unused_fit (places - l.n) (drop (tasks_at + task_size * l.n) l.t)
