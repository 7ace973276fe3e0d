use Rattle.std.proofs.Common.{◌≡◌, ◌-◌, ◌+◌, ◌*◌, drop}
use Rattle.octets.specs.Sizes.{task_size, tasks_at}
use Rattle.decide.specs.OlderTasks.{no_older}
use Rattle.inspect.specs.TableTest.{used_fit}
use Rattle.inspect.proofs.fits.used_fit.Given as goal

abbrev pub invariant-loop-i : goal.invariant-loop-i
invariant-loop-i l =
    used_fit (l.n - l.i) l.aca l.o (drop (tasks_at + task_size * l.i) l.t) ≡ used_fit l.n l.aca no_older (drop tasks_at l.t)
