use Rattle.std.proofs.Common.{◌≡◌, ◌-◌, ◌+◌, ◌*◌, Bool, drop}
use Rattle.laws.specs.Lists.{first}
use Rattle.octets.specs.Sizes.{task_size, tasks_at}
use Rattle.rules.specs.Types.{Task}
use Rattle.decide.specs.Searches.{Tests}
use Rattle.records.specs.Tables.{tasks_from}
use Rattle.find.proofs.search.Given as goal

abbrev pub invariant-loop-i : goal.invariant-loop-i
invariant-loop-i g l =
    (p : Task → Bool) → Tests (goal.F-post g l.fn.wants) p
    → first p (tasks_from (l.n - l.i) (drop (tasks_at + task_size * l.i) l.t)) ≡ first p (tasks_from l.n (drop tasks_at l.t))
