use Rattle.std.proofs.Common.{◌≡◌, ◌-◌, ◌+◌, ◌*◌, drop}
use Rattle.laws.specs.Lists.{any}
use Rattle.octets.specs.Sizes.{task_size, tasks_at}
use Rattle.rules.specs.Tasks.{of_nexus}
use Rattle.steps.specs.Steps.{losers}
use Rattle.note.proofs.loses.Given as goal

-- none before the j-th is one that it loses
abbrev pub invariant-loop-j : goal.invariant-loop-j
invariant-loop-j l =
    any (of_nexus l.i) (losers l.w (l.n - l.j) (drop (tasks_at + task_size * l.j) l.t))
    ≡ any (of_nexus l.i) (losers l.w l.n (drop tasks_at l.t))
