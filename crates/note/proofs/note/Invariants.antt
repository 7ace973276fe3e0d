use Rattle.std.proofs.Common.{◌≡◌, drop}
use Rattle.octets.specs.Sizes.{nexus_size, nexuses_at, tasks_at}
use Rattle.rules.specs.Tasks.{nexuses}
use Rattle.steps.specs.Steps.{losers, noted_record, next_place, noted_bytes}
use Rattle.steps.proofs.InPlace.{Walking}
use Rattle.note.proofs.note.Given as goal

-- the tasks behind the nexus records, of which each turn asks who loses one, stay as they were
abbrev pub invariant-loop-i : goal.invariant-loop-i
invariant-loop-i l =
    Walking nexus_size (noted_record l.k (losers l.w l.n (drop tasks_at l.fn.t))) next_place nexuses_at nexuses l.fn.t
    (noted_bytes l.k (losers l.w l.n (drop tasks_at l.fn.t)) l.fn.t)
    l.t l.i l.i
    × (drop tasks_at l.t ≡ drop tasks_at l.fn.t)
