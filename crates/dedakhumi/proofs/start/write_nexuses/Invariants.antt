use Rattle.octets.specs.Sizes.{nexus_size, nexuses_at}
use Rattle.rules.specs.Tasks.{nexuses}
use Rattle.steps.specs.Steps.{next_place}
use Rattle.steps.proofs.InPlace.{Walking}
use Rattle.dedakhumi.specs.FreshTable.{fresh_nexus, fresh_nexuses}
use Rattle.dedakhumi.proofs.start.write_nexuses.Given as goal

abbrev pub invariant-loop-i : goal.invariant-loop-i
invariant-loop-i l = Walking nexus_size fresh_nexus next_place nexuses_at nexuses l.fn.t (fresh_nexuses l.fn.t) l.t l.i l.i
