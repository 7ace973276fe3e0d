use Rattle.std.proofs.Common.{refl, arith}
use Rattle.steps.proofs.InPlace.{walk_begins, walk_on, walk_ends}
use Rattle.dedakhumi.specs.FreshTable.{fresh_nexuses}
use Rattle.dedakhumi.proofs.start.write_nexuses.Goals as goal

pub loop-i-init : goal.loop-i-init
unfolding fresh_nexuses
loop-i-init c = walk_begins _ _ (omega arith)

pub loop-i-preserved : goal.loop-i-preserved
unfolding fresh_nexuses
loop-i-preserved c =
    walk_on c.loop-i.invariant c.loop-i-test.true refl
    (rw (c.put_record.ensures, c.nexus_bytes.ensures, c.after_power_on.ensures))
    refl

pub returns : goal.returns
returns c = walk_ends c.loop-i.invariant (omega arith)
