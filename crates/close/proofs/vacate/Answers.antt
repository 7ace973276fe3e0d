use Rattle.std.proofs.Common.{refl, arith}
use Rattle.steps.specs.Steps.{vacated_bytes}
use Rattle.steps.proofs.InPlace.{walk_on, walk_ends}
use Rattle.close.proofs.vacate.Goals as goal

pub loop-i-init : goal.loop-i-init
unfolding vacated_bytes
loop-i-init c = record { room = omega arith; long = refl; passed = omega arith; rest = refl }

pub loop-i-preserved : goal.loop-i-preserved
unfolding vacated_bytes
loop-i-preserved c = walk_on c.loop-i.invariant c.loop-i-test.true refl (rw (c.put_record.ensures, c.unused_bytes.ensures)) refl

pub returns : goal.returns
returns c = walk_ends c.loop-i.invariant (omega arith)
