use Rattle.files.proofs.Turns.{read_on}
use Rattle.files.proofs.tally_log.Goals as goal

pub loop-preserved : goal.loop-preserved
loop-preserved g c =
    let read = c.in_ok-more.ensures in
    read_on _ _ _ _ _ _ c.loop.invariant c.read_behind.auto.stretch read.within read.carried c.take_in-kept.auto.buffer c.take_in-kept.ensures.taken
