use Rattle.std.proofs.Common.{refl}
use Rattle.files.proofs.Turns.{so_far_at_first}
use Rattle.files.proofs.tally_open.Goals as goal

pub tally_log-requires-clause-so_far : goal.tally_log-requires-clause-so_far
tally_log-requires-clause-so_far g c = so_far_at_first _ _ _ _ refl c.dedakhumi_start.ensures refl
