use Rattle.std.proofs.Common.{arith}
use Rattle.logs.proofs.Walked.{ended_fit, piece_counted}
use Rattle.logs.proofs.play.Standing.play_one.Goals as goal

pub count_event-requires : goal.count_event-requires
count_event-requires c = ended_fit c.dedakhumi_apply-a.ensures (omega (arith, c.dedakhumi_apply-a.auto.report))

pub returns : goal.returns
returns c = piece_counted _ _ _ _ _ _ c.dedakhumi_apply-a.ensures c.count_event.ensures
