use Rattle.std.proofs.Common.{length, ◌-◌, ◌≤◌}
use Rattle.player.proofs.streams.read_events.Given as goal

abbrev pub invariant-loop-done : goal.invariant-loop-done
invariant-loop-done g l = l.done ≤ length l.events

abbrev pub decreases-loop-done : goal.decreases-loop-done
decreases-loop-done g l = length l.initial.events - l.done
