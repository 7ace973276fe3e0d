use Rattle.std.proofs.Common.{◌≡◌, ◌+◌, ◌*◌, ◌≤◌, length, take}
use Rattle.std.specs.Slice.Iter.{chunks_rest, chunks_size}
use Rattle.records.specs.Records.{event_size}
use Rattle.records.specs.Events.{pieces}
use Rattle.player.specs.Played.{behind, played}
use Rattle.player.proofs.play.play.Given as goal

abbrev pub invariant-loop-event : goal.invariant-loop-event
invariant-loop-event l =
    record {
      can : (goal.iterator-loop-event).can_next l.event-iterator;
      finite : (goal.iterator-loop-event).is_finite l.event-iterator;
      size : chunks_size l.event-iterator ≡ event_size;
      same : l.out.buffer.ghost_name ≡ l.initial.out.buffer.ghost_name;
      long : length l.out.buffer.now ≡ length l.fn.buffer;
      room : l.out.at + 20 * pieces (length (chunks_rest l.event-iterator)) ≤ length l.fn.buffer;
      played_on :
          behind (take l.out.at l.out.buffer.now) (played (pieces (length (chunks_rest l.event-iterator))) l.table l.report (chunks_rest l.event-iterator))
          ≡ played (pieces (length l.events)) l.fn.table l.fn.report l.events;
    }
