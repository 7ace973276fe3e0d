use Rattle.std.proofs.Common.{◌≡◌, ◌-◌, ◌/◌, length, drop}
use Rattle.std.specs.Slice.Iter.{chunks_exact_rest, chunks_exact_size}
use Rattle.records.specs.Records.{event_size}
use Rattle.logs.specs.Walking.{walk_over}
use Rattle.logs.proofs.play.play_from.Given as goal

abbrev pub invariant-loop-event : goal.invariant-loop-event
invariant-loop-event l =
    record {
      can : (goal.iterator-loop-event).can_next l.event-iterator;
      finite : (goal.iterator-loop-event).is_finite l.event-iterator;
      size : chunks_exact_size l.event-iterator ≡ event_size;
      walked :
          walk_over (length (chunks_exact_rest l.event-iterator) / event_size) l.standing (chunks_exact_rest l.event-iterator)
          ≡ walk_over ((length l.stretch - l.at) / event_size) l.fn.standing (drop l.at l.stretch);
    }
