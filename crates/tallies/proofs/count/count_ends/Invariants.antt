use Rattle.std.proofs.Common.{◌≡◌, ◌≤◌, ◌*◌, length}
use Rattle.std.specs.Iterator.Adapters.{take_source, take_count}
use Rattle.std.specs.Slice.Iter.{chunks_exact_rest, chunks_exact_size}
use Rattle.records.specs.Records.{ended_size}
use Rattle.tallies.specs.Counters.{counters, count_ends}
use Rattle.tallies.proofs.count.count_ends.Given as goal

abbrev pub invariant-loop-ended : goal.invariant-loop-ended
invariant-loop-ended l =
    record {
      can : (goal.iterator-loop-ended).can_next l.ended-iterator;
      finite : (goal.iterator-loop-ended).is_finite l.ended-iterator;
      long : length l.counts ≡ counters;
      whole : chunks_exact_size (take_source l.ended-iterator) ≡ ended_size;
      within : ended_size * take_count l.ended-iterator ≤ length (chunks_exact_rest (take_source l.ended-iterator));
      counted :
          count_ends (take_count l.ended-iterator) (chunks_exact_rest (take_source l.ended-iterator)) l.counts ≡ count_ends l.n l.report l.fn.counts;
    }
