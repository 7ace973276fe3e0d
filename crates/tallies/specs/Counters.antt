-- Believed by nobody: code's own way of walking, proved equal to what the rules say (docs/TRUST.md).
-- The counters as one list: ends by status, ends at entry by status, accepted, largest, left.
--
--   entry_at, accepted_at, largest_at, left_at, counters := where the counters of entry begin, and the others stand; how many there are
--   tally_in c              := the tally that the counters show
--   once_more k c           := the counters with one more in the kth
--   count_ends n r c        := with the first n records of the report r
--   count_entry a st c, count_accepted k a c := with what the answer a and the status st say of entry; with what the kind k and the answer a say
--   count_left n c, count_largest c := with n tasks left; with the largest, where as many are left as the counters say
--   count_event a k r n c   := with all that an event of the kind k adds that got the answer a, the report r and the task count n
--   both_at k m n, add_counters k a b := the kth counter of two logs together; the counters of two logs together, from the kth on
use Rattle.std.specs.Prelude.{ℕ, zero, suc, ◌+◌, max, cond, ◌&&◌, List, [], ◌∷◌, eqb, get_or, take, drop, set}
use Rattle.octets.specs.Sizes.{status_offset}
use Rattle.records.specs.Records.{ended_size}
use Rattle.numbers.specs.declared.Answered.{Answered}
use Rattle.tallies.specs.Tally.{statuses, Tally, capped}

abbrev pub entry_at : ℕ
entry_at = statuses

abbrev pub accepted_at : ℕ
accepted_at = entry_at + statuses

abbrev pub largest_at : ℕ
largest_at = accepted_at + 1

abbrev pub left_at : ℕ
left_at = largest_at + 1

abbrev pub counters : ℕ
counters = left_at + 1

abbrev pub tally_in : List ℕ → Tally
tally_in c =
    record {
      accepted = get_or c accepted_at 0;
      ends = take statuses c;
      entry = take statuses (drop entry_at c);
      largest = get_or c largest_at 0;
      left = get_or c left_at 0;
    }

unfoldable pub once_more : ℕ → List ℕ → List ℕ
once_more k c = set c k (capped (get_or c k 0 + 1))

unfoldable pub count_ends : ℕ → List ℕ → List ℕ → List ℕ
count_ends zero r c = c
count_ends (suc n) r c = count_ends n (drop ended_size r) (once_more (get_or r status_offset 0) c)

unfoldable pub count_entry : ℕ → ℕ → List ℕ → List ℕ
count_entry a st c = cond (eqb a 7) (once_more (entry_at + st) c) c

unfoldable pub count_accepted : ℕ → ℕ → List ℕ → List ℕ
count_accepted kind a c = cond (eqb kind 1 && eqb a 0) (once_more accepted_at c) c

unfoldable pub count_left : ℕ → List ℕ → List ℕ
count_left n c = set c left_at n

unfoldable pub count_largest : List ℕ → List ℕ
count_largest c = set c largest_at (max (get_or c largest_at 0) (get_or c left_at 0))

unfoldable pub count_event : Answered → ℕ → List ℕ → ℕ → List ℕ → List ℕ
count_event a kind r n c = count_largest (count_left n (count_accepted kind a.answer (count_entry a.answer a.status (count_ends a.ended r c))))

abbrev pub both_at : ℕ → ℕ → ℕ → ℕ
both_at k m n = cond (eqb k largest_at) (max m n) (capped (m + n))

unfoldable pub add_counters : ℕ → List ℕ → List ℕ → List ℕ
add_counters k [] ns = []
add_counters k (m ∷ ms) [] = m ∷ ms
add_counters k (m ∷ ms) (n ∷ ns) = both_at k m n ∷ add_counters (suc k) ms ns
