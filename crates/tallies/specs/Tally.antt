-- RULES 24.6 to 24.11: what a log adds up to, over the history of its events (history/specs/History).
--
--   events_from n l, events_of l := the events of the first n pieces of the bytes l; of all of them
--   statuses               := how many status bytes there are
--   Tally                  := accepted, ends and ends at entry by status byte, the largest task count, tasks left
--   each_from n s f, by_status f := f of the n numbers from s on; of each status byte, in rising order
--   ends_with h s           := how many of the ended records of the past h have the status s
--   entries_with s h es     := how many of the events es, behind the past h, are commands ended at entry with the status s
--   largest_over h es       := the largest task count after one of the events es, behind the past h
--   tally_over p es, tally_of l  := the tally of events from a fresh table under the policy p; of a log
--   no_tally, plus a b      := the tally of no log; of two logs
--   onward a ts, together ts := of the logs of a and those of the tallies ts; of those alone
--   sum ns                 := the numbers ns added up
--   capped n, capped_tally t := what a counter of 64 bits shows of n; what such counters show of a tally
use Rattle.std.specs.Prelude.{ℕ, zero, suc, ◌+◌, ◌-◌, ◌^◌, max, min, Bool, ◌&&◌, List, [], ◌∷◌, ◌++◌, map, eqb, length, take, drop, replicate}
use Rattle.laws.specs.Lists.{one_if, count}
use Rattle.rules.specs.Types.{Event, Policy, Ended, Answer}
use Rattle.rules.specs.Rulings.{fresh}
use Rattle.rules.specs.Rules.{answer}
use Rattle.records.specs.Numbers.{policy_from}
use Rattle.records.specs.Records.{event_size}
use Rattle.records.specs.Events.{event_of, pieces}
use Rattle.history.specs.History.{Past, begin, advance, after}
use Rattle.operations.specs.AnswerNumbers.{said}
use Rattle.demands.specs.Calls.{read_in}

-- RULES 24.3, 24.4 and 24.6: piece by piece; a bad event, as a short last piece is, is none
unfoldable pub events_from : ℕ → List ℕ → List Event
events_from zero l = []
events_from (suc n) l = read_in (event_of (take event_size l)) ++ events_from n (drop event_size l)

abbrev pub events_of : List ℕ → List Event
events_of l = events_from (pieces (length l)) l

-- RULES 24.7: a status is a byte
abbrev pub statuses : ℕ
statuses = 256

-- RULES 24.7: the numbers of a block; ends and entry hold one for each status byte, from 00h on
pub record Tally : Type 0 where
  pub accepted : ℕ
  pub ends : List ℕ
  pub entry : List ℕ
  pub largest : ℕ
  pub left : ℕ

-- RULES 24.7: in rising order
unfoldable pub each_from : ℕ → ℕ → (ℕ → ℕ) → List ℕ
each_from zero s f = []
each_from (suc n) s f = f s ∷ each_from n (suc s) f

abbrev pub by_status : (ℕ → ℕ) → List ℕ
by_status f = each_from statuses 0 f

-- RULES 24.7: ended records of all reports, those under answer 7 too
abbrev pub has_status : ℕ → Ended → Bool
has_status s d = eqb d.status s

abbrev pub ends_with : Past → ℕ → ℕ
ends_with h s = count (has_status s) h.log

-- RULES 24.7: answers 7
abbrev pub is_entry_with : ℕ → Answer → Bool
is_entry_with s a = eqb (said a).number 7 && eqb (said a).status s

abbrev pub entries_with : ℕ → Past → List Event → ℕ
entries_with s h [] = 0
entries_with s h (e ∷ es) = one_if (is_entry_with s (answer h.state e)) + entries_with s (advance h e) es

-- RULES 24.7: after an event, and 0 where there is none
abbrev pub largest_over : Past → List Event → ℕ
largest_over h [] = 0
largest_over h (e ∷ es) = max (length (advance h e).state.tasks) (largest_over (advance h e) es)

-- RULES 24.7: accepted and ends by the history, not by the table
abbrev pub tally_over : Policy → List Event → Tally
tally_over p es =
    record {
      accepted = length (after p es).roll;
      ends = by_status (ends_with (after p es));
      entry = by_status (λ s. entries_with s (begin (fresh p)) es);
      largest = largest_over (begin (fresh p)) es;
      left = length (after p es).state.tasks;
    }

-- RULES 24.6: policy 00h
abbrev pub tally_of : List ℕ → Tally
tally_of l = tally_over (policy_from 0) (events_of l)

-- RULES 24.10: sums, but the largest of the largest
abbrev pub no_tally : Tally
no_tally = record { accepted = 0; ends = replicate statuses 0; entry = replicate statuses 0; largest = 0; left = 0 }

unfoldable pub sums : List ℕ → List ℕ → List ℕ
sums [] ns = []
sums (m ∷ ms) [] = []
sums (m ∷ ms) (n ∷ ns) = (m + n) ∷ sums ms ns

abbrev pub plus : Tally → Tally → Tally
plus a b =
    record {
      accepted = a.accepted + b.accepted;
      ends = sums a.ends b.ends;
      entry = sums a.entry b.entry;
      largest = max a.largest b.largest;
      left = a.left + b.left;
    }

-- RULES 24.10: one log after the other
abbrev pub onward : Tally → List Tally → Tally
onward a [] = a
onward a (t ∷ ts) = onward (plus a t) ts

abbrev pub together : List Tally → Tally
together ts = onward no_tally ts

-- RULES 24.8: ends of every status
abbrev pub sum : List ℕ → ℕ
sum [] = 0
sum (n ∷ ns) = n + sum ns

-- RULES 24.11: a counter stays at its greatest number
abbrev pub capped : ℕ → ℕ
capped n = min n (2 ^ 64 - 1)

abbrev pub capped_tally : Tally → Tally
capped_tally t =
    record {
      accepted = capped t.accepted;
      ends = map capped t.ends;
      entry = map capped t.entry;
      largest = capped t.largest;
      left = capped t.left;
    }
