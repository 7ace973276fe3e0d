-- RULES 24.6 to 24.8 and 24.12: a log that is read in stretches, cut anywhere: what its bytes so far have come to.
--
--   wholes l, rest l     := how many whole records l begins with; the bytes behind them
--   SoFar l t c k        := where the log has been l so far, the table t, the counters c and the bytes k that are carried on are what they have to be
--   OfSomeLog c, OfSomeLogs c := the counters c show the tally of a log; of logs together
use Rattle.std.specs.Prelude.{ℕ, ◌*◌, ◌/◌, ◌≡◌, List, map, length, drop}
use Rattle.records.specs.Numbers.{policy_from}
use Rattle.records.specs.Records.{event_size}
use Rattle.records.specs.Tables.{table_bytes}
use Rattle.history.specs.History.{after}
use Rattle.tallies.specs.Tally.{events_of, tally_of, together, capped_tally}
use Rattle.tallies.specs.Counters.{tally_in}

-- RULES 24.12: what is left behind the whole records is carried on
abbrev pub wholes : List ℕ → ℕ
wholes l = length l / event_size

abbrev pub rest : List ℕ → List ℕ
rest l = drop (event_size * wholes l) l

-- RULES 24.6 to 24.8 and 24.12
pub record SoFar (l t c k : List ℕ) : Type 0 where
  pub table : t ≡ table_bytes (after (policy_from 0) (events_of l)).state
  pub counts : tally_in c ≡ capped_tally (tally_of l)
  pub carried : k ≡ rest l

-- RULES 24.6 to 24.8: which log, no contract can say: none speaks of the bytes that a read brings
abbrev pub OfSomeLog : List ℕ → Type 0
OfSomeLog c = (l : List ℕ) × (tally_in c ≡ capped_tally (tally_of l))

-- RULES 24.10: nor which logs
abbrev pub OfSomeLogs : List ℕ → Type 0
OfSomeLogs c = (ls : List (List ℕ)) × (tally_in c ≡ capped_tally (together (map tally_of ls)))
