-- Computed, over bytes: a run that meets every hypothesis of demands 2 and 3, with five turns and five ends in its reports. It is an example.
use Prim.Native.Nat.{ℕ}
use mathlib.Core.Bool.{true, false}
use mathlib.Core.Path.{◌≡◌, refl}
use mathlib.Core.List.{List, [], ◌∷◌, ◌++◌}
use lib.ListN.{replicate}
use Rattle.rules.specs.Types.{Named}
use Rattle.rules.specs.Tasks.{whose_turn}
use Rattle.rules.specs.Rulings.{fresh}
use Rattle.rules.specs.Rules.{new_task, enter, complete, rule_for, ruling}
use Rattle.rules.specs.Well.{well_formed}
use Rattle.records.specs.Numbers.{tag_bytes}
use Rattle.records.specs.Events.{event_from, event_of}
use Rattle.records.specs.Tables.{table_size, report_size, count_in, tasks_from, pendings_from, state_of, nexus_records, unused_records, table_with, table_bytes, report_bytes, nexuses_fit, tasks_fit, unused_fit, good_table}
use Rattle.operations.specs.Operations.{outcome, named, started}
use Rattle.numbers.specs.Boundary.{start_number}
use Rattle.demands.specs.Calls.{Call, applied, table_by}
use Rattle.demands.specs.Seen.{event_name, heads_in, others_in, present_in, is_accepted, listed_by, is_listed, is_turn_by, turns_by}

-- a COMMAND of nexus n with tag g, attribute a, exempt; a COMPLETION with GOOD; a piece that is too short to be an event
abbrev command : ℕ → ℕ → ℕ → Call
command n g a = record { event = 0x54 ∷ 0x56 ∷ 1 ∷ n ∷ a ∷ 2 ∷ tag_bytes g; report = replicate report_size 0xEE }

abbrev completion : ℕ → ℕ → Call
completion n g = record { event = 0x54 ∷ 0x56 ∷ 2 ∷ n ∷ 0 ∷ 0 ∷ tag_bytes g; report = replicate report_size 0xEE }

abbrev short : Call
short = record { event = 0x54 ∷ 0x56 ∷ []; report = [] }

-- a buffer that start is lent, whatever stands in it
abbrev lent : List ℕ
lent = replicate table_size 0xEE

abbrev table : List ℕ
table = (started lent 0).table

-- case K: 0.1 S, and a new HEAD OF QUEUE task before each turn; a refused call between
abbrev four_turns : List Call
four_turns =
    command 1 1 1 ∷ completion 1 1
    ∷ command 1 2 1
    ∷ completion 1 2
    ∷ short
    ∷ command 1 3 1
    ∷ completion 1 3
    ∷ command 1 4 1
    ∷ completion 1 4
    ∷ []

abbrev fifth_turn : List Call
fifth_turn = four_turns ++ (command 1 9 1 ∷ completion 0 1 ∷ [])

abbrev waiting : List ℕ
waiting = (applied table (command 0 1 0)).table

abbrev name : ℕ → ℕ → Named
name n g = record { nexus = n; tag = g }

pub record Witnessed : Type 0 where
  pub begins : start_number lent 0 ≡ 0
  pub accepted : is_accepted table (command 0 1 0) ≡ true
  pub none_older : count_in table ≡ 0
  -- a and b, with a HEAD OF QUEUE and an ORDERED task in the table
  pub one_head : heads_in (table_by table (command 1 1 1 ∷ command 1 2 2 ∷ [])) ≡ 1
  pub one_other : others_in (table_by table (command 1 1 1 ∷ command 1 2 2 ∷ [])) ≡ 1
  -- four turns are not enough, and the fifth is
  pub four : turns_by waiting four_turns ≡ 4
  pub still_there : is_listed (event_name (command 0 1 0).event) (listed_by waiting four_turns) ≡ false
  pub five : turns_by waiting fifth_turn ≡ 5
  -- what the reports list, in the order of the ends, and whom the table holds then
  pub listed : listed_by waiting fifth_turn ≡ name 1 1 ∷ name 1 2 ∷ name 1 3 ∷ name 1 4 ∷ name 0 1 ∷ []
  pub present : present_in (table_by waiting fifth_turn) ≡ name 1 9 ∷ []

pub witnessed : Witnessed
unfolding whose_turn fresh new_task enter complete rule_for ruling well_formed event_from event_of tasks_from pendings_from state_of nexus_records unused_records table_with table_bytes report_bytes nexuses_fit tasks_fit unused_fit good_table outcome named started is_turn_by
witnessed =
    record {
      begins = refl;
      accepted = refl;
      none_older = refl;
      one_head = refl;
      one_other = refl;
      four = refl;
      still_there = refl;
      five = refl;
      listed = refl;
      present = refl;
    }
