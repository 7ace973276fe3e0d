-- RULES 23: the mission's three demands and the waits, over the bytes that the operations are lent. Calls has the words for runs, Seen those for what a driver
-- sees, WorstCalls those for the longest waits, history/specs/History those for serial numbers, rules/specs/Refusals those for the answers 5 to 8.
--
--   Demand1             := every input has an answer; each number exactly where the rules give it; what is refused changes nothing
--   Demand2             := over any calls on a started table, answers, tables, reports and namings are those of the rules at every moment, and each
--                          accepted command is in the table or has ended, once, by serial number and as a driver's ledger shows it
--   turns_to_wait k       := by how many turns a task has ended that was accepted with k older ones
--   Demand3             := a task accepted with an attribute other than ACA, with k older tasks then, has ended by the 5 x (k + 1)th turn
--   EndedBy c x a b n   := under the policy byte c a task accepted with the attribute byte x, with a HEAD OF QUEUE tasks and b others in the table then, has
--                          ended by the nth turn
--   Holds f             := so have all with an attribute other than ACA by the turn that the figure f gives, by whether the task is HEAD OF QUEUE, a and b
--   WaitsRequested      := the customer's figure holds
--   WaitsLongest        := `longest` holds; and for all a and b that a table has room for, every policy and each attribute other than ACA, no lower figure does
--   TurnsToHave         := while no ACA is in effect, a table with tasks has a turn: the completion of the task that is named
use Rattle.std.specs.Prelude.{ℕ, ◌+◌, ◌*◌, ◌≤◌, ◌<◌, ◌≡◌, Bool, true, false, cond, List, [], ◌∷◌, ◌++◌, map, ◌↔◌, ◌⊎◌, eqb, length, get_or, replicate, Some, None}
use Rattle.octets.specs.Sizes.{aca_offset, first_offset}
use Rattle.rules.specs.Tasks.{places, nexuses}
use Rattle.rules.specs.Rulings.{turn, task_name}
use Rattle.rules.specs.Rules.{nexus_of}
use Rattle.rules.specs.Refusals.{Absent, Waits, EndsAtEntry, EntryStatus, RejectedBy}
use Rattle.records.specs.Numbers.{policy_fits, policy_from}
use Rattle.records.specs.Tables.{Bytes, table_size, report_size, count_in, GoodTable, state_of, table_bytes}
use Rattle.records.specs.Events.{event_of, IsEvent}
use Rattle.history.specs.History.{after, look, unstated, in_table, has_ended}
use Rattle.history.specs.Waits.{requested, longest}
use Rattle.operations.specs.Operations.{Outcome, outcome, naming, named, started}
use Rattle.rules.specs.Types.{Finish, Event, Policy, Done}
use Rattle.numbers.specs.Boundary.{answered, turn_for, start_number}
use Rattle.demands.specs.Calls.{Call, applied, table_by, events_in, command_task, opened, expected}
use Rattle.demands.specs.Seen.{event_name, heads_in, others_in, present_in, is_accepted, ended_in, listed_by, is_listed, is_turn_by, turns_by, ledger_by}
use Rattle.demands.specs.WorstCalls.{completion_of, StillThere}

-- 1 ----------------------------------------------------------------------------------------------------------------------------------------

-- RULES 23.1: the answer of apply, of name
abbrev pub number : List ℕ → List ℕ → List ℕ → ℕ
number t r e = (answered (outcome t r e)).answer

abbrev pub name_number : List ℕ → ℕ
name_number t = (turn_for (named t)).answer

-- RULES 19.3: none of 1 to 4 applies, and the event is v
pub record Reaches (t r e : List ℕ) (v : Event) : Type 0 where
  pub table : GoodTable t
  pub report : length r ≡ report_size
  pub event : event_of e ≡ Some v
  pub nexus : nexus_of v < nexuses

-- RULES 12.3, 18.2 and 19.2: what stands beside the answer
pub record Fields (o : Outcome) : Type 0 where
  pub no_status : ((answered o).answer ≡ 7 → ⊥) → (answered o).status ≡ 0
  pub status : (answered o).answer ≡ 7 → EntryStatus (answered o).status
  pub sense_zero : ((answered o).status ≡ 0x02 → ⊥) → ((answered o).key ≡ 0) × ((answered o).code ≡ 0) × ((answered o).qualifier ≡ 0)
  pub ended : ((answered o).answer ≡ 0) ⊎ ((answered o).answer ≡ 7) → (answered o).ended ≡ ended_in o.report
  pub none_ended : ((answered o).answer ≡ 0 → ⊥) → ((answered o).answer ≡ 7 → ⊥) → (answered o).ended ≡ 0

-- RULES 23.1 and 23.2: the first demand. That no caller is trusted to have looked first is met by the functions of dedakhumi/src/lib.rt having no `requires`:
-- what is said here of outcome, started and named for all lists they promise for all buffers.
pub record Demand1 : Type 0 where
  -- apply answers one of 0 to 8: each of 1 to 8 exactly where it applies, and so 0 exactly where none of them does
  pub some_answer : (t r e : List ℕ) → number t r e ≤ 8
  pub bad_table : (t r e : List ℕ) → (number t r e ≡ 1) ↔ (GoodTable t → ⊥)
  pub bad_report : (t r e : List ℕ) → (number t r e ≡ 2) ↔ (GoodTable t × (length r ≡ report_size → ⊥))
  pub bad_event : (t r e : List ℕ) → (number t r e ≡ 3) ↔ (GoodTable t × (length r ≡ report_size) × (event_of e ≡ None))
  pub no_event : (e : List ℕ) → Bytes e → (event_of e ≡ None) ↔ (IsEvent e → ⊥)
  pub bad_nexus : (t r e : List ℕ)
      → (number t r e ≡ 4) ↔ (GoodTable t × (length r ≡ report_size) × ((v : Event) × (event_of e ≡ Some v) × (nexuses ≤ nexus_of v)))
  pub no_such_task : (t r e : List ℕ) → (number t r e ≡ 5) ↔ ((v : Event) × Reaches t r e v × Absent (state_of t) v)
  pub not_enabled : (t r e : List ℕ) → (number t r e ≡ 6) ↔ ((v : Event) × Reaches t r e v × Waits (state_of t) v)
  pub at_entry : (t r e : List ℕ) → (number t r e ≡ 7) ↔ ((v : Event) × Reaches t r e v × EndsAtEntry (state_of t) v)
  pub rejected : (t r e : List ℕ) → (number t r e ≡ 8) ↔ ((v : Event) × Reaches t r e v × RejectedBy (state_of t) v)
  -- the buffers: under 1 to 6 both are the same; under 8 the table is, and the report is zeros
  pub unchanged : (t r e : List ℕ) → 1 ≤ number t r e → number t r e ≤ 6
      → ((outcome t r e).table ≡ t) × ((outcome t r e).report ≡ r)
  pub emptied : (t r e : List ℕ) → number t r e ≡ 8
      → ((outcome t r e).table ≡ t) × ((outcome t r e).report ≡ replicate report_size 0)
  pub fields : (t r e : List ℕ) → Fields (outcome t r e)
  -- start looks at length and policy
  pub start_length : (t : List ℕ) (p : ℕ) → (start_number t p ≡ 1) ↔ (length t ≡ table_size → ⊥)
  pub start_policy : (t : List ℕ) (p : ℕ) → (start_number t p ≡ 9) ↔ ((length t ≡ table_size) × (policy_fits p ≡ false))
  pub start_done : (t : List ℕ) (p : ℕ) → (start_number t p ≡ 0) ↔ ((length t ≡ table_size) × (policy_fits p ≡ true))
  pub start_unchanged : (t : List ℕ) (p : ℕ) → 1 ≤ start_number t p → (started t p).table ≡ t
  -- name looks at the table; nexus and tag are 0 where it names nothing, and so under 1
  pub name_table : (t : List ℕ) → (name_number t ≡ 1) ↔ (GoodTable t → ⊥)
  pub name_done : (t : List ℕ) → (name_number t ≡ 0) ↔ GoodTable t
  pub name_found : (t : List ℕ) → name_number t ≡ 1 → (turn_for (named t)).found ≡ false
  pub name_nothing : (t : List ℕ) → (turn_for (named t)).found ≡ false → ((turn_for (named t)).nexus ≡ 0) × ((turn_for (named t)).tag ≡ 0)

-- 2 ----------------------------------------------------------------------------------------------------------------------------------------

-- RULES 23.3 and 23.4: the second demand. The calls ms are any calls at all, also those that are refused: with a report buffer of another length, an event that
-- cannot be read, a nexus above 7.
pub record Demand2 : Type 0 where
  -- a fresh table is what start leaves where it answers 0, whatever stood there before
  pub begins : (t : List ℕ) (b : ℕ) → start_number t b ≡ 0 → (started t b).table ≡ opened (policy_from b)
  -- after any calls ms, and at the next call m
  pub table : (p : Policy) (ms : List Call) → table_by (opened p) ms ≡ table_bytes (after p (events_in ms)).state
  pub names : (p : Policy) (ms : List Call)
      → named (table_by (opened p) ms) ≡ naming Done (turn (after p (events_in ms)).state)
  pub answers : (p : Policy) (ms : List Call) (m : Call)
      → applied (table_by (opened p) ms) m ≡ expected (after p (events_in ms)).state m
  pub well : (p : Policy) (ms : List Call) → GoodTable (table_by (opened p) ms)
  -- by serial number: the commands accepted are the COMMANDs that apply answered 0
  pub lets_in : (p : Policy) (ms : List Call) (m : Call)
      → (after p (events_in (ms ++ (m ∷ [])))).roll
      ≡ (after p (events_in ms)).roll ++ cond (is_accepted (table_by (opened p) ms) m) (command_task (event_of m.event)) []
  -- each is in the table and has not ended, or is not in the table and has ended once; and it never comes back
  pub once : (p : Policy) (ms : List Call) (k : ℕ) → k < length (after p (events_in ms)).roll
      → ((in_table (after p (events_in ms)) k ≡ 1) × (has_ended (after p (events_in ms)) k ≡ 0))
      ⊎ ((in_table (after p (events_in ms)) k ≡ 0) × (has_ended (after p (events_in ms)) k ≡ 1))
  pub never_back : (p : Policy) (ms later : List Call) → (more : List ℕ)
      × ((after p (events_in (ms ++ later))).departed ≡ (after p (events_in ms)).departed ++ more)
  -- the tasks in the table's bytes are those of the commands present, and the records in all reports' bytes name those that ended, in order
  pub tasks_in_table : (p : Policy) (ms : List Call)
      → map unstated (state_of (table_by (opened p) ms)).tasks
      ≡ map (λ k. unstated (look (after p (events_in ms)).roll k)) (after p (events_in ms)).present
  pub reported : (p : Policy) (ms : List Call)
      → listed_by (opened p) ms ≡ map (λ k. task_name (look (after p (events_in ms)).roll k)) (after p (events_in ms)).departed
  -- as a port driver sees it, by bytes and answers alone: a ledger that gains the command of each COMMAND answered 0 and drops what each report
  -- lists holds at every moment just the table's tasks, oldest first, and no drop finds nobody
  pub ledger : (t : List ℕ) (b : ℕ) (ms : List Call) → start_number t b ≡ 0
      → ledger_by (started t b).table ms [] ≡ Some (present_in (table_by (started t b).table ms))

-- 3 ----------------------------------------------------------------------------------------------------------------------------------------

-- RULES 23.5: the bound
abbrev pub turns_to_wait : ℕ → ℕ
turns_to_wait k = 5 * (k + 1)

-- RULES 23.5: the third demand, by bytes and answers alone. The call m is a COMMAND answered 0 whose attribute byte is not 4; k is the task count in the
-- table's header before it; the calls `later` are any, HEAD OF QUEUE arrivals and refused ones included; the end is that a report of theirs lists its nexus and
-- tag. The first one that does is its own end, since the table holds it until then (demand 2, ledger) and takes no second task of that nexus and tag.
abbrev pub Demand3 : Type 0
Demand3 =
    (t : List ℕ) (b : ℕ) (ms : List Call) (m : Call) (later : List Call) → start_number t b ≡ 0
    → is_accepted (table_by (started t b).table ms) m ≡ true → (get_or m.event first_offset 0 ≡ 4 → ⊥)
    → turns_to_wait (count_in (table_by (started t b).table ms)) ≤ turns_by (table_by (started t b).table (ms ++ (m ∷ []))) later
    → is_listed (event_name m.event) (listed_by (table_by (started t b).table (ms ++ (m ∷ []))) later) ≡ true

-- The wait, by what is older ---------------------------------------------------------------------------------------------------------------

-- RULES 23.7 and 23.8: the end of one task, as demand 3 has it. a and b are read off the table's bytes before the call m.
abbrev pub EndedBy : ℕ → ℕ → ℕ → ℕ → ℕ → Type 0
EndedBy c x a b n =
    (t : List ℕ) (ms : List Call) (m : Call) (later : List Call) → start_number t c ≡ 0
    → is_accepted (table_by (started t c).table ms) m ≡ true → get_or m.event first_offset 0 ≡ x
    → heads_in (table_by (started t c).table ms) ≡ a → others_in (table_by (started t c).table ms) ≡ b
    → n ≤ turns_by (table_by (started t c).table (ms ++ (m ∷ []))) later
    → is_listed (event_name m.event) (listed_by (table_by (started t c).table (ms ++ (m ∷ []))) later) ≡ true

-- RULES 14.2, 23.7 and 23.8: of 0 SIMPLE, 1 HEAD OF QUEUE, 2 ORDERED and 4 ACA all but the last
abbrev pub Holds : (Bool → ℕ → ℕ → ℕ) → Type 0
Holds f = (c x a b : ℕ) → (x ≡ 4 → ⊥) → EndedBy c x a b (f (eqb x 1) a b)

-- RULES 23.7
abbrev pub WaitsRequested : Type 0
WaitsRequested = Holds requested

-- RULES 23.8 and 23.9. Of attribute bytes 0, 1 and 2; of policy bytes those that start takes.
pub record WaitsLongest : Type 0 where
  pub holds : Holds longest
  pub met : (t : List ℕ) (c x a b : ℕ) → start_number t c ≡ 0 → x ≤ 2 → a + b < places → StillThere (started t c).table x a b
  pub least : (c x a b n : ℕ) → policy_fits c ≡ true → x ≤ 2 → a + b < places → EndedBy c x a b n → longest (eqb x 1) a b ≤ n

-- RULES 23.10: without it a box that names nobody would keep every wait
abbrev pub TurnsToHave : Type 0
TurnsToHave =
    (t : List ℕ) (c : ℕ) (ms : List Call) (f : Finish) → start_number t c ≡ 0 → get_or (table_by (started t c).table ms) aca_offset 0 ≡ 0
    → 1 ≤ count_in (table_by (started t c).table ms)
    → is_turn_by (table_by (started t c).table ms) (completion_of (turn_for (named (table_by (started t c).table ms))) f) ≡ true
