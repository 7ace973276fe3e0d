-- RULES 22.1: runs over bytes: what the port driver lends, call after call, and what the rules say of it.
--
--   Call                := the event bytes and the report buffer that one call of apply is lent, whatever they hold and however long they are
--   applied t m         := what that call gives on the table t
--   table_by t ms        := the table after the calls ms
--   heard m             := the event of a call, as a list of one or none: none where apply answers 2 or 3, and the rules are not asked
--   events_in ms         := the events of ms that the rules are asked
--   command_task o       := the task of a COMMAND, as a list of one or none: none of any other event
--   opened p            := a started table under the policy p
--   expected s m        := what the rules say of a call, in the state s
use Rattle.std.specs.Prelude.{ℕ, Bool, true, false, cond, List, [], ◌∷◌, ◌++◌, eqb, length, Option, Some, None}
use Rattle.rules.specs.Rulings.{State, fresh}
use Rattle.rules.specs.Rules.{new_task, step, answer, report}
use Rattle.records.specs.Tables.{report_size, table_bytes, report_bytes}
use Rattle.records.specs.Events.{event_of}
use Rattle.operations.specs.AnswerNumbers.{writes_report}
use Rattle.operations.specs.Operations.{Outcome, refused, outcome}
use Rattle.rules.specs.Types.{Task, Event, Command, Completion, Management, Condition, Policy, BadReport, BadEvent}

-- RULES 22.1: any bytes
pub record Call : Type 0 where
  pub event : List ℕ
  pub report : List ℕ

-- RULES 22.1: a call, and calls one after the other
abbrev pub applied : List ℕ → Call → Outcome
applied t m = outcome t m.report m.event

abbrev pub table_by : List ℕ → List Call → List ℕ
table_by t [] = t
table_by t (m ∷ ms) = table_by (applied t m).table ms

-- RULES 22.1: answers 2 and 3 are not put to the rules
abbrev pub read_in : Option Event → List Event
read_in None = []
read_in (Some e) = e ∷ []

abbrev pub heard_if : Bool → Option Event → List Event
heard_if true o = read_in o
heard_if false o = []

abbrev pub heard : Call → List Event
heard m = heard_if (eqb (length m.report) report_size) (event_of m.event)

abbrev pub events_in : List Call → List Event
events_in [] = []
events_in (m ∷ ms) = heard m ++ events_in ms

-- RULES 5.14: the task that a COMMAND comes in as
abbrev pub command_task : Option Event → List Task
command_task None = []
command_task (Some (Command c)) = new_task c ∷ []
command_task (Some (Completion n g f)) = []
command_task (Some (Management n f)) = []
command_task (Some (Condition c)) = []

-- RULES 4.2: a fresh set, as bytes
unfoldable pub opened : Policy → List ℕ
opened p = table_bytes (fresh p)

-- RULES 18.3, 19.1 to 19.3 and 23.3: the rules' own state, statuses, senses, ended records; a nexus above 7 is theirs to refuse
abbrev pub expected_on : State → List ℕ → Option Event → Outcome
expected_on s r None = refused BadEvent (table_bytes s) r
expected_on s r (Some e) =
    record {
      answer = answer s e;
      ended = length (report s e);
      table = table_bytes (step s e);
      report = cond (writes_report (answer s e)) (report_bytes (report s e)) r;
    }

abbrev pub expected_if : Bool → State → List ℕ → Option Event → Outcome
expected_if true s r o = expected_on s r o
expected_if false s r o = refused BadReport (table_bytes s) r

abbrev pub expected : State → Call → Outcome
expected s m = expected_if (eqb (length m.report) report_size) s m.report (event_of m.event)
