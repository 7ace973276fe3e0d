-- RULES 19: what the three operations give, for every input.
--
--   Outcome                := answer, ended count, and both buffers afterwards
--   outcome t r e          := apply the event bytes e to the table t with the report buffer r
--   named t                := name the task whose turn it is
--   Started, started t p   := start a fresh table in the buffer t under the policy byte p
--   AppliedAs, StartedAs   := what a result and the buffers at exit have to be
use Rattle.std.specs.Prelude.{ℕ, ◌≡◌, cond, List, [], eqb, length, Option, Some, None}
use Rattle.rules.specs.Rulings.{State, turn, fresh, ruled, answer_of, report_of}
use Rattle.rules.specs.Rules.{ruling}
use Rattle.records.specs.Numbers.{policy_fits, policy_from}
use Rattle.records.specs.Tables.{table_size, report_size, state_of, table_bytes, report_bytes, good_table}
use Rattle.records.specs.Events.{event_of}
use Rattle.rules.specs.Types.{Answer, Done, BadTable, BadReport, BadEvent, BadPolicy, Ruling, Keeps, Changes, Event, Named}
use Rattle.operations.specs.Types.{Applied, Naming}
use Rattle.operations.specs.AnswerNumbers.{writes_report}

-- Apply ------------------------------------------------------------------------------------------------------------------------------------

-- RULES 18.3, 19.1 and 19.2
pub record Outcome : Type 0 where
  pub answer : Answer
  pub ended : ℕ
  pub table : List ℕ
  pub report : List ℕ

-- RULES 18.3, 19.1 and 19.2: both buffers the same, none ended
abbrev pub refused : Answer → List ℕ → List ℕ → Outcome
refused a t r = record { answer = a; ended = 0; table = t; report = r }

-- RULES 19.1
abbrev pub table_after : List ℕ → State → Ruling → List ℕ
table_after t s (Keeps a) = t
table_after t s (Changes a c) = table_bytes (ruled s (Changes a c))

-- RULES 18.3
abbrev pub report_after : List ℕ → State → Ruling → List ℕ
report_after r s (Keeps a) = cond (writes_report a) (report_bytes []) r
report_after r s (Changes a c) = report_bytes (report_of s (Changes a c))

-- RULES 18.3, 19.1 and 19.2: as ruled
abbrev pub carried : List ℕ → List ℕ → State → Ruling → Outcome
carried t r s l =
    record { answer = answer_of l; ended = length (report_of s l); table = table_after t s l; report = report_after r s l }

-- RULES 19.3: the event (3); its nexus (4) is for the rules to refuse
abbrev pub on_event : List ℕ → List ℕ → Option Event → Outcome
on_event t r None = refused BadEvent t r
on_event t r (Some e) = carried t r (state_of t) (ruling (state_of t) e)

-- RULES 19.3: the table (1), the length of the report (2), then the event
unfoldable pub outcome : List ℕ → List ℕ → List ℕ → Outcome
outcome t r e =
    cond (good_table t) (cond (eqb (length r) report_size) (on_event t r (event_of e)) (refused BadReport t r)) (refused BadTable t r)

-- RULES 18.3 and 19.1 to 19.3: by a result and two buffers
pub record AppliedAs (o : Outcome) (a : Applied) (t r : List ℕ) : Type 0 where
  pub answer : a.answer ≡ o.answer
  pub ended : a.ended ≡ o.ended
  pub table : t ≡ o.table
  pub report : r ≡ o.report

-- Name -------------------------------------------------------------------------------------------------------------------------------------

-- RULES 19.4: answer and turn
abbrev pub naming : Answer → Option Named → Naming
naming a u = record { answer = a; turn = u }

-- RULES 19.4
unfoldable pub named : List ℕ → Naming
named t = cond (good_table t) (naming Done (turn (state_of t))) (naming BadTable None)

-- Start ------------------------------------------------------------------------------------------------------------------------------------

-- RULES 19.5
pub record Started : Type 0 where
  pub answer : Answer
  pub table : List ℕ

abbrev pub started_with : Answer → List ℕ → Started
started_with a t = record { answer = a; table = t }

-- RULES 19.5: the length (1), then the policy (9)
unfoldable pub started : List ℕ → ℕ → Started
started t p =
    cond (eqb (length t) table_size)
    (cond (policy_fits p) (started_with Done (table_bytes (fresh (policy_from p)))) (started_with BadPolicy t))
    (started_with BadTable t)

-- RULES 19.5: by a result and a buffer
pub record StartedAs (o : Started) (a : Answer) (t : List ℕ) : Type 0 where
  pub answer : a ≡ o.answer
  pub table : t ≡ o.table
