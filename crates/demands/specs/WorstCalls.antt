-- RULES 23.9 and 23.10: events as calls; the worst cases of history/specs/Waits so, and what a driver sees of them: one turn before the figure the task is still
-- there.
--
--   call_of e            := a call with the record of the event e, and a report buffer of zeros
--   completion_of u f    := a call with the completion, with the status of f, of the task that name answered
--   call_itself x        := the call that brings the task itself, 2.0, with the attribute byte x
--   calls_before x a b   := the calls before that one, which bring a HEAD OF QUEUE tasks and b others
--   calls_begun x a b    := both
--   calls_since x a b    := the calls behind it
--   call_end f           := the call with the completion of the task itself
--   StillThere t x a b  := in this run from the started table t the task is in the table one turn before the figure, and the next turn is its own
use Rattle.std.specs.Prelude.{ℕ, ◌+◌, ◌≡◌, true, false, List, [], ◌∷◌, ◌++◌, map, eqb, get_or, replicate}
use Rattle.octets.specs.Sizes.{first_offset}
use Rattle.rules.specs.Types.{Finish, Event, Completion}
use Rattle.records.specs.Numbers.{attribute_from}
use Rattle.records.specs.Tables.{report_size}
use Rattle.records.specs.Events.{event_bytes}
use Rattle.history.specs.Waits.{longest, itself, exempt_command, worst_before, worst_since}
use Rattle.numbers.specs.declared.NamedTurn.{NamedTurn}
use Rattle.demands.specs.Calls.{Call, table_by}
use Rattle.demands.specs.Seen.{event_name, heads_in, others_in, present_in, is_accepted, listed_by, is_listed, is_turn_by, turns_by}

-- RULES 16 and 22.1: an event as a driver sends it
abbrev pub call_of : Event → Call
call_of e = record { event = event_bytes e; report = replicate report_size 0 }

-- RULES 16.2 and 22.3: the completion of whom name names
abbrev pub completion_of : NamedTurn → Finish → Call
completion_of u f = call_of (Completion u.nexus u.tag f)

-- RULES 23.9: the task itself, before it, since it, its end
abbrev pub call_itself : ℕ → Call
call_itself x = call_of (exempt_command itself.nexus itself.tag (attribute_from x))

abbrev pub calls_before : ℕ → ℕ → ℕ → List Call
calls_before x a b = map call_of (worst_before (eqb x 1) a b)

abbrev pub calls_begun : ℕ → ℕ → ℕ → List Call
calls_begun x a b = calls_before x a b ++ (call_itself x ∷ [])

abbrev pub calls_since : ℕ → ℕ → ℕ → List Call
calls_since x a b = map call_of (worst_since (eqb x 1) a b)

abbrev pub call_end : Finish → Call
call_end f = call_of (Completion itself.nexus itself.tag f)

-- RULES 23.9: by bytes and answers alone
pub record StillThere (t : List ℕ) (x a b : ℕ) : Type 0 where
  -- it is accepted, as 2.0 and with the attribute byte x, with a HEAD OF QUEUE tasks and b others in the table
  pub called : event_name (call_itself x).event ≡ itself
  pub asked : get_or (call_itself x).event first_offset 0 ≡ x
  pub accepted : is_accepted (table_by t (calls_before x a b)) (call_itself x) ≡ true
  pub heads : heads_in (table_by t (calls_before x a b)) ≡ a
  pub others : others_in (table_by t (calls_before x a b)) ≡ b
  -- one turn before the figure no report has listed it, and the table has it
  pub turns : turns_by (table_by t (calls_begun x a b)) (calls_since x a b) + 1 ≡ longest (eqb x 1) a b
  pub unlisted : is_listed itself (listed_by (table_by t (calls_begun x a b)) (calls_since x a b)) ≡ false
  pub present : is_listed itself (present_in (table_by t (calls_begun x a b ++ calls_since x a b))) ≡ true
  -- and the next turn is its own
  pub next : (f : Finish) → is_turn_by (table_by t (calls_begun x a b ++ calls_since x a b)) (call_end f) ≡ true
