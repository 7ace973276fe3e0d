-- RULES 21: sequences of events over the rules: what an accepted command's life is, and what a turn is.
--
--   Past                := a state with its past. A command's serial number is its place in the roll of those accepted
--   begin s             := no event yet
--   advance h e         := one event more
--   play h es           := the events es, one after the other
--   after p es          := the events es from a fresh table under the policy p
--   look roll k         := the task that the command with serial number k came in as
--   unstated t          := the task apart from its state, which goes on changing
--   accepted s e        := the task that the event lets in, as a list of one or none
--   in_table h k, has_ended h k  := how often the command with serial number k is in the table, and has ended
--   is_turn s e          := the event is a turn
--   turns h es          := how many of the events es are turns
use Rattle.std.specs.Prelude.{ℕ, suc, ◌+◌, Bool, true, false, ◌&&◌, List, [], ◌∷◌, ◌++◌, eqb, length, get_or}
use Rattle.laws.specs.Lists.{one_if, count}
use Rattle.rules.specs.Types.{Attribute, TaskState, Task, Event, Policy, Ended, Ruling, Answer}
use Rattle.rules.specs.Tasks.{with_state, is_named}
use Rattle.rules.specs.Rulings.{State, is_clear, turn, fresh, kept, lost, fates_of, joins_of, ruled, report_of}
use Rattle.rules.specs.Rules.{ruling, answer}

-- RULES 21.1 and 21.2
pub record Past : Type 0 where
  pub state : State
  -- the task that each accepted command came in as
  pub roll : List Task
  -- the serial numbers of the tasks in the table, in the table's order
  pub present : List ℕ
  -- the serial numbers of those that ended, in the order of their ends
  pub departed : List ℕ
  -- all reports, one behind the other
  pub log : List Ended

-- RULES 21.2: no event yet
abbrev pub begin : State → Past
begin s = record { state = s; roll = []; present = []; departed = []; log = [] }

-- RULES 21.1: n and those behind it
abbrev pub serials_from : ℕ → List Task → List ℕ
serials_from n [] = []
serials_from n (t ∷ ts) = n ∷ serials_from (suc n) ts

-- RULES 21.2: the serial numbers share the fates of the tasks
abbrev pub advance_by : Past → Ruling → Past
advance_by h r =
    record {
      state = ruled h.state r;
      roll = h.roll ++ joins_of r;
      present = kept (fates_of h.state r) h.present ++ serials_from (length h.roll) (joins_of r);
      departed = h.departed ++ lost (fates_of h.state r) h.present;
      log = h.log ++ report_of h.state r;
    }

-- RULES 21.2: one event, any events, any from a fresh table
unfoldable pub advance : Past → Event → Past
advance h e = advance_by h (ruling h.state e)

abbrev pub play : Past → List Event → Past
play h [] = h
play h (e ∷ es) = play (advance h e) es

abbrev pub after : Policy → List Event → Past
after p es = play (begin (fresh p)) es

-- RULES 21.1: the task of a serial number; nobody where no command has it
abbrev pub nobody : Task
nobody = record { nexus = 0; attribute = Attribute.Simple; state = TaskState.Dormant; naca = false; tag = 0 }

abbrev pub look : List Task → ℕ → Task
look roll k = get_or roll k nobody

-- RULES 21.2: a task apart from its state, which goes on changing
abbrev pub unstated : Task → Task
unstated t = with_state t TaskState.Dormant

-- RULES 21.1: the task that an event lets in
abbrev pub accepted : State → Event → List Task
accepted s e = joins_of (ruling s e)

-- RULES 21.2: how often, of one serial number
abbrev pub in_table : Past → ℕ → ℕ
in_table h k = count (eqb k) h.present

abbrev pub has_ended : Past → ℕ → ℕ
has_ended h k = count (eqb k) h.departed

-- RULES 21.3: accepted, answer 0
abbrev pub is_done : Answer → Bool
is_done Answer.Done = true
is_done Answer.BadTable = false
is_done Answer.BadReport = false
is_done Answer.BadEvent = false
is_done Answer.NexusAboveSeven = false
is_done Answer.NoSuchTask = false
is_done Answer.NotEnabled = false
is_done (Answer.EndedAtEntry st se) = false
is_done Answer.Rejected = false
is_done Answer.BadPolicy = false

-- RULES 21.3: by the answer that the event got
abbrev pub turn_by : State → Event → Answer → Bool
turn_by s (Event.Command c) a = false
turn_by s (Event.Completion n g f) a = is_clear s.header.aca && is_named n g (turn s) && is_done a
turn_by s (Event.Management n f) a = false
turn_by s (Event.Condition c) a = false

-- RULES 21.3
abbrev pub is_turn : State → Event → Bool
is_turn s e = turn_by s e (answer s e)

-- RULES 21.3: how many
abbrev pub turns : Past → List Event → ℕ
turns h [] = 0
turns h (e ∷ es) = one_if (is_turn h.state e) + turns (advance h e) es
