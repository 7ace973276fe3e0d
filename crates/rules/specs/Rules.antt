-- RULES 5 to 9: what the rules decide about each event.
--
--   sense k c q              := a sense: key, code, qualifier
--   tells_others q tas        := nexuses that lost tasks to the CHECK CONDITION of another are told of it by a pending bit
--   telling n o others       := the notice that the bit o of nexus n is reported, if it is one, and that other nexuses are told of what they lost, if so
--   aca_by_naca naca n a       := the allegiance after a CHECK CONDITION of nexus n, by its NACA bit; a is the one with NACA 0
--   failing a h c w o        := the change where the command c ends at entry with 02h, by the allegiance: those whom the check's own sweep w names end, the bit o
--                               is reported, if it is one, and what QERR and NACA add
--   check_condition h c se w o  := the ruling that says so, with the sense se
--   bit_to_report c p          := the bit of the pending bits p that check 3 reports to the command c, if there is one
--   check1 .. check5 ..      := the ruling of that check, or none where the command goes on
--   new_task c                := the accepted command as a task
--   checks h c here aca p    := the checks of the command c in their order, by the header; whether a task of its nexus and tag is here; whether an
--                               ACA task is here; and the pending bits p of its nexus
--   by_checks cs h c          := the ruling on the command c by the checks cs: that of the first that rules, else it is accepted
--   enter h c here aca p     := the ruling on the command c, by the same
--   status_of f               := the status byte of a completion by f
--   ending h f t its_turn     := the change where f only ends the enabled task t; its_turn: it is the one whose turn it is
--   finish h f t its_turn     := the change when t ends by f, whichever it is
--   complete h o f its_turn   := the ruling on a completion, by the task o of that nexus and tag, if there is one
--   manage h n f, happen h c := the ruling on the function f from nexus n; on a condition
--   nexus_of e                := the nexus of the event (0 for power on and hard reset)
--   ruling s e               := the ruling on the event e in the state s
--   step s e, answer s e, report s e  := the state afterwards, the answer, the ended tasks
use Rattle.std.specs.Prelude.{ℕ, Bool, true, false, cond, ◌&&◌, not, List, [], ◌∷◌, eqb, ltb, leb, Option, Some, None}
use Rattle.laws.specs.Lists.{any, first}
use Rattle.rules.specs.Types.{Attribute, TaskState, Task, Entry, Finish, Function, Happening, Event, Qerr, Allegiance, Header, Pending, Bit}
use Rattle.rules.specs.Types.{Sense, Ended, Sweep, Notice, Change, Answer, Ruling}
use Rattle.values.specs.Headers.{with_aca, with_run, run_next}
use Rattle.rules.specs.Tasks.{places, nexuses, is_aca, is_enabled, aca_task, same, is_named}
use Rattle.rules.specs.Bits.{top, sense_for}
use Rattle.rules.specs.Rulings.{State, is_clear, pending_of, turn, also_by_qerr, ruled, answer_of, report_of}

-- RULES 4.3: tasks end by a sweep, and nothing else changes
abbrev pub sweeping : Header → Sweep → Change
sweeping h w = record { sweep = w; joins = None; header = h; notice = Notice.Quiet }

-- RULES 5.1: a sense
abbrev pub sense : ℕ → ℕ → ℕ → Sense
sense k c q = record { key = k; code = c; qualifier = q }

-- RULES 5.1: answer 7 with a status that is not 02h, and so without a sense
abbrev pub ended_with : ℕ → Answer
ended_with st = Answer.EndedAtEntry st (sense 0 0 0)

-- RULES 6.1 and 6.2: only QERR 01b aborts tasks of another nexus; with TAS 1 they are told by 40h
abbrev pub tells_others : Qerr → Bool → Bool
tells_others Qerr.EndNone tas = false
tells_others Qerr.EndAll tas = not tas
tells_others Qerr.EndNexus tas = false

-- RULES 4.7 and 5.8: the bit of check 3, where there is one, and whether others are told
abbrev pub telling : ℕ → Option Bit → Bool → Notice
telling n None others = cond others (Notice.OthersLost n) Notice.Quiet
telling n (Some b) others = cond others (Notice.ReportedAndOthersLost n b) (Notice.Reported n b)

-- RULES 5.17 and 6.3: of a command and of a task alike
abbrev pub aca_by_naca : Bool → ℕ → Allegiance → Allegiance
aca_by_naca naca n a = cond naca (Some n) a

-- RULES 5.16 to 5.18 and 5.20: QERR and then NACA, where no ACA is in effect; in an ACA neither. Run stays.
abbrev pub failing : Allegiance → Header → Entry → Sweep → Option Bit → Change
failing None h c w o =
    record {
      sweep = also_by_qerr h.policy.qerr h.policy c.nexus w;
      joins = None;
      header = with_aca h (aca_by_naca c.naca c.nexus None);
      notice = telling c.nexus o (tells_others h.policy.qerr h.policy.tas);
    }
failing (Some f) h c w o =
    record { sweep = w; joins = None; header = h; notice = telling c.nexus o false }

-- RULES 5.1: how checks 1, 3 and 4 end a command
abbrev pub check_condition : Header → Entry → Sense → Sweep → Option Bit → Ruling
check_condition h c se w o = Ruling.Changes (Answer.EndedAtEntry 0x02 se) (failing h.aca h c w o)

-- RULES 5.15: a check stops the command, or lets it go on
abbrev pub only_if : Bool → Ruling → Option Ruling
only_if true r = Some r
only_if false r = None

-- RULES 5.2 and 5.3: check 1, overlapped command
abbrev pub check1 : Header → Entry → Bool → Option Ruling
check1 h c here = only_if here (check_condition h c (sense 0xB 0x4E 0x00) (Sweep.NexusTasks c.nexus) None)

-- RULES 5.4: for attribute ACA
abbrev pub asks_aca : Option Attribute → Bool
asks_aca (Some a) = is_aca a
asks_aca None = false

-- RULES 5.4 to 5.6 and 5.19: check 2, ACA in effect
abbrev pub check2 : Allegiance → Entry → Bool → Option Ruling
check2 None c aca = None
check2 (Some f) c aca =
    cond (eqb c.nexus f)
    (only_if (not (asks_aca c.asked && not aca)) (Ruling.Keeps (ended_with 0x30)))
    (Some (Ruling.Keeps (ended_with (cond c.naca 0x30 0x08))))

-- RULES 5.7 to 5.9: none where the command is exempt
abbrev pub bit_to_report : Entry → Pending → Option Bit
bit_to_report c p = cond c.exempt None (top p)

-- RULES 5.8 to 5.10: check 3, unit attention
abbrev pub check3 : Header → Entry → Option Bit → Option Ruling
check3 h c None = None
check3 h c (Some b) = Some (check_condition h c (sense_for b) Sweep.Nobody (Some b))

-- RULES 5.11: none of the four, or ACA without an ACA
abbrev pub bad_attribute : Allegiance → Option Attribute → Bool
bad_attribute a None = true
bad_attribute a (Some t) = is_aca t && is_clear a

-- RULES 5.11: check 4, attribute
abbrev pub check4 : Header → Entry → Option Ruling
check4 h c = only_if (bad_attribute h.aca c.asked) (check_condition h c (sense 0x5 0x49 0x00) Sweep.Nobody None)

-- RULES 5.12, 5.13 and 5.19: check 5, full
abbrev pub check5 : Header → Option Ruling
check5 h = only_if (leb places h.count) (Ruling.Keeps (ended_with 0x28))

-- RULES 5.14: check 4 has refused what is none of the four
abbrev pub attribute_of : Option Attribute → Attribute
attribute_of (Some a) = a
attribute_of None = Attribute.Simple

-- RULES 5.14: an ACA task enters enabled; any other enters without an ACA, and its state is settled with the rest
unfoldable pub new_task : Entry → Task
new_task c = record { nexus = c.nexus; attribute = attribute_of c.asked; state = TaskState.Enabled; naca = c.naca; tag = c.tag }

-- RULES 5.14: check 6, accepted
abbrev pub accepting : Header → Entry → Change
accepting h c = record { sweep = Sweep.Nobody; joins = Some (new_task c); header = h; notice = Notice.Quiet }

-- RULES 5.15: the first check that rules decides
abbrev pub first_that_rules : List (Option Ruling) → Ruling → Ruling
first_that_rules [] r = r
first_that_rules (None ∷ cs) r = first_that_rules cs r
first_that_rules (Some q ∷ cs) r = q

-- RULES 5.15: their order
abbrev pub checks : Header → Entry → Bool → Bool → Pending → List (Option Ruling)
checks h c here aca p =
    check1 h c here
    ∷ check2 h.aca c aca
    ∷ check3 h c (bit_to_report c p)
    ∷ check4 h c
    ∷ check5 h
    ∷ []

-- RULES 5.14 and 5.15: accepted where none rules
abbrev pub by_checks : List (Option Ruling) → Header → Entry → Ruling
by_checks cs h c = first_that_rules cs (Ruling.Changes Answer.Done (accepting h c))

unfoldable pub enter : Header → Entry → Bool → Bool → Pending → Ruling
enter h c here aca p = by_checks (checks h c here aca p) h c

-- RULES 6.3 and 6.4
abbrev pub aca_after : Task → Allegiance → Allegiance
aca_after t a = aca_by_naca t.naca t.nexus (cond (aca_task t) None a)

-- RULES 6.5, 6.6, 6.9 and 16.2: the status that a completion brings, and that the report of its task has
abbrev pub status_of : Finish → ℕ
status_of Finish.Good = 0x00
status_of Finish.CheckCondition = 0x02
status_of Finish.Busy = 0x08
status_of Finish.ReservationConflict = 0x18

-- RULES 6.5 and 6.9: the task ends, and run is as ever; no QERR, and the ACA as it was
abbrev pub ending : Header → Finish → Task → Bool → Change
ending h f t its_turn =
    record { sweep = Sweep.OneTask t.nexus t.tag (status_of f); joins = None; header = run_next h t.attribute its_turn; notice = Notice.Quiet }

-- RULES 6.5 to 6.7 and 6.9: every status
abbrev pub finish : Header → Finish → Task → Bool → Change
finish h Finish.Good t its_turn = ending h Finish.Good t its_turn
finish h Finish.Busy t its_turn = ending h Finish.Busy t its_turn
finish h Finish.ReservationConflict t its_turn = ending h Finish.ReservationConflict t its_turn
finish h Finish.CheckCondition t its_turn =
    record {
      sweep = Sweep.FailedTask t.nexus t.tag h.policy;
      joins = None;
      header = with_aca (run_next h t.attribute its_turn) (aca_after t h.aca);
      notice = telling t.nexus None (tells_others h.policy.qerr h.policy.tas);
    }

-- RULES 6.8: answers 5 and 6, else the task ends
unfoldable pub complete : Header → Option Task → Finish → Bool → Ruling
complete h None f its_turn = Ruling.Keeps Answer.NoSuchTask
complete h (Some t) f its_turn = cond (is_enabled t.state) (Ruling.Changes Answer.Done (finish h f t its_turn)) (Ruling.Keeps Answer.NotEnabled)

-- RULES 7.1: a reset, with its notice
abbrev pub resetting : Header → Notice → Change
resetting h k = record { sweep = Sweep.AllTasks; joins = None; header = with_aca (with_run h 0) None; notice = k }

-- RULES 7.2 to 7.4: CLEAR ACA
abbrev pub clearing : Header → ℕ → Allegiance → Ruling
clearing h n None = Ruling.Keeps Answer.Done
clearing h n (Some f) = cond (eqb n f) (Ruling.Changes Answer.Done (sweeping (with_aca h None) Sweep.AcaTask)) (Ruling.Keeps Answer.Rejected)

-- RULES 7.5: CLEAR TASK SET
abbrev pub clearing_set : Header → ℕ → Change
clearing_set h n =
    record { sweep = Sweep.ClearedBy n h.policy; joins = None; header = h; notice = telling n None (not h.policy.tas) }

-- RULES 7.2 to 7.10: every function
unfoldable pub manage : Header → ℕ → Function → Ruling
manage h n (Function.AbortTask g) = Ruling.Changes Answer.Done (sweeping h (Sweep.OneTask n g 0xFF))
manage h n Function.AbortTaskSet = Ruling.Changes Answer.Done (sweeping h (Sweep.NexusTasks n))
manage h n Function.ClearTaskSet = Ruling.Changes Answer.Done (clearing_set h n)
manage h n Function.ClearAca = clearing h n h.aca
manage h n Function.LogicalUnitReset = Ruling.Changes Answer.Done (resetting h Notice.UnitWasReset)
manage h n Function.Unknown = Ruling.Keeps Answer.Rejected

-- RULES 8.1: an ACA of the nexus that is lost goes
abbrev pub aca_without : ℕ → Allegiance → Allegiance
aca_without n None = None
aca_without n (Some f) = cond (eqb n f) None (Some f)

-- RULES 8.1: nexus loss
abbrev pub losing : Header → ℕ → Change
losing h n = record { sweep = Sweep.NexusTasks n; joins = None; header = with_aca h (aca_without n h.aca); notice = Notice.NexusLost n }

-- RULES 8.1 to 8.3: every condition
unfoldable pub happen : Header → Happening → Ruling
happen h Happening.PowerOn = Ruling.Changes Answer.Done (resetting h Notice.PowerCameOn)
happen h Happening.HardReset = Ruling.Changes Answer.Done (resetting h Notice.HardWasReset)
happen h (Happening.NexusLoss n) = Ruling.Changes Answer.Done (losing h n)

-- RULES 9.1
abbrev pub nexus_of : Event → ℕ
nexus_of (Event.Command c) = c.nexus
nexus_of (Event.Completion n g f) = n
nexus_of (Event.Management n f) = n
nexus_of (Event.Condition Happening.PowerOn) = 0
nexus_of (Event.Condition Happening.HardReset) = 0
nexus_of (Event.Condition (Happening.NexusLoss n)) = n

-- RULES 9.2: all is asked of the state before the event
unfoldable pub rule_for : State → Event → Ruling
rule_for s (Event.Command c) =
    enter s.header c (any (same c.nexus c.tag) s.tasks) (any aca_task s.tasks) (pending_of s c.nexus)
rule_for s (Event.Completion n g f) = complete s.header (first (same n g) s.tasks) f (is_named n g (turn s))
rule_for s (Event.Management n f) = manage s.header n f
rule_for s (Event.Condition c) = happen s.header c

-- RULES 9.3: answer 4 before all others
unfoldable pub ruling : State → Event → Ruling
ruling s e = cond (ltb (nexus_of e) nexuses) (rule_for s e) (Ruling.Keeps Answer.NexusAboveSeven)

-- RULES 9.4: the state afterwards, the answer, the tasks ended
unfoldable pub step : State → Event → State
step s e = ruled s (ruling s e)

unfoldable pub answer : State → Event → Answer
answer s e = answer_of (ruling s e)

unfoldable pub report : State → Event → List Ended
report s e = report_of s (ruling s e)
