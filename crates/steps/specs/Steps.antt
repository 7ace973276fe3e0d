-- Believed by nobody: code's own way of walking, proved equal to what the rules say (docs/TRUST.md).
-- The steps that carry a ruling out, each as what it makes of the table's bytes.
--
--   settled_bytes n b     := the states of the first n tasks settled
--   blocked_bytes n b     := of the first n tasks the enabled ones blocked
--   restated_bytes a c n b := the states brought up to date, by the allegiance before and after
--   vacated_bytes i n b   := n task records from the i-th on made unused
--   gone_by w r           := the task of the record ends under the sweep w
--   ends_nobody w         := the sweep is the one under which no task ends
--   kept_count w n l      := how many of the first n tasks stay
--   closed_bytes w n b    := those that stay of the first n tasks closed up, and the places behind them unused
--   noted_one k i lost p  := the pending bits of nexus i after the notice k; lost: it lost a task
--   noted_bytes k ls b    := the nexus records after the notice k, where the tasks ls ended
--   ends_of w n l         := the ended records of the first n tasks
use Rattle.std.specs.Prelude.{ℕ, ◌+◌, ◌-◌, ◌*◌, Bool, true, false, cond, ◌&&◌, not, List, ◌++◌, map, eqb, length, get_or, take, drop, set, Some, None, is_some}
use Rattle.laws.specs.Lists.{any}
use Rattle.laws.specs.RecordsInLists.{each_record, kept_records}
use Rattle.rules.specs.Tasks.{nexuses, of_nexus, enabled_if, blocked_if_enabled}
use Rattle.rules.specs.Bits.{without, after_power_on, after_hard_reset, after_unit_reset, after_nexus_loss, after_cleared}
use Rattle.rules.specs.Rulings.{kept, lost, fate_of, ended_from}
use Rattle.octets.specs.Sizes.{pending_offset, attribute_offset, state_offset}
use Rattle.records.specs.Numbers.{attribute_from, state_number, state_from, pending_number, pending_from}
use Rattle.records.specs.Records.{nexus_size, task_size, task_from, unused_bytes}
use Rattle.decide.specs.OlderTasks.{no_older, behind_by, eligible_by}
use Rattle.rules.specs.Types.{Task, Allegiance, Pending, Ended, Fate, Sweep, Notice}
use Rattle.decide.specs.declared.states.Older.{Older}
use Rattle.records.specs.Tables.{nexuses_at, tasks_at, tasks_from, unused_records}

-- States -----------------------------------------------------------------------------------------------------------------------------------

abbrev pub settled_record : Older → List ℕ → List ℕ
settled_record o r = set r state_offset (state_number (enabled_if (eligible_by o (attribute_from (get_or r attribute_offset 0)))))

abbrev pub behind_record : Older → List ℕ → Older
behind_record o r = behind_by (attribute_from (get_or r attribute_offset 0)) o

unfoldable pub settled_bytes : ℕ → List ℕ → List ℕ
settled_bytes n b = take tasks_at b ++ each_record task_size settled_record behind_record no_older n (drop tasks_at b)

abbrev pub blocked_record : ℕ → List ℕ → List ℕ
blocked_record i r = set r state_offset (state_number (blocked_if_enabled (state_from (get_or r state_offset 0))))

abbrev pub next_place : ℕ → List ℕ → ℕ
next_place i r = i + 1

unfoldable pub blocked_bytes : ℕ → List ℕ → List ℕ
blocked_bytes n b = take tasks_at b ++ each_record task_size blocked_record next_place 0 n (drop tasks_at b)

abbrev pub restated_bytes : Allegiance → Allegiance → ℕ → List ℕ → List ℕ
restated_bytes before None n b = settled_bytes n b
restated_bytes None (Some f) n b = blocked_bytes n b
restated_bytes (Some g) (Some f) n b = b

-- Closing up -------------------------------------------------------------------------------------------------------------------------------

abbrev pub cleared_record : ℕ → List ℕ → List ℕ
cleared_record i r = unused_bytes

unfoldable pub vacated_bytes : ℕ → ℕ → List ℕ → List ℕ
vacated_bytes i n b =
    take (tasks_at + task_size * i) b ++ each_record task_size cleared_record next_place i n (drop (tasks_at + task_size * i) b)

abbrev pub ends_fate : Fate → Bool
ends_fate f = is_some f

abbrev pub gone_by : Sweep → List ℕ → Bool
gone_by w r = ends_fate (fate_of w (task_from r))

abbrev pub ends_nobody : Sweep → Bool
ends_nobody Sweep.Nobody = true
ends_nobody (Sweep.OneTask n g st) = false
ends_nobody (Sweep.NexusTasks n) = false
ends_nobody Sweep.AcaTask = false
ends_nobody Sweep.AllTasks = false
ends_nobody (Sweep.ClearedBy n p) = false
ends_nobody (Sweep.FailedTask n g p) = false

abbrev pub kept_count : Sweep → ℕ → List ℕ → ℕ
kept_count w n l = length (kept (map (fate_of w) (tasks_from n l)) (tasks_from n l))

unfoldable pub closed_bytes : Sweep → ℕ → List ℕ → List ℕ
closed_bytes w n b =
    take tasks_at b
    ++ (kept_records task_size (gone_by w) n (drop tasks_at b)
    ++ (unused_records (n - kept_count w n (drop tasks_at b)) ++ drop (tasks_at + task_size * n) b))

-- Who is told ------------------------------------------------------------------------------------------------------------------------------

abbrev pub noted_one : Notice → ℕ → Bool → Pending → Pending
noted_one Notice.Quiet i lost p = p
noted_one (Notice.Reported n b) i lost p = cond (eqb i n) (without b p) p
noted_one (Notice.OthersLost n) i lost p = cond (not (eqb i n) && lost) (after_cleared p) p
noted_one (Notice.ReportedAndOthersLost n b) i lost p = cond (eqb i n) (without b p) (cond lost (after_cleared p) p)
noted_one (Notice.NexusLost n) i lost p = cond (eqb i n) (after_nexus_loss p) p
noted_one Notice.UnitWasReset i lost p = after_unit_reset p
noted_one Notice.HardWasReset i lost p = after_hard_reset p
noted_one Notice.PowerCameOn i lost p = after_power_on p

abbrev pub losers : Sweep → ℕ → List ℕ → List Task
losers w n l = lost (map (fate_of w) (tasks_from n l)) (tasks_from n l)

abbrev pub noted_record : Notice → List Task → ℕ → List ℕ → List ℕ
noted_record k ls i r = set r pending_offset (pending_number (noted_one k i (any (of_nexus i) ls) (pending_from (get_or r pending_offset 0))))

unfoldable pub noted_bytes : Notice → List Task → List ℕ → List ℕ
noted_bytes k ls b = take nexuses_at b ++ each_record nexus_size (noted_record k ls) next_place 0 nexuses (drop nexuses_at b)

-- The report -------------------------------------------------------------------------------------------------------------------------------

abbrev pub ends_of : Sweep → ℕ → List ℕ → List Ended
ends_of w n l = ended_from (map (fate_of w) (tasks_from n l)) (tasks_from n l)
