-- RULES 4: the state of the set, and what a ruling means for it: who ends and with which status, who joins, who is told, and the report.
--
--   State                := header, the pending bits of nexus 0 to 7, the tasks from oldest to youngest
--   is_clear a, pending_of s n  := no ACA is in effect; the pending bits of nexus n
--   turn s               := whose turn it is
--   fresh p              := a fresh set under the policy p
--   kept fs xs, lost fs xs   := those of xs that stay, and those that end, under the fates fs in their order
--   aborted_by p n t      := the fate of a task that CLEAR TASK SET or QERR aborts for nexus n under the policy p
--   fate_alone w t        := what the sweep w does to the task t, but for what QERR adds
--   also_by_qerr q p n w   := the sweep w of a CHECK CONDITION for nexus n, and what QERR adds to it under the policy p
--   fate_by_qerr q p n t   := what QERR does to the task t, for nexus n
--   or_else f g           := the fate f, or g where f lets the task stay
--   fate_of w t, fates_of s r  := what the sweep w does to the task t; what the ruling r does to each task of s
--   newcomers j          := the task that joins, as a list of one or none
--   tell_losers_from i n ls ps := bit 4 for every nexus but n that has a task among ls; ps are the bits of nexus i and above
--   noted k ls ps        := the pending bits after the notice k, where the tasks ls ended
--   answer_of r, ruled s r, report_of s r  := the answer; the state after the ruling; the ended tasks
--   task_name t, ended_name r, same_name k x  := nexus and tag of a task; of an ended one; two such names are the same
use Rattle.std.specs.Prelude.{ℕ, suc, Bool, true, false, cond, ◌&&◌, not, List, [], ◌∷◌, ◌++◌, map, eqb, length, get_or, set, replicate, Option, Some, None, is_none}
use Rattle.laws.specs.Lists.{any}
use Rattle.values.specs.Headers.{fresh_header, with_count}
use Rattle.rules.specs.Types.{Task, Policy, Qerr, Allegiance, Header, Pending, Named, Fate, Ended, Sweep, Notice, Change, Answer, Ruling}
use Rattle.rules.specs.Tasks.{nexuses, aca_task, of_nexus, same, restate, whose_turn, turn_of}
use Rattle.rules.specs.Bits.{no_pending, without, after_power_on, after_hard_reset, after_unit_reset, after_nexus_loss, after_cleared}

-- RULES 4.1
pub record State : Type 0 where
  pub header : Header
  pub pending : List Pending
  pub tasks : List Task

-- RULES 1.10: no ACA is in effect
abbrev pub is_clear : Allegiance → Bool
is_clear a = is_none a

-- RULES 4.1: the pending bits of one nexus
abbrev pub pending_of : State → ℕ → Pending
pending_of s n = get_or s.pending n no_pending

-- RULES 2.10 to 2.12: the turn, of a state
abbrev pub turn : State → Option Named
turn s = turn_of (whose_turn s.header.aca s.header.run s.tasks)

-- RULES 4.2
unfoldable pub fresh : Policy → State
fresh p =
    record {
      header = fresh_header p;
      pending = replicate nexuses (after_power_on no_pending);
      tasks = [];
    }

-- RULES 4.3: who ends
abbrev pub end_if : Bool → ℕ → Fate
end_if true st = Some st
end_if false st = None

-- RULES 4.3: those that stay, and those that end, in their order; one for which there is no fate stays
module _ {A : Type 0} where
  abbrev pub kept : List Fate → List A → List A
  kept [] xs = xs
  kept (f ∷ fs) [] = []
  kept (None ∷ fs) (x ∷ xs) = x ∷ kept fs xs
  kept (Some st ∷ fs) (x ∷ xs) = kept fs xs

  abbrev pub lost : List Fate → List A → List A
  lost [] xs = []
  lost (f ∷ fs) [] = []
  lost (None ∷ fs) (x ∷ xs) = lost fs xs
  lost (Some st ∷ fs) (x ∷ xs) = x ∷ lost fs xs

-- RULES 4.4: FFh, or 40h
abbrev pub aborted_by : Policy → ℕ → Task → Fate
aborted_by p n t = Some (cond (not (of_nexus n t) && p.tas) 0x40 0xFF)

-- RULES 4.3, 4.4 and 6.6: one task, by the sweep alone
abbrev pub fate_alone : Sweep → Task → Fate
fate_alone Sweep.Nobody t = None
fate_alone (Sweep.OneTask n g st) t = end_if (same n g t) st
fate_alone (Sweep.NexusTasks n) t = end_if (of_nexus n t) 0xFF
fate_alone Sweep.AcaTask t = end_if (aca_task t) 0xFF
fate_alone Sweep.AllTasks t = Some 0xFF
fate_alone (Sweep.ClearedBy n p) t = aborted_by p n t
fate_alone (Sweep.FailedTask n g p) t = end_if (same n g t) 0x02

-- RULES 4.5, 4.6 and 5.16. The sweep w ends nobody, or the tasks of nexus n with FFh: those 01b and 11b end in the same way (`also_fate`).
abbrev pub also_by_qerr : Qerr → Policy → ℕ → Sweep → Sweep
also_by_qerr Qerr.EndNone p n w = w
also_by_qerr Qerr.EndAll p n w = Sweep.ClearedBy n p
also_by_qerr Qerr.EndNexus p n w = Sweep.NexusTasks n

-- RULES 4.5 and 4.6: one task, by QERR
abbrev pub fate_by_qerr : Qerr → Policy → ℕ → Task → Fate
fate_by_qerr q p n t = fate_alone (also_by_qerr q p n Sweep.Nobody) t

-- RULES 6.6: a task that ends by the first is not asked of the second
abbrev pub or_else : Fate → Fate → Fate
or_else None other = other
or_else (Some st) other = Some st

-- RULES 4.3 to 4.6 and 6.6: one task, by the sweep
abbrev pub fate_of : Sweep → Task → Fate
fate_of Sweep.Nobody t = fate_alone Sweep.Nobody t
fate_of (Sweep.OneTask n g st) t = fate_alone (Sweep.OneTask n g st) t
fate_of (Sweep.NexusTasks n) t = fate_alone (Sweep.NexusTasks n) t
fate_of Sweep.AcaTask t = fate_alone Sweep.AcaTask t
fate_of Sweep.AllTasks t = fate_alone Sweep.AllTasks t
fate_of (Sweep.ClearedBy n p) t = fate_alone (Sweep.ClearedBy n p) t
fate_of (Sweep.FailedTask n g p) t = or_else (fate_alone (Sweep.FailedTask n g p) t) (fate_by_qerr p.qerr p n t)

-- RULES 4.3: each task of a state, by the ruling
abbrev pub fates_of : State → Ruling → List Fate
fates_of s (Ruling.Keeps a) = []
fates_of s (Ruling.Changes a c) = map (fate_of c.sweep) s.tasks

-- RULES 4.8: who joins
abbrev pub newcomers : Option Task → List Task
newcomers None = []
newcomers (Some t) = t ∷ []

abbrev pub joins_of : Ruling → List Task
joins_of (Ruling.Keeps a) = []
joins_of (Ruling.Changes a c) = newcomers c.joins

-- RULES 4.7: who is told
abbrev pub tell_losers_from : ℕ → ℕ → List Task → List Pending → List Pending
tell_losers_from i n ls [] = []
tell_losers_from i n ls (p ∷ ps) =
    cond (not (eqb i n) && any (of_nexus i) ls) (after_cleared p) p ∷ tell_losers_from (suc i) n ls ps

-- RULES 3.4 to 3.9 and 4.7: the pending bits by the notice
abbrev pub noted : Notice → List Task → List Pending → List Pending
noted Notice.Quiet ls ps = ps
noted (Notice.Reported n b) ls ps = set ps n (without b (get_or ps n no_pending))
noted (Notice.OthersLost n) ls ps = tell_losers_from 0 n ls ps
noted (Notice.ReportedAndOthersLost n b) ls ps = tell_losers_from 0 n ls (set ps n (without b (get_or ps n no_pending)))
noted (Notice.NexusLost n) ls ps = set ps n (after_nexus_loss (get_or ps n no_pending))
noted Notice.UnitWasReset ls ps = map after_unit_reset ps
noted Notice.HardWasReset ls ps = map after_hard_reset ps
noted Notice.PowerCameOn ls ps = map after_power_on ps

-- RULES 9.4: the answer
abbrev pub answer_of : Ruling → Answer
answer_of (Ruling.Keeps a) = a
answer_of (Ruling.Changes a c) = a

-- RULES 4.8: those that stay, and the new one as the youngest, with their states brought up to date
abbrev pub tasks_after : State → Change → List Task
tasks_after s c =
    restate s.header.aca c.header.aca (kept (map (fate_of c.sweep) s.tasks) s.tasks ++ newcomers c.joins)

-- RULES 4.8: and the task count
abbrev pub ruled : State → Ruling → State
ruled s (Ruling.Keeps a) = s
ruled s (Ruling.Changes a c) =
    record {
      header = with_count c.header (length (tasks_after s c));
      pending = noted c.notice (lost (map (fate_of c.sweep) s.tasks) s.tasks) s.pending;
      tasks = tasks_after s c;
    }

-- RULES 4.9: an ended record for each that ends, in age order
abbrev pub ended_from : List Fate → List Task → List Ended
ended_from [] ts = []
ended_from (f ∷ fs) [] = []
ended_from (None ∷ fs) (t ∷ ts) = ended_from fs ts
ended_from (Some st ∷ fs) (t ∷ ts) = record { nexus = t.nexus; status = st; tag = t.tag } ∷ ended_from fs ts

-- RULES 4.9
abbrev pub report_of : State → Ruling → List Ended
report_of s r = ended_from (fates_of s r) s.tasks

-- RULES 2.1: who is meant
abbrev pub task_name : Task → Named
task_name t = record { nexus = t.nexus; tag = t.tag }

abbrev pub ended_name : Ended → Named
ended_name r = record { nexus = r.nexus; tag = r.tag }

abbrev pub same_name : Named → Named → Bool
same_name k x = eqb k.nexus x.nexus && eqb k.tag x.tag
