-- RULES 17: the table and the report as bytes.
--
--   Bytes l                  := every element of l is below 256
--   table_size, report_size, nexuses_at, tasks_at  := passed on from octets/specs/Sizes
--   tasks_from n l            := the tasks of the first n task records of l
--   pendings_from n l         := the pending bits of the first n nexus records of l
--   state_of b                := the state that a table says
--   nexus_records cs i ps     := the records of nexus i and above, with cs j in byte 4 of that of nexus j
--   unused_records n          := n unused task records
--   table_with cs s           := the table of a state, with cs j in byte 4 of the record of nexus j
--   counts_of s, table_bytes s := what stands there; the table of a state
--   report_bytes es           := the report of the ended tasks
--   GoodTable b              := the table is well formed
--   good_table b              := the test of it
use Rattle.std.specs.Prelude.{ℕ, zero, suc, ◌+◌, ◌-◌, ◌*◌, ◌≤◌, ◌<◌, ◌≡◌, Bool, true, ◌&&◌, List, [], ◌∷◌, ◌++◌, eqb, length, get_or, take, drop, replicate}
use Rattle.laws.specs.RecordsInLists.{record_at, joined}
pub use Rattle.octets.specs.Sizes.{nexuses_at, tasks_at, table_size, report_size}
use Rattle.octets.specs.Sizes.{count_offset}
use Rattle.rules.specs.Tasks.{places, nexuses}
use Rattle.rules.specs.Rulings.{State}
use Rattle.rules.specs.Well.{WellFormed, well_formed}
use Rattle.records.specs.Records.{head_size, nexus_size, task_size, ended_size, header_bytes, header_from, header_fits, nexus_bytes, pending_in}
use Rattle.records.specs.Records.{nexus_fits, task_bytes, task_from, task_fits, unused_bytes, unused_fits, ended_bytes}
use Rattle.rules.specs.Types.{Task, Pending, Ended}

-- RULES 13.1: what a driver lends
abbrev pub Bytes : List ℕ → Type 0
Bytes l = (i : ℕ) → get_or l i 0 < 256

-- Reading ----------------------------------------------------------------------------------------------------------------------------------

-- RULES 17.1: the first n, oldest first
unfoldable pub tasks_from : ℕ → List ℕ → List Task
tasks_from zero l = []
tasks_from (suc n) l = task_from (take task_size l) ∷ tasks_from n (drop task_size l)

-- RULES 13.2 and 15.2: the first n
unfoldable pub pendings_from : ℕ → List ℕ → List Pending
pendings_from zero l = []
pendings_from (suc n) l = pending_in (take nexus_size l) ∷ pendings_from n (drop nexus_size l)

-- RULES 15.1: the task count
abbrev pub count_in : List ℕ → ℕ
count_in b = get_or b count_offset 0

-- RULES 13.2 and 17.1
unfoldable pub state_of : List ℕ → State
state_of b =
    record {
      header = header_from (record_at head_size b 0);
      pending = pendings_from nexuses (drop nexuses_at b);
      tasks = tasks_from (count_in b) (drop tasks_at b);
    }

-- Writing ----------------------------------------------------------------------------------------------------------------------------------

-- RULES 13.2 and 15.2: from nexus i on
unfoldable pub nexus_records : (ℕ → ℕ) → ℕ → List Pending → List ℕ
nexus_records cs i [] = []
nexus_records cs i (p ∷ ps) = nexus_bytes i p (cs i) ++ nexus_records cs (suc i) ps

-- RULES 15.4: n of them
unfoldable pub unused_records : ℕ → List ℕ
unused_records zero = []
unused_records (suc n) = unused_bytes ++ unused_records n

-- RULES 17.1: used ones first, unused ones behind them
abbrev pub task_records : List Task → List ℕ
task_records ts = joined task_bytes ts ++ unused_records (places - length ts)

-- RULES 13.2: the records in their order
unfoldable pub table_with : (ℕ → ℕ) → State → List ℕ
table_with cs s = header_bytes s.header ++ (nexus_records cs 0 s.pending ++ task_records s.tasks)

-- RULES 15.2: the first of the four zeros
abbrev pub counts_of : State → ℕ → ℕ
counts_of s j = 0

-- RULES 13.2 and 17.1
unfoldable pub table_bytes : State → List ℕ
table_bytes s = table_with (counts_of s) s

-- RULES 17.2
unfoldable pub report_bytes : List Ended → List ℕ
report_bytes es = joined ended_bytes es ++ replicate (report_size - ended_size * length es) 0

-- Well formed ------------------------------------------------------------------------------------------------------------------------------

-- RULES 17.3
pub record GoodTable (b : List ℕ) : Type 0 where
  pub long : length b ≡ table_size
  pub header : header_fits (record_at head_size b 0) ≡ true
  pub nexus : (i : ℕ) → i < nexuses → nexus_fits i (record_at nexus_size b (nexuses_at + nexus_size * i)) ≡ true
  pub used : (i : ℕ) → i < count_in b → task_fits (record_at task_size b (tasks_at + task_size * i)) ≡ true
  pub unused : (i : ℕ) → count_in b ≤ i → i < places → unused_fits (record_at task_size b (tasks_at + task_size * i)) ≡ true
  pub well : WellFormed (state_of b)

-- RULES 17.3: the test, record by record
unfoldable pub nexuses_fit : ℕ → ℕ → List ℕ → Bool
nexuses_fit i zero l = true
nexuses_fit i (suc n) l = nexus_fits i (take nexus_size l) && nexuses_fit (i + 1) n (drop nexus_size l)

unfoldable pub tasks_fit : ℕ → List ℕ → Bool
tasks_fit zero l = true
tasks_fit (suc n) l = task_fits (take task_size l) && tasks_fit n (drop task_size l)

unfoldable pub unused_fit : ℕ → List ℕ → Bool
unused_fit zero l = true
unused_fit (suc n) l = unused_fits (take task_size l) && unused_fit n (drop task_size l)

-- RULES 17.3: the whole test
unfoldable pub good_table : List ℕ → Bool
good_table b =
    eqb (length b) table_size
    && (header_fits (record_at head_size b 0)
    && (nexuses_fit 0 nexuses (drop nexuses_at b)
    && (tasks_fit (count_in b) (drop tasks_at b)
    && (unused_fit (places - count_in b) (drop (tasks_at + task_size * count_in b) b) && well_formed (state_of b)))))
