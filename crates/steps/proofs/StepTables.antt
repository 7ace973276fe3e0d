-- Each step on the bytes, done to the table of a state, gives the table of the state that the rules say, whatever byte 4 of its nexus records has: no step
-- looks at it.
use Rattle.std.specs.Prelude.{None}
use Prim.Native.Nat.{ℕ, ◌+◌, ◌-◌}
use mathlib.Core.Path.{◌≡◌, refl, ap, ◌∙◌}
use mathlib.Core.List.{List, [], ◌++◌, map, append_assoc}
use lib.ListN.{length, take, drop, length-map}
use Rattle.laws.specs.RecordsInLists.{joined, each_record}
use Rattle.laws.proofs.RecordsInLists.{each_written}
use Rattle.octets.specs.Sizes.{task_size, tasks_at}
use Rattle.rules.specs.Tasks.{places, nexuses, with_state, enabled_if, settle_from}
use Rattle.rules.specs.Rulings.{State}
use Rattle.rules.proofs.Distinct.{blocked_task, length_restate}
use Rattle.records.specs.Records.{header_bytes, task_bytes}
use Rattle.records.specs.Tables.{tasks_from, nexus_records, unused_records, task_records, table_with}
use Rattle.records.proofs.Values.{attribute_back, state_back}
use Rattle.records.proofs.ReadBack.{tasks_back, table_tasks, table_front}
use Rattle.decide.specs.OlderTasks.{no_older, behind_by, eligible_by, settled_by}
use Rattle.decide.proofs.OlderTasks.{settled_walk}
use Rattle.rules.specs.Types.{Task, Header, Pending}
use Rattle.steps.specs.Steps.{settled_record, behind_record, settled_bytes, blocked_record, next_place, blocked_bytes}

abbrev pub with_tasks : State → List Task → State
with_tasks s ts = record { header = s.header; pending = s.pending; tasks = ts }

abbrev pub with_pending : State → List Pending → State
with_pending s ps = record { header = s.header; pending = ps; tasks = s.tasks }

abbrev pub with_header : State → Header → State
with_header s h = record { header = h; pending = s.pending; tasks = s.tasks }

-- The tasks that a table holds -------------------------------------------------------------------------------------------------------------

module _ (cs : ℕ → ℕ) (s : State) (eight : length s.pending ≡ nexuses) where
  pub tasks_of_table : tasks_from (length s.tasks) (drop tasks_at (table_with cs s)) ≡ s.tasks
  tasks_of_table =
      ap (tasks_from (length s.tasks)) (table_tasks cs s eight) ∙ tasks_back s.tasks (unused_records (places - length s.tasks))

  -- a table whose task records are changed
  pub tasks_changed :
      (ts : List Task) (l : List ℕ) → l ≡ task_records ts → take tasks_at (table_with cs s) ++ l ≡ table_with cs (with_tasks s ts)
  unfolding table_with
  tasks_changed ts l e =
      rw e
      (ap (λ (z : List ℕ). z ++ task_records ts) (table_front cs s eight)
      ∙ append_assoc (header_bytes s.header) (nexus_records cs 0 s.pending) (task_records ts))

-- States -----------------------------------------------------------------------------------------------------------------------------------

same_room : (ts us : List Task) → length us ≡ length ts → joined task_bytes us ++ unused_records (places - length ts) ≡ task_records us
same_room ts us e = rw e

settled_written :
    (ts : List Task) (rest : List ℕ)
    → each_record task_size settled_record behind_record no_older (length ts) (joined task_bytes ts ++ rest) ≡ joined task_bytes (settle_from [] ts) ++ rest
settled_written ts rest =
    each_written task_size settled_record behind_record task_bytes (λ o t. with_state t (enabled_if (eligible_by o t.attribute)))
    (λ o t. behind_by t.attribute o)
    settled_by
    (λ t. refl)
    (λ o t. rw (attribute_back t.attribute))
    (λ o t. rw (attribute_back t.attribute))
    (λ o. refl)
    (λ o t ts. refl)
    no_older
    ts
    rest
    ∙ ap (λ (us : List Task). joined task_bytes us ++ rest) (settled_walk ts)

blocked_written :
    (i : ℕ) (ts : List Task) (rest : List ℕ)
    → each_record task_size blocked_record next_place i (length ts) (joined task_bytes ts ++ rest) ≡ joined task_bytes (map blocked_task ts) ++ rest
blocked_written i ts rest =
    each_written task_size blocked_record next_place task_bytes (λ i t. blocked_task t) (λ i t. i + 1) (λ i ts. map blocked_task ts) (λ t. refl)
    (λ i t. rw (state_back t.state))
    (λ i t. refl)
    (λ i. refl)
    (λ i t ts. refl)
    i
    ts
    rest

module _ (cs : ℕ → ℕ) (s : State) (eight : length s.pending ≡ nexuses) where
  pub settled_table : settled_bytes (length s.tasks) (table_with cs s) ≡ table_with cs (with_tasks s (settle_from [] s.tasks))
  unfolding settled_bytes
  settled_table =
      tasks_changed cs s eight (settle_from [] s.tasks) _
      (ap (λ (l : List ℕ). each_record task_size settled_record behind_record no_older (length s.tasks) l) (table_tasks cs s eight)
      ∙ settled_written s.tasks (unused_records (places - length s.tasks))
      ∙ same_room s.tasks (settle_from [] s.tasks) (length_restate None None s.tasks))

  pub blocked_table : blocked_bytes (length s.tasks) (table_with cs s) ≡ table_with cs (with_tasks s (map blocked_task s.tasks))
  unfolding blocked_bytes
  blocked_table =
      tasks_changed cs s eight (map blocked_task s.tasks) _
      (ap (λ (l : List ℕ). each_record task_size blocked_record next_place 0 (length s.tasks) l) (table_tasks cs s eight)
      ∙ blocked_written 0 s.tasks (unused_records (places - length s.tasks))
      ∙ same_room s.tasks (map blocked_task s.tasks) (length-map s.tasks blocked_task))
