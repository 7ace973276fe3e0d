-- Reading what was written gives the state back.
use Prim.Native.Nat.{ℕ, zero, suc, ◌+◌, ◌-◌, ◌*◌, ◌≤◌}
use mathlib.Core.Path.{◌≡◌, refl, ap, sym, ◌∙◌}
use mathlib.Core.List.{List, [], ◌∷◌, ◌++◌, append_assoc}
use native.Mathlib.Nat.{mul-suc, mul-zero}
use native.Mathlib.Omega.{arith}
use lib.ListN.{length, get_or, take, drop, length-append}
use lib.Seq.{drop-drop, drop_at, take_at}
use Rattle.laws.specs.RecordsInLists.{record_at, joined}
use Rattle.octets.specs.Sizes.{head_size, nexus_size, task_size, tasks_at, table_size, aca_offset}
use Rattle.rules.specs.Tasks.{places, nexuses}
use Rattle.rules.specs.Rulings.{State}
use Rattle.rules.specs.Types.{Task, Pending}
use Rattle.records.specs.Numbers.{aca_number}
use Rattle.records.specs.Records.{header_bytes, header_from, task_bytes, task_from}
use Rattle.records.specs.Tables.{tasks_from, pendings_from, count_in, state_of, nexus_records, unused_records, task_records, table_with, counts_of, table_bytes}
use Rattle.records.proofs.Values.{attribute_back, state_back, flag_back, aca_back, policy_back, pending_back}
use Rattle.octets.proofs.Tags.{tag_back}

pub task_back : (t : Task) → task_from (task_bytes t) ≡ t
task_back t = rw (attribute_back t.attribute, state_back t.state, flag_back t.naca, tag_back t.tag)

pub tasks_back : (ts : List Task) (rest : List ℕ) → tasks_from (length ts) (joined task_bytes ts ++ rest) ≡ ts
unfolding tasks_from
tasks_back [] rest = refl
tasks_back (t ∷ ts) rest = rw (task_back t, tasks_back ts rest)

pub pendings_back : (cs : ℕ → ℕ) (i : ℕ) (ps : List Pending) (rest : List ℕ) → pendings_from (length ps) (nexus_records cs i ps ++ rest) ≡ ps
unfolding pendings_from nexus_records
pendings_back cs i [] rest = refl
pendings_back cs i (p ∷ ps) rest = rw (pending_back p, pendings_back cs (suc i) ps rest)

-- Lengths ----------------------------------------------------------------------------------------------------------------------------------

pub length_nexuses : (cs : ℕ → ℕ) (i : ℕ) (ps : List Pending) → length (nexus_records cs i ps) ≡ nexus_size * length ps
unfolding nexus_records
length_nexuses cs i [] = refl
length_nexuses cs i (p ∷ ps) = omega (arith, length_nexuses cs (suc i) ps)

pub length_unused : (n : ℕ) → length (unused_records n) ≡ task_size * n
unfolding unused_records
length_unused zero = refl
length_unused (suc n) = omega (arith, length_unused n)

-- as many bytes as values times the width
pub length_joined :
    {A : Type 0} (w : ℕ) (W : A → List ℕ) → ((x : A) → length (W x) ≡ w) → (xs : List A) → length (joined W xs) ≡ w * length xs
length_joined w W wide [] = sym (mul-zero w)
length_joined w W wide (x ∷ xs) = simp length-append (rw mul-suc (omega (arith, wide x, length_joined w W wide xs)))

pub length_tasks : (ts : List Task) → length ts ≤ places → length (task_records ts) ≡ task_size * places
length_tasks ts h =
    simp length-append (omega (arith, length_joined task_size task_bytes (λ t. refl) ts, length_unused (places - length ts)))

-- The parts of a table, whatever its nexus records have in byte 4 ---------------------------------------------------------------------------

pub length_table : (cs : ℕ → ℕ) (s : State) → length s.pending ≡ nexuses → length s.tasks ≤ places → length (table_with cs s) ≡ table_size
unfolding table_with
length_table cs s p t =
    length-append (header_bytes s.header) (nexus_records cs 0 s.pending ++ task_records s.tasks)
    ∙ rw (length-append (nexus_records cs 0 s.pending) (task_records s.tasks), length_tasks s.tasks t, length_nexuses cs 0 s.pending, p)

module _ (cs : ℕ → ℕ) (s : State) where
  pub table_behind_header : drop head_size (table_with cs s) ≡ nexus_records cs 0 s.pending ++ task_records s.tasks
  unfolding table_with
  table_behind_header = refl

  pub table_header : record_at head_size (table_with cs s) 0 ≡ header_bytes s.header
  unfolding table_with
  table_header = refl

  pub table_count : count_in (table_with cs s) ≡ s.header.count
  unfolding table_with
  table_count = refl

module _ (cs : ℕ → ℕ) (s : State) (eight : length s.pending ≡ nexuses) where
  abbrev front : List ℕ
  front = header_bytes s.header ++ nexus_records cs 0 s.pending

  front_long : length front ≡ tasks_at
  front_long = omega (arith, length_nexuses cs 0 s.pending)

  front_and_tasks : table_with cs s ≡ front ++ task_records s.tasks
  unfolding table_with
  front_and_tasks = sym (append_assoc (header_bytes s.header) (nexus_records cs 0 s.pending) (task_records s.tasks))

  pub table_tasks : drop tasks_at (table_with cs s) ≡ task_records s.tasks
  table_tasks = rw front_and_tasks (drop_at front (task_records s.tasks) tasks_at front_long)

  pub table_front : take tasks_at (table_with cs s) ≡ header_bytes s.header ++ nexus_records cs 0 s.pending
  table_front = rw front_and_tasks (take_at front (task_records s.tasks) tasks_at front_long)

  -- behind the used records
  pub behind_used : drop (tasks_at + task_size * length s.tasks) (table_with cs s) ≡ unused_records (places - length s.tasks)
  behind_used =
      sym (drop-drop (task_size * length s.tasks) tasks_at (table_with cs s))
      ∙ ap (drop (task_size * length s.tasks)) table_tasks
      ∙ drop_at (joined task_bytes s.tasks) (unused_records (places - length s.tasks)) (task_size * length s.tasks)
      (length_joined task_size task_bytes (λ t. refl) s.tasks)

-- two bytes of the table of a state
pub written_count : (s : State) → count_in (table_bytes s) ≡ s.header.count
unfolding table_bytes
written_count s = table_count (counts_of s) s

pub written_aca : (s : State) → get_or (table_bytes s) aca_offset 0 ≡ aca_number s.header.aca
unfolding table_bytes table_with
written_aca s = refl

-- reading what was written gives the state back
pub state_back_again :
    (s : State) → s.header.count ≡ length s.tasks → length s.pending ≡ nexuses → state_of (table_bytes s) ≡ s
unfolding state_of table_bytes
state_back_again s counted eight = λ i. record { header = head i; pending = pend i; tasks = tsk i }
  where
    cs : ℕ → ℕ
    cs = counts_of s

    head : header_from (record_at head_size (table_with cs s) 0) ≡ s.header
    head = rw (table_header cs s) (rw (policy_back s.header.policy, aca_back s.header.aca))

    pend : pendings_from nexuses (drop head_size (table_with cs s)) ≡ s.pending
    pend =
        rw (table_behind_header cs s)
        (ap (λ (n : ℕ). pendings_from n (nexus_records cs 0 s.pending ++ task_records s.tasks)) (sym eight)
        ∙ pendings_back cs 0 s.pending (task_records s.tasks))

    tsk : tasks_from (count_in (table_with cs s)) (drop tasks_at (table_with cs s)) ≡ s.tasks
    tsk =
        ap (λ (n : ℕ). tasks_from n (drop tasks_at (table_with cs s))) (table_count cs s ∙ counted)
        ∙ ap (tasks_from (length s.tasks)) (table_tasks cs s eight)
        ∙ tasks_back s.tasks (unused_records (places - length s.tasks))
