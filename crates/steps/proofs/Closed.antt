-- Closing up, joining and the header, done to the table of a state.
use Rattle.std.specs.Prelude.{Some, None}
use Prim.Native.Nat.{ℕ, zero, suc, ◌+◌, ◌-◌, ◌*◌, ◌≤◌, ◌<◌}
use mathlib.Core.Path.{◌≡◌, refl, ap, sym, ◌∙◌}
use mathlib.Core.List.{List, [], ◌∷◌, ◌++◌, map, append_assoc}
use native.Mathlib.Omega.{arith}
use lib.ListN.{length, take, drop, length-append, take-append-drop}
use lib.Seq.{drop-drop, take_at}
use Rattle.laws.specs.RecordsInLists.{put_at, joined, keep_unless, kept_records}
use Rattle.octets.specs.Sizes.{head_size, task_size, tasks_at}
use Rattle.rules.specs.Tasks.{places, nexuses}
use Rattle.rules.specs.Rulings.{State, kept, lost, fate_of, ended_from}
use Rattle.rules.proofs.Fates.{length_split}
use Rattle.records.specs.Records.{header_bytes, task_bytes, unused_bytes}
use Rattle.records.specs.Tables.{unused_records, table_with}
use Rattle.records.proofs.ReadBack.{task_back, length_joined, length_nexuses, table_tasks, table_front, behind_used}
use Rattle.rules.specs.Types.{Task, Header, Fate, Sweep}
use Rattle.steps.specs.Steps.{ends_fate, gone_by, kept_count, closed_bytes, losers, ends_of}
use Rattle.steps.proofs.ListedEnds.{joined_append}
use Rattle.steps.proofs.StepTables.{with_tasks, with_header, tasks_of_table, tasks_changed}

kept_written :
    (w : Sweep) (ts : List Task) (rest : List ℕ)
    → kept_records task_size (gone_by w) (length ts) (joined task_bytes ts ++ rest) ≡ joined task_bytes (kept (map (fate_of w) ts) ts)
unfolding kept_records
kept_written w [] rest = refl
kept_written w (t ∷ ts) rest =
    rw (task_back t) (go (fate_of w t) (kept_written w ts rest))
  where
    go :
        (f : Fate) → kept_records task_size (gone_by w) (length ts) (joined task_bytes ts ++ rest) ≡ joined task_bytes (kept (map (fate_of w) ts) ts)
        → keep_unless (ends_fate f) (task_bytes t) (kept_records task_size (gone_by w) (length ts) (joined task_bytes ts ++ rest))
        ≡ joined task_bytes (kept (f ∷ map (fate_of w) ts) (t ∷ ts))
    go None e = ap (λ (z : List ℕ). task_bytes t ++ z) e
    go (Some st) e = e

unused_join : (m n : ℕ) → unused_records m ++ unused_records n ≡ unused_records (m + n)
unfolding unused_records
unused_join zero n = rw (let z : 0 + n ≡ n = omega arith in z)
unused_join (suc m) n =
    rw ((let z : suc m + n ≡ suc (m + n) = omega arith in z)) (ap (λ (z : List ℕ). unused_bytes ++ z) (unused_join m n))

module _ (cs : ℕ → ℕ) (s : State) (eight : length s.pending ≡ nexuses) where
  -- how many stay, who ended, and the report
  pub kept_count_lem : (w : Sweep) → kept_count w (length s.tasks) (drop tasks_at (table_with cs s)) ≡ length (kept (map (fate_of w) s.tasks) s.tasks)
  kept_count_lem w = ap (λ (ts : List Task). length (kept (map (fate_of w) ts) ts)) (tasks_of_table cs s eight)

  pub losers_are : (w : Sweep) → losers w (length s.tasks) (drop tasks_at (table_with cs s)) ≡ lost (map (fate_of w) s.tasks) s.tasks
  losers_are w = ap (λ (ts : List Task). lost (map (fate_of w) ts) ts) (tasks_of_table cs s eight)

  pub ends_are : (w : Sweep) → ends_of w (length s.tasks) (drop tasks_at (table_with cs s)) ≡ ended_from (map (fate_of w) s.tasks) s.tasks
  ends_are w = ap (λ (ts : List Task). ended_from (map (fate_of w) ts) ts) (tasks_of_table cs s eight)

  pub closed_table :
      (w : Sweep) → length s.tasks ≤ places
      → closed_bytes w (length s.tasks) (table_with cs s) ≡ table_with cs (with_tasks s (kept (map (fate_of w) s.tasks) s.tasks))
  unfolding closed_bytes
  closed_table w few =
      let n = length s.tasks in
      let k = length (kept (map (fate_of w) s.tasks) s.tasks) in
      let le : k ≤ n = omega (arith, length_split (map (fate_of w) s.tasks) s.tasks) in
      let room : n - k + (places - n) ≡ places - k = omega arith in
      tasks_changed cs s eight (kept (map (fate_of w) s.tasks) s.tasks) _
      (ap (λ (l : List ℕ). l ++ (unused_records (n - kept_count w n (drop tasks_at (table_with cs s))) ++ drop (tasks_at + task_size * n) (table_with cs s)))
      (ap (kept_records task_size (gone_by w) n) (table_tasks cs s eight) ∙ kept_written w s.tasks (unused_records (places - n)))
      ∙ ap (λ (m : ℕ). joined task_bytes (kept (map (fate_of w) s.tasks) s.tasks) ++ (unused_records (n - m) ++ drop (tasks_at + task_size * n) (table_with cs s)))
      (kept_count_lem w)
      ∙ ap (λ (l : List ℕ). joined task_bytes (kept (map (fate_of w) s.tasks) s.tasks) ++ (unused_records (n - k) ++ l)) (behind_used cs s eight)
      ∙ ap (λ (l : List ℕ). joined task_bytes (kept (map (fate_of w) s.tasks) s.tasks) ++ l)
      (unused_join (n - k) (places - n) ∙ ap unused_records room))

  front_used : take (tasks_at + task_size * length s.tasks) (table_with cs s) ≡ take tasks_at (table_with cs s) ++ joined task_bytes s.tasks
  front_used =
      let b = table_with cs s in
      let used = joined task_bytes s.tasks in
      let unused = unused_records (places - length s.tasks) in
      let long : length (take tasks_at b ++ used) ≡ tasks_at + task_size * length s.tasks =
      length-append (take tasks_at b) used
      ∙ rw (table_front cs s eight) (omega (arith, length_nexuses cs 0 s.pending, length_joined task_size task_bytes (λ t. refl) s.tasks))
      in
      ap (take (tasks_at + task_size * length s.tasks))
      (sym (take-append-drop tasks_at b) ∙ ap (λ (z : List ℕ). take tasks_at b ++ z) (table_tasks cs s eight) ∙ sym (append_assoc (take tasks_at b) used unused))
      ∙ take_at (take tasks_at b ++ used) unused (tasks_at + task_size * length s.tasks) long

  one_place : length s.tasks < places → drop (tasks_at + task_size * length s.tasks + task_size) (table_with cs s) ≡ unused_records (places - (length s.tasks + 1))
  unfolding unused_records
  one_place few =
      let m : places - length s.tasks ≡ suc (places - (length s.tasks + 1)) = omega arith in
      sym (drop-drop task_size (tasks_at + task_size * length s.tasks) (table_with cs s)) ∙ ap (drop task_size) (behind_used cs s eight ∙ ap unused_records m)

  -- a task joins as the youngest
  pub joined_table :
      (t : Task) → length s.tasks < places
      → put_at task_size (table_with cs s) (tasks_at + task_size * length s.tasks) (task_bytes t) ≡ table_with cs (with_tasks s (s.tasks ++ (t ∷ [])))
  joined_table t few =
      let n = length s.tasks in
      let used = joined task_bytes s.tasks in
      ap (λ (z : List ℕ). z ++ (task_bytes t ++ drop (tasks_at + task_size * n + task_size) (table_with cs s))) front_used
      ∙ ap (λ (z : List ℕ). (take tasks_at (table_with cs s) ++ used) ++ (task_bytes t ++ z)) (one_place few)
      ∙ append_assoc (take tasks_at (table_with cs s)) used (task_bytes t ++ unused_records (places - (n + 1)))
      ∙ tasks_changed cs s eight (s.tasks ++ (t ∷ [])) _
      (rw (joined_append task_bytes s.tasks (t ∷ []), length-append s.tasks (t ∷ []), append_assoc))

pub header_table : (cs : ℕ → ℕ) (s : State) (h : Header) → put_at head_size (table_with cs s) 0 (header_bytes h) ≡ table_with cs (with_header s h)
unfolding table_with
header_table cs s h = refl
