-- Laws of task records, for a loop over them.
use Prim.Native.Nat.{ℕ, suc, ◌+◌, ◌-◌, ◌*◌, ◌≤◌, ◌<◌}
use mathlib.Core.Bool.{true}
use mathlib.Core.Path.{◌≡◌}
use mathlib.Core.List.{List, [], ◌∷◌}
use native.Mathlib.Omega.{arith}
use lib.Dec.{ltb}
use lib.ListN.{get_or, drop}
use lib.Seq.{drop-drop}
use borrow.Author.Tests.{ltb-true}
use Rattle.laws.specs.RecordsInLists.{record_at}
use Rattle.laws.proofs.Bools.{and-true}
use Rattle.octets.specs.Sizes.{task_size, tasks_at, nexus_offset, attribute_offset, state_offset, control_offset}
use Rattle.rules.specs.Tasks.{nexuses}
use Rattle.records.specs.Numbers.{attribute_fits, state_fits}
use Rattle.records.specs.Records.{marked, task_from, task_fits}
use Rattle.records.specs.Tables.{tasks_from}

pub tasks_next :
    (n i : ℕ) (b : List ℕ) → i < n
    → tasks_from (n - i) (drop (tasks_at + task_size * i) b) ≡ task_from (record_at task_size b (tasks_at + task_size * i)) ∷ tasks_from (n - (i + 1)) (drop (tasks_at + task_size * (i + 1)) b)
unfolding tasks_from
tasks_next n i b h =
    let e : n - i ≡ suc (n - (i + 1)) = omega arith in
    let f : tasks_at + task_size * (i + 1) ≡ tasks_at + task_size * i + task_size = omega arith in
    rw (e, f) (rw drop-drop)

pub tasks_end : (n i : ℕ) (l : List ℕ) → n ≤ i → tasks_from (n - i) l ≡ []
unfolding tasks_from
tasks_end n i l h = let e : n - i ≡ 0 = omega arith in rw e

pub task_nexus_low : (r : List ℕ) → task_fits r ≡ true → get_or r nexus_offset 0 < nexuses
task_nexus_low r e =
    let o5 = and-true _ (ltb (get_or r control_offset 0) 2) e in
    let o4 = and-true _ (state_fits (get_or r state_offset 0)) o5.0 in
    let o3 = and-true _ (attribute_fits (get_or r attribute_offset 0)) o4.0 in
    ltb-true (get_or r nexus_offset 0) nexuses (and-true (marked r 0x54) (ltb (get_or r nexus_offset 0) nexuses) o3.0).1
