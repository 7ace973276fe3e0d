-- The sweep under which nobody ends: nothing is listed, and every record stays where it is.
use Prim.Native.Nat.{ℕ, zero, suc, ◌+◌, ◌*◌}
use mathlib.Core.Bool.{true}
use mathlib.Core.Path.{◌≡◌, refl, sym, ap}
use mathlib.Core.List.{List, ◌++◌}
use native.Mathlib.Omega.{arith}
use lib.ListN.{take, drop}
use lib.Seq.{take-add}
use Rattle.laws.specs.RecordsInLists.{kept_records}
use Rattle.rules.proofs.Fates.{all_stay, none_ends}
use Rattle.records.specs.Records.{task_size}
use Rattle.records.specs.Tables.{tasks_at, tasks_from}
use Rattle.records.proofs.Good.{length_tasks_from}
use Rattle.rules.specs.Types.{Sweep, Nobody, OneTask, NexusTasks, AcaTask, AllTasks, ClearedBy, FailedTask}
use Rattle.steps.specs.Steps.{ends_nobody, gone_by, ends_of}
use Rattle.steps.specs.Closing.{KeptAs}
use Rattle.steps.specs.Reports.{ListedAs}

records_stay : (n : ℕ) (l : List ℕ) → kept_records task_size (gone_by Nobody) n l ≡ take (task_size * n) l
unfolding kept_records
records_stay zero l = refl
records_stay (suc n) l =
    let e : task_size * suc n ≡ task_size + task_size * n = omega arith in
    rw (e, take-add task_size (task_size * n) l) (ap (λ (z : List ℕ). take task_size l ++ z) (records_stay n (drop task_size l)))

is_nobody : (w : Sweep) → ends_nobody w ≡ true → w ≡ Nobody
is_nobody Nobody e = refl
is_nobody (OneTask n g st) e = cc
is_nobody (NexusTasks n) e = cc
is_nobody AcaTask e = cc
is_nobody AllTasks e = cc
is_nobody (ClearedBy n p) e = cc
is_nobody (FailedTask n g p) e = cc

pub nobody_closes : (w : Sweep) (n : ℕ) (b : List ℕ) → ends_nobody w ≡ true → KeptAs w n b b n
nobody_closes w n b e =
    rw (is_nobody w e)
    (record {
      counted = rw (all_stay (tasks_from n (drop tasks_at b))) (sym (length_tasks_from n (drop tasks_at b)));
      few = omega arith;
      long = refl;
      kept = rw (records_stay n (drop tasks_at b)) (take-add tasks_at (task_size * n) b);
      beyond = refl;
    })

pub nobody_listed : (w : Sweep) (n : ℕ) (l b : List ℕ) → ends_nobody w ≡ true → ListedAs (ends_of w n l) b b 0
nobody_listed w n l b e =
    rw (is_nobody w e, none_ends (tasks_from n l)) (record { counted = refl; few = omega arith; long = refl; listed = refl })
