-- Believed by nobody: code's own way of walking, proved equal to what the rules say (docs/TRUST.md).
-- What the loop that closes up promises of the records that stay; what stands between them and the rest is cleared by the next step.
use Rattle.std.specs.Prelude.{ℕ, ◌+◌, ◌*◌, ◌≤◌, ◌≡◌, Bool, true, false, List, ◌++◌, length, take, drop}
use Rattle.laws.specs.RecordsInLists.{kept_records}
use Rattle.records.specs.Records.{task_size}
use Rattle.rules.specs.Types.{Sweep}
use Rattle.records.specs.Tables.{tasks_at}
use Rattle.steps.specs.Steps.{gone_by, kept_count}

abbrev pub one_unless : Bool → ℕ
one_unless true = 0
one_unless false = 1

pub record KeptAs (w : Sweep) (n : ℕ) (b after : List ℕ) (k : ℕ) : Type 0 where
  pub counted : k ≡ kept_count w n (drop tasks_at b)
  pub few : k ≤ n
  pub long : length after ≡ length b
  pub kept : take (tasks_at + task_size * k) after ≡ take tasks_at b ++ kept_records task_size (gone_by w) n (drop tasks_at b)
  pub beyond : drop (tasks_at + task_size * n) after ≡ drop (tasks_at + task_size * n) b
