-- Believed by nobody: code's own way of walking, proved equal to what the rules say (docs/TRUST.md).
-- What the loop that lists the ended tasks promises of the report; the rest of it is zeroed by the next step.
use Rattle.std.specs.Prelude.{ℕ, ◌+◌, ◌*◌, ◌≤◌, ◌≡◌, List, [], ◌∷◌, ◌++◌, length, take, Some, None}
use Rattle.laws.specs.RecordsInLists.{joined}
use Rattle.rules.specs.Tasks.{places}
use Rattle.rules.specs.Rulings.{fate_of}
use Rattle.records.specs.Records.{ended_size, task_from, ended_bytes}
use Rattle.rules.specs.Types.{Task, Fate, Ended, Sweep}

abbrev pub ended_as : Fate → Task → List Ended
ended_as None t = []
ended_as (Some st) t = record { nexus = t.nexus; status = st; tag = t.tag } ∷ []

-- one task more, on top of m ended records
pub record Listed (w : Sweep) (m : ℕ) (r : List ℕ) (before after : List ℕ) (k : ℕ) : Type 0 where
  pub counted : k ≡ m + length (ended_as (fate_of w (task_from r)) (task_from r))
  pub long : length after ≡ length before
  pub listed : take (ended_size * k) after ≡ take (ended_size * m) before ++ joined ended_bytes (ended_as (fate_of w (task_from r)) (task_from r))

pub record ListedAs (es : List Ended) (before after : List ℕ) (m : ℕ) : Type 0 where
  pub counted : m ≡ length es
  pub few : m ≤ places
  pub long : length after ≡ length before
  pub listed : take (ended_size * m) after ≡ joined ended_bytes es
