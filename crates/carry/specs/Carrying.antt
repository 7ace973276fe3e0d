-- Believed by nobody: code's own way of walking, proved equal to what the rules say (docs/TRUST.md).
-- The steps of a change that are not loops.
--
--   noted_unless_quiet k ls b  := the nexus records after a notice, if there is one
--   joined_bytes j k b        := a task that joins is put at place k
--   HeaderKept t h           := the table has a header record already, with what lasts of h
use Rattle.std.specs.Prelude.{ℕ, ◌+◌, ◌*◌, ◌≤◌, true, ◌≡◌, List, length, Option, Some, None}
use Rattle.laws.specs.RecordsInLists.{record_at, put_at}
use Rattle.octets.specs.Sizes.{head_size, task_size, tasks_at}
use Rattle.values.specs.Headers.{lasting}
use Rattle.rules.specs.Well.{fault_fits}
use Rattle.records.specs.Records.{header_bytes, task_bytes}
use Rattle.steps.specs.Steps.{noted_bytes}
use Rattle.rules.specs.Types.{Task, Header, Notice, Quiet, Reported, OthersLost, ReportedAndOthersLost, NexusLost, UnitWasReset, HardWasReset, PowerCameOn}

abbrev pub noted_unless_quiet : Notice → List Task → List ℕ → List ℕ
noted_unless_quiet Quiet ls b = b
noted_unless_quiet (Reported n t) ls b = noted_bytes (Reported n t) ls b
noted_unless_quiet (OthersLost n) ls b = noted_bytes (OthersLost n) ls b
noted_unless_quiet (ReportedAndOthersLost n t) ls b = noted_bytes (ReportedAndOthersLost n t) ls b
noted_unless_quiet (NexusLost n) ls b = noted_bytes (NexusLost n) ls b
noted_unless_quiet UnitWasReset ls b = noted_bytes UnitWasReset ls b
noted_unless_quiet HardWasReset ls b = noted_bytes HardWasReset ls b
noted_unless_quiet PowerCameOn ls b = noted_bytes PowerCameOn ls b

abbrev pub joined_bytes : Option Task → ℕ → List ℕ → List ℕ
joined_bytes None k b = b
joined_bytes (Some t) k b = put_at task_size b (tasks_at + task_size * k) (task_bytes t)

pub record HeaderKept (t : List ℕ) (h : Header) : Type 0 where
  pub long : head_size ≤ length t
  pub fault : fault_fits h.aca ≡ true
  pub was : Header
  pub stands : record_at head_size t 0 ≡ header_bytes was
  pub lasts : lasting was ≡ lasting h
