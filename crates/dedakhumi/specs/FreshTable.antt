-- Believed by nobody: code's own way of walking, proved equal to what the rules say (docs/TRUST.md).
-- The loop that writes a fresh table's nexus records.
use Rattle.std.specs.Prelude.{ℕ, List, ◌++◌, take, drop}
use Rattle.laws.specs.RecordsInLists.{each_record}
use Rattle.rules.specs.Tasks.{nexuses}
use Rattle.rules.specs.Bits.{no_pending, after_power_on}
use Rattle.records.specs.Records.{nexus_size, nexus_bytes}
use Rattle.records.specs.Tables.{nexuses_at}
use Rattle.steps.specs.Steps.{next_place}

abbrev pub fresh_nexus : ℕ → List ℕ → List ℕ
fresh_nexus i r = nexus_bytes i (after_power_on no_pending) 0

unfoldable pub fresh_nexuses : List ℕ → List ℕ
fresh_nexuses b = take nexuses_at b ++ each_record nexus_size fresh_nexus next_place 0 nexuses (drop nexuses_at b)
