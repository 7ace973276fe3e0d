-- Believed by nobody: code's own way of walking, proved equal to what the rules say (docs/TRUST.md).
-- The tests of a table as code makes them: record by record, with the states in one pass, and names as numbers.
--
--   used_fit n aca o l   := the first n task records are good, and their states fit behind o
--   key_of t             := nexus and tag as one number
--   keys_from n l        := the keys of the first n task records
--   keys_apart ks        := no two keys are the same
--   spare_key            := a number that is no task's key, whatever its bytes: nexus 256, tag 0
--   Spared ks n         := the first n of the 68 are tasks' keys, the others spare
--   records_fit n aca b  := the records behind a header that says n tasks and aca are good, their states fit, and no two share a name
--   table_test b         := the test of a table in code's order; that it is `good_table` is proved (proofs/TableTest)
use Rattle.std.specs.Prelude.{ℕ, zero, suc, ◌+◌, ◌-◌, ◌*◌, ◌<◌, ◌≤◌, ◌≡◌, Bool, true, ◌&&◌, not, List, [], ◌∷◌, eqb, length, get_or, take, drop}
use Rattle.laws.specs.Lists.{any}
use Rattle.laws.specs.RecordsInLists.{record_at}
use Rattle.octets.specs.Sizes.{tag_bound}
use Rattle.rules.specs.Tasks.{places, nexuses}
use Rattle.records.specs.Records.{head_size, task_size, header_from, header_fits, task_from, task_fits}
use Rattle.records.specs.Tables.{table_size, nexuses_at, tasks_at, count_in, nexuses_fit, unused_fit}
use Rattle.decide.specs.OlderTasks.{no_older, behind_by, fits_by}
use Rattle.rules.specs.Types.{Task, Allegiance}
use Rattle.decide.specs.declared.states.Older.{Older}

unfoldable pub used_fit : ℕ → Allegiance → Older → List ℕ → Bool
used_fit zero aca o l = true
used_fit (suc n) aca o l =
    task_fits (take task_size l)
    && (fits_by aca o (task_from (take task_size l)) (eqb n 0)
    && used_fit n aca (behind_by (task_from (take task_size l)).attribute o) (drop task_size l))

abbrev pub key_of : Task → ℕ
key_of t = t.nexus * tag_bound + t.tag

unfoldable pub keys_from : ℕ → List ℕ → List ℕ
keys_from zero l = []
keys_from (suc n) l = key_of (task_from (take task_size l)) ∷ keys_from n (drop task_size l)

unfoldable pub keys_apart : List ℕ → Bool
keys_apart [] = true
keys_apart (k ∷ ks) = not (any (eqb k) ks) && keys_apart ks

abbrev pub spare_key : ℕ
spare_key = 256 * tag_bound

pub record Spared (ks : List ℕ) (n : ℕ) : Type 0 where
  pub low : (i : ℕ) → i < n → get_or ks i 0 < spare_key
  pub spare : (i : ℕ) → n ≤ i → i < 68 → get_or ks i 0 ≡ spare_key

abbrev pub records_fit : ℕ → Allegiance → List ℕ → Bool
records_fit n aca b =
    nexuses_fit 0 nexuses (drop nexuses_at b)
    && (used_fit n aca no_older (drop tasks_at b)
    && (unused_fit (places - n) (drop (tasks_at + task_size * n) b) && keys_apart (keys_from n (drop tasks_at b))))

unfoldable pub table_test : List ℕ → Bool
table_test b =
    eqb (length b) table_size
    && (header_fits (record_at head_size b 0) && records_fit (count_in b) (header_from (record_at head_size b 0)).aca b)
