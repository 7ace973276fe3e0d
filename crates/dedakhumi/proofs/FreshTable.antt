-- A header, eight fresh nexus records and 64 unused places make a fresh table.
use Prim.Native.Nat.{ℕ, ◌*◌}
use mathlib.Core.Path.{◌≡◌, refl}
use mathlib.Core.List.{List, [], ◌++◌, append_assoc, append-nil}
use native.Mathlib.Numerals.{add-one}
use lib.ListN.{length, drop, replicate, length-append}
use lib.Seq.{drop-drop, drop-length, take_at, drop_at}
use Rattle.laws.specs.RecordsInLists.{put_at, each_record}
use Rattle.rules.specs.Tasks.{places, nexuses}
use Rattle.rules.specs.Bits.{no_pending, after_power_on}
use Rattle.rules.specs.Rulings.{fresh}
use Rattle.rules.proofs.FreshSet.{fresh_header_lem, fresh_pending, fresh_tasks}
use Rattle.records.specs.Records.{head_size, nexus_size, header_bytes, nexus_bytes}
use Rattle.records.specs.Tables.{table_size, tasks_at, nexus_records, unused_records, table_with, table_bytes}
use Rattle.steps.specs.Steps.{next_place, vacated_bytes}
use Rattle.steps.proofs.Closes.{cleared}
use Rattle.steps.proofs.InPlace.{each_new}
use Rattle.values.specs.Headers.{fresh_header}
use Rattle.rules.specs.Types.{Policy, Pending}
use Rattle.dedakhumi.specs.FreshTable.{fresh_nexus, fresh_nexuses}

abbrev power_on : Pending
power_on = after_power_on no_pending

renewed :
    (m i : ℕ) (l : List ℕ)
    → each_record nexus_size fresh_nexus next_place i m l ≡ nexus_records (λ j. 0) i (replicate m power_on) ++ drop (nexus_size * m) l
unfolding nexus_records
renewed m i l =
    each_new nexus_size (λ j. nexus_bytes j power_on 0) (λ k j. nexus_records (λ i. 0) j (replicate k power_on)) (λ j. refl) (λ k j. rw (add-one j)) m i l

module _ (b head : List ℕ) (long : length b ≡ table_size) (wide : length head ≡ head_size) where
  told : List ℕ
  told = nexus_records (λ j. 0) 0 (replicate nexuses power_on)

  told_long : length (head ++ told) ≡ tasks_at
  unfolding told nexus_records
  told_long = rw (length-append, wide)

  nexuses_fresh : fresh_nexuses (put_at head_size b 0 head) ≡ (head ++ told) ++ drop tasks_at b
  unfolding fresh_nexuses told
  nexuses_fresh =
      rw (
        take_at head (drop head_size b) head_size wide,
        drop_at head (drop head_size b) head_size wide,
        renewed nexuses 0 (drop head_size b),
        drop-drop,
        append_assoc,
      )

  tasks_fresh : vacated_bytes 0 places (fresh_nexuses (put_at head_size b 0 head)) ≡ head ++ (told ++ unused_records places)
  unfolding vacated_bytes
  tasks_fresh =
      let none_left : drop table_size b ≡ [] = rw long at (drop-length b) in
      rw (
        nexuses_fresh,
        take_at (head ++ told) (drop tasks_at b) tasks_at told_long,
        drop_at (head ++ told) (drop tasks_at b) tasks_at told_long,
        cleared places 0 (drop tasks_at b),
        drop-drop,
        none_left,
        append-nil,
        append_assoc,
      )

pub fresh_bytes :
    (p : Policy) (b : List ℕ) → length b ≡ table_size
    → vacated_bytes 0 places (fresh_nexuses (put_at head_size b 0 (header_bytes (fresh_header p)))) ≡ table_bytes (fresh p)
unfolding table_bytes table_with told
fresh_bytes p b long = rw (fresh_header_lem p, fresh_pending p, fresh_tasks p) (tasks_fresh b (header_bytes (fresh_header p)) long refl)
