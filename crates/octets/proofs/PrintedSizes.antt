-- The lengths as numbers, RULES 13.1 to 13.3; and tags as two bytes, big-endian, RULES 14.1.
use Prim.Native.Nat.{ℕ, ◌+◌, ◌*◌, ◌/◌, ◌%◌}
use mathlib.Core.Path.{◌≡◌, refl}
use mathlib.Core.List.{List, [], ◌∷◌}
use lib.ListN.{get_or}
use Rattle.octets.specs.Bytes.{tag_in, tag_bytes}
use Rattle.octets.specs.Sizes.{head_size, nexus_size, task_size, ended_size, event_size, table_size, report_size}

pub record PrintedSizes : Type 0 where
  pub header : head_size ≡ 8
  pub nexus : nexus_size ≡ 8
  pub task : task_size ≡ 8
  pub ended : ended_size ≡ 8
  pub event : event_size ≡ 8
  pub table : table_size ≡ 584
  pub report : report_size ≡ 512
  pub tag_read : (r : List ℕ) → tag_in r ≡ get_or r 6 0 * 256 + get_or r 7 0
  pub tag_written : (g : ℕ) → tag_bytes g ≡ g / 256 ∷ g % 256 ∷ []

pub printed_sizes : PrintedSizes
printed_sizes =
    record {
      header = refl;
      nexus = refl;
      task = refl;
      ended = refl;
      event = refl;
      table = refl;
      report = refl;
      tag_read = λ r. refl;
      tag_written = λ g. refl;
    }
