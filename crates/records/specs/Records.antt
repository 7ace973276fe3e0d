-- RULES 15: the records, written, read, and tested.
--
--   head_size, nexus_size, task_size, ended_size, event_size  := the widths of the records, passed on from octets/specs/Sizes
--   marked                := passed on from octets/specs/Bytes
--   header_bytes h, nexus_bytes i p c, task_bytes t, unused_bytes, ended_bytes e   := the record of a value
--   header_from r, pending_in r, task_from r   := the value of a record; of one that the tests refuse, any
--   header_fits r, nexus_fits i r, task_fits r, unused_fits r   := the record is one of its kind, field by field
use Rattle.std.specs.Prelude.{ℕ, Bool, ◌&&◌, List, [], ◌∷◌, eqb, ltb, leb, get_or}
pub use Rattle.octets.specs.Bytes.{marked}
pub use Rattle.octets.specs.Sizes.{head_size, nexus_size, task_size, ended_size, event_size}
use Rattle.octets.specs.Sizes.{policy_offset, count_offset, aca_offset, run_offset, pending_offset, nexus_offset, attribute_offset, state_offset, control_offset}
use Rattle.values.specs.Headers.{most_run}
use Rattle.rules.specs.Tasks.{places, nexuses}
use Rattle.rules.specs.Types.{Task, Header, Pending, Ended}
use Rattle.records.specs.Numbers.{flag, tag_in, tag_bytes, attribute_number, attribute_fits, attribute_from, state_number, state_fits, state_from}
use Rattle.records.specs.Numbers.{aca_number, aca_from, policy_number, policy_fits, policy_from, pending_number, pending_fits, pending_from}

-- RULES 15.1: header
abbrev pub header_bytes : Header → List ℕ
header_bytes h = 0x54 ∷ 0x48 ∷ 1 ∷ policy_number h.policy ∷ h.count ∷ aca_number h.aca ∷ h.run ∷ 0 ∷ []

abbrev pub header_from : List ℕ → Header
header_from r =
    record {
      policy = policy_from (get_or r policy_offset 0);
      count = get_or r count_offset 0;
      aca = aca_from (get_or r aca_offset 0);
      run = get_or r run_offset 0;
    }

abbrev pub header_fits : List ℕ → Bool
header_fits r =
    marked r 0x48 && eqb (get_or r 2 0) 1 && policy_fits (get_or r policy_offset 0) && leb (get_or r count_offset 0) places
    && leb (get_or r aca_offset 0) nexuses
    && leb (get_or r run_offset 0) most_run
    && eqb (get_or r 7 0) 0

-- RULES 15.2: nexus. The first of the four zeros is a parameter, so that laws hold whatever a table has there.
abbrev pub nexus_bytes : ℕ → Pending → ℕ → List ℕ
nexus_bytes i p c = 0x54 ∷ 0x4E ∷ i ∷ pending_number p ∷ c ∷ 0 ∷ 0 ∷ 0 ∷ []

abbrev pub pending_in : List ℕ → Pending
pending_in r = pending_from (get_or r pending_offset 0)

abbrev pub nexus_fits : ℕ → List ℕ → Bool
nexus_fits i r =
    marked r 0x4E && eqb (get_or r 2 0) i && pending_fits (get_or r pending_offset 0) && eqb (get_or r 4 0) 0 && eqb (get_or r 5 0) 0 && eqb (get_or r 6 0) 0
    && eqb (get_or r 7 0) 0

-- RULES 15.3: task
abbrev pub task_bytes : Task → List ℕ
task_bytes t =
    0x54
    ∷ 0x54
    ∷ t.nexus
    ∷ attribute_number t.attribute
    ∷ state_number t.state
    ∷ flag t.naca
    ∷ tag_bytes t.tag

abbrev pub task_from : List ℕ → Task
task_from r =
    record {
      nexus = get_or r nexus_offset 0;
      attribute = attribute_from (get_or r attribute_offset 0);
      state = state_from (get_or r state_offset 0);
      naca = eqb (get_or r control_offset 0) 1;
      tag = tag_in r;
    }

-- RULES 15.3: the nexus is 0 to 7, and bits 1 to 7 of control are 0
abbrev pub task_fits : List ℕ → Bool
task_fits r =
    marked r 0x54 && ltb (get_or r nexus_offset 0) nexuses && attribute_fits (get_or r attribute_offset 0) && state_fits (get_or r state_offset 0)
    && ltb (get_or r control_offset 0) 2

-- RULES 15.4: unused task record
abbrev pub unused_bytes : List ℕ
unused_bytes = 0x54 ∷ 0x54 ∷ 0 ∷ 0 ∷ 0 ∷ 0 ∷ tag_bytes 0

abbrev pub unused_fits : List ℕ → Bool
unused_fits r =
    marked r 0x54 && eqb (get_or r 2 0) 0 && eqb (get_or r 3 0) 0 && eqb (get_or r 4 0) 0 && eqb (get_or r 5 0) 0 && eqb (tag_in r) 0

-- RULES 15.5: ended
abbrev pub ended_bytes : Ended → List ℕ
ended_bytes e = 0x54 ∷ 0x45 ∷ e.nexus ∷ e.status ∷ 0 ∷ 0 ∷ tag_bytes e.tag
