-- Believed by nobody: code's own way of walking, proved equal to what the rules say (docs/TRUST.md).
-- A stretch of log played record by record.
--
--   standing t r c         := table, report buffer and counters
--   counted o k c          := the counters after an event of the kind k that apply answered with o
--   count_piece w e, walk_over n w l := after the piece e; after the first n records of l
--   Ready .., StoodAt ..   := what the walk over a stretch from a place in it asks; what it leaves
--   TakenAs ..             := what the walk over the first bytes of a buffer leaves
use Rattle.std.specs.Prelude.{ℕ, zero, suc, ◌+◌, ◌-◌, ◌*◌, ◌/◌, ◌≤◌, ◌≡◌, List, length, get_or, take, drop}
use Rattle.std.proofs.Math.Seq.{paste}
use Rattle.octets.specs.Sizes.{kind_offset}
use Rattle.records.specs.Records.{event_size}
use Rattle.records.specs.Tables.{table_size, report_size, count_in}
use Rattle.operations.specs.Operations.{Outcome, outcome}
use Rattle.numbers.specs.Boundary.{answered}
use Rattle.tallies.specs.Counters.{counters, count_event}
use Rattle.logs.specs.declared.play.Standing.{Standing}
use Rattle.logs.specs.SoFar.{wholes, rest}

-- A walk -----------------------------------------------------------------------------------------------------------------------------------

abbrev pub standing : List ℕ → List ℕ → List ℕ → Standing
standing t r c = record { table = t; report = r; counts = c }

abbrev pub counted : Outcome → ℕ → List ℕ → List ℕ
counted o kind c = count_event (answered o) kind o.report (count_in o.table) c

unfoldable pub count_piece : Standing → List ℕ → Standing
count_piece w e =
    record {
      table = (outcome w.table w.report e).table;
      report = (outcome w.table w.report e).report;
      counts = counted (outcome w.table w.report e) (get_or e kind_offset 0) w.counts;
    }

unfoldable pub walk_over : ℕ → Standing → List ℕ → Standing
walk_over zero w l = w
walk_over (suc n) w l = walk_over n (count_piece w (take event_size l)) (drop event_size l)

pub record Ready (s : List ℕ) (at : ℕ) (w : Standing) : Type 0 where
  pub table : length w.table ≡ table_size
  pub report : length w.report ≡ report_size
  pub counts : length w.counts ≡ counters
  pub within : at ≤ length s

pub record StoodAt (s : List ℕ) (at : ℕ) (w w' : Standing) (p : ℕ) : Type 0 where
  pub stood : w' ≡ walk_over ((length s - at) / event_size) w (drop at s)
  pub place : p ≡ at + event_size * ((length s - at) / event_size)

pub record TakenAs (b : List ℕ) (end : ℕ) (w w' : Standing) (b' : List ℕ) (n : ℕ) : Type 0 where
  pub stood : w' ≡ walk_over (wholes (take end b)) w (take end b)
  pub count : n ≡ length (rest (take end b))
  pub carried : b' ≡ paste b 0 (rest (take end b)) n
