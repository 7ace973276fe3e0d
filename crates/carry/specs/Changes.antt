-- Believed by nobody: code's own way of walking, proved equal to what the rules say (docs/TRUST.md).
-- What the function that carries a change out asks and promises, in states.
use Rattle.std.specs.Prelude.{ℕ, ◌≤◌, ◌≡◌, true, List, length}
use Rattle.rules.specs.Tasks.{places}
use Rattle.values.specs.Headers.{lasting}
use Rattle.rules.specs.Rulings.{ruled, report_of}
use Rattle.rules.specs.Well.{well_formed}
use Rattle.records.specs.Tables.{state_of, table_bytes, report_bytes, good_table}
use Rattle.rules.specs.Types.{Allegiance, Change, Done, Changes}

pub record ChangeFits (t : List ℕ) (n : ℕ) (before : Allegiance) (c : Change) : Type 0 where
  pub good : good_table t ≡ true
  pub counted : n ≡ (state_of t).header.count
  pub aca : before ≡ (state_of t).header.aca
  pub lasts : lasting c.header ≡ lasting (state_of t).header
  pub well : well_formed (ruled (state_of t) (Changes Done c)) ≡ true

pub record ChangedAs (t : List ℕ) (c : Change) (after rep : List ℕ) (m : ℕ) : Type 0 where
  pub table : after ≡ table_bytes (ruled (state_of t) (Changes Done c))
  pub report : rep ≡ report_bytes (report_of (state_of t) (Changes Done c))
  pub ended : m ≡ length (report_of (state_of t) (Changes Done c))
  pub few : m ≤ places
