-- RULES 24: what the player writes for event bytes, piece by piece.
--
--   Run                   := the lines written, and the table and the report buffer afterwards
--   behind ls p           := the run p with the lines ls before its own
--   played n t r es       := the run over the first n pieces of es, from the table t and the report buffer r
--   OnePlayed o ..        := what the buffers at exit have to be after one piece that apply answered with o, its line put at `at` of `out`
--   PlayedAs p ..         := what the buffers at exit have to be, with lines up to `end` of `out`
use Rattle.std.specs.Prelude.{ℕ, zero, suc, ◌+◌, ◌≤◌, ◌≡◌, List, [], ◌++◌, take, drop}
use Rattle.io.specs.Counts.{IsPrefixLen}
use Rattle.records.specs.Records.{event_size}
use Rattle.operations.specs.Operations.{Outcome, outcome}
use Rattle.numbers.specs.Boundary.{answered}
use Rattle.lines.specs.Lines.{line, Written}

-- RULES 24.1: one line for each piece
pub record Run : Type 0 where
  pub lines : List ℕ
  pub table : List ℕ
  pub report : List ℕ

abbrev pub behind : List ℕ → Run → Run
behind ls p = record { lines = ls ++ p.lines; table = p.table; report = p.report }

-- RULES 24.1 to 24.4, but for the start and the reads: nothing for empty input; take leaves a last piece under 8 bytes as short as it is, and so a bad event
unfoldable pub played : ℕ → List ℕ → List ℕ → List ℕ → Run
played zero t r es = record { lines = []; table = t; report = r }
played (suc n) t r es =
    behind (line (answered (outcome t r (take event_size es))))
    (played n (outcome t r (take event_size es)).table (outcome t r (take event_size es)).report (drop event_size es))

-- RULES 24.1: one piece
pub record OnePlayed (o : Outcome) (before : List ℕ) (at : ℕ) (t r out : List ℕ) (end : ℕ) : Type 0 where
  pub text : Written before at out end (line (answered o))
  pub short : end ≤ at + 20
  pub table : t ≡ o.table
  pub report : r ≡ o.report

-- RULES 24.1, 24.3 and 24.4: all of them
pub record PlayedAs (p : Run) (t r out : List ℕ) (end : ℕ) : Type 0 where
  pub lines : take end out ≡ p.lines
  pub table : t ≡ p.table
  pub report : r ≡ p.report
  pub within : IsPrefixLen end out
