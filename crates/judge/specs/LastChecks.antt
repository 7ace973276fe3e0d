-- Believed by nobody: code's own way of walking, proved equal to what the rules say (docs/TRUST.md).
-- The checks at entry that are left, as code asks them: the tails of the one list.
--
--   checks_past_aca h c p      := what the checks from 3 on come to
--   last_checks h c           := what those from 4 on come to
use Rattle.std.specs.Prelude.{false, drop}
use Rattle.rules.specs.Bits.{no_pending}
use Rattle.rules.specs.Rules.{checks, by_checks}
use Rattle.rules.specs.Types.{Entry, Header, Pending, Ruling}

-- what checks 1 and 2 are told does not matter to those after them
unfoldable pub checks_past_aca : Header → Entry → Pending → Ruling
checks_past_aca h c p = by_checks (drop 2 (checks h c false false p)) h c

-- nor do the pending bits to those after check 3
unfoldable pub last_checks : Header → Entry → Ruling
last_checks h c = by_checks (drop 3 (checks h c false false no_pending)) h c
