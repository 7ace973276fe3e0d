-- Believed by nobody: code's own way of walking, proved equal to what the rules say (docs/TRUST.md).
-- Check 2 at entry, as code asks it.
--
--   held_off aca n asks has   := check 2 stops a command of nexus n; asks: for attribute ACA; has: there is an ACA task
--   held_status aca n naca    := the status that it gives
use Rattle.std.specs.Prelude.{ℕ, Bool, false, cond, ◌||◌, ◌&&◌, not, eqb, Some, None}
use Rattle.rules.specs.Types.{Allegiance}

abbrev pub held_off : Allegiance → ℕ → Bool → Bool → Bool
held_off None n asks has = false
held_off (Some f) n asks has = not (eqb n f && asks && not has)

abbrev pub held_status : Allegiance → ℕ → Bool → ℕ
held_status None n naca = 0x30
held_status (Some f) n naca = cond (eqb n f || naca) 0x30 0x08
