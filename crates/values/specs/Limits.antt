-- RULES 1.1 and 1.5: how many there are at most; src/lib.rt has the same numbers for code.
--
--   nexuses, places  := 8 nexuses, 64 tasks
use Rattle.std.specs.Prelude.{ℕ}

-- RULES 1.1: nexuses
abbrev pub nexuses : ℕ
nexuses = 8

-- RULES 1.5: tasks
abbrev pub places : ℕ
places = 64
