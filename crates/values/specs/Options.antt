-- Two options that the rules have a name for; code says `Option<u8>`.
--
--   Allegiance   := RULES 1.10: the nexus that an ACA is for, where one is in effect
--   Fate         := RULES 4.3: what an event does to one task that is there: the status by which it ends, where it does not stay
use Rattle.std.specs.Prelude.{ℕ, Option}

-- RULES 1.10
abbrev pub Allegiance : Type 0
Allegiance = Option ℕ

-- RULES 4.3
abbrev pub Fate : Type 0
Fate = Option ℕ
