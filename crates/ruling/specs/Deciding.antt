-- Believed by nobody: code's own way of walking, proved equal to what the rules say (docs/TRUST.md).
-- The ruling on an event, from what searches over the table's bytes find.
--
--   has_aca aca ts              := there is an ACA task; looked for only while an ACA is in effect
--   pending_at b n              := the pending bits of nexus n in the table b
--   searched_ruling b h e ts    := the ruling on the event e, by the header h and the tasks ts of the table b
use Rattle.std.specs.Prelude.{ℕ, ◌+◌, ◌*◌, Bool, false, List, get_or, Some, None}
use Rattle.laws.specs.Lists.{any, first}
use Rattle.octets.specs.Sizes.{nexus_size, pendings_at}
use Rattle.rules.specs.Tasks.{aca_task, same, is_named}
use Rattle.rules.specs.Rules.{enter, complete, manage, happen}
use Rattle.records.specs.Numbers.{pending_from}
use Rattle.decide.specs.Searches.{searched_turn}
use Rattle.rules.specs.Types.{Task, Event, Command, Completion, Management, Condition, Allegiance, Header, Pending, Ruling}

abbrev pub has_aca : Allegiance → List Task → Bool
has_aca None ts = false
has_aca (Some f) ts = any aca_task ts

abbrev pub pending_at : List ℕ → ℕ → Pending
pending_at b n = pending_from (get_or b (pendings_at + nexus_size * n) 0)

unfoldable pub searched_ruling : List ℕ → Header → Event → List Task → Ruling
searched_ruling b h (Command c) ts =
    enter h c (any (same c.nexus c.tag) ts) (has_aca h.aca ts) (pending_at b c.nexus)
searched_ruling b h (Completion n g f) ts =
    complete h (first (same n g) ts) f (is_named n g (searched_turn h.aca h.run ts))
searched_ruling b h (Management n f) ts = manage h n f
searched_ruling b h (Condition c) ts = happen h c
