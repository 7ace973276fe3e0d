-- Believed by nobody: code's own way of walking, proved equal to what the rules say (docs/TRUST.md).
-- The rules over a list of tasks, in the form in which code walks it: of the older tasks it carries two bits.
--
--   no_older             := nothing is older
--   behind_by a o        := what is older behind a task of attribute a
--   eligible_by o a      := eligible, by what is older
--   fits_by aca o t y    := the state of the task t fits; y: it is the youngest
--   settled_by o ts      := every eligible task enabled, every other dormant
--   fit_by aca o ts      := every state fits
use Rattle.std.specs.Prelude.{Bool, true, false, ◌&&◌, not, List, [], ◌∷◌, eqb, Some, None}
use Rattle.laws.specs.Lists.{is_nil}
use Rattle.rules.specs.Tasks.{with_state, enabled_if}
use Rattle.rules.specs.Well.{settled_task, held_task}
use Rattle.rules.specs.Types.{Attribute, Simple, HeadOfQueue, Ordered, Aca, Task, Allegiance}
use Rattle.decide.specs.Types.{Older}

abbrev pub no_older : Older
no_older = record { any = false; barrier = false }

abbrev pub behind_by : Attribute → Older → Older
behind_by Simple o = record { any = true; barrier = o.barrier }
behind_by HeadOfQueue o = record { any = true; barrier = true }
behind_by Ordered o = record { any = true; barrier = true }
behind_by Aca o = record { any = true; barrier = o.barrier }

abbrev pub eligible_by : Older → Attribute → Bool
eligible_by o Simple = not o.barrier
eligible_by o HeadOfQueue = true
eligible_by o Ordered = not o.any
eligible_by o Aca = true

abbrev pub fits_by : Allegiance → Older → Task → Bool → Bool
fits_by None o t youngest = settled_task (eligible_by o t.attribute) t.attribute t.state
fits_by (Some f) o t youngest =
    held_task youngest (eligible_by o t.attribute) (eqb t.nexus f) t.attribute t.state

abbrev pub settled_by : Older → List Task → List Task
settled_by o [] = []
settled_by o (t ∷ ts) = with_state t (enabled_if (eligible_by o t.attribute)) ∷ settled_by (behind_by t.attribute o) ts

abbrev pub fit_by : Allegiance → Older → List Task → Bool
fit_by aca o [] = true
fit_by aca o (t ∷ ts) = fits_by aca o t (is_nil ts) && fit_by aca (behind_by t.attribute o) ts
