-- The mission's accident cannot happen: nothing younger overtakes an ORDERED write, nor a HEAD OF QUEUE task.
use Rattle.std.specs.Prelude.{Some, None}
use mathlib.Core.Bool.{Bool, true, false}
use mathlib.Core.Path.{◌≡◌, refl}
use mathlib.Core.List.{List, [], ◌∷◌, ◌++◌}
use Rattle.laws.specs.Lists.{any}
use Rattle.laws.proofs.Bools.{or-false}
use Rattle.laws.proofs.Lists.{any_suffix}
use Rattle.rules.specs.Types.{Attribute, Simple, Task, Allegiance}
use Rattle.rules.specs.Tasks.{aca_task, enabled_task, enabled_plain, holds_back}
use Rattle.rules.specs.Rulings.{State}
use Rattle.rules.specs.Well.{Stands, WellFormed, settled, states_fit}
use Rattle.rules.proofs.Settled.{settled_cons, settled_ordinary, held_back, oldest_enabled}
use Rattle.rules.proofs.Held.{held_plain}
use Rattle.rules.proofs.WellSays.{says_tested, clear_settled}

-- HEAD OF QUEUE or ORDERED: what holds a SIMPLE task back
abbrev pub is_barrier : Attribute → Bool
is_barrier a = holds_back Simple a

behind_settled :
    (older : List Attribute) (pre : List Task) (t : Task) (post : List Task) → settled older (pre ++ t ∷ post) ≡ true
    → is_barrier t.attribute ≡ true → any enabled_plain post ≡ false
behind_settled older [] t post e a = held_back (t.attribute ∷ older) post (rw a) refl (settled_cons older t post e).rest
behind_settled older (u ∷ us) t post e a =
    behind_settled (u.attribute ∷ older) us t post (settled_cons older u (us ++ t ∷ post) e).rest a

behind_any :
    (a : Allegiance) (pre : List Task) (t : Task) (post : List Task) → states_fit a (pre ++ t ∷ post) ≡ true
    → is_barrier t.attribute ≡ true → any enabled_plain post ≡ false
behind_any None pre t post e h = behind_settled [] pre t post e h
behind_any (Some f) pre t post e h =
    (or-false (enabled_plain t) _ (any_suffix enabled_plain pre (t ∷ post) (held_plain f [] (pre ++ t ∷ post) e))).1

-- while an ORDERED or HEAD OF QUEUE task is in the table, no younger SIMPLE or ORDERED task is enabled, ACA or not
pub no_overtaking :
    (s : State) (older : List Task) (t : Task) (younger : List Task) → WellFormed s → Stands s.tasks older t younger
    → is_barrier t.attribute ≡ true → any enabled_plain younger ≡ false
no_overtaking s older t younger w e h = behind_any s.header.aca older t younger (rw e at (says_tested s w).states) h

-- without ACA the oldest task is enabled
pub oldest_runs :
    (s : State) (t : Task) (younger : List Task) → WellFormed s → s.header.aca ≡ None → Stands s.tasks [] t younger
    → enabled_task t ≡ true
oldest_runs s t younger w c e = oldest_enabled t younger (rw e at (clear_settled s w c))

-- no task with attribute ACA outlives its ACA
pub no_aca_task : (s : State) → WellFormed s → s.header.aca ≡ None → any aca_task s.tasks ≡ false
no_aca_task s w c = settled_ordinary [] s.tasks (clear_settled s w c)
