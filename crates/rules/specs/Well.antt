-- RULES 10: when a state is well formed.
--
--   Stands ts older t younger   := t is in ts, behind the tasks older and before the tasks younger
--   Eligible older t            := t is eligible behind those tasks
--   FitsWithoutAca older t      := what is asked of a task while no ACA is in effect
--   FitsInAca f older t younger := what is asked of one in an ACA of nexus f
--   WellFormed s                := the statement, clause by clause
--   well_formed s                := the test of it, which code can compute; that the two agree is proved (proofs/WellSays)
use Rattle.std.specs.Prelude.{ℕ, ◌≤◌, ◌<◌, ◌≡◌, Bool, true, false, ◌||◌, ◌&&◌, not, List, [], ◌∷◌, ◌++◌, map, eqb, ltb, leb, length, Some, None}
use Rattle.laws.specs.Lists.{any, is_nil}
use Rattle.rules.specs.Types.{Attribute, Simple, HeadOfQueue, Ordered, Aca, TaskState, Dormant, Enabled, Blocked, Task, Allegiance}
use Rattle.values.specs.Headers.{most_run}
use Rattle.rules.specs.Tasks.{places, nexuses, is_aca, same, eligible, enabled_if}
use Rattle.rules.specs.Rulings.{State}

-- RULES 4.1: a task of the table, behind the older ones and before the younger
abbrev pub Stands : List Task → List Task → Task → List Task → Type 0
Stands ts older t younger = ts ≡ older ++ (t ∷ younger)

-- RULES 2.2 to 2.5: of such a task
abbrev pub Eligible : List Task → Task → Type 0
Eligible older t = eligible (map (λ (u : Task). u.attribute) older) t.attribute ≡ true

-- RULES 10.1
pub record FitsWithoutAca (older : List Task) (t : Task) : Type 0 where
  pub not_blocked : t.state ≡ Blocked → ⊥
  pub not_aca : t.attribute ≡ Aca → ⊥
  pub enabled_if_eligible : Eligible older t → t.state ≡ Enabled
  pub enabled_only_if : t.state ≡ Enabled → Eligible older t
  pub else_dormant : (Eligible older t → ⊥) → t.state ≡ Dormant

-- RULES 10.2 and 10.3. Of two tasks with attribute ACA only one could be the youngest.
pub record FitsInAca (f : ℕ) (older : List Task) (t : Task) (younger : List Task) : Type 0 where
  pub aca_youngest : t.attribute ≡ Aca → younger ≡ []
  pub aca_enabled : t.attribute ≡ Aca → t.state ≡ Enabled
  pub aca_faulted : t.attribute ≡ Aca → t.nexus ≡ f
  pub other_not_enabled : (t.attribute ≡ Aca → ⊥) → t.state ≡ Enabled → ⊥
  pub blocked_eligible : t.state ≡ Blocked → Eligible older t
  pub head_blocked : t.attribute ≡ HeadOfQueue → t.state ≡ Blocked

-- RULES 10.1 to 10.6: the numbers and bounds; names; and of each task its state. Nothing more is asked.
pub record WellFormed (s : State) : Type 0 where
  pub counted : s.header.count ≡ length s.tasks
  pub few : length s.tasks ≤ places
  pub fault : (f : ℕ) → s.header.aca ≡ Some f → f < nexuses
  pub run : s.header.run ≤ 4
  pub eight : length s.pending ≡ nexuses
  pub nexus : (older : List Task) (t : Task) (younger : List Task) → Stands s.tasks older t younger → t.nexus < nexuses
  pub apart : (older : List Task) (t : Task) (between : List Task) (u : Task) (younger : List Task)
      → Stands s.tasks older t (between ++ (u ∷ younger)) → t.nexus ≡ u.nexus → t.tag ≡ u.tag → ⊥
  pub without_aca : s.header.aca ≡ None → (older : List Task) (t : Task) (younger : List Task)
      → Stands s.tasks older t younger → FitsWithoutAca older t
  pub in_an_aca : (f : ℕ) → s.header.aca ≡ Some f → (older : List Task) (t : Task) (younger : List Task)
      → Stands s.tasks older t younger → FitsInAca f older t younger

-- RULES 1.7. From here on the test.
abbrev pub same_state : TaskState → TaskState → Bool
same_state Dormant Dormant = true
same_state Dormant Enabled = false
same_state Dormant Blocked = false
same_state Enabled Dormant = false
same_state Enabled Enabled = true
same_state Enabled Blocked = false
same_state Blocked Dormant = false
same_state Blocked Enabled = false
same_state Blocked Blocked = true

-- RULES 10.1: one task without ACA, by whether it is eligible
abbrev pub settled_task : Bool → Attribute → TaskState → Bool
settled_task may_run a st = not (is_aca a) && same_state st (enabled_if may_run)

-- RULES 10.2 and 10.3: one task in an ACA, by whether it is the youngest, eligible, of the faulted nexus
abbrev pub held_task : Bool → Bool → Bool → Attribute → TaskState → Bool
held_task youngest may_run faulted Aca st = same_state st Enabled && youngest && faulted
held_task youngest may_run faulted HeadOfQueue st = same_state st Blocked && may_run
held_task youngest may_run faulted Simple st = same_state st Dormant || (same_state st Blocked && may_run)
held_task youngest may_run faulted Ordered st = same_state st Dormant || (same_state st Blocked && may_run)

-- RULES 10.1: from oldest to youngest; older has the attributes of the tasks passed
abbrev pub settled : List Attribute → List Task → Bool
settled older [] = true
settled older (t ∷ ts) =
    settled_task (eligible older t.attribute) t.attribute t.state && settled (t.attribute ∷ older) ts

-- RULES 10.2 and 10.3: likewise
abbrev pub held : ℕ → List Attribute → List Task → Bool
held f older [] = true
held f older (t ∷ ts) =
    held_task (is_nil ts) (eligible older t.attribute) (eqb t.nexus f) t.attribute t.state
    && held f (t.attribute ∷ older) ts

-- RULES 10.1 to 10.3
abbrev pub states_fit : Allegiance → List Task → Bool
states_fit None ts = settled [] ts
states_fit (Some f) ts = held f [] ts

-- RULES 10.4: a faulted nexus is 0 to 7
abbrev pub fault_fits : Allegiance → Bool
fault_fits None = true
fault_fits (Some f) = ltb f nexuses

-- RULES 10.5
abbrev pub distinct : List Task → Bool
distinct [] = true
distinct (t ∷ ts) = not (any (same t.nexus t.tag) ts) && distinct ts

-- RULES 10.4: a task's nexus is not 0 to 7
abbrev pub too_high : Task → Bool
too_high t = leb nexuses t.nexus

-- RULES 10.1 to 10.6: the whole test
unfoldable pub well_formed : State → Bool
well_formed s =
    leb s.header.run most_run && leb (length s.tasks) places && eqb s.header.count (length s.tasks)
    && eqb (length s.pending) nexuses
    && fault_fits s.header.aca
    && not (any too_high s.tasks)
    && distinct s.tasks
    && states_fit s.header.aca s.tasks
