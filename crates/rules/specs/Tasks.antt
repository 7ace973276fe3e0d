-- RULES 2: which tasks are eligible, their states after an event, and whose turn it is. What a turn does to run is in values/specs/Headers.
--
--   places, nexuses             := 64 tasks, 8 nexuses; passed on from values/specs/Limits
--   is_head, is_plain, is_aca a    := the attribute is HEAD OF QUEUE; SIMPLE or ORDERED; ACA
--   is_enabled st, enabled_task t := the state, or the task, is enabled
--   aca_task, enabled_head, enabled_plain t   := the task has attribute ACA; is enabled and HEAD OF QUEUE; is enabled and SIMPLE or ORDERED
--   of_nexus n t, same n g t     := the task is one of nexus n; and has the tag g
--   with_state t st              := the task in another state
--   holds_back a o, eligible older a   := an older task of attribute o holds one of attribute a back; no older task does
--   settle_from older ts         := every eligible task of ts enabled, every other dormant, behind tasks of the attributes older
--   restate a b ts              := the states after an event, by the allegiance before it and after it
--   whose_turn aca run ts            := the task that the turn rule names, or none
--   turn_of o, is_named n g turn  := its name; whether that is the name of the task of nexus n and tag g
use Rattle.std.specs.Prelude.{ℕ, Bool, true, false, cond, ◌||◌, ◌&&◌, not, List, [], ◌∷◌, map, eqb, ltb, Option, Some, None}
use Rattle.laws.specs.Lists.{any, first}
pub use Rattle.values.specs.Limits.{places, nexuses}
use Rattle.values.specs.Headers.{most_run}
use Rattle.rules.specs.Types.{Attribute, TaskState, Task, Allegiance, Named}

-- RULES 1.6: the attributes, by what the rules ask of them
abbrev pub is_head : Attribute → Bool
is_head Attribute.Simple = false
is_head Attribute.HeadOfQueue = true
is_head Attribute.Ordered = false
is_head Attribute.Aca = false

abbrev pub is_plain : Attribute → Bool
is_plain Attribute.Simple = true
is_plain Attribute.HeadOfQueue = false
is_plain Attribute.Ordered = true
is_plain Attribute.Aca = false

abbrev pub is_aca : Attribute → Bool
is_aca Attribute.Simple = false
is_aca Attribute.HeadOfQueue = false
is_aca Attribute.Ordered = false
is_aca Attribute.Aca = true

-- RULES 1.7
abbrev pub is_enabled : TaskState → Bool
is_enabled TaskState.Dormant = false
is_enabled TaskState.Enabled = true
is_enabled TaskState.Blocked = false

-- RULES 1.6: an ACA task
abbrev pub aca_task : Task → Bool
aca_task t = is_aca t.attribute

-- RULES 2.1: whose a task is, and who is meant by a nexus and a tag
abbrev pub of_nexus : ℕ → Task → Bool
of_nexus n t = eqb t.nexus n

abbrev pub same : ℕ → ℕ → Task → Bool
same n g t = eqb t.nexus n && eqb t.tag g

-- RULES 1.8: a task in another state; the rest of it lasts
abbrev pub with_state : Task → TaskState → Task
with_state t st = record { nexus = t.nexus; attribute = t.attribute; state = st; naca = t.naca; tag = t.tag }

-- RULES 2.2 to 2.4 and 2.6: an older task of the second attribute holds one of the first back. Of an ACA task it is asked nowhere.
abbrev pub holds_back : Attribute → Attribute → Bool
holds_back Attribute.HeadOfQueue o = false
holds_back Attribute.Simple Attribute.Simple = false
holds_back Attribute.Simple Attribute.HeadOfQueue = true
holds_back Attribute.Simple Attribute.Ordered = true
holds_back Attribute.Simple Attribute.Aca = false
holds_back Attribute.Ordered o = true
holds_back Attribute.Aca o = false

-- RULES 2.2 to 2.5: of the older tasks only the attributes count, and not their order
abbrev pub eligible : List Attribute → Attribute → Bool
eligible older a = not (any (holds_back a) older)

-- RULES 2.7: the state by whether the task is eligible
abbrev pub enabled_if : Bool → TaskState
enabled_if true = TaskState.Enabled
enabled_if false = TaskState.Dormant

-- RULES 2.7: from oldest to youngest
abbrev pub settle_from : List Attribute → List Task → List Task
settle_from older [] = []
settle_from older (t ∷ ts) =
    with_state t (enabled_if (eligible older t.attribute)) ∷ settle_from (t.attribute ∷ older) ts

-- RULES 2.8: of one task
abbrev pub blocked_if_enabled : TaskState → TaskState
blocked_if_enabled TaskState.Dormant = TaskState.Dormant
blocked_if_enabled TaskState.Enabled = TaskState.Blocked
blocked_if_enabled TaskState.Blocked = TaskState.Blocked

-- RULES 2.7 to 2.9: the event ends without an ACA; an ACA begins; an ACA lasts
abbrev pub restate : Allegiance → Allegiance → List Task → List Task
restate before None ts = settle_from [] ts
restate None (Some n) ts = map (λ (t : Task). with_state t (blocked_if_enabled t.state)) ts
restate (Some m) (Some n) ts = ts

-- RULES 2.11 and 2.12: what the turn rule looks for
abbrev pub enabled_task : Task → Bool
enabled_task t = is_enabled t.state

abbrev pub enabled_head : Task → Bool
enabled_head t = is_head t.attribute && is_enabled t.state

abbrev pub enabled_plain : Task → Bool
enabled_plain t = is_plain t.attribute && is_enabled t.state

-- RULES 2.10 to 2.12: the turn rule
unfoldable pub whose_turn : Allegiance → ℕ → List Task → Option Task
whose_turn (Some n) run ts = first aca_task ts
whose_turn None run ts =
    cond (any enabled_head ts && (ltb run most_run || not (any enabled_plain ts))) (first enabled_head ts) (first enabled_task ts)

-- RULES 2.1 and 2.10 to 2.12: who is named, by nexus and tag
abbrev pub turn_of : Option Task → Option Named
turn_of None = None
turn_of (Some t) = Some (record { nexus = t.nexus; tag = t.tag })

-- RULES 2.1: whether it is the task of nexus n and tag g
abbrev pub is_named : ℕ → ℕ → Option Named → Bool
is_named n g None = false
is_named n g (Some t) = eqb t.nexus n && eqb t.tag g
