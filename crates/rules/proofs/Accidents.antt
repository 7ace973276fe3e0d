-- What must never happen, on small cases: each is computed, so that a rule that breaks it shows the wrong value.
use Rattle.std.specs.Prelude.{Option, Some, None}
use Prim.Native.Nat.{ℕ, zero, suc}
use mathlib.Core.Bool.{Bool, true, false}
use mathlib.Core.Path.{◌≡◌, refl}
use mathlib.Core.List.{List, [], ◌∷◌, ◌++◌, map}
use Rattle.rules.specs.Types.{Attribute, Simple, HeadOfQueue, Ordered, TaskState, Dormant, Enabled, Task, Event, Command, Completion, Good, CheckCondition, Management, AbortTask, AbortTaskSet, ClearTaskSet, Pending, EndNone, Ended, Named}
use Rattle.rules.specs.Tasks.{whose_turn, turn_of}
use Rattle.rules.specs.Rulings.{State, fresh}
use Rattle.rules.specs.Rules.{ended_with, new_task, enter, complete, manage, rule_for, ruling, step, answer, report}

-- exempt, so that no pending bit stands in the way
abbrev pub command : ℕ → ℕ → Attribute → Bool → Event
command n g a naca = Command (record { nexus = n; asked = Some a; naca = naca; exempt = true; tag = g })

abbrev from : State → List Event → State
from s [] = s
from s (e ∷ es) = from (step s e) es

abbrev fresh00 : State
fresh00 = fresh (record { qerr = EndNone; tas = false })

abbrev states : State → List TaskState
states s = map (λ (t : Task). t.state) s.tasks

abbrev names : ℕ → State → Option Named
names run s = turn_of (whose_turn None run s.tasks)

abbrev case_b : List Event
case_b = command 0 1 Simple false ∷ command 1 1 Ordered false ∷ command 0 2 Simple false ∷ []

-- case B: a younger read does not overtake the ORDERED write, while it waits or while it runs
pub read_waits : states (from fresh00 case_b) ≡ Enabled ∷ Dormant ∷ Dormant ∷ []
unfolding fresh whose_turn new_task enter complete rule_for ruling step
read_waits = refl

pub read_still_waits : states (from fresh00 (case_b ++ (Completion 0 1 Good ∷ []))) ≡ Enabled ∷ Dormant ∷ []
unfolding fresh whose_turn new_task enter complete rule_for ruling step
read_still_waits = refl

abbrev case_c : List Event
case_c = command 0 1 Simple false ∷ command 1 1 HeadOfQueue false ∷ command 1 2 HeadOfQueue false ∷ []

-- case C: a younger HEAD OF QUEUE task leaves an enabled SIMPLE one enabled
pub simple_stays_enabled : states (from fresh00 case_c) ≡ Enabled ∷ Enabled ∷ Enabled ∷ []
unfolding fresh whose_turn new_task enter complete rule_for ruling step
simple_stays_enabled = refl

-- the oldest HEAD OF QUEUE task is named, and after four the SIMPLE one
pub oldest_head_named : names 3 (from fresh00 case_c) ≡ Some (record { nexus = 1; tag = 1 })
unfolding fresh whose_turn new_task enter complete rule_for ruling step
oldest_head_named = refl

pub simple_named_at_four : names 4 (from fresh00 case_c) ≡ Some (record { nexus = 0; tag = 1 })
unfolding fresh whose_turn new_task enter complete rule_for ruling step
simple_named_at_four = refl

-- case D: as the ACA begins the ORDERED task stays dormant, though its older one has ended
pub dormant_in_aca :
    states (from fresh00 (command 0 1 Simple true ∷ command 1 1 Ordered false ∷ Completion 0 1 CheckCondition ∷ [])) ≡ Dormant ∷ []
unfolding fresh whose_turn new_task enter complete rule_for ruling step
dormant_in_aca = refl

-- CLEAR TASK SET from 0 under TAS 0: nexus 1, which lost a task, is told, and nexus 0 is not
pub causer_untold :
    map (λ (p : Pending). p.cleared)
    (from fresh00 (command 0 1 Simple false ∷ command 1 1 Simple false ∷ Management 0 ClearTaskSet ∷ [])).pending
    ≡ false ∷ true ∷ false ∷ false ∷ false ∷ false ∷ false ∷ false ∷ []
unfolding fresh whose_turn new_task enter manage rule_for ruling step
causer_untold = refl

abbrev fill : ℕ → List Event
fill zero = []
fill (suc n) = command 0 n Simple false ∷ fill n

-- case J: 64 tasks give TASK SET FULL
pub full_at_64 : answer (from fresh00 (fill 64)) (command 1 0 Simple false) ≡ ended_with 0x28
unfolding fresh whose_turn new_task enter complete rule_for ruling step answer
full_at_64 = refl

abbrev tags : List Ended → List ℕ
tags es = map (λ (x : Ended). x.tag) es

abbrev two_reads : State
two_reads = from fresh00 (command 0 1 Simple false ∷ command 0 2 Simple false ∷ [])

-- RULES 4.9: the report of an event that ends two tasks has the older one first
pub older_end_first : tags (report two_reads (Management 0 AbortTaskSet)) ≡ 1 ∷ 2 ∷ []
unfolding fresh whose_turn new_task enter manage rule_for ruling step report
older_end_first = refl

-- RULES 5.2: every task of that nexus ends, not its twin alone
pub overlapped_ends_nexus : tags (report two_reads (command 0 1 Simple false)) ≡ 1 ∷ 2 ∷ []
unfolding fresh whose_turn new_task enter rule_for ruling step report
overlapped_ends_nexus = refl

-- RULES 4.9: the tasks that this event ended, and no other
pub one_end_listed : tags (report two_reads (Management 0 (AbortTask 1))) ≡ 1 ∷ []
unfolding fresh whose_turn new_task enter manage rule_for ruling step report
one_end_listed = refl
