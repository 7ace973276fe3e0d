-- Computed: the longest waits are met, and well-formed states with tasks, an ACA and run not 0 are reached.
use Rattle.std.specs.Prelude.{Some}
use Prim.Native.Nat.{ℕ}
use mathlib.Core.Bool.{true, false}
use mathlib.Core.Path.{◌≡◌, refl}
use mathlib.Core.List.{List, [], ◌∷◌, ◌++◌, map}
use lib.ListN.{length}
use Rattle.rules.specs.Types.{Attribute, Simple, HeadOfQueue, Ordered, Aca, Dormant, Enabled, Blocked, Event, Completion, Good, CheckCondition, EndNone, Policy}
use Rattle.rules.specs.Tasks.{is_head, whose_turn}
use Rattle.rules.specs.Rulings.{fresh}
use Rattle.rules.specs.Rules.{new_task, enter, complete, rule_for, ruling, answer}
use Rattle.rules.specs.Well.{WellFormed}
use Rattle.rules.proofs.Accidents.{command}
use Rattle.history.specs.History.{Past, advance, play, after, has_ended, in_table, turns}
use Rattle.history.specs.Waits.{exempt_command, worst_before, worst_since}
use Rattle.history.proofs.Reached.{reached_well_formed}

abbrev policy : Policy
policy = record { qerr = EndNone; tas = false }

-- The longest waits are met -----------------------------------------------------------------------------------------------------------------

-- the turns among the events es; how often the command with serial number k is in the table behind them, and how often it has ended
abbrev seen : Past → List Event → ℕ → List ℕ
seen h es k = turns h es ∷ in_table (play h es) k ∷ has_ended (play h es) k ∷ []

-- a worst case after its task, 2.0, has come in, and then the events of it with `more` behind them
abbrev worst_seen : Attribute → List Event → ℕ × ℕ → List ℕ
worst_seen x more (a, b) =
    let before = after policy (worst_before (is_head x) a b) in
    seen (advance before (exempt_command 2 0 x)) (worst_since (is_head x) a b ++ more) (length before.roll)

-- Computed for some pairs; `met` (Least) has it for all: a turn before the figure the task is in the table, and the next turn ends it
pub first_pair : worst_seen Simple [] (0, 0) ≡ 4 ∷ 1 ∷ 0 ∷ []
unfolding whose_turn fresh new_task enter complete rule_for ruling answer advance
first_pair = refl

pub head_pair : worst_seen HeadOfQueue [] (4, 2) ≡ 6 ∷ 1 ∷ 0 ∷ []
unfolding whose_turn fresh new_task enter complete rule_for ruling answer advance
head_pair = refl

abbrev pairs : List (ℕ × ℕ)
pairs = (0, 2) ∷ (3, 1) ∷ (6, 1) ∷ (4, 2) ∷ (9, 4) ∷ []

pub worst_computed :
    (map (worst_seen Simple []) pairs
    ≡ (14 ∷ 1 ∷ 0 ∷ []) ∷ (9 ∷ 1 ∷ 0 ∷ []) ∷ (11 ∷ 1 ∷ 0 ∷ []) ∷ (14 ∷ 1 ∷ 0 ∷ []) ∷ (29 ∷ 1 ∷ 0 ∷ []) ∷ [])
    × (map (worst_seen HeadOfQueue []) pairs
    ≡ (1 ∷ 1 ∷ 0 ∷ []) ∷ (4 ∷ 1 ∷ 0 ∷ []) ∷ (7 ∷ 1 ∷ 0 ∷ []) ∷ (6 ∷ 1 ∷ 0 ∷ []) ∷ (12 ∷ 1 ∷ 0 ∷ []) ∷ [])
    × (map (worst_seen Ordered (Completion 2 0 Good ∷ [])) pairs
    ≡ (15 ∷ 0 ∷ 1 ∷ []) ∷ (10 ∷ 0 ∷ 1 ∷ []) ∷ (12 ∷ 0 ∷ 1 ∷ []) ∷ (15 ∷ 0 ∷ 1 ∷ []) ∷ (30 ∷ 0 ∷ 1 ∷ []) ∷ [])
    × (map (worst_seen HeadOfQueue (Completion 2 0 Good ∷ [])) pairs
    ≡ (2 ∷ 0 ∷ 1 ∷ []) ∷ (5 ∷ 0 ∷ 1 ∷ []) ∷ (8 ∷ 0 ∷ 1 ∷ []) ∷ (7 ∷ 0 ∷ 1 ∷ []) ∷ (13 ∷ 0 ∷ 1 ∷ []) ∷ [])
unfolding whose_turn fresh new_task enter complete rule_for ruling answer advance
worst_computed = (refl, refl, refl, refl)

-- A witness --------------------------------------------------------------------------------------------------------------------------------

-- 1.1 H ends as the named task (run 1), 0.1 S with NACA 1 ends with CHECK CONDITION out of turn, and an ACA command enters
abbrev into_aca : List Event
into_aca =
    command 0 1 Simple true
    ∷ command 1 1 HeadOfQueue false
    ∷ command 1 2 HeadOfQueue false
    ∷ command 2 1 Ordered false
    ∷ Completion 1 1 Good
    ∷ Completion 0 1 CheckCondition
    ∷ command 0 9 Aca false
    ∷ []

pub witness :
    ((after policy into_aca).state.header.aca ≡ Some 0) × ((after policy into_aca).state.header.run ≡ 1)
    × ((after policy into_aca).state.tasks
    ≡ record { nexus = 1; attribute = HeadOfQueue; state = Blocked; naca = false; tag = 2 }
    ∷ record { nexus = 2; attribute = Ordered; state = Dormant; naca = false; tag = 1 }
    ∷ record { nexus = 0; attribute = Aca; state = Enabled; naca = false; tag = 9 }
    ∷ [])
unfolding whose_turn fresh new_task enter complete rule_for ruling answer advance
witness = (refl, refl, refl)

pub witness_well_formed : WellFormed (after policy into_aca).state
witness_well_formed = reached_well_formed policy into_aca
