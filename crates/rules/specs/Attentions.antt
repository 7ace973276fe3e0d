-- RULES 11: the pending bits bit by bit: what an event brings to a nexus, by its cause, and what that does to each bit, by its rank. It says once more what
-- Bits, Rulings and Rules compute; that the two agree is proved (proofs/Attentions).
--
--   rank b, ranks              := the rank of a bit, 0 the highest; the bits in that order
--   is_set p b, highest p       := the bit b is set in p; the bit of highest rank that is set, if one is
--   Attention                  := what an event brings to a nexus: nothing; a bit that it gets; a bit that is reported to it
--   bit_after a b old           := the bit b, old before, after the attention a
--   passes_aca a c aca          := check 2 lets the command c pass, by the allegiance and whether an ACA task is there
--   reaches3 s c, reported_by s c  := checks 1 and 2 let the command c pass; what check 3 reports to its nexus
--   cleared_by s n i            := what nexus i gets where all tasks end for nexus n
--   fails_at_entry s c           := the command c ends with 02h at entry while no ACA is in effect
--   completes s n g, ends_others q  := a completion of that nexus and tag is accepted; QERR ends tasks of other nexuses
--   by_function s n f i, by_happening c i, caused s e i  := what reaches nexus i by a function from nexus n, by a condition, by an event
--   attention s e i            := what the event e brings to nexus i in the state s
use Rattle.std.specs.Prelude.{ℕ, Bool, true, false, cond, ◌&&◌, ◌||◌, not, List, [], ◌∷◌, eqb, ltb, Option, Some, None}
use Rattle.laws.specs.Lists.{any, first}
use Rattle.rules.specs.Types.{Task, Entry, Function, Happening, Event, Qerr, Allegiance, Pending, Bit}
use Rattle.rules.specs.Tasks.{nexuses, aca_task, of_nexus, same, enabled_task}
use Rattle.rules.specs.Rulings.{State, is_clear, pending_of}
use Rattle.rules.specs.Rules.{asks_aca, bad_attribute, status_of, nexus_of}

-- By rank ----------------------------------------------------------------------------------------------------------------------------------

-- RULES 3.1: the ranks in their order
abbrev pub rank : Bit → ℕ
rank Bit.PowerBit = 0
rank Bit.HardBit = 1
rank Bit.UnitBit = 2
rank Bit.LossBit = 3
rank Bit.ClearedBit = 4

abbrev pub ranks : List Bit
ranks = Bit.PowerBit ∷ Bit.HardBit ∷ Bit.UnitBit ∷ Bit.LossBit ∷ Bit.ClearedBit ∷ []

-- RULES 3.1: one bit of the five
abbrev pub is_set : Pending → Bit → Bool
is_set p Bit.PowerBit = p.power
is_set p Bit.HardBit = p.hard
is_set p Bit.UnitBit = p.unit
is_set p Bit.LossBit = p.loss
is_set p Bit.ClearedBit = p.cleared

-- RULES 3.1: the highest in rank that is set
abbrev pub highest : Pending → Option Bit
highest p = first (is_set p) ranks

-- RULES 11.1: nothing, a bit that is given, a bit that is reported
pub data Attention : Type 0 where
  Unmoved : Attention
  Gets : Bit → Attention
  Reports : Bit → Attention

-- RULES 11.1: one given is set, those of higher rank stay, those of lower rank go; one reported goes
abbrev pub bit_after : Attention → Bit → Bool → Bool
bit_after Unmoved b old = old
bit_after (Gets a) b old = cond (ltb (rank b) (rank a)) old (eqb (rank b) (rank a))
bit_after (Reports a) b old = cond (eqb (rank b) (rank a)) false old

-- By cause ---------------------------------------------------------------------------------------------------------------------------------

-- RULES 5.4 and 5.5: check 2 lets pass an ACA command of the faulted nexus where no ACA task is there, and no other
abbrev pub passes_aca : Allegiance → Entry → Bool → Bool
passes_aca None c aca = true
passes_aca (Some f) c aca = eqb c.nexus f && asks_aca c.asked && not aca

-- RULES 11.2: checks 1 and 2 let it pass
abbrev pub reaches3 : State → Entry → Bool
reaches3 s c = not (any (same c.nexus c.tag) s.tasks) && passes_aca s.header.aca c (any aca_task s.tasks)

-- RULES 11.2: the bit, if one is pending
abbrev pub reports_bit : Option Bit → Attention
reports_bit None = Unmoved
reports_bit (Some b) = Reports b

-- RULES 11.2
abbrev pub reported_by : State → Entry → Attention
reported_by s c = cond (reaches3 s c && not c.exempt) (reports_bit (highest (pending_of s c.nexus))) Unmoved

-- RULES 11.3: where all tasks end, a nexus that has a task has lost it
abbrev pub cleared_by : State → ℕ → ℕ → Attention
cleared_by s n i = cond (not s.header.policy.tas && not (eqb i n) && any (of_nexus i) s.tasks) (Gets Bit.ClearedBit) Unmoved

-- RULES 11.3: check 1, 3 or 4 ends it, by RULES 5.2, 5.8 and 5.11; check 2 stops nobody without an ACA
abbrev pub fails_at_entry : State → Entry → Bool
fails_at_entry s c =
    is_clear s.header.aca
    && (any (same c.nexus c.tag) s.tasks
    || (not c.exempt && any (is_set (pending_of s c.nexus)) ranks)
    || bad_attribute s.header.aca c.asked)

-- RULES 11.3: a completion is accepted: the task is there (else answer 5) and enabled (else answer 6)
abbrev pub completes : State → ℕ → ℕ → Bool
completes s n g = any (λ (t : Task). same n g t && enabled_task t) s.tasks

-- RULES 11.3: QERR 01b and no other
abbrev pub ends_others : Qerr → Bool
ends_others Qerr.EndNone = false
ends_others Qerr.EndAll = true
ends_others Qerr.EndNexus = false

-- RULES 11.3 and 11.4: CLEAR TASK SET, LOGICAL UNIT RESET, and no other function
abbrev pub by_function : State → ℕ → Function → ℕ → Attention
by_function s n (Function.AbortTask g) i = Unmoved
by_function s n Function.AbortTaskSet i = Unmoved
by_function s n Function.ClearTaskSet i = cleared_by s n i
by_function s n Function.ClearAca i = Unmoved
by_function s n Function.LogicalUnitReset i = Gets Bit.UnitBit
by_function s n Function.Unknown i = Unmoved

-- RULES 11.4: conditions
abbrev pub by_happening : Happening → ℕ → Attention
by_happening Happening.PowerOn i = Gets Bit.PowerBit
by_happening Happening.HardReset i = Gets Bit.HardBit
by_happening (Happening.NexusLoss n) i = cond (eqb i n) (Gets Bit.LossBit) Unmoved

-- RULES 11.2 to 11.4: a CHECK CONDITION, at entry or of a task, reaches another nexus by QERR alone; a completion with another status gives no bit
abbrev pub caused : State → Event → ℕ → Attention
caused s (Event.Command c) i =
    cond (eqb i c.nexus) (reported_by s c)
    (cond (fails_at_entry s c && ends_others s.header.policy.qerr) (cleared_by s c.nexus i) Unmoved)
caused s (Event.Completion n g f) i =
    cond (completes s n g && eqb (status_of f) 0x02 && ends_others s.header.policy.qerr) (cleared_by s n i) Unmoved
caused s (Event.Management n f) i = by_function s n f i
caused s (Event.Condition c) i = by_happening c i

-- RULES 11.5
unfoldable pub attention : State → Event → ℕ → Attention
attention s e i = cond (ltb (nexus_of e) nexuses) (caused s e i) Unmoved
