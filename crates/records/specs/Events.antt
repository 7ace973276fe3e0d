-- RULES 16: event records, read and written; what no event writes is a bad event.
--
--   event_from k n a b g := the event of kind k, nexus n, first a, second b and tag g, or that there is none
--   event_of bytes       := the event of a string of bytes, or that there is none
--   pieces n            := how many pieces n bytes of event records make: whole records, and a shorter last one
--   event_line k n a b g := the record of kind k, nexus n, first a, second b and tag g
--   asked_number a, function_number a, happening_number   := the field first of a value, a where the value does not keep it
--   second_number c, function_tag g f, happening_nexus h   := the field second of a COMMAND, tag of a function, nexus of a condition
--   event_record a g v   := the record of the event v, with a for the field first and g for the tag where v does not keep them
--   event_bytes v        := one record of the event v
--   Spare a v           := a may stand for the field first in a record of v; asked only where v does not keep it
--   IsEvent bytes       := the bytes are the record of an event
use Rattle.std.specs.Prelude.{ℕ, ◌+◌, ◌-◌, ◌*◌, ◌/◌, ◌<◌, ◌≡◌, ◌⊎◌, Bool, true, false, cond, ◌||◌, ◌&&◌, List, ◌∷◌, eqb, ltb, length, get_or, Option, Some, None}
use Rattle.rules.specs.Types.{Entry, Finish, Function, Happening, Event, Attribute}
use Rattle.rules.specs.Rules.{status_of}
use Rattle.octets.specs.Sizes.{kind_offset, sender_offset, first_offset, second_offset}
use Rattle.records.specs.Numbers.{flag, bit_of, tag_in, tag_bytes, attribute_number, attribute_fits, attribute_from}
use Rattle.records.specs.Records.{event_size, marked}

-- Reading ----------------------------------------------------------------------------------------------------------------------------------

-- RULES 16.6: an event, or a bad one
abbrev pub read_if : Bool → Event → Option Event
read_if true e = Some e
read_if false e = None

-- RULES 16.1: the attribute, of which any byte is taken
abbrev pub asked_from : ℕ → Option Attribute
asked_from a = cond (attribute_fits a) (Some (attribute_from a)) None

-- RULES 16.1: COMMAND
abbrev pub command_from : ℕ → ℕ → ℕ → ℕ → Option Event
command_from n a b g =
    read_if (ltb b 4) (Event.Command (record { nexus = n; asked = asked_from a; naca = bit_of b 1; exempt = bit_of b 2; tag = g }))

-- RULES 16.2: the status
abbrev pub finish_from : ℕ → Finish
finish_from a = cond (eqb a 0x00) Finish.Good (cond (eqb a 0x02) Finish.CheckCondition (cond (eqb a 0x08) Finish.Busy Finish.ReservationConflict))

-- RULES 16.2: COMPLETION
abbrev pub completion_from : ℕ → ℕ → ℕ → ℕ → Option Event
completion_from n a b g =
    read_if ((eqb a 0x00 || eqb a 0x02 || eqb a 0x08 || eqb a 0x18) && eqb b 0) (Event.Completion n g (finish_from a))

-- RULES 16.3: the function
abbrev pub function_from : ℕ → ℕ → Function
function_from a g =
    cond (eqb a 1) (Function.AbortTask g)
    (cond (eqb a 2) Function.AbortTaskSet
    (cond (eqb a 3) Function.ClearTaskSet (cond (eqb a 4) Function.ClearAca (cond (eqb a 5) Function.LogicalUnitReset Function.Unknown))))

-- RULES 16.3: MANAGEMENT
abbrev pub management_from : ℕ → ℕ → ℕ → ℕ → Option Event
management_from n a b g = read_if (eqb b 0 && (ltb a 2 || ltb 5 a || eqb g 0)) (Event.Management n (function_from a g))

-- RULES 16.4: the condition
abbrev pub happening_from : ℕ → ℕ → Happening
happening_from n a = cond (eqb a 1) Happening.PowerOn (cond (eqb a 2) Happening.HardReset (Happening.NexusLoss n))

-- RULES 16.4 and 16.5: CONDITION
abbrev pub condition_from : ℕ → ℕ → ℕ → ℕ → Option Event
condition_from n a b g =
    read_if (eqb b 0 && eqb g 0 && (eqb a 3 || (eqb n 0 && (eqb a 1 || eqb a 2)))) (Event.Condition (happening_from n a))

-- RULES 16.1 to 16.5: by kind
unfoldable pub event_from : ℕ → ℕ → ℕ → ℕ → ℕ → Option Event
event_from k n a b g =
    cond (eqb k 1) (command_from n a b g)
    (cond (eqb k 2) (completion_from n a b g) (cond (eqb k 3) (management_from n a b g) (cond (eqb k 4) (condition_from n a b g) None)))

-- RULES 16.6: by length and mark
unfoldable pub event_of : List ℕ → Option Event
event_of e =
    cond (eqb (length e) event_size && marked e 0x56)
    (event_from (get_or e kind_offset 0) (get_or e sender_offset 0) (get_or e first_offset 0) (get_or e second_offset 0) (tag_in e))
    None

-- RULES 24.3 and 24.4: every eighth byte, and a last piece
abbrev pub pieces : ℕ → ℕ
pieces n = (n + (event_size - 1)) / event_size

-- Writing ----------------------------------------------------------------------------------------------------------------------------------

-- RULES 16.6: mark and fields
abbrev pub event_line : ℕ → ℕ → ℕ → ℕ → ℕ → List ℕ
event_line k n a b g = 0x54 ∷ 0x56 ∷ k ∷ n ∷ a ∷ b ∷ tag_bytes g

-- RULES 16.1: of an attribute that is none of the four the event does not keep which
abbrev pub asked_number : ℕ → Option Attribute → ℕ
asked_number a (Some t) = attribute_number t
asked_number a None = a

-- RULES 16.1: NACA and exempt
abbrev pub second_number : Entry → ℕ
second_number c = flag c.naca + flag c.exempt * 2

-- RULES 16.3: of an unknown function the event does not keep which
abbrev pub function_number : ℕ → Function → ℕ
function_number a (Function.AbortTask t) = 1
function_number a Function.AbortTaskSet = 2
function_number a Function.ClearTaskSet = 3
function_number a Function.ClearAca = 4
function_number a Function.LogicalUnitReset = 5
function_number a Function.Unknown = a

-- RULES 16.3: nor does it keep the tag of one
abbrev pub function_tag : ℕ → Function → ℕ
function_tag g (Function.AbortTask t) = t
function_tag g Function.AbortTaskSet = 0
function_tag g Function.ClearTaskSet = 0
function_tag g Function.ClearAca = 0
function_tag g Function.LogicalUnitReset = 0
function_tag g Function.Unknown = g

-- RULES 16.4
abbrev pub happening_number : Happening → ℕ
happening_number Happening.PowerOn = 1
happening_number Happening.HardReset = 2
happening_number (Happening.NexusLoss n) = 3

-- RULES 16.5: 0 for power on and hard reset
abbrev pub happening_nexus : Happening → ℕ
happening_nexus Happening.PowerOn = 0
happening_nexus Happening.HardReset = 0
happening_nexus (Happening.NexusLoss n) = n

-- RULES 16.1 to 16.6: of every event; the field first of a COMPLETION is its status
abbrev pub event_record : ℕ → ℕ → Event → List ℕ
event_record a g (Event.Command c) = event_line 1 c.nexus (asked_number a c.asked) (second_number c) c.tag
event_record a g (Event.Completion n t f) = event_line 2 n (status_of f) 0 t
event_record a g (Event.Management n f) = event_line 3 n (function_number a f) 0 (function_tag g f)
event_record a g (Event.Condition h) = event_line 4 (happening_nexus h) (happening_number h) 0 0

-- RULES 16.1 and 16.3: 7 is neither one of the four attributes nor a function that is known
unfoldable pub event_bytes : Event → List ℕ
event_bytes v = event_record 7 0 v

-- RULES 16.1: none of the four attributes
abbrev pub SpareAttribute : ℕ → Option Attribute → Type 0
SpareAttribute a (Some t) = Unit {0}
SpareAttribute a None = attribute_fits a ≡ false

-- RULES 16.3: an unknown function
abbrev pub SpareFunction : ℕ → Function → Type 0
SpareFunction a (Function.AbortTask t) = Unit {0}
SpareFunction a Function.AbortTaskSet = Unit {0}
SpareFunction a Function.ClearTaskSet = Unit {0}
SpareFunction a Function.ClearAca = Unit {0}
SpareFunction a Function.LogicalUnitReset = Unit {0}
SpareFunction a Function.Unknown = (a ≡ 0) ⊎ (5 < a)

-- RULES 16.1 and 16.3: of an event
abbrev pub Spare : ℕ → Event → Type 0
Spare a (Event.Command c) = SpareAttribute a c.asked
Spare a (Event.Completion n t f) = Unit {0}
Spare a (Event.Management n f) = SpareFunction a f
Spare a (Event.Condition h) = Unit {0}

-- RULES 16.6: the record of some event; whatever is none is a bad event
pub record IsEvent (e : List ℕ) : Type 0 where
  pub event : Event
  pub first : ℕ
  pub tag : ℕ
  pub spare : Spare first event
  pub written : e ≡ event_record first tag event
