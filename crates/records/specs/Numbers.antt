-- RULES 14: the number of each value, and the value of each number.
--
--   attribute_number, state_number, aca_number, qerr_number, policy_number, pending_number   := the byte of a value
--   attribute_from, state_from, aca_from, policy_from, pending_from   := the value of a byte; of one that the tests refuse, any
--   attribute_fits, state_fits, policy_fits, pending_fits   := the byte has a value
--   flag, bit_of, tag_in, tag_bytes := passed on from octets/specs/Bytes
use Rattle.std.specs.Prelude.{ℕ, ◌+◌, ◌-◌, ◌*◌, ◌%◌, Bool, cond, ◌||◌, ◌&&◌, not, eqb, ltb, Some, None}
pub use Rattle.octets.specs.Bytes.{flag, bit_of, tag_in, tag_bytes}
use Rattle.rules.specs.Types.{Attribute, TaskState, Qerr, Policy, Allegiance, Pending}

-- RULES 14.2: attributes
abbrev pub attribute_number : Attribute → ℕ
attribute_number Attribute.Simple = 0
attribute_number Attribute.HeadOfQueue = 1
attribute_number Attribute.Ordered = 2
attribute_number Attribute.Aca = 4

abbrev pub attribute_fits : ℕ → Bool
attribute_fits n = eqb n 0 || eqb n 1 || eqb n 2 || eqb n 4

abbrev pub attribute_from : ℕ → Attribute
attribute_from n = cond (eqb n 0) Attribute.Simple (cond (eqb n 1) Attribute.HeadOfQueue (cond (eqb n 2) Attribute.Ordered Attribute.Aca))

-- RULES 14.2: states
abbrev pub state_number : TaskState → ℕ
state_number TaskState.Dormant = 1
state_number TaskState.Enabled = 2
state_number TaskState.Blocked = 3

abbrev pub state_fits : ℕ → Bool
state_fits n = eqb n 1 || eqb n 2 || eqb n 3

abbrev pub state_from : ℕ → TaskState
state_from n = cond (eqb n 1) TaskState.Dormant (cond (eqb n 2) TaskState.Enabled TaskState.Blocked)

-- RULES 14.3
abbrev pub aca_number : Allegiance → ℕ
aca_number None = 0
aca_number (Some f) = f + 1

abbrev pub aca_from : ℕ → Allegiance
aca_from n = cond (eqb n 0) None (Some (n - 1))

-- RULES 14.4
abbrev pub qerr_number : Qerr → ℕ
qerr_number Qerr.EndNone = 0
qerr_number Qerr.EndAll = 1
qerr_number Qerr.EndNexus = 3

abbrev pub qerr_from : ℕ → Qerr
qerr_from n = cond (eqb n 0) Qerr.EndNone (cond (eqb n 1) Qerr.EndAll Qerr.EndNexus)

abbrev pub policy_number : Policy → ℕ
policy_number p = qerr_number p.qerr + flag p.tas * 4

abbrev pub policy_fits : ℕ → Bool
policy_fits n = ltb n 8 && not (eqb (n % 4) 2)

abbrev pub policy_from : ℕ → Policy
policy_from n = record { qerr = qerr_from (n % 4); tas = bit_of n 4 }

-- RULES 14.5
abbrev pub pending_number : Pending → ℕ
pending_number p = flag p.power + flag p.hard * 2 + flag p.unit * 4 + flag p.loss * 8 + flag p.cleared * 16

abbrev pub pending_fits : ℕ → Bool
pending_fits n = ltb n 32

abbrev pub pending_from : ℕ → Pending
pending_from n = record { power = bit_of n 1; hard = bit_of n 2; unit = bit_of n 4; loss = bit_of n 8; cleared = bit_of n 16 }
