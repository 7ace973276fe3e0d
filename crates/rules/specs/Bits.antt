-- RULES 3: the pending bits of a nexus: which is reported, and as what, and what becomes of the others.
--
--   no_pending             := no bit set
--   top p                 := the bit of highest rank that is set, if one is
--   sense_for b            := what that bit reports
--   without b p           := p with that bit cleared
--   after_power_on, after_hard_reset, after_unit_reset, after_nexus_loss, after_cleared p
--                         := p after power on, hard reset, logical unit reset, loss of its nexus, and after another initiator cleared its commands
use Rattle.std.specs.Prelude.{true, false, cond, Option, Some, None}
use Rattle.rules.specs.Types.{Pending, Bit, PowerBit, HardBit, UnitBit, LossBit, ClearedBit, Sense}

-- RULES 3.1: none is set
abbrev pub no_pending : Pending
no_pending = record { power = false; hard = false; unit = false; loss = false; cleared = false }

-- RULES 3.1: the bit to report
abbrev pub top : Pending → Option Bit
top p =
    cond p.power (Some PowerBit)
    (cond p.hard (Some HardBit)
    (cond p.unit (Some UnitBit) (cond p.loss (Some LossBit) (cond p.cleared (Some ClearedBit) None))))

-- RULES 3.2 and 3.3
abbrev pub sense_for : Bit → Sense
sense_for PowerBit = record { key = 0x6; code = 0x29; qualifier = 0x00 }
sense_for HardBit = record { key = 0x6; code = 0x29; qualifier = 0x02 }
sense_for UnitBit = record { key = 0x6; code = 0x29; qualifier = 0x03 }
sense_for LossBit = record { key = 0x6; code = 0x29; qualifier = 0x07 }
sense_for ClearedBit = record { key = 0x6; code = 0x2F; qualifier = 0x00 }

-- RULES 3.4
abbrev pub without : Bit → Pending → Pending
without PowerBit p = record { power = false; hard = p.hard; unit = p.unit; loss = p.loss; cleared = p.cleared }
without HardBit p = record { power = p.power; hard = false; unit = p.unit; loss = p.loss; cleared = p.cleared }
without UnitBit p = record { power = p.power; hard = p.hard; unit = false; loss = p.loss; cleared = p.cleared }
without LossBit p = record { power = p.power; hard = p.hard; unit = p.unit; loss = false; cleared = p.cleared }
without ClearedBit p = record { power = p.power; hard = p.hard; unit = p.unit; loss = p.loss; cleared = false }

-- RULES 3.5
abbrev pub after_power_on : Pending → Pending
after_power_on p = record { power = true; hard = false; unit = false; loss = false; cleared = false }

-- RULES 3.6
abbrev pub after_hard_reset : Pending → Pending
after_hard_reset p = record { power = p.power; hard = true; unit = false; loss = false; cleared = false }

-- RULES 3.7
abbrev pub after_unit_reset : Pending → Pending
after_unit_reset p = record { power = p.power; hard = p.hard; unit = true; loss = false; cleared = false }

-- RULES 3.8
abbrev pub after_nexus_loss : Pending → Pending
after_nexus_loss p = record { power = p.power; hard = p.hard; unit = p.unit; loss = true; cleared = false }

-- RULES 3.9
abbrev pub after_cleared : Pending → Pending
after_cleared p = record { power = p.power; hard = p.hard; unit = p.unit; loss = p.loss; cleared = true }
