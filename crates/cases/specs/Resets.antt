-- RULES 7.9 and 8.1 to 8.3: resets, the loss of a nexus, and pending bits.
use Rattle.std.specs.Prelude.{ℕ, List, [], ◌∷◌}
use Rattle.cases.specs.Makers.{simple, aca, enabled, blocked, header, task, ended_record, management, condition, bits, table, listing}
use Rattle.cases.specs.Shorthand.{answer_line, does, from}
use Rattle.cases.specs.Play.{unchanged, start, Case}

-- policy 07h, an ACA of nexus 3, run 4, and in the pending bits each that a reset takes or leaves; 1.1 S blocked, and the ACA task 3.9
abbrev before_reset : List ℕ
before_reset =
    table (header 0x07 2 4 4) (bits 0x1F 0x1E 0x1C 0x18 0x10 0x00 0x01 0x02) (task 1 simple blocked 0 1 ∷ task 3 aca enabled 0 9 ∷ [])

-- RULES 3.7 and 7.9: the sender, 6, included. RULES 1.13: the policy stays.
abbrev pub unit_reset : Case
unit_reset =
    from before_reset
    (does (management 6 5 0) (answer_line 0 0 0 0 0 2)
    (table (header 0x07 0 0 0) (bits 0x07 0x06 0x04 0x04 0x04 0x04 0x05 0x06) []) (listing (ended_record 1 0xFF 1 ∷ ended_record 3 0xFF 9 ∷ []))
    ∷ [])

-- RULES 3.6 and 8.3
abbrev pub hard_reset : Case
hard_reset =
    from before_reset
    (does (condition 0 2) (answer_line 0 0 0 0 0 2)
    (table (header 0x07 0 0 0) (bits 0x03 0x02 0x02 0x02 0x02 0x02 0x03 0x02) []) (listing (ended_record 1 0xFF 1 ∷ ended_record 3 0xFF 9 ∷ []))
    ∷ [])

-- RULES 3.5, 4.2 and 8.2
abbrev pub power_on : Case
power_on =
    from before_reset
    (does (condition 0 1) (answer_line 0 0 0 0 0 2) (table (header 0x07 0 0 0) (bits 1 1 1 1 1 1 1 1) [])
    (listing (ended_record 1 0xFF 1 ∷ ended_record 3 0xFF 9 ∷ []))
    ∷ start 0x07 0 unchanged
    ∷ [])

-- RULES 3.8 and 8.1: run stays; the same event enables 1.1
abbrev pub faulted_nexus_loss : Case
faulted_nexus_loss =
    from before_reset
    (does (condition 3 3) (answer_line 0 0 0 0 0 1)
    (table (header 0x07 1 0 4) (bits 0x1F 0x1E 0x1C 0x08 0x10 0x00 0x01 0x02) (task 1 simple enabled 0 1 ∷ [])) (listing (ended_record 3 0xFF 9 ∷ []))
    ∷ [])

-- RULES 8.1: an ACA of another nexus stays. Nexus 1 with its task, nexus 2 and 5 without one.
abbrev pub other_nexus_loss : Case
other_nexus_loss =
    from before_reset
    (does (condition 1 3) (answer_line 0 0 0 0 0 1)
    (table (header 0x07 1 4 4) (bits 0x1F 0x0E 0x1C 0x18 0x10 0x00 0x01 0x02) (task 3 aca enabled 0 9 ∷ [])) (listing (ended_record 1 0xFF 1 ∷ []))
    ∷ does (condition 2 3) (answer_line 0 0 0 0 0 0)
    (table (header 0x07 1 4 4) (bits 0x1F 0x0E 0x0C 0x18 0x10 0x00 0x01 0x02) (task 3 aca enabled 0 9 ∷ [])) (listing [])
    ∷ does (condition 5 3) (answer_line 0 0 0 0 0 0)
    (table (header 0x07 1 4 4) (bits 0x1F 0x0E 0x0C 0x18 0x10 0x08 0x01 0x02) (task 3 aca enabled 0 9 ∷ [])) (listing [])
    ∷ [])
