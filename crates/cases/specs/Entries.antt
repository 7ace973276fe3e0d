-- RULES 5: entry of a command.
use Rattle.std.specs.Prelude.{ℕ, List, [], ◌∷◌}
use Rattle.cases.specs.Makers.{simple, head_of_queue, ordered, aca, dormant, enabled, blocked, header, task, ended_record, command, bits, quiet, table, listing}
use Rattle.cases.specs.Shorthand.{answer_line, does, enters, keeps, from}
use Rattle.cases.specs.Play.{lend, Case}

-- RULES 5.3: in an ACA of nexus 0 a command of nexus 1 with a bad attribute and a bit pending, one of the faulted nexus with the ACA task's tag, an exempt one
-- of nexus 2
abbrev pub overlap_first : Case
overlap_first =
    from
    (table (header 0x00 4 1 0) (bits 0 0x10 0 0 0 0 0 0)
    (task 1 simple blocked 0 1 ∷ task 2 simple blocked 0 1 ∷ task 1 ordered dormant 0 2 ∷ task 0 aca enabled 0 9 ∷ []))
    (does (command 1 3 0 1) (answer_line 7 0x02 0x0B 0x4E 0x00 2)
    (table (header 0x00 2 1 0) (bits 0 0x10 0 0 0 0 0 0) (task 2 simple blocked 0 1 ∷ task 0 aca enabled 0 9 ∷ []))
    (listing (ended_record 1 0xFF 1 ∷ ended_record 1 0xFF 2 ∷ []))
    ∷ does (command 0 aca 0 9) (answer_line 7 0x02 0x0B 0x4E 0x00 1)
    (table (header 0x00 1 1 0) (bits 0 0x10 0 0 0 0 0 0) (task 2 simple blocked 0 1 ∷ [])) (listing (ended_record 0 0xFF 9 ∷ []))
    ∷ does (command 2 simple 2 1) (answer_line 7 0x02 0x0B 0x4E 0x00 1)
    (table (header 0x00 0 1 0) (bits 0 0x10 0 0 0 0 0 0) []) (listing (ended_record 2 0xFF 1 ∷ []))
    ∷ [])

-- RULES 2.7: 1.1 S was dormant behind 0.1 O. RULES 4.9: the refused command has no ended record.
abbrev pub overlap_settles : Case
overlap_settles =
    from (table (header 0x00 3 0 0) quiet (task 0 ordered enabled 0 1 ∷ task 1 simple dormant 0 1 ∷ task 0 simple dormant 0 2 ∷ []))
    (does (command 0 simple 0 2) (answer_line 7 0x02 0x0B 0x4E 0x00 2)
    (table (header 0x00 1 0 0) quiet (task 1 simple enabled 0 1 ∷ [])) (listing (ended_record 0 0xFF 1 ∷ ended_record 0 0xFF 2 ∷ []))
    ∷ [])

-- two tasks, QERR 01b
abbrev two_qerr_all : List ℕ
two_qerr_all = table (header 0x01 2 0 0) quiet (task 0 simple enabled 0 1 ∷ task 1 simple enabled 0 1 ∷ [])

-- RULES 5.16 and 5.17: QERR 01b and NACA 1; both end, and the ACA is the command's nexus's. Until request 2 this case said the opposite: nobody but 0.1 ends, and
-- there is no ACA. RULES 16.1: the attribute is any byte, 03h, FFh.
abbrev pub entry_sets_up_aca : Case
entry_sets_up_aca =
    from two_qerr_all
    (does (command 2 3 1 1) (answer_line 7 0x02 0x05 0x49 0x00 2)
    (table (header 0x01 0 3 0) (bits 0x10 0x10 0 0 0 0 0 0) []) (listing (ended_record 0 0xFF 1 ∷ ended_record 1 0xFF 1 ∷ []))
    ∷ lend two_qerr_all
    ∷ does (command 2 0xFF 1 1) (answer_line 7 0x02 0x05 0x49 0x00 2)
    (table (header 0x01 0 3 0) (bits 0x10 0x10 0 0 0 0 0 0) []) (listing (ended_record 0 0xFF 1 ∷ ended_record 1 0xFF 1 ∷ []))
    ∷ lend two_qerr_all
    ∷ does (command 0 simple 1 1) (answer_line 7 0x02 0x0B 0x4E 0x00 2)
    (table (header 0x01 0 1 0) (bits 0 0x10 0 0 0 0 0 0) []) (listing (ended_record 0 0xFF 1 ∷ ended_record 1 0xFF 1 ∷ []))
    ∷ [])

-- RULES 5.7: the bit stays; check 4 and, in an ACA, check 2 hold. RULES 1.8: of the second byte NACA alone is in the control byte.
abbrev pub exempt : Case
exempt =
    from (table (header 0x00 0 0 0) (bits 0 0 0 1 0 0 0 0) [])
    (enters (command 3 simple 3 1) (table (header 0x00 1 0 0) (bits 0 0 0 1 0 0 0 0) (task 3 simple enabled 1 1 ∷ []))
    ∷ keeps (command 3 3 2 2) (answer_line 7 0x02 0x05 0x49 0x00 0)
    ∷ keeps (command 3 aca 2 2) (answer_line 7 0x02 0x05 0x49 0x00 0)
    ∷ lend (table (header 0x00 0 1 0) (bits 0 0 0 1 0 0 0 0) [])
    ∷ keeps (command 3 simple 2 1) (answer_line 7 0x08 0 0 0 0)
    ∷ keeps (command 3 simple 3 1) (answer_line 7 0x30 0 0 0 0)
    ∷ keeps (command 0 simple 2 1) (answer_line 7 0x30 0 0 0 0)
    ∷ [])

-- RULES 5.5 and 5.6
abbrev pub attributes_in_aca : Case
attributes_in_aca =
    from (table (header 0x00 0 1 0) quiet [])
    (keeps (command 1 aca 0 1) (answer_line 7 0x08 0 0 0 0)
    ∷ keeps (command 1 aca 1 1) (answer_line 7 0x30 0 0 0 0)
    ∷ keeps (command 1 3 0 1) (answer_line 7 0x08 0 0 0 0)
    ∷ keeps (command 1 3 1 1) (answer_line 7 0x30 0 0 0 0)
    ∷ keeps (command 0 3 0 1) (answer_line 7 0x30 0 0 0 0)
    ∷ keeps (command 0 head_of_queue 0 1) (answer_line 7 0x30 0 0 0 0)
    ∷ [])

-- RULES 3.1, 3.4 and 5.9: one bit a command, highest rank first, and the others stay
abbrev pub rank_order : Case
rank_order =
    from (table (header 0x00 0 0 0) (bits 0 0 0 0 0x1F 0x1F 0 0) [])
    (does (command 4 simple 0 1) (answer_line 7 0x02 0x06 0x29 0x00 0) (table (header 0x00 0 0 0) (bits 0 0 0 0 0x1E 0x1F 0 0) []) (listing [])
    ∷ does (command 4 simple 0 1) (answer_line 7 0x02 0x06 0x29 0x02 0) (table (header 0x00 0 0 0) (bits 0 0 0 0 0x1C 0x1F 0 0) []) (listing [])
    ∷ does (command 4 simple 0 1) (answer_line 7 0x02 0x06 0x29 0x03 0) (table (header 0x00 0 0 0) (bits 0 0 0 0 0x18 0x1F 0 0) []) (listing [])
    ∷ does (command 4 simple 0 1) (answer_line 7 0x02 0x06 0x29 0x07 0) (table (header 0x00 0 0 0) (bits 0 0 0 0 0x10 0x1F 0 0) []) (listing [])
    ∷ does (command 4 simple 0 1) (answer_line 7 0x02 0x06 0x2F 0x00 0) (table (header 0x00 0 0 0) (bits 0 0 0 0 0 0x1F 0 0) []) (listing [])
    ∷ enters (command 4 simple 0 1) (table (header 0x00 1 0 0) (bits 0 0 0 0 0 0x1F 0 0) (task 4 simple enabled 0 1 ∷ []))
    ∷ [])

-- RULES 5.10: the ACA stays. RULES 5.9: a command that check 2 stops takes no bit, that of nexus 1.
abbrev pub bits_in_aca : Case
bits_in_aca =
    from (table (header 0x00 0 1 0) (bits 0x14 0x08 0 0 0 0 0 0) [])
    (keeps (command 1 simple 0 1) (answer_line 7 0x08 0 0 0 0)
    ∷ keeps (command 0 simple 0 1) (answer_line 7 0x30 0 0 0 0)
    ∷ does (command 0 aca 0 1) (answer_line 7 0x02 0x06 0x29 0x03 0) (table (header 0x00 0 1 0) (bits 0x10 0x08 0 0 0 0 0 0) []) (listing [])
    ∷ does (command 0 aca 0 1) (answer_line 7 0x02 0x06 0x2F 0x00 0) (table (header 0x00 0 1 0) (bits 0 0x08 0 0 0 0 0 0) []) (listing [])
    ∷ enters (command 0 aca 0 1) (table (header 0x00 1 1 0) (bits 0 0x08 0 0 0 0 0 0) (task 0 aca enabled 0 1 ∷ []))
    ∷ [])

-- RULES 5.9: a bad attribute with a bit pending
abbrev pub bits_before_attribute : Case
bits_before_attribute =
    from (table (header 0x00 0 0 0) (bits 0 0 2 0 0 0 0 0) [])
    (does (command 2 3 0 1) (answer_line 7 0x02 0x06 0x29 0x02 0) (table (header 0x00 0 0 0) quiet []) (listing [])
    ∷ keeps (command 2 3 0 1) (answer_line 7 0x02 0x05 0x49 0x00 0)
    ∷ [])
