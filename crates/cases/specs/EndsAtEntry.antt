-- RULES 5.16 to 5.20: what the end of a command at entry with 02h does besides: QERR, the ACA, the bits of others. 28h is in `Full`.
use Rattle.std.specs.Prelude.{ℕ, List, [], ◌∷◌}
use Rattle.cases.specs.Makers.{simple, head_of_queue, ordered, aca, dormant, enabled, blocked}
use Rattle.cases.specs.Makers.{header, task, ended_record, command, completion, management, bits, quiet, table, clear, listing}
use Rattle.cases.specs.Shorthand.{answer_line, names_task, nothing, does, enters, keeps, refuses, from}
use Rattle.cases.specs.Play.{lend, name, Case}

-- Each end by each QERR, with TAS 0 and 1, NACA 0 and 1 -----------------------------------------------------------------------------------------

-- 0.1 S, 1.1 H, 2.1 S, 1.2 O, 2.2 H; those that are eligible have this state. The NACA bit of 0.1 is its own.
abbrev five_tasks : ℕ → List (List ℕ)
five_tasks st = task 0 simple st 1 1 ∷ task 1 head_of_queue st 0 1 ∷ task 2 simple dormant 0 1 ∷ task 1 ordered dormant 0 2 ∷ task 2 head_of_queue st 0 2 ∷ []

-- under this policy, at run 2: nexus 1, which sends each command, has bits 2 and 3 pending, nexus 2 bit 0, and nexus 3, without a task, bit 1
abbrev five : ℕ → List ℕ
five p = table (header p 5 0 2) (bits 0 0x0C 0x01 0x02 0 0 0 0) (five_tasks enabled)

-- the tasks of nexus 0 and 2 when those of nexus 1 have ended, without an ACA: 2.1 is eligible now
abbrev three_enabled : List (List ℕ)
three_enabled = task 0 simple enabled 1 1 ∷ task 2 simple enabled 0 1 ∷ task 2 head_of_queue enabled 0 2 ∷ []

-- and where the ACA begins in that event, RULES 2.8: 2.1 stays dormant
abbrev three_in_aca : List (List ℕ)
three_in_aca = task 0 simple blocked 1 1 ∷ task 2 simple dormant 0 1 ∷ task 2 head_of_queue blocked 0 2 ∷ []

-- RULES 4.9: the tasks of nexus 1, aborted; all five, those of the others with this status
abbrev two_ended : List (List ℕ)
two_ended = ended_record 1 0xFF 1 ∷ ended_record 1 0xFF 2 ∷ []

abbrev five_ended : ℕ → List (List ℕ)
five_ended st = ended_record 0 st 1 ∷ ended_record 1 0xFF 1 ∷ ended_record 2 st 1 ∷ ended_record 1 0xFF 2 ∷ ended_record 2 st 2 ∷ []

-- RULES 5.2 and 5.16, check 1, QERR 00b: the tasks of nexus 1 end by the overlap. RULES 5.17: with NACA 1 the ACA is nexus 1's. RULES 5.3: no bit is taken.
abbrev pub overlap_qerr_none : Case
overlap_qerr_none =
    from (five 0x00)
    (does (command 1 simple 0 2) (answer_line 7 0x02 0x0B 0x4E 0x00 2) (table (header 0x00 3 0 2) (bits 0 0x0C 0x01 0x02 0 0 0 0) three_enabled) (listing two_ended)
    ∷ lend (five 0x00)
    ∷ does (command 1 simple 1 2) (answer_line 7 0x02 0x0B 0x4E 0x00 2) (table (header 0x00 3 2 2) (bits 0 0x0C 0x01 0x02 0 0 0 0) three_in_aca) (listing two_ended)
    ∷ lend (five 0x04)
    ∷ does (command 1 simple 0 2) (answer_line 7 0x02 0x0B 0x4E 0x00 2) (table (header 0x04 3 0 2) (bits 0 0x0C 0x01 0x02 0 0 0 0) three_enabled) (listing two_ended)
    ∷ lend (five 0x04)
    ∷ does (command 1 simple 1 2) (answer_line 7 0x02 0x0B 0x4E 0x00 2) (table (header 0x04 3 2 2) (bits 0 0x0C 0x01 0x02 0 0 0 0) three_in_aca) (listing two_ended)
    ∷ [])

-- RULES 5.16, check 1, QERR 01b: all end. RULES 4.7 and 6.1: with TAS 0 nexus 0 and 2 get bit 4, beside what they have; with TAS 1 their tasks get 40h.
abbrev pub overlap_qerr_all : Case
overlap_qerr_all =
    from (five 0x01)
    (does (command 1 simple 0 2) (answer_line 7 0x02 0x0B 0x4E 0x00 5) (table (header 0x01 0 0 2) (bits 0x10 0x0C 0x11 0x02 0 0 0 0) []) (listing (five_ended 0xFF))
    ∷ lend (five 0x01)
    ∷ does (command 1 simple 1 2) (answer_line 7 0x02 0x0B 0x4E 0x00 5) (table (header 0x01 0 2 2) (bits 0x10 0x0C 0x11 0x02 0 0 0 0) []) (listing (five_ended 0xFF))
    ∷ lend (five 0x05)
    ∷ does (command 1 simple 0 2) (answer_line 7 0x02 0x0B 0x4E 0x00 5) (table (header 0x05 0 0 2) (bits 0 0x0C 0x01 0x02 0 0 0 0) []) (listing (five_ended 0x40))
    ∷ lend (five 0x05)
    ∷ does (command 1 simple 1 2) (answer_line 7 0x02 0x0B 0x4E 0x00 5) (table (header 0x05 0 2 2) (bits 0 0x0C 0x01 0x02 0 0 0 0) []) (listing (five_ended 0x40))
    ∷ [])

-- RULES 5.16, check 1, QERR 11b: it ends none that the overlap does not, and each once
abbrev pub overlap_qerr_nexus : Case
overlap_qerr_nexus =
    from (five 0x03)
    (does (command 1 simple 0 2) (answer_line 7 0x02 0x0B 0x4E 0x00 2) (table (header 0x03 3 0 2) (bits 0 0x0C 0x01 0x02 0 0 0 0) three_enabled) (listing two_ended)
    ∷ lend (five 0x03)
    ∷ does (command 1 simple 1 2) (answer_line 7 0x02 0x0B 0x4E 0x00 2) (table (header 0x03 3 2 2) (bits 0 0x0C 0x01 0x02 0 0 0 0) three_in_aca) (listing two_ended)
    ∷ lend (five 0x07)
    ∷ does (command 1 simple 0 2) (answer_line 7 0x02 0x0B 0x4E 0x00 2) (table (header 0x07 3 0 2) (bits 0 0x0C 0x01 0x02 0 0 0 0) three_enabled) (listing two_ended)
    ∷ lend (five 0x07)
    ∷ does (command 1 simple 1 2) (answer_line 7 0x02 0x0B 0x4E 0x00 2) (table (header 0x07 3 2 2) (bits 0 0x0C 0x01 0x02 0 0 0 0) three_in_aca) (listing two_ended)
    ∷ [])

-- RULES 5.8 and 5.16, check 3, QERR 00b: bit 2 of nexus 1 is reported, and nobody ends. RULES 5.17: with NACA 1 who is enabled becomes blocked.
abbrev pub bit_qerr_none : Case
bit_qerr_none =
    from (five 0x00)
    (does (command 1 simple 0 9) (answer_line 7 0x02 0x06 0x29 0x03 0) (table (header 0x00 5 0 2) (bits 0 0x08 0x01 0x02 0 0 0 0) (five_tasks enabled)) (listing [])
    ∷ lend (five 0x00)
    ∷ does (command 1 simple 1 9) (answer_line 7 0x02 0x06 0x29 0x03 0) (table (header 0x00 5 2 2) (bits 0 0x08 0x01 0x02 0 0 0 0) (five_tasks blocked)) (listing [])
    ∷ lend (five 0x04)
    ∷ does (command 1 simple 0 9) (answer_line 7 0x02 0x06 0x29 0x03 0) (table (header 0x04 5 0 2) (bits 0 0x08 0x01 0x02 0 0 0 0) (five_tasks enabled)) (listing [])
    ∷ lend (five 0x04)
    ∷ does (command 1 simple 1 9) (answer_line 7 0x02 0x06 0x29 0x03 0) (table (header 0x04 5 2 2) (bits 0 0x08 0x01 0x02 0 0 0 0) (five_tasks blocked)) (listing [])
    ∷ [])

-- RULES 5.16, check 3, QERR 01b: with TAS 0 one event takes a bit from nexus 1 and gives one to nexus 0 and 2
abbrev pub bit_qerr_all : Case
bit_qerr_all =
    from (five 0x01)
    (does (command 1 simple 0 9) (answer_line 7 0x02 0x06 0x29 0x03 5) (table (header 0x01 0 0 2) (bits 0x10 0x08 0x11 0x02 0 0 0 0) []) (listing (five_ended 0xFF))
    ∷ lend (five 0x01)
    ∷ does (command 1 simple 1 9) (answer_line 7 0x02 0x06 0x29 0x03 5) (table (header 0x01 0 2 2) (bits 0x10 0x08 0x11 0x02 0 0 0 0) []) (listing (five_ended 0xFF))
    ∷ lend (five 0x05)
    ∷ does (command 1 simple 0 9) (answer_line 7 0x02 0x06 0x29 0x03 5) (table (header 0x05 0 0 2) (bits 0 0x08 0x01 0x02 0 0 0 0) []) (listing (five_ended 0x40))
    ∷ lend (five 0x05)
    ∷ does (command 1 simple 1 9) (answer_line 7 0x02 0x06 0x29 0x03 5) (table (header 0x05 0 2 2) (bits 0 0x08 0x01 0x02 0 0 0 0) []) (listing (five_ended 0x40))
    ∷ [])

-- RULES 5.16, check 3, QERR 11b: the tasks of nexus 1 end, and nobody is told
abbrev pub bit_qerr_nexus : Case
bit_qerr_nexus =
    from (five 0x03)
    (does (command 1 simple 0 9) (answer_line 7 0x02 0x06 0x29 0x03 2) (table (header 0x03 3 0 2) (bits 0 0x08 0x01 0x02 0 0 0 0) three_enabled) (listing two_ended)
    ∷ lend (five 0x03)
    ∷ does (command 1 simple 1 9) (answer_line 7 0x02 0x06 0x29 0x03 2) (table (header 0x03 3 2 2) (bits 0 0x08 0x01 0x02 0 0 0 0) three_in_aca) (listing two_ended)
    ∷ lend (five 0x07)
    ∷ does (command 1 simple 0 9) (answer_line 7 0x02 0x06 0x29 0x03 2) (table (header 0x07 3 0 2) (bits 0 0x08 0x01 0x02 0 0 0 0) three_enabled) (listing two_ended)
    ∷ lend (five 0x07)
    ∷ does (command 1 simple 1 9) (answer_line 7 0x02 0x06 0x29 0x03 2) (table (header 0x07 3 2 2) (bits 0 0x08 0x01 0x02 0 0 0 0) three_in_aca) (listing two_ended)
    ∷ [])

-- RULES 5.11 and 5.16, check 4, QERR 00b: attribute ACA without an ACA, in an exempt command, so that check 3 lets it pass. RULES 5.17: with NACA 1 the ACA
-- begins, and the command is not in it.
abbrev pub attribute_qerr_none : Case
attribute_qerr_none =
    from (five 0x00)
    (keeps (command 1 aca 2 9) (answer_line 7 0x02 0x05 0x49 0x00 0)
    ∷ does (command 1 aca 3 9) (answer_line 7 0x02 0x05 0x49 0x00 0) (table (header 0x00 5 2 2) (bits 0 0x0C 0x01 0x02 0 0 0 0) (five_tasks blocked)) (listing [])
    ∷ lend (five 0x04)
    ∷ keeps (command 1 aca 2 9) (answer_line 7 0x02 0x05 0x49 0x00 0)
    ∷ does (command 1 aca 3 9) (answer_line 7 0x02 0x05 0x49 0x00 0) (table (header 0x04 5 2 2) (bits 0 0x0C 0x01 0x02 0 0 0 0) (five_tasks blocked)) (listing [])
    ∷ [])

-- RULES 5.16, check 4, QERR 01b
abbrev pub attribute_qerr_all : Case
attribute_qerr_all =
    from (five 0x01)
    (does (command 1 aca 2 9) (answer_line 7 0x02 0x05 0x49 0x00 5) (table (header 0x01 0 0 2) (bits 0x10 0x0C 0x11 0x02 0 0 0 0) []) (listing (five_ended 0xFF))
    ∷ lend (five 0x01)
    ∷ does (command 1 aca 3 9) (answer_line 7 0x02 0x05 0x49 0x00 5) (table (header 0x01 0 2 2) (bits 0x10 0x0C 0x11 0x02 0 0 0 0) []) (listing (five_ended 0xFF))
    ∷ lend (five 0x05)
    ∷ does (command 1 aca 2 9) (answer_line 7 0x02 0x05 0x49 0x00 5) (table (header 0x05 0 0 2) (bits 0 0x0C 0x01 0x02 0 0 0 0) []) (listing (five_ended 0x40))
    ∷ lend (five 0x05)
    ∷ does (command 1 aca 3 9) (answer_line 7 0x02 0x05 0x49 0x00 5) (table (header 0x05 0 2 2) (bits 0 0x0C 0x01 0x02 0 0 0 0) []) (listing (five_ended 0x40))
    ∷ [])

-- RULES 5.16, check 4, QERR 11b
abbrev pub attribute_qerr_nexus : Case
attribute_qerr_nexus =
    from (five 0x03)
    (does (command 1 aca 2 9) (answer_line 7 0x02 0x05 0x49 0x00 2) (table (header 0x03 3 0 2) (bits 0 0x0C 0x01 0x02 0 0 0 0) three_enabled) (listing two_ended)
    ∷ lend (five 0x03)
    ∷ does (command 1 aca 3 9) (answer_line 7 0x02 0x05 0x49 0x00 2) (table (header 0x03 3 2 2) (bits 0 0x0C 0x01 0x02 0 0 0 0) three_in_aca) (listing two_ended)
    ∷ lend (five 0x07)
    ∷ does (command 1 aca 2 9) (answer_line 7 0x02 0x05 0x49 0x00 2) (table (header 0x07 3 0 2) (bits 0 0x0C 0x01 0x02 0 0 0 0) three_enabled) (listing two_ended)
    ∷ lend (five 0x07)
    ∷ does (command 1 aca 3 9) (answer_line 7 0x02 0x05 0x49 0x00 2) (table (header 0x07 3 2 2) (bits 0 0x0C 0x01 0x02 0 0 0 0) three_in_aca) (listing two_ended)
    ∷ [])

-- Who is told ----------------------------------------------------------------------------------------------------------------------------------

-- RULES 4.7 and 5.16: bit 4 of nexus 1 is reported, its own 1.1 ends by the same event, and it is not told of that; nexus 0 has bit 4 already, and keeps it
abbrev pub reported_bit_stays_clear : Case
reported_bit_stays_clear =
    from (table (header 0x01 3 0 0) (bits 0x10 0x10 0 0 0 0 0 0) (task 1 simple enabled 0 1 ∷ task 0 simple enabled 0 1 ∷ task 2 simple enabled 0 1 ∷ []))
    (does (command 1 simple 0 2) (answer_line 7 0x02 0x06 0x2F 0x00 3)
    (table (header 0x01 0 0 0) (bits 0x10 0 0x10 0 0 0 0 0) []) (listing (ended_record 1 0xFF 1 ∷ ended_record 0 0xFF 1 ∷ ended_record 2 0xFF 1 ∷ []))
    ∷ enters (command 1 simple 0 2) (table (header 0x01 1 0 0) (bits 0x10 0 0x10 0 0 0 0 0) (task 1 simple enabled 0 2 ∷ []))
    ∷ [])

-- RULES 5.16, QERR 01b and TAS 0: nexus 0 is refused, and 1.1 ends; nexus 1 is told of it by its next command, which so ends 0.1; and so on for ever. With TAS 1
-- 40h tells nexus 1, and its next command enters.
abbrev pub hosts_end_each_other : Case
hosts_end_each_other =
    from (clear 0x01)
    (enters (command 1 simple 0 1) (table (header 0x01 1 0 0) quiet (task 1 simple enabled 0 1 ∷ []))
    ∷ does (command 0 3 0 1) (answer_line 7 0x02 0x05 0x49 0x00 1) (table (header 0x01 0 0 0) (bits 0 0x10 0 0 0 0 0 0) []) (listing (ended_record 1 0xFF 1 ∷ []))
    ∷ enters (command 0 simple 0 1) (table (header 0x01 1 0 0) (bits 0 0x10 0 0 0 0 0 0) (task 0 simple enabled 0 1 ∷ []))
    ∷ does (command 1 simple 0 2) (answer_line 7 0x02 0x06 0x2F 0x00 1) (table (header 0x01 0 0 0) (bits 0x10 0 0 0 0 0 0 0) [])
    (listing (ended_record 0 0xFF 1 ∷ []))
    ∷ enters (command 1 simple 0 2) (table (header 0x01 1 0 0) (bits 0x10 0 0 0 0 0 0 0) (task 1 simple enabled 0 2 ∷ []))
    ∷ does (command 0 simple 0 2) (answer_line 7 0x02 0x06 0x2F 0x00 1) (table (header 0x01 0 0 0) (bits 0 0x10 0 0 0 0 0 0) [])
    (listing (ended_record 1 0xFF 2 ∷ []))
    ∷ enters (command 0 simple 0 2) (table (header 0x01 1 0 0) (bits 0 0x10 0 0 0 0 0 0) (task 0 simple enabled 0 2 ∷ []))
    ∷ does (command 1 simple 0 3) (answer_line 7 0x02 0x06 0x2F 0x00 1) (table (header 0x01 0 0 0) (bits 0x10 0 0 0 0 0 0 0) [])
    (listing (ended_record 0 0xFF 2 ∷ []))
    ∷ lend (table (header 0x05 1 0 0) quiet (task 1 simple enabled 0 1 ∷ []))
    ∷ does (command 0 3 0 1) (answer_line 7 0x02 0x05 0x49 0x00 1) (table (header 0x05 0 0 0) quiet []) (listing (ended_record 1 0x40 1 ∷ []))
    ∷ enters (command 1 simple 0 2) (table (header 0x05 1 0 0) quiet (task 1 simple enabled 0 2 ∷ []))
    ∷ [])

-- The ACA that begins --------------------------------------------------------------------------------------------------------------------------

-- RULES 2.8 and 5.17: 1.1 S behind 0.1 O stays dormant, has no turn and can't complete; CLEAR ACA enables it. By check 1 with QERR 00b; then by checks 4 and 3
-- with QERR 11b.
abbrev pub dormant_as_entry_begins : Case
dormant_as_entry_begins =
    from (table (header 0x00 2 0 0) quiet (task 0 ordered enabled 0 1 ∷ task 1 simple dormant 0 1 ∷ []))
    (does (command 0 ordered 1 1) (answer_line 7 0x02 0x0B 0x4E 0x00 1)
    (table (header 0x00 1 1 0) quiet (task 1 simple dormant 0 1 ∷ [])) (listing (ended_record 0 0xFF 1 ∷ []))
    ∷ name nothing
    ∷ refuses (completion 1 0x00 1) 6
    ∷ keeps (management 1 4 0) (answer_line 8 0 0 0 0 0)
    ∷ does (management 0 4 0) (answer_line 0 0 0 0 0 0) (table (header 0x00 1 0 0) quiet (task 1 simple enabled 0 1 ∷ [])) (listing [])
    ∷ lend (table (header 0x03 2 0 0) quiet (task 0 ordered enabled 0 1 ∷ task 1 simple dormant 0 1 ∷ []))
    ∷ does (command 0 3 1 2) (answer_line 7 0x02 0x05 0x49 0x00 1)
    (table (header 0x03 1 1 0) quiet (task 1 simple dormant 0 1 ∷ [])) (listing (ended_record 0 0xFF 1 ∷ []))
    ∷ does (management 0 4 0) (answer_line 0 0 0 0 0 0) (table (header 0x03 1 0 0) quiet (task 1 simple enabled 0 1 ∷ [])) (listing [])
    ∷ lend (table (header 0x03 2 0 0) (bits 0x08 0 0 0 0 0 0 0) (task 0 ordered enabled 0 1 ∷ task 1 simple dormant 0 1 ∷ []))
    ∷ does (command 0 simple 1 2) (answer_line 7 0x02 0x06 0x29 0x07 1)
    (table (header 0x03 1 1 0) quiet (task 1 simple dormant 0 1 ∷ [])) (listing (ended_record 0 0xFF 1 ∷ []))
    ∷ [])

-- RULES 5.17: what holds of an ACA (RULES 5.4, 5.5, 2.10, 6.3) holds of one that the refused command of nexus 2, which has no task, began
abbrev pub aca_of_refused : Case
aca_of_refused =
    from (table (header 0x00 1 0 0) quiet (task 0 simple enabled 0 1 ∷ []))
    (does (command 2 3 1 1) (answer_line 7 0x02 0x05 0x49 0x00 0) (table (header 0x00 1 3 0) quiet (task 0 simple blocked 0 1 ∷ [])) (listing [])
    ∷ keeps (command 2 3 1 1) (answer_line 7 0x30 0 0 0 0)
    ∷ keeps (command 0 simple 0 2) (answer_line 7 0x08 0 0 0 0)
    ∷ refuses (completion 0 0x00 1) 6
    ∷ enters (command 2 aca 0 1) (table (header 0x00 2 3 0) quiet (task 0 simple blocked 0 1 ∷ task 2 aca enabled 0 1 ∷ []))
    ∷ name (names_task 2 1)
    ∷ does (completion 2 0x02 1) (answer_line 0 0 0 0 0 1) (table (header 0x00 1 0 0) quiet (task 0 simple enabled 0 1 ∷ [])) (listing (ended_record 2 0x02 1 ∷ []))
    ∷ [])

-- In an ACA ------------------------------------------------------------------------------------------------------------------------------------

-- in an ACA of nexus 0, QERR 01b: a lent table (RULES 10.6); events lead to none such, since under that QERR nobody stays when an ACA begins
abbrev qerr_all_in_aca : List ℕ
qerr_all_in_aca =
    table (header 0x01 5 1 3) (bits 0x14 0x08 0 0 0 0 0 0)
    (task 1 simple blocked 0 1 ∷ task 0 simple blocked 0 1 ∷ task 2 ordered dormant 0 1 ∷ task 1 simple dormant 0 2 ∷ task 0 aca enabled 0 9 ∷ [])

-- RULES 5.18, NACA 1 and QERR 01b: an overlapped command of nexus 1, then one of the faulted nexus, with its ACA task's tag, end the tasks of their nexus alone.
-- The ACA stays nexus 0's, nobody is told, and 2.1 O, eligible now, stays dormant. Then with QERR 11b, on a table that events lead to.
abbrev pub overlap_spares_others_in_aca : Case
overlap_spares_others_in_aca =
    from qerr_all_in_aca
    (does (command 1 simple 1 1) (answer_line 7 0x02 0x0B 0x4E 0x00 2)
    (table (header 0x01 3 1 3) (bits 0x14 0x08 0 0 0 0 0 0) (task 0 simple blocked 0 1 ∷ task 2 ordered dormant 0 1 ∷ task 0 aca enabled 0 9 ∷ []))
    (listing (ended_record 1 0xFF 1 ∷ ended_record 1 0xFF 2 ∷ []))
    ∷ does (command 0 aca 1 9) (answer_line 7 0x02 0x0B 0x4E 0x00 2)
    (table (header 0x01 1 1 3) (bits 0x14 0x08 0 0 0 0 0 0) (task 2 ordered dormant 0 1 ∷ [])) (listing (ended_record 0 0xFF 1 ∷ ended_record 0 0xFF 9 ∷ []))
    ∷ lend (table (header 0x03 2 1 0) quiet (task 1 simple blocked 0 1 ∷ task 2 simple blocked 0 1 ∷ []))
    ∷ does (command 1 simple 1 1) (answer_line 7 0x02 0x0B 0x4E 0x00 1)
    (table (header 0x03 1 1 0) quiet (task 2 simple blocked 0 1 ∷ [])) (listing (ended_record 1 0xFF 1 ∷ []))
    ∷ [])

-- RULES 5.10 and 5.18, NACA 1 and QERR 01b: ACA commands of the faulted nexus take its bits, and nobody ends; then the next enters. RULES 6.6: it is the ACA
-- task's CHECK CONDITION that applies QERR.
abbrev pub bit_spares_all_in_aca : Case
bit_spares_all_in_aca =
    from (table (header 0x01 2 1 3) (bits 0x14 0x08 0 0 0 0 0 0) (task 0 simple blocked 0 1 ∷ task 1 ordered dormant 0 1 ∷ []))
    (does (command 0 aca 1 9) (answer_line 7 0x02 0x06 0x29 0x03 0)
    (table (header 0x01 2 1 3) (bits 0x10 0x08 0 0 0 0 0 0) (task 0 simple blocked 0 1 ∷ task 1 ordered dormant 0 1 ∷ [])) (listing [])
    ∷ does (command 0 aca 1 9) (answer_line 7 0x02 0x06 0x2F 0x00 0)
    (table (header 0x01 2 1 3) (bits 0 0x08 0 0 0 0 0 0) (task 0 simple blocked 0 1 ∷ task 1 ordered dormant 0 1 ∷ [])) (listing [])
    ∷ enters (command 0 aca 1 9)
    (table (header 0x01 3 1 3) (bits 0 0x08 0 0 0 0 0 0) (task 0 simple blocked 0 1 ∷ task 1 ordered dormant 0 1 ∷ task 0 aca enabled 1 9 ∷ []))
    ∷ does (completion 0 0x02 9) (answer_line 0 0 0 0 0 3)
    (table (header 0x01 0 1 3) (bits 0 0x18 0 0 0 0 0 0) []) (listing (ended_record 0 0xFF 1 ∷ ended_record 1 0xFF 1 ∷ ended_record 0 0x02 9 ∷ []))
    ∷ [])

-- RULES 5.19, QERR 01b: 08h with NACA 0, 30h with NACA 1, from another nexus and from the faulted one
abbrev pub busy_and_active_change_nothing : Case
busy_and_active_change_nothing =
    from qerr_all_in_aca
    (keeps (command 1 simple 0 7) (answer_line 7 0x08 0 0 0 0)
    ∷ keeps (command 1 simple 1 7) (answer_line 7 0x30 0 0 0 0)
    ∷ keeps (command 0 simple 1 7) (answer_line 7 0x30 0 0 0 0)
    ∷ keeps (command 0 aca 1 7) (answer_line 7 0x30 0 0 0 0)
    ∷ [])

-- Run ------------------------------------------------------------------------------------------------------------------------------------------

-- RULES 5.20, run 3: nobody ends, and 0.1 H has the turn still, also after an ACA; the task whose turn it is ends by check 1; all end by QERR 01b
abbrev pub entry_leaves_run : Case
entry_leaves_run =
    from (table (header 0x00 2 0 3) quiet (task 0 head_of_queue enabled 0 1 ∷ task 1 simple dormant 0 1 ∷ []))
    (name (names_task 0 1)
    ∷ keeps (command 2 3 0 1) (answer_line 7 0x02 0x05 0x49 0x00 0)
    ∷ name (names_task 0 1)
    ∷ does (command 2 3 1 1) (answer_line 7 0x02 0x05 0x49 0x00 0)
    (table (header 0x00 2 3 3) quiet (task 0 head_of_queue blocked 0 1 ∷ task 1 simple dormant 0 1 ∷ [])) (listing [])
    ∷ name nothing
    ∷ does (management 2 4 0) (answer_line 0 0 0 0 0 0)
    (table (header 0x00 2 0 3) quiet (task 0 head_of_queue enabled 0 1 ∷ task 1 simple dormant 0 1 ∷ [])) (listing [])
    ∷ name (names_task 0 1)
    ∷ does (command 0 simple 0 1) (answer_line 7 0x02 0x0B 0x4E 0x00 1)
    (table (header 0x00 1 0 3) quiet (task 1 simple enabled 0 1 ∷ [])) (listing (ended_record 0 0xFF 1 ∷ []))
    ∷ name (names_task 1 1)
    ∷ lend (table (header 0x01 2 0 3) quiet (task 0 simple enabled 0 1 ∷ task 1 head_of_queue enabled 0 1 ∷ []))
    ∷ name (names_task 1 1)
    ∷ does (command 2 3 0 1) (answer_line 7 0x02 0x05 0x49 0x00 2)
    (table (header 0x01 0 0 3) (bits 0x10 0x10 0 0 0 0 0 0) []) (listing (ended_record 0 0xFF 1 ∷ ended_record 1 0xFF 1 ∷ []))
    ∷ name nothing
    ∷ [])
