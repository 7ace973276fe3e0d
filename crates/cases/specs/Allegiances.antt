-- RULES 2.8, 2.9, 6.3 to 6.8 and 7.2 to 7.8: ACA and states.
use Rattle.std.specs.Prelude.{ℕ, List, [], ◌∷◌}
use Rattle.cases.specs.Makers.{simple, head_of_queue, ordered, aca, dormant, enabled, blocked}
use Rattle.cases.specs.Makers.{header, task, ended_record, command, completion, management, bits, quiet, table, listing}
use Rattle.cases.specs.Shorthand.{answer_line, nothing, does, enters, keeps, refuses, from}
use Rattle.cases.specs.Play.{lend, name, Case}

-- RULES 2.8. RULES 2.9: 2.1 O stays dormant when 1.1 is aborted. CLEAR ACA enables both. 0.1 S ends out of its turn, which is that of 3.1 H.
abbrev pub aca_begins : Case
aca_begins =
    from
    (table (header 0x00 4 0 0) quiet
    (task 0 simple enabled 1 1 ∷ task 1 simple enabled 0 1 ∷ task 2 ordered dormant 0 1 ∷ task 3 head_of_queue enabled 0 1 ∷ []))
    (does (completion 0 0x02 1) (answer_line 0 0 0 0 0 1)
    (table (header 0x00 3 1 0) quiet (task 1 simple blocked 0 1 ∷ task 2 ordered dormant 0 1 ∷ task 3 head_of_queue blocked 0 1 ∷ []))
    (listing (ended_record 0 0x02 1 ∷ []))
    ∷ does (management 1 1 1) (answer_line 0 0 0 0 0 1)
    (table (header 0x00 2 1 0) quiet (task 2 ordered dormant 0 1 ∷ task 3 head_of_queue blocked 0 1 ∷ [])) (listing (ended_record 1 0xFF 1 ∷ []))
    ∷ does (management 0 4 0) (answer_line 0 0 0 0 0 0)
    (table (header 0x00 2 0 0) quiet (task 2 ordered enabled 0 1 ∷ task 3 head_of_queue enabled 0 1 ∷ [])) (listing [])
    ∷ [])

-- in an ACA of nexus 0 at run 3: 1.1 S blocked, 2.1 O dormant, 3.1 S dormant, and the ACA task 0.9, with this control byte
abbrev aca_task0 : List ℕ
aca_task0 =
    table (header 0x00 4 1 3) quiet
    (task 1 simple blocked 0 1 ∷ task 2 ordered dormant 0 1 ∷ task 3 simple dormant 0 1 ∷ task 0 aca enabled 0 9 ∷ [])

abbrev aca_task1 : List ℕ
aca_task1 =
    table (header 0x00 4 1 3) quiet
    (task 1 simple blocked 0 1 ∷ task 2 ordered dormant 0 1 ∷ task 3 simple dormant 0 1 ∷ task 0 aca enabled 1 9 ∷ [])

-- the three others, as they are while the ACA lasts
abbrev others : List (List ℕ)
others = task 1 simple blocked 0 1 ∷ task 2 ordered dormant 0 1 ∷ task 3 simple dormant 0 1 ∷ []

-- RULES 6.5 and 1.16: GOOD leaves the ACA, and run; then another ACA command may enter
abbrev pub aca_task_good : Case
aca_task_good =
    from aca_task0
    (does (completion 0 0x00 9) (answer_line 0 0 0 0 0 1) (table (header 0x00 3 1 3) quiet others) (listing (ended_record 0 0x00 9 ∷ []))
    ∷ name nothing
    ∷ enters (command 0 aca 0 10)
    (table (header 0x00 4 1 3) quiet (task 1 simple blocked 0 1 ∷ task 2 ordered dormant 0 1 ∷ task 3 simple dormant 0 1 ∷ task 0 aca enabled 0 10 ∷ []))
    ∷ [])

-- RULES 6.3 and 6.4: with NACA 0 the ACA goes and the same event enables
abbrev pub aca_task_fails : Case
aca_task_fails =
    from aca_task0
    (does (completion 0 0x02 9) (answer_line 0 0 0 0 0 1)
    (table (header 0x00 3 0 3) quiet (task 1 simple enabled 0 1 ∷ task 2 ordered dormant 0 1 ∷ task 3 simple dormant 0 1 ∷ []))
    (listing (ended_record 0 0x02 9 ∷ []))
    ∷ [])

-- RULES 6.4: with NACA 1 nothing of it changes
abbrev pub aca_task_fails_again : Case
aca_task_fails_again =
    from aca_task1 (does (completion 0 0x02 9) (answer_line 0 0 0 0 0 1) (table (header 0x00 3 1 3) quiet others) (listing (ended_record 0 0x02 9 ∷ [])) ∷ [])

-- RULES 6.8: 6 for blocked and dormant, 5 for absent
abbrev pub only_aca_task_completes : Case
only_aca_task_completes =
    from aca_task0
    (refuses (completion 1 0x00 1) 6
    ∷ refuses (completion 2 0x02 1) 6
    ∷ refuses (completion 0 0x00 1) 5
    ∷ [])

-- RULES 7.8: ABORT TASK. ABORT TASK SET is `abort_task_set_in_aca`, an overlapped command `overlap_first`.
abbrev pub abort_task_in_aca : Case
abort_task_in_aca =
    from aca_task0 (does (management 0 1 9) (answer_line 0 0 0 0 0 1) (table (header 0x00 3 1 3) quiet others) (listing (ended_record 0 0xFF 9 ∷ [])) ∷ [])

-- RULES 7.5: from the faulted nexus and from another
abbrev pub clear_task_set_in_aca : Case
clear_task_set_in_aca =
    from aca_task0
    (does (management 0 3 0) (answer_line 0 0 0 0 0 4)
    (table (header 0x00 0 1 3) (bits 0 0x10 0x10 0x10 0 0 0 0) [])
    (listing (ended_record 1 0xFF 1 ∷ ended_record 2 0xFF 1 ∷ ended_record 3 0xFF 1 ∷ ended_record 0 0xFF 9 ∷ []))
    ∷ lend aca_task0
    ∷ does (management 2 3 0) (answer_line 0 0 0 0 0 4)
    (table (header 0x00 0 1 3) (bits 0x10 0x10 0 0x10 0 0 0 0) [])
    (listing (ended_record 1 0xFF 1 ∷ ended_record 2 0xFF 1 ∷ ended_record 3 0xFF 1 ∷ ended_record 0 0xFF 9 ∷ []))
    ∷ [])

-- RULES 7.2: from any nexus, with a report of zeros
abbrev pub clear_no_aca : Case
clear_no_aca =
    from (table (header 0x00 1 0 2) quiet (task 0 simple enabled 0 1 ∷ []))
    (keeps (management 0 4 0) (answer_line 0 0 0 0 0 0)
    ∷ keeps (management 5 4 0) (answer_line 0 0 0 0 0 0)
    ∷ [])

-- RULES 7.3 and 7.4: the ACA task is in the report with FFh; 0.1 S of that nexus stays
abbrev pub clear_aca : Case
clear_aca =
    from (table (header 0x00 3 1 3) quiet (task 0 simple blocked 0 1 ∷ task 2 ordered dormant 0 1 ∷ task 0 aca enabled 0 9 ∷ []))
    (keeps (management 2 4 0) (answer_line 8 0 0 0 0 0)
    ∷ does (management 0 4 0) (answer_line 0 0 0 0 0 1)
    (table (header 0x00 2 0 3) quiet (task 0 simple enabled 0 1 ∷ task 2 ordered dormant 0 1 ∷ [])) (listing (ended_record 0 0xFF 9 ∷ []))
    ∷ [])

-- RULES 4.6, on a lent table: policy 01h, ACA byte 1, 1.1 S blocked, 0.1 attribute ACA enabled with NACA 0
abbrev pub qerr_ends_blocked : Case
qerr_ends_blocked =
    from (table (header 0x01 2 1 0) quiet (task 1 simple blocked 0 1 ∷ task 0 aca enabled 0 1 ∷ []))
    (does (completion 0 0x02 1) (answer_line 0 0 0 0 0 2)
    (table (header 0x01 0 0 0) (bits 0 0x10 0 0 0 0 0 0) []) (listing (ended_record 1 0xFF 1 ∷ ended_record 0 0x02 1 ∷ []))
    ∷ [])

-- the same with TAS 1, a dormant task, and NACA 1: the ACA stays
abbrev pub qerr_ends_dormant : Case
qerr_ends_dormant =
    from (table (header 0x05 3 1 0) quiet (task 1 simple blocked 0 1 ∷ task 2 ordered dormant 0 1 ∷ task 0 aca enabled 1 1 ∷ []))
    (does (completion 0 0x02 1) (answer_line 0 0 0 0 0 3)
    (table (header 0x05 0 1 0) quiet []) (listing (ended_record 1 0x40 1 ∷ ended_record 2 0x40 1 ∷ ended_record 0 0x02 1 ∷ []))
    ∷ [])

-- the same with QERR 11b: 0.2 S ends, 1.1 S stays and is enabled as the ACA goes
abbrev pub qerr_ends_nexus_in_aca : Case
qerr_ends_nexus_in_aca =
    from (table (header 0x03 3 1 0) quiet (task 1 simple blocked 0 1 ∷ task 0 simple blocked 0 2 ∷ task 0 aca enabled 0 1 ∷ []))
    (does (completion 0 0x02 1) (answer_line 0 0 0 0 0 2)
    (table (header 0x03 1 0 0) quiet (task 1 simple enabled 0 1 ∷ [])) (listing (ended_record 0 0xFF 2 ∷ ended_record 0 0x02 1 ∷ []))
    ∷ [])
