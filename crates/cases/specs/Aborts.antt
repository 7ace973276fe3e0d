-- RULES 4.4 to 4.7, 6.1 and 6.2: QERR, TAS, who is told.
use Rattle.std.specs.Prelude.{[], ◌∷◌}
use Rattle.cases.specs.Makers.{simple, head_of_queue, dormant, enabled}
use Rattle.cases.specs.Makers.{header, task, ended_record, command, completion, management, condition, bits, quiet, table, listing}
use Rattle.cases.specs.Shorthand.{answer_line, does, keeps, from}
use Rattle.cases.specs.Play.{lend, Case}

-- RULES 4.5, 00b: the others stay as they are
abbrev pub qerr_none : Case
qerr_none =
    from (table (header 0x04 2 0 0) quiet (task 0 simple enabled 0 1 ∷ task 0 simple enabled 0 2 ∷ []))
    (does (completion 0 0x02 1) (answer_line 0 0 0 0 0 1) (table (header 0x04 1 0 0) quiet (task 0 simple enabled 0 2 ∷ [])) (listing (ended_record 0 0x02 1 ∷ []))
    ∷ [])

-- RULES 4.9: the completed task keeps its age place. RULES 6.6: with NACA 1 too, before the ACA.
abbrev pub qerr_all : Case
qerr_all =
    from (table (header 0x01 3 0 0) quiet (task 1 simple enabled 0 1 ∷ task 0 simple enabled 1 1 ∷ task 2 simple enabled 0 1 ∷ []))
    (does (completion 0 0x02 1) (answer_line 0 0 0 0 0 3)
    (table (header 0x01 0 1 0) (bits 0 0x10 0x10 0 0 0 0 0) []) (listing (ended_record 1 0xFF 1 ∷ ended_record 0 0x02 1 ∷ ended_record 2 0xFF 1 ∷ []))
    ∷ [])

-- RULES 4.5 and 6.2, 11b: 0.2 gets FFh with TAS 0 and with TAS 1, and nobody is told
abbrev pub qerr_nexus : Case
qerr_nexus =
    from (table (header 0x03 3 0 0) quiet (task 0 simple enabled 0 1 ∷ task 1 simple enabled 0 1 ∷ task 0 simple enabled 0 2 ∷ []))
    (does (completion 0 0x02 1) (answer_line 0 0 0 0 0 2)
    (table (header 0x03 1 0 0) quiet (task 1 simple enabled 0 1 ∷ [])) (listing (ended_record 0 0x02 1 ∷ ended_record 0 0xFF 2 ∷ []))
    ∷ lend (table (header 0x07 3 0 0) quiet (task 0 simple enabled 0 1 ∷ task 1 simple enabled 0 1 ∷ task 0 simple enabled 0 2 ∷ []))
    ∷ does (completion 0 0x02 1) (answer_line 0 0 0 0 0 2)
    (table (header 0x07 1 0 0) quiet (task 1 simple enabled 0 1 ∷ [])) (listing (ended_record 0 0x02 1 ∷ ended_record 0 0xFF 2 ∷ []))
    ∷ [])

-- RULES 3.9, 4.7 and 6.1: CLEAR TASK SET from 0; nexus 2 has bit 0 already, nexus 3 has no task
abbrev pub clear_task_set : Case
clear_task_set =
    from
    (table (header 0x00 4 0 1) (bits 0 0 1 1 0 0 0 0)
    (task 0 simple enabled 0 1 ∷ task 1 simple enabled 0 1 ∷ task 2 head_of_queue enabled 0 1 ∷ task 1 simple dormant 0 2 ∷ []))
    (does (management 0 3 0) (answer_line 0 0 0 0 0 4)
    (table (header 0x00 0 0 1) (bits 0 0x10 0x11 1 0 0 0 0) [])
    (listing (ended_record 0 0xFF 1 ∷ ended_record 1 0xFF 1 ∷ ended_record 2 0xFF 1 ∷ ended_record 1 0xFF 2 ∷ []))
    ∷ [])

-- RULES 4.4 and 6.1: 40h, and then no bit 4
abbrev pub clear_task_set_tas : Case
clear_task_set_tas =
    from (table (header 0x04 3 0 0) (bits 0 0 1 0 0 0 0 0) (task 0 simple enabled 0 1 ∷ task 1 simple enabled 0 1 ∷ task 2 simple enabled 0 1 ∷ []))
    (does (management 0 3 0) (answer_line 0 0 0 0 0 3)
    (table (header 0x04 0 0 0) (bits 0 0 1 0 0 0 0 0) []) (listing (ended_record 0 0xFF 1 ∷ ended_record 1 0x40 1 ∷ ended_record 2 0x40 1 ∷ []))
    ∷ [])

-- RULES 4.4: under TAS 1 ABORT TASK, ABORT TASK SET, nexus loss and logical unit reset give FFh, and nobody gets bit 4; and so does overlap, here with QERR
-- 00b, since 01b has the others aborted too (RULES 5.16). RULES 7.6: ABORT TASK of an absent task.
abbrev pub other_aborts : Case
other_aborts =
    from
    (table (header 0x05 4 0 0) quiet (task 0 simple enabled 0 1 ∷ task 1 simple enabled 0 1 ∷ task 3 simple enabled 0 1 ∷ task 4 simple enabled 0 1 ∷ []))
    (does (management 0 1 1) (answer_line 0 0 0 0 0 1)
    (table (header 0x05 3 0 0) quiet (task 1 simple enabled 0 1 ∷ task 3 simple enabled 0 1 ∷ task 4 simple enabled 0 1 ∷ []))
    (listing (ended_record 0 0xFF 1 ∷ []))
    ∷ keeps (management 0 1 1) (answer_line 0 0 0 0 0 0)
    ∷ does (management 1 2 0) (answer_line 0 0 0 0 0 1)
    (table (header 0x05 2 0 0) quiet (task 3 simple enabled 0 1 ∷ task 4 simple enabled 0 1 ∷ [])) (listing (ended_record 1 0xFF 1 ∷ []))
    ∷ does (condition 3 3) (answer_line 0 0 0 0 0 1)
    (table (header 0x05 1 0 0) (bits 0 0 0 8 0 0 0 0) (task 4 simple enabled 0 1 ∷ [])) (listing (ended_record 3 0xFF 1 ∷ []))
    ∷ does (management 0 5 0) (answer_line 0 0 0 0 0 1) (table (header 0x05 0 0 0) (bits 4 4 4 4 4 4 4 4) []) (listing (ended_record 4 0xFF 1 ∷ []))
    ∷ lend (table (header 0x04 2 0 0) quiet (task 2 simple enabled 0 1 ∷ task 3 simple enabled 0 1 ∷ []))
    ∷ does (command 2 simple 0 1) (answer_line 7 0x02 0x0B 0x4E 0x00 1)
    (table (header 0x04 1 0 0) quiet (task 3 simple enabled 0 1 ∷ [])) (listing (ended_record 2 0xFF 1 ∷ []))
    ∷ [])
