-- RULES 26.13: each of the five plausible errors as a case that tells it from the rule.
use Rattle.std.specs.Prelude.{[], ◌∷◌}
use Rattle.cases.specs.Makers.{simple, head_of_queue, ordered, aca, dormant, enabled, blocked}
use Rattle.cases.specs.Makers.{header, task, ended_record, command, completion, management, bits, quiet, table, clear, listing}
use Rattle.cases.specs.Shorthand.{answer_line, names_task, nothing, does, enters, keeps, refuses, from}
use Rattle.cases.specs.Play.{name, Case}

-- RULES 2.8: 1.1 S behind 0.1 O stays dormant, has no turn, and can't complete
abbrev pub dormant_as_aca_begins : Case
dormant_as_aca_begins =
    from (clear 0x00)
    (enters (command 0 ordered 1 1) (table (header 0x00 1 0 0) quiet (task 0 ordered enabled 1 1 ∷ []))
    ∷ enters (command 1 simple 0 1) (table (header 0x00 2 0 0) quiet (task 0 ordered enabled 1 1 ∷ task 1 simple dormant 0 1 ∷ []))
    ∷ does (completion 0 0x02 1) (answer_line 0 0 0 0 0 1) (table (header 0x00 1 1 0) quiet (task 1 simple dormant 0 1 ∷ []))
    (listing (ended_record 0 0x02 1 ∷ []))
    ∷ name nothing
    ∷ refuses (completion 1 0x00 1) 6
    ∷ [])

-- RULES 2.5: 0.1 S stays enabled and completes, out of its turn, so that run stays 2
abbrev pub younger_head : Case
younger_head =
    from (table (header 0x00 1 0 2) quiet (task 0 simple enabled 0 1 ∷ []))
    (enters (command 1 head_of_queue 0 1) (table (header 0x00 2 0 2) quiet (task 0 simple enabled 0 1 ∷ task 1 head_of_queue enabled 0 1 ∷ []))
    ∷ name (names_task 1 1)
    ∷ does (completion 0 0x00 1) (answer_line 0 0 0 0 0 1)
    (table (header 0x00 1 0 2) quiet (task 1 head_of_queue enabled 0 1 ∷ [])) (listing (ended_record 0 0x00 1 ∷ []))
    ∷ [])

-- RULES 7.7: from the faulted nexus it ends the ACA task too; the ACA stays, so that 1.1 stays blocked, nobody has the turn, and nexus 1 is BUSY
abbrev pub abort_task_set_in_aca : Case
abort_task_set_in_aca =
    from (table (header 0x00 3 1 0) quiet (task 0 simple blocked 0 1 ∷ task 1 simple blocked 0 1 ∷ task 0 aca enabled 0 9 ∷ []))
    (does (management 0 2 0) (answer_line 0 0 0 0 0 2)
    (table (header 0x00 1 1 0) quiet (task 1 simple blocked 0 1 ∷ [])) (listing (ended_record 0 0xFF 1 ∷ ended_record 0 0xFF 9 ∷ []))
    ∷ name nothing
    ∷ keeps (command 1 simple 0 2) (answer_line 7 0x08 0 0 0 0)
    ∷ [])

-- RULES 4.7: QERR 01b aborts 0.2 and 1.1; the next command of nexus 0 enters, that of nexus 1 is told, and so aborts 0.3 (RULES 5.16)
abbrev pub causing_nexus : Case
causing_nexus =
    from (table (header 0x01 3 0 0) quiet (task 0 simple enabled 0 1 ∷ task 0 simple enabled 0 2 ∷ task 1 simple enabled 0 1 ∷ []))
    (does (completion 0 0x02 1) (answer_line 0 0 0 0 0 3)
    (table (header 0x01 0 0 0) (bits 0 0x10 0 0 0 0 0 0) []) (listing (ended_record 0 0x02 1 ∷ ended_record 0 0xFF 2 ∷ ended_record 1 0xFF 1 ∷ []))
    ∷ enters (command 0 simple 0 3) (table (header 0x01 1 0 0) (bits 0 0x10 0 0 0 0 0 0) (task 0 simple enabled 0 3 ∷ []))
    ∷ does (command 1 simple 0 3) (answer_line 7 0x02 0x06 0x2F 0x00 1) (table (header 0x01 0 0 0) (bits 0x10 0 0 0 0 0 0 0) [])
    (listing (ended_record 0 0xFF 3 ∷ []))
    ∷ [])

-- RULES 2.11: of 0.1, 1.1 and then 2.1 H the oldest has the turn each time
abbrev pub oldest_head : Case
oldest_head =
    from (clear 0x00)
    (enters (command 0 head_of_queue 0 1) (table (header 0x00 1 0 0) quiet (task 0 head_of_queue enabled 0 1 ∷ []))
    ∷ enters (command 1 head_of_queue 0 1) (table (header 0x00 2 0 0) quiet (task 0 head_of_queue enabled 0 1 ∷ task 1 head_of_queue enabled 0 1 ∷ []))
    ∷ name (names_task 0 1)
    ∷ does (completion 0 0x00 1) (answer_line 0 0 0 0 0 1)
    (table (header 0x00 1 0 1) quiet (task 1 head_of_queue enabled 0 1 ∷ [])) (listing (ended_record 0 0x00 1 ∷ []))
    ∷ enters (command 2 head_of_queue 0 1) (table (header 0x00 2 0 1) quiet (task 1 head_of_queue enabled 0 1 ∷ task 2 head_of_queue enabled 0 1 ∷ []))
    ∷ name (names_task 1 1)
    ∷ [])
