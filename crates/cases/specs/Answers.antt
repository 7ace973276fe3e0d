-- RULES 17 to 20: the lowest answer, bad tables and bad events.
use Rattle.std.specs.Prelude.{ℕ, ◌+◌, ◌-◌, List, [], ◌∷◌}
use Rattle.cases.specs.Makers.{task_width, nexus_place, table_length, report_length, zeros, junk, changed, shorter, longer}
use Rattle.cases.specs.Makers.{simple, head_of_queue, ordered, aca, dormant, enabled, blocked}
use Rattle.cases.specs.Makers.{header, task, unused, event, command, completion, management, condition, bits, quiet, table, clear}
use Rattle.cases.specs.Shorthand.{answer_line, nothing, no_table, keeps, refuses, from}
use Rattle.cases.specs.Play.{unchanged, now, Move, lend, start, name, Case}

-- RULES 19.3: the table, the report and the event are bad, and the nexus is 8
abbrev pub lowest_is1 : Case
lowest_is1 =
    record {
      begins = junk (table_length - 1);
      buffer = junk (report_length - 1);
      moves = refuses (command 8 simple 4 1) 1 ∷ [];
    }

-- the report and the event are bad, and the nexus is 8
abbrev pub lowest_is2 : Case
lowest_is2 =
    record {
      begins = clear 0x00;
      buffer = junk (report_length - 1);
      moves = refuses (command 8 simple 4 1) 2 ∷ [];
    }

-- RULES 18.1, answer 2: one byte too many
abbrev pub long_report : Case
long_report =
    record {
      begins = clear 0x00;
      buffer = junk (report_length + 1);
      moves = refuses (command 0 simple 0 1) 2 ∷ [];
    }

-- the event is bad, and the nexus is 8
abbrev pub lowest_is3 : Case
lowest_is3 = from (clear 0x00) (refuses (command 8 simple 4 1) 3 ∷ [])

-- RULES 9.3: answer 4, whatever the event, before 5, 8 and the checks of a command
abbrev pub lowest_is4 : Case
lowest_is4 =
    from (clear 0x00)
    (refuses (completion 8 0x00 1) 4
    ∷ refuses (management 8 9 0) 4
    ∷ refuses (management 8 5 0) 4
    ∷ refuses (condition 8 3) 4
    ∷ refuses (command 0xFF 3 0 1) 4
    ∷ [])

-- RULES 7.10; RULES 16.3: function 0 is unknown, and the tag of an unknown one is free. The report is zeros, the table the same.
abbrev pub rejected : Case
rejected =
    from (table (header 0x00 1 0 0) quiet (task 2 simple enabled 0 1 ∷ []))
    (keeps (management 2 0 1) (answer_line 8 0 0 0 0 0)
    ∷ keeps (management 2 6 0x1234) (answer_line 8 0 0 0 0 0)
    ∷ keeps (management 2 0xFF 0) (answer_line 8 0 0 0 0 0)
    ∷ [])

-- RULES 19.5 and 14.4: QERR 10b, bits 3 to 7
abbrev pub starting : Case
starting =
    from (junk table_length)
    (start 0x02 9 unchanged
    ∷ start 0x06 9 unchanged
    ∷ start 0x08 9 unchanged
    ∷ start 0xFF 9 unchanged
    ∷ start 0x01 0 (now (table (header 0x01 0 0 0) (bits 1 1 1 1 1 1 1 1) []))
    ∷ start 0x03 0 (now (table (header 0x03 0 0 0) (bits 1 1 1 1 1 1 1 1) []))
    ∷ start 0x04 0 (now (table (header 0x04 0 0 0) (bits 1 1 1 1 1 1 1 1) []))
    ∷ start 0x05 0 (now (table (header 0x05 0 0 0) (bits 1 1 1 1 1 1 1 1) []))
    ∷ start 0x07 0 (now (table (header 0x07 0 0 0) (bits 1 1 1 1 1 1 1 1) []))
    ∷ start 0x02 9 unchanged
    ∷ lend (junk (table_length - 1))
    ∷ start 0x00 1 unchanged
    ∷ start 0x02 1 unchanged
    ∷ lend (junk (table_length + 1))
    ∷ start 0x00 1 unchanged
    ∷ [])

-- RULES 19.4 and 20.2: nobody is named, a bad table
abbrev pub naming_nobody : Case
naming_nobody =
    from (junk table_length)
    (name no_table
    ∷ lend (shorter (clear 0x00))
    ∷ name no_table
    ∷ lend (clear 0x00)
    ∷ name nothing
    ∷ [])

abbrev each_bad : List (List ℕ) → List Move
each_bad [] = []
each_bad (t ∷ ts) = lend t ∷ refuses (command 0 simple 0 1) 1 ∷ name no_table ∷ each_bad ts

-- RULES 17.3: the length; the header; of the nexus records a pending bit that is none, the numbers of nexus 0 and
-- 1 exchanged, and a last byte that is not 0
abbrev pub bad_heads : Case
bad_heads =
    from (junk table_length)
    (each_bad
    (shorter (clear 0x00)
    ∷ longer (clear 0x00)
    ∷ []
    ∷ table (changed 0 0x55 (header 0x00 0 0 0)) quiet []
    ∷ table (changed 1 0x4E (header 0x00 0 0 0)) quiet []
    ∷ table (changed 2 2 (header 0x00 0 0 0)) quiet []
    ∷ table (header 0x02 0 0 0) quiet []
    ∷ table (header 0x08 0 0 0) quiet []
    ∷ table (header 0x00 65 0 0) quiet []
    ∷ table (header 0x00 0 9 0) quiet []
    ∷ table (header 0x00 0 0 5) quiet []
    ∷ table (changed 7 1 (header 0x00 0 0 0)) quiet []
    ∷ table (header 0x00 0 0 0) (bits 0 0 0 0 0 0 0 0x20) []
    ∷ changed (nexus_place 0 + 2) 1 (changed (nexus_place 1 + 2) 0 (clear 0x00))
    ∷ changed (nexus_place 0 + 7) 1 (clear 0x00)
    ∷ []))

-- RULES 17.1 and 17.3: the task records: mark, nexus, attribute, state, control; attribute and state in an ACA too; an unused one that is counted, a used
-- one that is not, one after a gap; two tasks that share nexus and tag
abbrev pub bad_tasks : Case
bad_tasks =
    from (junk table_length)
    (each_bad
    (table (header 0x00 1 0 0) quiet (changed 1 0x45 (task 0 simple enabled 0 1) ∷ [])
    ∷ table (header 0x00 1 0 0) quiet (task 8 simple enabled 0 1 ∷ [])
    ∷ table (header 0x00 1 0 0) quiet (task 0 3 enabled 0 1 ∷ [])
    ∷ table (header 0x00 1 0 0) quiet (task 0 simple 0 0 1 ∷ [])
    ∷ table (header 0x00 1 0 0) quiet (task 0 simple 4 0 1 ∷ [])
    ∷ table (header 0x00 1 0 0) quiet (task 0 simple enabled 2 1 ∷ [])
    ∷ table (header 0x00 1 1 0) quiet (task 0 3 enabled 0 1 ∷ [])
    ∷ table (header 0x00 1 1 0) quiet (task 1 simple 0 0 1 ∷ [])
    ∷ table (header 0x00 1 1 0) quiet (task 1 simple 4 0 1 ∷ [])
    ∷ table (header 0x00 1 0 0) quiet []
    ∷ table (header 0x00 0 0 0) quiet (task 0 simple enabled 0 1 ∷ [])
    ∷ table (header 0x00 0 0 0) quiet (changed (task_width - 1) 1 unused ∷ [])
    ∷ table (header 0x00 0 0 0) quiet (zeros task_width ∷ [])
    ∷ table (header 0x00 1 0 0) quiet (unused ∷ task 0 simple enabled 0 1 ∷ [])
    ∷ table (header 0x00 2 0 0) quiet (task 0 simple enabled 0 1 ∷ task 0 simple enabled 1 1 ∷ [])
    ∷ []))

-- RULES 10.1
abbrev pub bad_without_aca : Case
bad_without_aca =
    from (junk table_length)
    (each_bad
    (table (header 0x00 1 0 0) quiet (task 0 simple blocked 0 1 ∷ [])
    ∷ table (header 0x00 1 0 0) quiet (task 0 aca enabled 0 1 ∷ [])
    ∷ table (header 0x00 1 0 0) quiet (task 0 simple dormant 0 1 ∷ [])
    ∷ table (header 0x00 2 0 0) quiet (task 0 ordered enabled 0 1 ∷ task 1 simple enabled 0 1 ∷ [])
    ∷ table (header 0x00 2 0 0) quiet (task 0 simple enabled 0 1 ∷ task 1 ordered enabled 0 1 ∷ [])
    ∷ table (header 0x00 2 0 0) quiet (task 0 head_of_queue enabled 0 1 ∷ task 1 simple enabled 0 1 ∷ [])
    ∷ table (header 0x00 2 0 0) quiet (task 0 simple enabled 0 1 ∷ task 1 head_of_queue dormant 0 1 ∷ [])
    ∷ []))

-- RULES 10.2 and 10.3
abbrev pub bad_in_aca : Case
bad_in_aca =
    from (junk table_length)
    (each_bad
    (table (header 0x00 2 1 0) quiet (task 0 aca enabled 0 1 ∷ task 0 aca enabled 0 2 ∷ [])
    ∷ table (header 0x00 2 1 0) quiet (task 0 aca enabled 0 1 ∷ task 1 simple dormant 0 1 ∷ [])
    ∷ table (header 0x00 1 1 0) quiet (task 0 aca dormant 0 1 ∷ [])
    ∷ table (header 0x00 1 1 0) quiet (task 0 aca blocked 0 1 ∷ [])
    ∷ table (header 0x00 1 1 0) quiet (task 1 aca enabled 0 1 ∷ [])
    ∷ table (header 0x00 1 1 0) quiet (task 1 simple enabled 0 1 ∷ [])
    ∷ table (header 0x00 2 1 0) quiet (task 1 ordered blocked 0 1 ∷ task 2 simple blocked 0 1 ∷ [])
    ∷ table (header 0x00 2 1 0) quiet (task 1 simple blocked 0 1 ∷ task 2 ordered blocked 0 1 ∷ [])
    ∷ table (header 0x00 1 1 0) quiet (task 1 head_of_queue dormant 0 1 ∷ [])
    ∷ []))

-- RULES 10.6: run 4 over an empty table, an ACA of nexus 7 over an eligible dormant task, every pending bit at once
abbrev pub unreachable : Case
unreachable =
    from (table (header 0x07 0 0 4) (bits 0x1F 0x1F 0x1F 0x1F 0x1F 0x1F 0x1F 0x1F) [])
    (name nothing
    ∷ refuses (completion 0 0x00 1) 5
    ∷ lend (table (header 0x01 1 8 4) quiet (task 0 simple dormant 0 1 ∷ []))
    ∷ name nothing
    ∷ refuses (completion 0 0x00 1) 6
    ∷ [])

abbrev each_bad_event : List (List ℕ) → List Move
each_bad_event [] = []
each_bad_event (e ∷ es) = refuses e 3 ∷ each_bad_event es

-- RULES 16.1 to 16.6: the mark and the kind; a COMMAND's second; a COMPLETION's first and second; a MANAGEMENT's second, and the tag of functions
-- 2 to 5; a CONDITION's first, second and tag, and the nexus of power on and hard reset, also above 7. Until request 3 the second COMPLETION here had 08h, which
-- ends a task now (RULES 6.9).
abbrev pub bad_events : Case
bad_events =
    from (table (header 0x00 1 0 0) quiet (task 0 simple enabled 0 1 ∷ []))
    (each_bad_event
    (changed 1 0x54 (command 0 simple 0 1)
    ∷ changed 0 0x56 (changed 1 0x54 (command 0 simple 0 1))
    ∷ event 0 0 0 0 1
    ∷ event 5 0 0 0 1
    ∷ command 0 simple 4 2
    ∷ command 0 simple 0x80 2
    ∷ completion 0 0x01 1
    ∷ completion 0 0x28 1
    ∷ event 2 0 0x00 1 1
    ∷ event 3 0 1 1 1
    ∷ event 3 0 9 1 0
    ∷ management 0 2 1
    ∷ management 0 3 0x0100
    ∷ management 0 4 1
    ∷ management 0 5 1
    ∷ condition 0 0
    ∷ condition 0 4
    ∷ event 4 0 3 1 0
    ∷ event 4 0 3 0 1
    ∷ condition 1 1
    ∷ condition 7 2
    ∷ condition 8 1
    ∷ []))

-- RULES 16.6: the length
abbrev pub event_lengths : Case
event_lengths =
    from (clear 0x00)
    (refuses [] 3
    ∷ refuses (shorter (command 0 simple 0 1)) 3
    ∷ refuses (longer (command 0 simple 0 1)) 3
    ∷ [])
