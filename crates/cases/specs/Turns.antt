-- RULES 1.15, 1.16, 2.10 to 2.12, 23.8 and 23.9: turns, run, and the longest waits.
use Rattle.std.specs.Prelude.{[], ◌∷◌}
use Rattle.cases.specs.Makers.{simple, head_of_queue, ordered, aca, dormant, enabled, blocked}
use Rattle.cases.specs.Makers.{header, task, ended_record, command, completion, quiet, table, listing}
use Rattle.cases.specs.Shorthand.{answer_line, names_task, nothing, does, enters, from}
use Rattle.cases.specs.Play.{lend, name, Case}

-- RULES 26.12: run is 1, 2, 3, 4 on the way and 0 after the fifth turn
abbrev pub case_k : Case
case_k =
    from (table (header 0x00 1 0 0) quiet (task 0 simple enabled 0 1 ∷ []))
    (enters (command 1 head_of_queue 0 1) (table (header 0x00 2 0 0) quiet (task 0 simple enabled 0 1 ∷ task 1 head_of_queue enabled 0 1 ∷ []))
    ∷ name (names_task 1 1)
    ∷ does (completion 1 0x00 1) (answer_line 0 0 0 0 0 1) (table (header 0x00 1 0 1) quiet (task 0 simple enabled 0 1 ∷ []))
    (listing (ended_record 1 0x00 1 ∷ []))
    ∷ enters (command 1 head_of_queue 0 2) (table (header 0x00 2 0 1) quiet (task 0 simple enabled 0 1 ∷ task 1 head_of_queue enabled 0 2 ∷ []))
    ∷ name (names_task 1 2)
    ∷ does (completion 1 0x00 2) (answer_line 0 0 0 0 0 1) (table (header 0x00 1 0 2) quiet (task 0 simple enabled 0 1 ∷ []))
    (listing (ended_record 1 0x00 2 ∷ []))
    ∷ enters (command 1 head_of_queue 0 3) (table (header 0x00 2 0 2) quiet (task 0 simple enabled 0 1 ∷ task 1 head_of_queue enabled 0 3 ∷ []))
    ∷ name (names_task 1 3)
    ∷ does (completion 1 0x00 3) (answer_line 0 0 0 0 0 1) (table (header 0x00 1 0 3) quiet (task 0 simple enabled 0 1 ∷ []))
    (listing (ended_record 1 0x00 3 ∷ []))
    ∷ enters (command 1 head_of_queue 0 4) (table (header 0x00 2 0 3) quiet (task 0 simple enabled 0 1 ∷ task 1 head_of_queue enabled 0 4 ∷ []))
    ∷ name (names_task 1 4)
    ∷ does (completion 1 0x00 4) (answer_line 0 0 0 0 0 1) (table (header 0x00 1 0 4) quiet (task 0 simple enabled 0 1 ∷ []))
    (listing (ended_record 1 0x00 4 ∷ []))
    ∷ enters (command 1 head_of_queue 0 5) (table (header 0x00 2 0 4) quiet (task 0 simple enabled 0 1 ∷ task 1 head_of_queue enabled 0 5 ∷ []))
    ∷ name (names_task 0 1)
    ∷ does (completion 0 0x00 1) (answer_line 0 0 0 0 0 1)
    (table (header 0x00 1 0 0) quiet (task 1 head_of_queue enabled 0 5 ∷ [])) (listing (ended_record 0 0x00 1 ∷ []))
    ∷ name (names_task 1 5)
    ∷ [])

-- RULES 2.11: at run 4 the HEAD OF QUEUE task has the turn, for 0.1 S behind it is dormant. RULES 1.15: run stays 4.
abbrev pub run_stays_four : Case
run_stays_four =
    from (table (header 0x00 2 0 4) quiet (task 1 head_of_queue enabled 0 1 ∷ task 0 simple dormant 0 1 ∷ []))
    (name (names_task 1 1)
    ∷ does (completion 1 0x00 1) (answer_line 0 0 0 0 0 1) (table (header 0x00 1 0 4) quiet (task 0 simple enabled 0 1 ∷ []))
    (listing (ended_record 1 0x00 1 ∷ []))
    ∷ [])

-- RULES 1.15: an ORDERED task's turn
abbrev pub ordered_turn : Case
ordered_turn =
    from (table (header 0x00 1 0 3) quiet (task 0 ordered enabled 0 1 ∷ []))
    (name (names_task 0 1)
    ∷ does (completion 0 0x00 1) (answer_line 0 0 0 0 0 1) (table (header 0x00 0 0 0) quiet []) (listing (ended_record 0 0x00 1 ∷ []))
    ∷ [])

-- RULES 1.16: 1.1 H is enabled and not named
abbrev pub head_out_of_turn : Case
head_out_of_turn =
    from (table (header 0x00 2 0 1) quiet (task 0 head_of_queue enabled 0 1 ∷ task 1 head_of_queue enabled 0 1 ∷ []))
    (name (names_task 0 1)
    ∷ does (completion 1 0x00 1) (answer_line 0 0 0 0 0 1)
    (table (header 0x00 1 0 1) quiet (task 0 head_of_queue enabled 0 1 ∷ [])) (listing (ended_record 1 0x00 1 ∷ []))
    ∷ [])

-- RULES 6.7: the CHECK CONDITION that sets up an ACA
abbrev pub failed_turn : Case
failed_turn =
    from (table (header 0x00 2 0 0) quiet (task 1 head_of_queue enabled 1 1 ∷ task 0 simple dormant 0 1 ∷ []))
    (name (names_task 1 1)
    ∷ does (completion 1 0x02 1) (answer_line 0 0 0 0 0 1) (table (header 0x00 1 2 1) quiet (task 0 simple dormant 0 1 ∷ []))
    (listing (ended_record 1 0x02 1 ∷ []))
    ∷ [])

-- RULES 2.10: not the blocked HEAD OF QUEUE task
abbrev pub turn_in_aca : Case
turn_in_aca =
    from (table (header 0x00 2 1 0) quiet (task 1 head_of_queue blocked 0 1 ∷ task 0 aca enabled 0 9 ∷ []))
    (name (names_task 0 9)
    ∷ lend (table (header 0x00 1 1 0) quiet (task 1 head_of_queue blocked 0 1 ∷ []))
    ∷ name nothing
    ∷ [])

-- RULES 23.9 with a = 1 and b = 0: 2.0 O ends at turn 5, and not sooner, with a new H before each turn that is not the older one's
abbrev pub ordered_waits : Case
ordered_waits =
    from (table (header 0x00 1 0 0) quiet (task 1 head_of_queue enabled 0 0 ∷ []))
    (enters (command 2 ordered 0 0) (table (header 0x00 2 0 0) quiet (task 1 head_of_queue enabled 0 0 ∷ task 2 ordered dormant 0 0 ∷ []))
    ∷ name (names_task 1 0)
    ∷ does (completion 1 0x00 0) (answer_line 0 0 0 0 0 1) (table (header 0x00 1 0 1) quiet (task 2 ordered enabled 0 0 ∷ []))
    (listing (ended_record 1 0x00 0 ∷ []))
    ∷ enters (command 3 head_of_queue 0 0) (table (header 0x00 2 0 1) quiet (task 2 ordered enabled 0 0 ∷ task 3 head_of_queue enabled 0 0 ∷ []))
    ∷ name (names_task 3 0)
    ∷ does (completion 3 0x00 0) (answer_line 0 0 0 0 0 1) (table (header 0x00 1 0 2) quiet (task 2 ordered enabled 0 0 ∷ []))
    (listing (ended_record 3 0x00 0 ∷ []))
    ∷ enters (command 3 head_of_queue 0 0) (table (header 0x00 2 0 2) quiet (task 2 ordered enabled 0 0 ∷ task 3 head_of_queue enabled 0 0 ∷ []))
    ∷ name (names_task 3 0)
    ∷ does (completion 3 0x00 0) (answer_line 0 0 0 0 0 1) (table (header 0x00 1 0 3) quiet (task 2 ordered enabled 0 0 ∷ []))
    (listing (ended_record 3 0x00 0 ∷ []))
    ∷ enters (command 3 head_of_queue 0 0) (table (header 0x00 2 0 3) quiet (task 2 ordered enabled 0 0 ∷ task 3 head_of_queue enabled 0 0 ∷ []))
    ∷ name (names_task 3 0)
    ∷ does (completion 3 0x00 0) (answer_line 0 0 0 0 0 1) (table (header 0x00 1 0 4) quiet (task 2 ordered enabled 0 0 ∷ []))
    (listing (ended_record 3 0x00 0 ∷ []))
    ∷ enters (command 3 head_of_queue 0 0) (table (header 0x00 2 0 4) quiet (task 2 ordered enabled 0 0 ∷ task 3 head_of_queue enabled 0 0 ∷ []))
    ∷ name (names_task 2 0)
    ∷ does (completion 2 0x00 0) (answer_line 0 0 0 0 0 1)
    (table (header 0x00 1 0 0) quiet (task 3 head_of_queue enabled 0 0 ∷ [])) (listing (ended_record 2 0x00 0 ∷ []))
    ∷ [])

-- RULES 23.9 with a = 1 and b = 2, from run 4: 2.0 H ends at turn 3, behind one of the others and the older H
abbrev pub head_waits : Case
head_waits =
    from (table (header 0x00 3 0 4) quiet (task 0 simple enabled 0 1 ∷ task 0 simple enabled 0 0 ∷ task 1 head_of_queue enabled 0 0 ∷ []))
    (enters (command 2 head_of_queue 0 0)
    (table (header 0x00 4 0 4) quiet
    (task 0 simple enabled 0 1 ∷ task 0 simple enabled 0 0 ∷ task 1 head_of_queue enabled 0 0 ∷ task 2 head_of_queue enabled 0 0 ∷ []))
    ∷ name (names_task 0 1)
    ∷ does (completion 0 0x00 1) (answer_line 0 0 0 0 0 1)
    (table (header 0x00 3 0 0) quiet (task 0 simple enabled 0 0 ∷ task 1 head_of_queue enabled 0 0 ∷ task 2 head_of_queue enabled 0 0 ∷ []))
    (listing (ended_record 0 0x00 1 ∷ []))
    ∷ name (names_task 1 0)
    ∷ does (completion 1 0x00 0) (answer_line 0 0 0 0 0 1)
    (table (header 0x00 2 0 1) quiet (task 0 simple enabled 0 0 ∷ task 2 head_of_queue enabled 0 0 ∷ []))
    (listing (ended_record 1 0x00 0 ∷ []))
    ∷ name (names_task 2 0)
    ∷ does (completion 2 0x00 0) (answer_line 0 0 0 0 0 1) (table (header 0x00 1 0 2) quiet (task 0 simple enabled 0 0 ∷ []))
    (listing (ended_record 2 0x00 0 ∷ []))
    ∷ [])
