-- RULES 26.1 to 26.10 and 26.14: cases A to I and A's twin, and after each event all six numbers of the answer and every byte of the table and the report.
-- 0.1 is nexus 0, tag 1; pending bits are clear and the policy is 00h unless said.
use Rattle.std.specs.Prelude.{ℕ, List, [], ◌∷◌, ◌++◌}
use Rattle.cases.specs.Makers.{simple, head_of_queue, ordered, aca, dormant, enabled}
use Rattle.cases.specs.Makers.{table_length, junk, header, task, ended_record, command, completion, management, bits, quiet, table, clear, listing}
use Rattle.cases.specs.Shorthand.{answer_line, names_task, does, enters, keeps, refuses, from}
use Rattle.cases.specs.Play.{now, Move, lend, start, name, Case}

-- RULES 26.2
abbrev pub case_a : Case
case_a =
    from (junk table_length)
    (start 0x00 0 (now (table (header 0x00 0 0 0) (bits 1 1 1 1 1 1 1 1) []))
    ∷ does (command 2 simple 0 7) (answer_line 7 0x02 0x06 0x29 0x00 0) (table (header 0x00 0 0 0) (bits 1 1 0 1 1 1 1 1) []) (listing [])
    ∷ enters (command 2 simple 0 7) (table (header 0x00 1 0 0) (bits 1 1 0 1 1 1 1 1) (task 2 simple enabled 0 7 ∷ []))
    ∷ does (completion 2 0x00 7) (answer_line 0 0 0 0 0 1) (table (header 0x00 0 0 0) (bits 1 1 0 1 1 1 1 1) []) (listing (ended_record 2 0x00 7 ∷ []))
    ∷ [])

-- RULES 26.14: with NACA 1 the ACA is nexus 2's, and the command is no task
abbrev pub case_a_twin : Case
case_a_twin =
    from (junk table_length)
    (start 0x00 0 (now (table (header 0x00 0 0 0) (bits 1 1 1 1 1 1 1 1) []))
    ∷ does (command 2 simple 1 7) (answer_line 7 0x02 0x06 0x29 0x00 0) (table (header 0x00 0 3 0) (bits 1 1 0 1 1 1 1 1) []) (listing [])
    ∷ keeps (command 2 simple 1 7) (answer_line 7 0x30 0 0 0 0)
    ∷ refuses (completion 2 0x00 7) 5
    ∷ [])

-- RULES 26.3
abbrev pub case_b : Case
case_b =
    from (clear 0x00)
    (enters (command 0 simple 0 1) (table (header 0x00 1 0 0) quiet (task 0 simple enabled 0 1 ∷ []))
    ∷ enters (command 1 ordered 0 1) (table (header 0x00 2 0 0) quiet (task 0 simple enabled 0 1 ∷ task 1 ordered dormant 0 1 ∷ []))
    ∷ enters (command 0 simple 0 2)
    (table (header 0x00 3 0 0) quiet (task 0 simple enabled 0 1 ∷ task 1 ordered dormant 0 1 ∷ task 0 simple dormant 0 2 ∷ []))
    ∷ does (completion 0 0x00 1) (answer_line 0 0 0 0 0 1)
    (table (header 0x00 2 0 0) quiet (task 1 ordered enabled 0 1 ∷ task 0 simple dormant 0 2 ∷ [])) (listing (ended_record 0 0x00 1 ∷ []))
    ∷ does (completion 1 0x00 1) (answer_line 0 0 0 0 0 1) (table (header 0x00 1 0 0) quiet (task 0 simple enabled 0 2 ∷ []))
    (listing (ended_record 1 0x00 1 ∷ []))
    ∷ [])

abbrev tasks_of_c : List (List ℕ)
tasks_of_c = task 0 simple enabled 0 1 ∷ task 1 head_of_queue enabled 0 1 ∷ task 0 simple dormant 0 2 ∷ []

-- RULES 26.4
abbrev pub case_c : Case
case_c =
    from (clear 0x00)
    (enters (command 0 simple 0 1) (table (header 0x00 1 0 0) quiet (task 0 simple enabled 0 1 ∷ []))
    ∷ enters (command 1 head_of_queue 0 1) (table (header 0x00 2 0 0) quiet (task 0 simple enabled 0 1 ∷ task 1 head_of_queue enabled 0 1 ∷ []))
    ∷ enters (command 0 simple 0 2) (table (header 0x00 3 0 0) quiet tasks_of_c)
    ∷ name (names_task 1 1)
    ∷ lend (table (header 0x00 3 0 1) quiet tasks_of_c)
    ∷ name (names_task 1 1)
    ∷ lend (table (header 0x00 3 0 2) quiet tasks_of_c)
    ∷ name (names_task 1 1)
    ∷ lend (table (header 0x00 3 0 3) quiet tasks_of_c)
    ∷ name (names_task 1 1)
    ∷ lend (table (header 0x00 3 0 4) quiet tasks_of_c)
    ∷ name (names_task 0 1)
    ∷ [])

-- how D begins: 0.1 S with NACA 1, 1.1 O; 0.1 ends 02h
abbrev into_aca : List Move
into_aca =
    enters (command 0 simple 1 1) (table (header 0x00 1 0 0) quiet (task 0 simple enabled 1 1 ∷ []))
    ∷ enters (command 1 ordered 0 1) (table (header 0x00 2 0 0) quiet (task 0 simple enabled 1 1 ∷ task 1 ordered dormant 0 1 ∷ []))
    ∷ does (completion 0 0x02 1) (answer_line 0 0 0 0 0 1) (table (header 0x00 1 1 0) quiet (task 1 ordered dormant 0 1 ∷ []))
    (listing (ended_record 0 0x02 1 ∷ []))
    ∷ []

-- RULES 26.5
abbrev pub case_d : Case
case_d =
    from (clear 0x00)
    (into_aca
    ++ (keeps (management 1 4 0) (answer_line 8 0 0 0 0 0)
    ∷ does (management 0 4 0) (answer_line 0 0 0 0 0 0) (table (header 0x00 1 0 0) quiet (task 1 ordered enabled 0 1 ∷ [])) (listing [])
    ∷ []))

-- RULES 26.6: in D's ACA, before any CLEAR ACA
abbrev pub case_e : Case
case_e =
    from (clear 0x00)
    (into_aca
    ++ (keeps (command 0 simple 0 2) (answer_line 7 0x30 0 0 0 0)
    ∷ keeps (command 1 simple 0 2) (answer_line 7 0x08 0 0 0 0)
    ∷ keeps (command 1 simple 1 2) (answer_line 7 0x30 0 0 0 0)
    ∷ enters (command 0 aca 0 3) (table (header 0x00 2 1 0) quiet (task 1 ordered dormant 0 1 ∷ task 0 aca enabled 0 3 ∷ []))
    ∷ keeps (command 0 aca 0 4) (answer_line 7 0x30 0 0 0 0)
    ∷ []))

-- RULES 26.7
abbrev pub case_f : Case
case_f =
    from (clear 0x01)
    (enters (command 0 simple 0 1) (table (header 0x01 1 0 0) quiet (task 0 simple enabled 0 1 ∷ []))
    ∷ enters (command 1 simple 0 1) (table (header 0x01 2 0 0) quiet (task 0 simple enabled 0 1 ∷ task 1 simple enabled 0 1 ∷ []))
    ∷ does (completion 0 0x02 1) (answer_line 0 0 0 0 0 2)
    (table (header 0x01 0 0 0) (bits 0 0x10 0 0 0 0 0 0) []) (listing (ended_record 0 0x02 1 ∷ ended_record 1 0xFF 1 ∷ []))
    ∷ lend (clear 0x05)
    ∷ enters (command 0 simple 0 1) (table (header 0x05 1 0 0) quiet (task 0 simple enabled 0 1 ∷ []))
    ∷ enters (command 1 simple 0 1) (table (header 0x05 2 0 0) quiet (task 0 simple enabled 0 1 ∷ task 1 simple enabled 0 1 ∷ []))
    ∷ does (completion 0 0x02 1) (answer_line 0 0 0 0 0 2) (table (header 0x05 0 0 0) quiet []) (listing (ended_record 0 0x02 1 ∷ ended_record 1 0x40 1 ∷ []))
    ∷ [])

-- RULES 26.8
abbrev pub case_g : Case
case_g =
    from (clear 0x00)
    (enters (command 0 simple 0 1) (table (header 0x00 1 0 0) quiet (task 0 simple enabled 0 1 ∷ []))
    ∷ enters (command 1 simple 0 1) (table (header 0x00 2 0 0) quiet (task 0 simple enabled 0 1 ∷ task 1 simple enabled 0 1 ∷ []))
    ∷ enters (command 0 simple 0 2)
    (table (header 0x00 3 0 0) quiet (task 0 simple enabled 0 1 ∷ task 1 simple enabled 0 1 ∷ task 0 simple enabled 0 2 ∷ []))
    ∷ does (management 0 2 0) (answer_line 0 0 0 0 0 2)
    (table (header 0x00 1 0 0) quiet (task 1 simple enabled 0 1 ∷ [])) (listing (ended_record 0 0xFF 1 ∷ ended_record 0 0xFF 2 ∷ []))
    ∷ [])

-- RULES 26.9
abbrev pub case_h : Case
case_h =
    from (clear 0x00)
    (enters (command 0 simple 0 1) (table (header 0x00 1 0 0) quiet (task 0 simple enabled 0 1 ∷ []))
    ∷ enters (command 0 simple 0 2) (table (header 0x00 2 0 0) quiet (task 0 simple enabled 0 1 ∷ task 0 simple enabled 0 2 ∷ []))
    ∷ does (command 0 simple 0 1) (answer_line 7 0x02 0x0B 0x4E 0x00 2) (table (header 0x00 0 0 0) quiet [])
    (listing (ended_record 0 0xFF 1 ∷ ended_record 0 0xFF 2 ∷ []))
    ∷ [])

-- RULES 26.10
abbrev pub case_i : Case
case_i =
    from (clear 0x00)
    (enters (command 0 ordered 0 1) (table (header 0x00 1 0 0) quiet (task 0 ordered enabled 0 1 ∷ []))
    ∷ enters (command 1 simple 0 1) (table (header 0x00 2 0 0) quiet (task 0 ordered enabled 0 1 ∷ task 1 simple dormant 0 1 ∷ []))
    ∷ refuses (completion 1 0x00 1) 6
    ∷ refuses (completion 1 0x00 2) 5
    ∷ refuses (command 8 simple 0 1) 4
    ∷ enters (command 7 simple 0 1)
    (table (header 0x00 3 0 0) quiet (task 0 ordered enabled 0 1 ∷ task 1 simple dormant 0 1 ∷ task 7 simple dormant 0 1 ∷ []))
    ∷ keeps (command 2 3 0 1) (answer_line 7 0x02 0x05 0x49 0x00 0)
    ∷ keeps (command 2 aca 0 1) (answer_line 7 0x02 0x05 0x49 0x00 0)
    ∷ [])

abbrev pub paper : List Case
paper = case_a ∷ case_a_twin ∷ case_b ∷ case_c ∷ case_d ∷ case_e ∷ case_f ∷ case_g ∷ case_h ∷ case_i ∷ []
