-- RULES 6.9 and 16.2: a completion with BUSY 08h or RESERVATION CONFLICT 18h ends the task with that status, and does no more than GOOD.
use Rattle.std.specs.Prelude.{ℕ, List, [], ◌∷◌}
use Rattle.cases.specs.Makers.{simple, head_of_queue, ordered, aca, dormant, enabled, blocked}
use Rattle.cases.specs.Makers.{header, task, ended_record, event, command, completion, management, bits, quiet, table, listing}
use Rattle.cases.specs.Shorthand.{answer_line, names_task, nothing, does, enters, keeps, refuses, from}
use Rattle.cases.specs.Play.{lend, name, Case}

-- Run ------------------------------------------------------------------------------------------------------------------------------------------

-- RULES 6.9 and 1.15: case K with other ends. 08h, 18h, GOOD and 08h are the four HEAD OF QUEUE turns; the fifth is 0.1's, whose 18h sets run to 0.
abbrev pub busy_is_fourth_turn : Case
busy_is_fourth_turn =
    from (table (header 0x00 1 0 0) quiet (task 0 simple enabled 0 1 ∷ []))
    (enters (command 1 head_of_queue 0 1) (table (header 0x00 2 0 0) quiet (task 0 simple enabled 0 1 ∷ task 1 head_of_queue enabled 0 1 ∷ []))
    ∷ name (names_task 1 1)
    ∷ does (completion 1 0x08 1) (answer_line 0 0 0 0 0 1) (table (header 0x00 1 0 1) quiet (task 0 simple enabled 0 1 ∷ []))
    (listing (ended_record 1 0x08 1 ∷ []))
    ∷ enters (command 1 head_of_queue 0 2) (table (header 0x00 2 0 1) quiet (task 0 simple enabled 0 1 ∷ task 1 head_of_queue enabled 0 2 ∷ []))
    ∷ name (names_task 1 2)
    ∷ does (completion 1 0x18 2) (answer_line 0 0 0 0 0 1) (table (header 0x00 1 0 2) quiet (task 0 simple enabled 0 1 ∷ []))
    (listing (ended_record 1 0x18 2 ∷ []))
    ∷ enters (command 1 head_of_queue 0 3) (table (header 0x00 2 0 2) quiet (task 0 simple enabled 0 1 ∷ task 1 head_of_queue enabled 0 3 ∷ []))
    ∷ name (names_task 1 3)
    ∷ does (completion 1 0x00 3) (answer_line 0 0 0 0 0 1) (table (header 0x00 1 0 3) quiet (task 0 simple enabled 0 1 ∷ []))
    (listing (ended_record 1 0x00 3 ∷ []))
    ∷ enters (command 1 head_of_queue 0 4) (table (header 0x00 2 0 3) quiet (task 0 simple enabled 0 1 ∷ task 1 head_of_queue enabled 0 4 ∷ []))
    ∷ name (names_task 1 4)
    ∷ does (completion 1 0x08 4) (answer_line 0 0 0 0 0 1) (table (header 0x00 1 0 4) quiet (task 0 simple enabled 0 1 ∷ []))
    (listing (ended_record 1 0x08 4 ∷ []))
    ∷ enters (command 1 head_of_queue 0 5) (table (header 0x00 2 0 4) quiet (task 0 simple enabled 0 1 ∷ task 1 head_of_queue enabled 0 5 ∷ []))
    ∷ name (names_task 0 1)
    ∷ does (completion 0 0x18 1) (answer_line 0 0 0 0 0 1)
    (table (header 0x00 1 0 0) quiet (task 1 head_of_queue enabled 0 5 ∷ [])) (listing (ended_record 0 0x18 1 ∷ []))
    ∷ name (names_task 1 5)
    ∷ [])

-- RULES 6.9 and 1.15: run stays 4 at a HEAD OF QUEUE task's 18h; the 08h of the SIMPLE task that it enables sets it to 0
abbrev pub conflict_stays_four : Case
conflict_stays_four =
    from (table (header 0x00 2 0 4) quiet (task 1 head_of_queue enabled 0 1 ∷ task 0 simple dormant 0 1 ∷ []))
    (name (names_task 1 1)
    ∷ does (completion 1 0x18 1) (answer_line 0 0 0 0 0 1) (table (header 0x00 1 0 4) quiet (task 0 simple enabled 0 1 ∷ []))
    (listing (ended_record 1 0x18 1 ∷ []))
    ∷ name (names_task 0 1)
    ∷ does (completion 0 0x08 1) (answer_line 0 0 0 0 0 1) (table (header 0x00 0 0 0) quiet []) (listing (ended_record 0 0x08 1 ∷ []))
    ∷ [])

-- RULES 6.9 and 1.16, at run 2: 2.1 H and 0.1 S are enabled and not named, and leave run; 1.1 H is named all the time, and counts. At run 4 the turn is 0.1's,
-- and 1.1's end leaves run.
abbrev pub busy_out_of_turn : Case
busy_out_of_turn =
    from (table (header 0x00 3 0 2) quiet (task 0 simple enabled 0 1 ∷ task 1 head_of_queue enabled 0 1 ∷ task 2 head_of_queue enabled 0 1 ∷ []))
    (name (names_task 1 1)
    ∷ does (completion 2 0x08 1) (answer_line 0 0 0 0 0 1)
    (table (header 0x00 2 0 2) quiet (task 0 simple enabled 0 1 ∷ task 1 head_of_queue enabled 0 1 ∷ [])) (listing (ended_record 2 0x08 1 ∷ []))
    ∷ name (names_task 1 1)
    ∷ does (completion 0 0x18 1) (answer_line 0 0 0 0 0 1)
    (table (header 0x00 1 0 2) quiet (task 1 head_of_queue enabled 0 1 ∷ [])) (listing (ended_record 0 0x18 1 ∷ []))
    ∷ name (names_task 1 1)
    ∷ does (completion 1 0x18 1) (answer_line 0 0 0 0 0 1) (table (header 0x00 0 0 3) quiet []) (listing (ended_record 1 0x18 1 ∷ []))
    ∷ lend (table (header 0x00 2 0 4) quiet (task 0 simple enabled 0 1 ∷ task 1 head_of_queue enabled 0 1 ∷ []))
    ∷ name (names_task 0 1)
    ∷ does (completion 1 0x18 1) (answer_line 0 0 0 0 0 1)
    (table (header 0x00 1 0 4) quiet (task 0 simple enabled 0 1 ∷ [])) (listing (ended_record 1 0x18 1 ∷ []))
    ∷ [])

-- RULES 6.9, 1.15 and 2.7: 0.1 O ends with 18h at run 3: run is 0, and the two SIMPLE tasks behind it are enabled by that event, 1.2 O is not. When both have
-- ended, with 08h and 18h, it is. Then 0.1 with 08h.
abbrev pub conflict_enables : Case
conflict_enables =
    from
    (table (header 0x00 4 0 3) quiet
    (task 0 ordered enabled 0 1 ∷ task 1 simple dormant 0 1 ∷ task 2 simple dormant 0 1 ∷ task 1 ordered dormant 0 2 ∷ []))
    (name (names_task 0 1)
    ∷ does (completion 0 0x18 1) (answer_line 0 0 0 0 0 1)
    (table (header 0x00 3 0 0) quiet (task 1 simple enabled 0 1 ∷ task 2 simple enabled 0 1 ∷ task 1 ordered dormant 0 2 ∷ []))
    (listing (ended_record 0 0x18 1 ∷ []))
    ∷ name (names_task 1 1)
    ∷ does (completion 1 0x08 1) (answer_line 0 0 0 0 0 1)
    (table (header 0x00 2 0 0) quiet (task 2 simple enabled 0 1 ∷ task 1 ordered dormant 0 2 ∷ [])) (listing (ended_record 1 0x08 1 ∷ []))
    ∷ does (completion 2 0x18 1) (answer_line 0 0 0 0 0 1) (table (header 0x00 1 0 0) quiet (task 1 ordered enabled 0 2 ∷ []))
    (listing (ended_record 2 0x18 1 ∷ []))
    ∷ lend (table (header 0x00 2 0 3) quiet (task 0 ordered enabled 0 1 ∷ task 1 simple dormant 0 1 ∷ []))
    ∷ does (completion 0 0x08 1) (answer_line 0 0 0 0 0 1) (table (header 0x00 1 0 0) quiet (task 1 simple enabled 0 1 ∷ []))
    (listing (ended_record 0 0x08 1 ∷ []))
    ∷ [])

-- No ACA ---------------------------------------------------------------------------------------------------------------------------------------

-- RULES 6.9: case D with other ends. NACA is 1, no ACA begins, so that 1.1 O is enabled by the same event; another nexus enters, and so does the same command
-- again (RULES 4.3). Then 18h, of a HEAD OF QUEUE task that is named.
abbrev pub busy_with_naca : Case
busy_with_naca =
    from (table (header 0x00 2 0 0) quiet (task 0 simple enabled 1 1 ∷ task 1 ordered dormant 0 1 ∷ []))
    (does (completion 0 0x08 1) (answer_line 0 0 0 0 0 1) (table (header 0x00 1 0 0) quiet (task 1 ordered enabled 0 1 ∷ []))
    (listing (ended_record 0 0x08 1 ∷ []))
    ∷ name (names_task 1 1)
    ∷ enters (command 2 simple 0 1) (table (header 0x00 2 0 0) quiet (task 1 ordered enabled 0 1 ∷ task 2 simple dormant 0 1 ∷ []))
    ∷ enters (command 0 simple 1 1)
    (table (header 0x00 3 0 0) quiet (task 1 ordered enabled 0 1 ∷ task 2 simple dormant 0 1 ∷ task 0 simple dormant 1 1 ∷ []))
    ∷ lend (table (header 0x00 2 0 1) quiet (task 3 head_of_queue enabled 1 1 ∷ task 1 simple dormant 0 1 ∷ []))
    ∷ does (completion 3 0x18 1) (answer_line 0 0 0 0 0 1) (table (header 0x00 1 0 2) quiet (task 1 simple enabled 0 1 ∷ []))
    (listing (ended_record 3 0x18 1 ∷ []))
    ∷ [])

-- No QERR --------------------------------------------------------------------------------------------------------------------------------------

-- under this policy, at run 2: 0.1 S, 1.1 H with NACA 1, 0.2 S, 1.2 O; nexus 1 has bit 3 pending, nexus 2 and 3, without a task, bit 0 and bit 4. RULES 6.9: the
-- 08h of 0.1, which is not named, ends neither its own nexus's 0.2 nor another; the 18h of 1.1, which is, ends neither its own nexus's 1.2 nor another, begins no
-- ACA and enables 0.2; the 08h of 0.2 enables 1.2. No bit comes or goes.
abbrev one_by_one : ℕ → Case
one_by_one p =
    from
    (table (header p 4 0 2) (bits 0 0x08 0x01 0x10 0 0 0 0)
    (task 0 simple enabled 0 1 ∷ task 1 head_of_queue enabled 1 1 ∷ task 0 simple dormant 0 2 ∷ task 1 ordered dormant 0 2 ∷ []))
    (name (names_task 1 1)
    ∷ does (completion 0 0x08 1) (answer_line 0 0 0 0 0 1)
    (table (header p 3 0 2) (bits 0 0x08 0x01 0x10 0 0 0 0) (task 1 head_of_queue enabled 1 1 ∷ task 0 simple dormant 0 2 ∷ task 1 ordered dormant 0 2 ∷ []))
    (listing (ended_record 0 0x08 1 ∷ []))
    ∷ does (completion 1 0x18 1) (answer_line 0 0 0 0 0 1)
    (table (header p 2 0 3) (bits 0 0x08 0x01 0x10 0 0 0 0) (task 0 simple enabled 0 2 ∷ task 1 ordered dormant 0 2 ∷ []))
    (listing (ended_record 1 0x18 1 ∷ []))
    ∷ name (names_task 0 2)
    ∷ does (completion 0 0x08 2) (answer_line 0 0 0 0 0 1)
    (table (header p 1 0 0) (bits 0 0x08 0x01 0x10 0 0 0 0) (task 1 ordered enabled 0 2 ∷ [])) (listing (ended_record 0 0x08 2 ∷ []))
    ∷ [])

-- QERR 01b
abbrev pub busy_qerr_all : Case
busy_qerr_all = one_by_one 0x01

-- QERR 01b with TAS 1: 40h for nobody
abbrev pub busy_qerr_all_tas : Case
busy_qerr_all_tas = one_by_one 0x05

-- QERR 11b
abbrev pub busy_qerr_nexus : Case
busy_qerr_nexus = one_by_one 0x03

-- QERR 11b with TAS 1
abbrev pub busy_qerr_nexus_tas : Case
busy_qerr_nexus_tas = one_by_one 0x07

-- The ACA task ---------------------------------------------------------------------------------------------------------------------------------

-- in an ACA of nexus 0: 1.1 S blocked, 0.1 S blocked, 2.1 O dormant, 3.1 S dormant
abbrev waiting : List (List ℕ)
waiting = task 1 simple blocked 0 1 ∷ task 0 simple blocked 0 1 ∷ task 2 ordered dormant 0 1 ∷ task 3 simple dormant 0 1 ∷ []

-- the same under this policy, at run 3, with bit 0 pending for nexus 2; and with the ACA task 0.9 that has this control byte
abbrev without_aca_task : ℕ → List ℕ
without_aca_task p = table (header p 4 1 3) (bits 0 0 0x01 0 0 0 0 0) waiting

abbrev with_aca_task : ℕ → ℕ → List ℕ
with_aca_task p c =
    table (header p 5 1 3) (bits 0 0 0x01 0 0 0 0 0)
    (task 1 simple blocked 0 1 ∷ task 0 simple blocked 0 1 ∷ task 2 ordered dormant 0 1 ∷ task 3 simple dormant 0 1 ∷ task 0 aca enabled c 9 ∷ [])

-- RULES 6.9, 1.16 and 2.9: the ACA task is named, ends with 08h and then, come again, with 18h, twice; each time the ACA byte and run stay, nobody has the turn,
-- and another ACA command may come; another nexus is refused. CLEAR ACA enables as ever.
abbrev pub aca_task_busy : Case
aca_task_busy =
    from (with_aca_task 0x00 0)
    (name (names_task 0 9)
    ∷ does (completion 0 0x08 9) (answer_line 0 0 0 0 0 1) (without_aca_task 0x00) (listing (ended_record 0 0x08 9 ∷ []))
    ∷ name nothing
    ∷ keeps (command 1 simple 0 2) (answer_line 7 0x08 0 0 0 0)
    ∷ enters (command 0 aca 0 9) (with_aca_task 0x00 0)
    ∷ name (names_task 0 9)
    ∷ does (completion 0 0x18 9) (answer_line 0 0 0 0 0 1) (without_aca_task 0x00) (listing (ended_record 0 0x18 9 ∷ []))
    ∷ name nothing
    ∷ enters (command 0 aca 1 9) (with_aca_task 0x00 1)
    ∷ does (completion 0 0x18 9) (answer_line 0 0 0 0 0 1) (without_aca_task 0x00) (listing (ended_record 0 0x18 9 ∷ []))
    ∷ name nothing
    ∷ does (management 0 4 0) (answer_line 0 0 0 0 0 0)
    (table (header 0x00 4 0 3) (bits 0 0 0x01 0 0 0 0 0)
    (task 1 simple enabled 0 1 ∷ task 0 simple enabled 0 1 ∷ task 2 ordered dormant 0 1 ∷ task 3 simple dormant 0 1 ∷ []))
    (listing [])
    ∷ [])

-- RULES 6.9, on lent tables: under QERR 01b and 11b, with TAS 0 and 1, the ACA task's end aborts nobody, with NACA 0 and 1 (RULES 4.6 is of 02h alone)
abbrev pub aca_task_busy_qerr : Case
aca_task_busy_qerr =
    from (with_aca_task 0x01 0)
    (does (completion 0 0x08 9) (answer_line 0 0 0 0 0 1) (without_aca_task 0x01) (listing (ended_record 0 0x08 9 ∷ []))
    ∷ lend (with_aca_task 0x05 1)
    ∷ does (completion 0 0x18 9) (answer_line 0 0 0 0 0 1) (without_aca_task 0x05) (listing (ended_record 0 0x18 9 ∷ []))
    ∷ lend (with_aca_task 0x03 1)
    ∷ does (completion 0 0x08 9) (answer_line 0 0 0 0 0 1) (without_aca_task 0x03) (listing (ended_record 0 0x08 9 ∷ []))
    ∷ lend (with_aca_task 0x07 0)
    ∷ does (completion 0 0x18 9) (answer_line 0 0 0 0 0 1) (without_aca_task 0x07) (listing (ended_record 0 0x18 9 ∷ []))
    ∷ [])

-- Refused --------------------------------------------------------------------------------------------------------------------------------------

-- RULES 6.8: 6 for blocked and dormant, 5 for absent, also of a nexus that has another task; RULES 18.1: 4 for nexus 8. Then without an ACA, where the second
-- completion of one task is refused.
abbrev pub busy_refused : Case
busy_refused =
    from (with_aca_task 0x01 0)
    (refuses (completion 1 0x08 1) 6
    ∷ refuses (completion 2 0x18 1) 6
    ∷ refuses (completion 0 0x18 1) 6
    ∷ refuses (completion 1 0x18 9) 5
    ∷ refuses (completion 0 0x08 2) 5
    ∷ refuses (completion 4 0x18 1) 5
    ∷ refuses (completion 8 0x08 1) 4
    ∷ refuses (completion 8 0x18 1) 4
    ∷ lend (table (header 0x01 2 0 1) quiet (task 0 head_of_queue enabled 0 1 ∷ task 1 simple dormant 0 1 ∷ []))
    ∷ refuses (completion 1 0x08 1) 6
    ∷ refuses (completion 1 0x18 1) 6
    ∷ does (completion 0 0x08 1) (answer_line 0 0 0 0 0 1) (table (header 0x01 1 0 2) quiet (task 1 simple enabled 0 1 ∷ []))
    (listing (ended_record 0 0x08 1 ∷ []))
    ∷ refuses (completion 0 0x08 1) 5
    ∷ refuses (completion 0 0x18 1) 5
    ∷ [])

-- RULES 16.2: of an enabled task, first bytes that are none of the four (CONDITION MET, INTERMEDIATE, TASK SET FULL, ACA ACTIVE, TASK ABORTED, none to send,
-- those a bit from 08h and 18h), and second bytes other than 0. RULES 19.3: so of nexus 8 too, since 3 comes before 4.
abbrev pub other_statuses : Case
other_statuses =
    from (table (header 0x00 1 0 0) quiet (task 0 simple enabled 0 1 ∷ []))
    (refuses (completion 0 0x04 1) 3
    ∷ refuses (completion 0 0x10 1) 3
    ∷ refuses (completion 0 0x28 1) 3
    ∷ refuses (completion 0 0x30 1) 3
    ∷ refuses (completion 0 0x40 1) 3
    ∷ refuses (completion 0 0xFF 1) 3
    ∷ refuses (completion 0 0x09 1) 3
    ∷ refuses (completion 0 0x0A 1) 3
    ∷ refuses (completion 0 0x0C 1) 3
    ∷ refuses (completion 0 0x19 1) 3
    ∷ refuses (completion 0 0x1A 1) 3
    ∷ refuses (completion 0 0x1C 1) 3
    ∷ refuses (completion 0 0x38 1) 3
    ∷ refuses (completion 0 0x48 1) 3
    ∷ refuses (completion 0 0x58 1) 3
    ∷ refuses (completion 0 0x88 1) 3
    ∷ refuses (completion 0 0x98 1) 3
    ∷ refuses (event 2 0 0x08 1 1) 3
    ∷ refuses (event 2 0 0x18 1 1) 3
    ∷ refuses (event 2 0 0x18 0x80 1) 3
    ∷ refuses (completion 8 0x28 1) 3
    ∷ does (completion 0 0x18 1) (answer_line 0 0 0 0 0 1) (table (header 0x00 0 0 0) quiet []) (listing (ended_record 0 0x18 1 ∷ []))
    ∷ [])
