-- Where the cases begin, and what a tag is.
use Rattle.std.specs.Prelude.{[], ◌∷◌}
use Rattle.cases.specs.Makers.{table_length, junk, simple, enabled, header, task, ended_record, command, completion, bits, quiet, table, clear, listing}
use Rattle.cases.specs.Shorthand.{answer_line, names_task, does, enters, from}
use Rattle.cases.specs.Play.{now, start, name, Case}

-- RULES 3.4 and 5.8: how pending bits become clear: a fresh table after one command from each nexus
abbrev pub cleared : Case
cleared =
    from (junk table_length)
    (start 0x00 0 (now (table (header 0x00 0 0 0) (bits 1 1 1 1 1 1 1 1) []))
    ∷ does (command 0 simple 0 1) (answer_line 7 0x02 0x06 0x29 0x00 0) (table (header 0x00 0 0 0) (bits 0 1 1 1 1 1 1 1) []) (listing [])
    ∷ does (command 1 simple 0 1) (answer_line 7 0x02 0x06 0x29 0x00 0) (table (header 0x00 0 0 0) (bits 0 0 1 1 1 1 1 1) []) (listing [])
    ∷ does (command 2 simple 0 1) (answer_line 7 0x02 0x06 0x29 0x00 0) (table (header 0x00 0 0 0) (bits 0 0 0 1 1 1 1 1) []) (listing [])
    ∷ does (command 3 simple 0 1) (answer_line 7 0x02 0x06 0x29 0x00 0) (table (header 0x00 0 0 0) (bits 0 0 0 0 1 1 1 1) []) (listing [])
    ∷ does (command 4 simple 0 1) (answer_line 7 0x02 0x06 0x29 0x00 0) (table (header 0x00 0 0 0) (bits 0 0 0 0 0 1 1 1) []) (listing [])
    ∷ does (command 5 simple 0 1) (answer_line 7 0x02 0x06 0x29 0x00 0) (table (header 0x00 0 0 0) (bits 0 0 0 0 0 0 1 1) []) (listing [])
    ∷ does (command 6 simple 0 1) (answer_line 7 0x02 0x06 0x29 0x00 0) (table (header 0x00 0 0 0) (bits 0 0 0 0 0 0 0 1) []) (listing [])
    ∷ does (command 7 simple 0 1) (answer_line 7 0x02 0x06 0x29 0x00 0) (clear 0x00) (listing [])
    ∷ [])

-- RULES 14.1: 1234h and 3412h are two tags
abbrev pub tag_order : Case
tag_order =
    from (clear 0x00)
    (enters (command 2 simple 0 0x1234) (table (header 0x00 1 0 0) quiet (task 2 simple enabled 0 0x1234 ∷ []))
    ∷ enters (command 2 simple 0 0x3412) (table (header 0x00 2 0 0) quiet (task 2 simple enabled 0 0x1234 ∷ task 2 simple enabled 0 0x3412 ∷ []))
    ∷ name (names_task 2 0x1234)
    ∷ does (completion 2 0x00 0x3412) (answer_line 0 0 0 0 0 1)
    (table (header 0x00 1 0 0) quiet (task 2 simple enabled 0 0x1234 ∷ [])) (listing (ended_record 2 0x00 0x3412 ∷ []))
    ∷ [])
