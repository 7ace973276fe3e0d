-- RULES 5.12, 5.13, 5.16, 5.17, 5.19 and 26.11: 64 tasks.
use Rattle.std.specs.Prelude.{ℕ, zero, suc, List, [], ◌∷◌, ◌++◌}
use Rattle.cases.specs.Makers.{simple, aca, enabled, blocked, header, task, ended_record, command, completion, bits, quiet, table, listing}
use Rattle.cases.specs.Shorthand.{answer_line, does, enters, keeps, from}
use Rattle.cases.specs.Play.{Case}

-- n task records of nexus 1, SIMPLE, in the state st, with the tags g, g + 1, ..
abbrev simples : ℕ → ℕ → ℕ → List (List ℕ)
simples st g zero = []
simples st g (suc n) = task 1 simple st 0 g ∷ simples st (suc g) n

-- n ended records of nexus 1, with this status and the tags g, g + 1, ..
abbrev simples_ended : ℕ → ℕ → ℕ → List (List ℕ)
simples_ended st g zero = []
simples_ended st g (suc n) = ended_record 1 st g ∷ simples_ended st (suc g) n

-- RULES 26.11. RULES 5.15: at 64 tasks a bad attribute (check 4) and a pending bit (check 3, nexus 2) come before 28h (check 5).
abbrev pub case_j : Case
case_j =
    from (table (header 0x00 63 0 0) (bits 0 0 1 0 0 0 0 0) (simples enabled 1 63))
    (enters (command 0 simple 0 1) (table (header 0x00 64 0 0) (bits 0 0 1 0 0 0 0 0) (simples enabled 1 63 ++ task 0 simple enabled 0 1 ∷ []))
    ∷ keeps (command 0 simple 0 2) (answer_line 7 0x28 0 0 0 0)
    ∷ keeps (command 0 3 0 2) (answer_line 7 0x02 0x05 0x49 0x00 0)
    ∷ does (command 2 simple 0 1) (answer_line 7 0x02 0x06 0x29 0x00 0)
    (table (header 0x00 64 0 0) quiet (simples enabled 1 63 ++ task 0 simple enabled 0 1 ∷ [])) (listing [])
    ∷ does (completion 1 0x00 1) (answer_line 0 0 0 0 0 1)
    (table (header 0x00 63 0 0) quiet (simples enabled 2 62 ++ task 0 simple enabled 0 1 ∷ [])) (listing (ended_record 1 0x00 1 ∷ []))
    ∷ enters (command 0 simple 0 2) (table (header 0x00 64 0 0) quiet (simples enabled 2 62 ++ task 0 simple enabled 0 1 ∷ task 0 simple enabled 0 2 ∷ []))
    ∷ [])

-- RULES 5.13
abbrev pub full_in_aca : Case
full_in_aca = from (table (header 0x00 64 1 0) quiet (simples blocked 1 64)) (keeps (command 0 aca 0 1) (answer_line 7 0x28 0 0 0 0) ∷ [])

-- RULES 5.17: the refused command of nexus 7, without a task, blocks all 64; RULES 5.13: its ACA command then gets 28h. The table is lent to be short: the
-- commands of `cleared` and then 64 of nexus 1 lead to it from a fresh one, so that 28h in an ACA can be met.
abbrev pub full_as_aca_begins : Case
full_as_aca_begins =
    from (table (header 0x00 64 0 0) quiet (simples enabled 1 64))
    (does (command 7 3 1 1) (answer_line 7 0x02 0x05 0x49 0x00 0) (table (header 0x00 64 8 0) quiet (simples blocked 1 64)) (listing [])
    ∷ keeps (command 7 aca 1 1) (answer_line 7 0x28 0 0 0 0)
    ∷ [])

-- RULES 5.19, QERR 01b and NACA 1: 28h changes nothing. RULES 5.16: the bit of nexus 2 then ends all 64, and the report is full; the next command enters.
abbrev pub full_qerr_all : Case
full_qerr_all =
    from (table (header 0x01 64 0 0) (bits 0 0 1 0 0 0 0 0) (simples enabled 1 64))
    (keeps (command 0 simple 1 1) (answer_line 7 0x28 0 0 0 0)
    ∷ does (command 2 simple 0 1) (answer_line 7 0x02 0x06 0x29 0x00 64)
    (table (header 0x01 0 0 0) (bits 0 0x10 0 0 0 0 0 0) []) (listing (simples_ended 0xFF 1 64))
    ∷ enters (command 0 simple 1 1) (table (header 0x01 1 0 0) (bits 0 0x10 0 0 0 0 0 0) (task 0 simple enabled 1 1 ∷ []))
    ∷ [])
