-- Bytes written out, beside what `Makers` makes of them: a wrong maker, width or place is found here, and not taken for a rule.
--
--   Print            := bytes or numbers that are made, and those written out
--   agrees p         := the two are equal
--   printed          := each maker and width, and each place that a case names
use Rattle.std.specs.Prelude.{ℕ, Bool, List, [], ◌∷◌, length, take, drop}
use Rattle.cases.specs.Makers.{header_width, nexus_width, task_width, event_width, nexus_place, task_place, table_length, report_length, zeros}
use Rattle.cases.specs.Makers.{simple, head_of_queue, ordered, aca, dormant, enabled, blocked}
use Rattle.cases.specs.Makers.{header, nexus, task, ended_record, event, command, completion, management, condition, bits, table, listing}
use Rattle.cases.specs.Play.{same_bytes}

pub record Print : Type 0 where
  pub made : List ℕ
  pub paper : List ℕ

abbrev pub agrees : Print → Bool
agrees p = same_bytes p.made p.paper

abbrev prints : List ℕ → List ℕ → Print
prints made paper = record { made = made; paper = paper }

-- n bytes, from byte i on
abbrev part : ℕ → ℕ → List ℕ → List ℕ
part i n bs = take n (drop i bs)

-- case A after its second event
abbrev table_of_a : List ℕ
table_of_a = table (header 0x00 1 0 0) (bits 1 1 0 1 1 1 1 1) (task 2 simple enabled 0 7 ∷ [])

-- RULES 26.2, case A: its events, its records, its report; RULES 15.4: an unused record; RULES 26.14, A's twin: its command, the header after it. Then RULES 15
-- and 16: the records' fields in their order, each with a number of its own, and RULES 14.1: tags. Then RULES 14.2: the attributes, the states; and RULES 13: the
-- lengths.
abbrev pub printed : List Print
printed =
    prints (command 2 simple 0 7) (0x54 ∷ 0x56 ∷ 0x01 ∷ 0x02 ∷ 0x00 ∷ 0x00 ∷ 0x00 ∷ 0x07 ∷ [])
    ∷ prints (completion 2 0x00 7) (0x54 ∷ 0x56 ∷ 0x02 ∷ 0x02 ∷ 0x00 ∷ 0x00 ∷ 0x00 ∷ 0x07 ∷ [])
    ∷ prints (part (nexus_place 2) nexus_width table_of_a) (0x54 ∷ 0x4E ∷ 0x02 ∷ 0x00 ∷ 0x00 ∷ 0x00 ∷ 0x00 ∷ 0x00 ∷ [])
    ∷ prints (part 0 header_width table_of_a) (0x54 ∷ 0x48 ∷ 0x01 ∷ 0x00 ∷ 0x01 ∷ 0x00 ∷ 0x00 ∷ 0x00 ∷ [])
    ∷ prints (part (task_place 0) task_width table_of_a) (0x54 ∷ 0x54 ∷ 0x02 ∷ 0x00 ∷ 0x02 ∷ 0x00 ∷ 0x00 ∷ 0x07 ∷ [])
    ∷ prints (part (task_place 63) task_width table_of_a) (0x54 ∷ 0x54 ∷ zeros 6)
    ∷ prints (listing (ended_record 2 0x00 7 ∷ [])) (0x54 ∷ 0x45 ∷ 0x02 ∷ 0x00 ∷ 0x00 ∷ 0x00 ∷ 0x00 ∷ 0x07 ∷ zeros 504)
    ∷ prints (command 2 simple 1 7) (0x54 ∷ 0x56 ∷ 0x01 ∷ 0x02 ∷ 0x00 ∷ 0x01 ∷ 0x00 ∷ 0x07 ∷ [])
    ∷ prints (header 0x00 0 3 0) (0x54 ∷ 0x48 ∷ 0x01 ∷ 0x00 ∷ 0x00 ∷ 0x03 ∷ 0x00 ∷ 0x00 ∷ [])
    ∷ prints (header 0x02 3 4 5) (0x54 ∷ 0x48 ∷ 0x01 ∷ 0x02 ∷ 0x03 ∷ 0x04 ∷ 0x05 ∷ 0x00 ∷ [])
    ∷ prints (nexus 1 2 0) (0x54 ∷ 0x4E ∷ 0x01 ∷ 0x02 ∷ 0x00 ∷ 0x00 ∷ 0x00 ∷ 0x00 ∷ [])
    ∷ prints (task 1 2 3 4 0x0506) (0x54 ∷ 0x54 ∷ 0x01 ∷ 0x02 ∷ 0x03 ∷ 0x04 ∷ 0x05 ∷ 0x06 ∷ [])
    ∷ prints (ended_record 1 2 0x0304) (0x54 ∷ 0x45 ∷ 0x01 ∷ 0x02 ∷ 0x00 ∷ 0x00 ∷ 0x03 ∷ 0x04 ∷ [])
    ∷ prints (event 9 1 2 3 0x0405) (0x54 ∷ 0x56 ∷ 0x09 ∷ 0x01 ∷ 0x02 ∷ 0x03 ∷ 0x04 ∷ 0x05 ∷ [])
    ∷ prints (command 2 3 4 0x0506) (0x54 ∷ 0x56 ∷ 0x01 ∷ 0x02 ∷ 0x03 ∷ 0x04 ∷ 0x05 ∷ 0x06 ∷ [])
    ∷ prints (completion 3 4 0x0506) (0x54 ∷ 0x56 ∷ 0x02 ∷ 0x03 ∷ 0x04 ∷ 0x00 ∷ 0x05 ∷ 0x06 ∷ [])
    ∷ prints (management 4 5 0x0607) (0x54 ∷ 0x56 ∷ 0x03 ∷ 0x04 ∷ 0x05 ∷ 0x00 ∷ 0x06 ∷ 0x07 ∷ [])
    ∷ prints (condition 5 6) (0x54 ∷ 0x56 ∷ 0x04 ∷ 0x05 ∷ 0x06 ∷ 0x00 ∷ 0x00 ∷ 0x00 ∷ [])
    ∷ prints (simple ∷ head_of_queue ∷ ordered ∷ aca ∷ []) (0 ∷ 1 ∷ 2 ∷ 4 ∷ [])
    ∷ prints (dormant ∷ enabled ∷ blocked ∷ []) (1 ∷ 2 ∷ 3 ∷ [])
    ∷ prints (table_length ∷ length table_of_a ∷ report_length ∷ length (listing []) ∷ event_width ∷ []) (584 ∷ 584 ∷ 512 ∷ 512 ∷ 8 ∷ [])
    ∷ []
