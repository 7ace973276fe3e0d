-- RULES 13 to 17: the bytes that the cases list, made from the fields of their records. The makers are the cases' own, written from those clauses, and take a
-- wrong value as well as a right one. `Printed` holds them to bytes written out. The Python of tests/cases reads this file, and has no width or place of its
-- own.
--
--   header_width, nexus_width, task_width, ended_width, event_width  := the bytes of a record of each kind
--   nexus_count, task_count      := the nexus records and the task records of a table
--   nexus_place n, task_place k  := where the record of nexus n stands in a table, and the task record k, the oldest being 0
--   table_length, report_length  := the bytes of a table, and of a report
--
--   simple, head_of_queue, ordered, aca  := the attributes, RULES 14.2
--   dormant, enabled, blocked          := the states, RULES 14.2
--
--   header p n a r         := a header: the policy p, n tasks, the ACA byte a, the run r
--   nexus i p n            := the record of nexus i: the pending bits p, and n in byte 4
--   task i a s c g         := a task of nexus i: the attribute a, the state s, the control byte c, the tag g
--   unused                 := an unused task record
--   ended_record i s g      := an ended record: nexus i, the status s, the tag g
--   event k i a b g        := an event of kind k: nexus i, first a, second b, the tag g
--   command i a b g        := a COMMAND, RULES 16.1: the attribute a, and b for NACA and exempt
--   completion i s g       := a COMPLETION, RULES 16.2: the status s
--   management i f g       := a MANAGEMENT, RULES 16.3: the function f
--   condition i c          := a CONDITION, RULES 16.4: the condition c
--
--   bits a b .. h          := the pending bits of nexus 0 to 7
--   quiet                  := no pending bit
--   table h ps ts          := a table: the header h, the nexus records with the pending bits ps, the task records ts, and unused ones up to 64
--   clear p                := a table without tasks and pending bits under the policy byte p
--   listing es             := a report: the ended records es, then zeros to the end
--
--   zeros n, junk n        := n zeros; n bytes that are neither zeros nor marks, so that what is left as it was can be told from what is written
--   changed i v bs         := the bytes bs with v for byte i
--   shorter bs, longer bs  := the bytes bs without the last; with a zero behind them
use Rattle.std.specs.Prelude.{ℕ, suc, ◌+◌, ◌-◌, ◌*◌, ◌/◌, ◌%◌, List, [], ◌∷◌, ◌++◌, length, replicate, set, take}

-- Widths and places ------------------------------------------------------------------------------------------------------------------------

abbrev pub header_width : ℕ
header_width = 8

abbrev pub nexus_width : ℕ
nexus_width = 8

abbrev pub task_width : ℕ
task_width = 8

abbrev pub ended_width : ℕ
ended_width = 8

abbrev pub event_width : ℕ
event_width = 8

abbrev nexus_count : ℕ
nexus_count = 8

abbrev task_count : ℕ
task_count = 64

abbrev pub nexus_place : ℕ → ℕ
nexus_place n = header_width + nexus_width * n

abbrev pub task_place : ℕ → ℕ
task_place k = nexus_place nexus_count + task_width * k

abbrev pub table_length : ℕ
table_length = task_place task_count

abbrev pub report_length : ℕ
report_length = ended_width * task_count

-- Strings of bytes -------------------------------------------------------------------------------------------------------------------------

abbrev pub zeros : ℕ → List ℕ
zeros n = replicate n 0

abbrev pub junk : ℕ → List ℕ
junk n = replicate n 0xA5

abbrev pub changed : ℕ → ℕ → List ℕ → List ℕ
changed i v bs = set bs i v

abbrev pub shorter : List ℕ → List ℕ
shorter bs = take (length bs - 1) bs

abbrev pub longer : List ℕ → List ℕ
longer bs = bs ++ 0 ∷ []

abbrev strung : List (List ℕ) → List ℕ
strung [] = []
strung (r ∷ rs) = r ++ strung rs

-- Records ----------------------------------------------------------------------------------------------------------------------------------

abbrev pub simple : ℕ
simple = 0

abbrev pub head_of_queue : ℕ
head_of_queue = 1

abbrev pub ordered : ℕ
ordered = 2

abbrev pub aca : ℕ
aca = 4

abbrev pub dormant : ℕ
dormant = 1

abbrev pub enabled : ℕ
enabled = 2

abbrev pub blocked : ℕ
blocked = 3

abbrev tag : ℕ → List ℕ
tag g = g / 0x1_00 ∷ g % 0x1_00 ∷ []

abbrev pub header : ℕ → ℕ → ℕ → ℕ → List ℕ
header p n a r = 0x54 ∷ 0x48 ∷ 0x01 ∷ p ∷ n ∷ a ∷ r ∷ 0 ∷ []

abbrev pub nexus : ℕ → ℕ → ℕ → List ℕ
nexus i p n = 0x54 ∷ 0x4E ∷ i ∷ p ∷ n ∷ 0 ∷ 0 ∷ 0 ∷ []

abbrev pub task : ℕ → ℕ → ℕ → ℕ → ℕ → List ℕ
task i a s c g = 0x54 ∷ 0x54 ∷ i ∷ a ∷ s ∷ c ∷ tag g

abbrev pub unused : List ℕ
unused = 0x54 ∷ 0x54 ∷ zeros (task_width - 2)

abbrev pub ended_record : ℕ → ℕ → ℕ → List ℕ
ended_record i s g = 0x54 ∷ 0x45 ∷ i ∷ s ∷ 0 ∷ 0 ∷ tag g

abbrev pub event : ℕ → ℕ → ℕ → ℕ → ℕ → List ℕ
event k i a b g = 0x54 ∷ 0x56 ∷ k ∷ i ∷ a ∷ b ∷ tag g

abbrev pub command : ℕ → ℕ → ℕ → ℕ → List ℕ
command i a b g = event 1 i a b g

abbrev pub completion : ℕ → ℕ → ℕ → List ℕ
completion i s g = event 2 i s 0 g

abbrev pub management : ℕ → ℕ → ℕ → List ℕ
management i f g = event 3 i f 0 g

abbrev pub condition : ℕ → ℕ → List ℕ
condition i c = event 4 i c 0 0

-- Tables and reports -----------------------------------------------------------------------------------------------------------------------

abbrev pub bits : ℕ → ℕ → ℕ → ℕ → ℕ → ℕ → ℕ → ℕ → List ℕ
bits a b c d e f g h = a ∷ b ∷ c ∷ d ∷ e ∷ f ∷ g ∷ h ∷ []

abbrev pub quiet : List ℕ
quiet = bits 0 0 0 0 0 0 0 0

abbrev nexuses_from : ℕ → List ℕ → List ℕ
nexuses_from i [] = []
nexuses_from i (p ∷ ps) = nexus i p 0 ++ nexuses_from (suc i) ps

abbrev pub table : List ℕ → List ℕ → List (List ℕ) → List ℕ
table h ps ts = h ++ nexuses_from 0 ps ++ strung ts ++ strung (replicate (task_count - length ts) unused)

abbrev pub clear : ℕ → List ℕ
clear p = table (header p 0 0 0) quiet []

abbrev pub listing : List (List ℕ) → List ℕ
listing es = strung es ++ zeros (report_length - ended_width * length es)
