-- RULES 13: how long the records are, and where they and their fields stand. src/sizes.rt has the same numbers for code; no other contract, law or function of
-- the library says them. That they come to 8, 584 and 512 is proved (proofs/PrintedSizes).
--
--   untagged_size, tagged_size  := the width of a header or nexus record; of one that names a task: a task, ended or event record
--   tag_offset, tag_size, tag_bound  := where such a record has its tag, how many bytes that is, and what every tag is below
--   head_size, nexus_size, task_size, ended_size, event_size   := the widths by kind
--   nexuses_at, tasks_at        := where the nexus records and the task records begin in a table
--   table_size, report_size     := how long a table and a report are
--   policy_offset, count_offset, aca_offset, run_offset  := where the header record has policy, task count, ACA and run
--   pending_offset, pendings_at  := where a nexus record has the pending bits; where the first does, in a table
--   nexus_offset, attribute_offset, state_offset, control_offset  := where a task record has nexus, attribute, state and control
--   attributes_at, states_at    := where the first task record of a table has attribute and state
--   status_offset              := where an ended record has its status; its nexus stands where a task record has it
--   kind_offset, sender_offset, first_offset, second_offset  := where an event record has kind, nexus, first and second
use Rattle.std.specs.Prelude.{ℕ, ◌+◌, ◌*◌, ◌^◌}
use Rattle.values.specs.Limits.{places, nexuses}

-- RULES 13.1: a header or nexus record
abbrev pub untagged_size : ℕ
untagged_size = 8

-- RULES 13.1: one that names a task, of which the tag is the last two bytes
abbrev pub tag_offset : ℕ
tag_offset = 6

abbrev pub tag_size : ℕ
tag_size = 2

abbrev pub tag_bound : ℕ
tag_bound = 256 ^ tag_size

abbrev pub tagged_size : ℕ
tagged_size = tag_offset + tag_size

-- RULES 13.1: by kind
abbrev pub head_size : ℕ
head_size = untagged_size

abbrev pub nexus_size : ℕ
nexus_size = untagged_size

abbrev pub task_size : ℕ
task_size = tagged_size

abbrev pub ended_size : ℕ
ended_size = tagged_size

abbrev pub event_size : ℕ
event_size = tagged_size

-- RULES 13.2: a table
abbrev pub nexuses_at : ℕ
nexuses_at = head_size

abbrev pub tasks_at : ℕ
tasks_at = nexuses_at + nexus_size * nexuses

abbrev pub table_size : ℕ
table_size = tasks_at + task_size * places

-- RULES 13.3: room for an ended record of each task
abbrev pub report_size : ℕ
report_size = ended_size * places

-- RULES 13.4 and 15.1: the fields of a header
abbrev pub policy_offset : ℕ
policy_offset = 3

abbrev pub count_offset : ℕ
count_offset = 4

abbrev pub aca_offset : ℕ
aca_offset = 5

abbrev pub run_offset : ℕ
run_offset = 6

-- RULES 13.4 and 15.2: those of a nexus record
abbrev pub pending_offset : ℕ
pending_offset = 3

abbrev pub pendings_at : ℕ
pendings_at = nexuses_at + pending_offset

-- RULES 13.4 and 15.3: those of a task record
abbrev pub nexus_offset : ℕ
nexus_offset = 2

abbrev pub attribute_offset : ℕ
attribute_offset = 3

abbrev pub state_offset : ℕ
state_offset = 4

abbrev pub control_offset : ℕ
control_offset = 5

abbrev pub attributes_at : ℕ
attributes_at = tasks_at + attribute_offset

abbrev pub states_at : ℕ
states_at = tasks_at + state_offset

-- RULES 13.4 and 15.5: that of an ended record
abbrev pub status_offset : ℕ
status_offset = 3

-- RULES 13.4 and 16.6: those of an event
abbrev pub kind_offset : ℕ
kind_offset = 2

abbrev pub sender_offset : ℕ
sender_offset = 3

abbrev pub first_offset : ℕ
first_offset = 4

abbrev pub second_offset : ℕ
second_offset = 5
