-- RULES 1.13 to 1.16: what lasts of the header, the header with a part of it changed, and run after a turn.
--
--   lasting h                        := what no event changes of the header
--   lasting_with h n a r              := what lasts of h, with the count n, the allegiance a and the run r
--   fresh_header p                    := the header of a fresh table under the policy p
--   with_count, with_aca, with_run h x  := the header with another count, allegiance, run
--   most_run                          := 4 HEAD OF QUEUE turns in a row while another task is enabled
--   run_after a run                   := run after a turn of a task with attribute a
--   run_next h a its_turn              := the header after a completion of a task with attribute a, by whether it was its turn
use Rattle.std.specs.Prelude.{ℕ, ◌+◌, min, Bool, cond, None}
use Rattle.values.specs.declared.Attribute.{Attribute, TheVariants.Simple, TheVariants.HeadOfQueue, TheVariants.Ordered, TheVariants.Aca}
use Rattle.values.specs.declared.Policy.{Policy}
use Rattle.values.specs.declared.Header.{Header}
use Rattle.values.specs.Options.{Allegiance}

-- RULES 1.13: the policy
abbrev pub lasting : Header → Policy
lasting h = h.policy

-- RULES 1.13: the policy, and the rest as given
abbrev pub lasting_with : Header → ℕ → Allegiance → ℕ → Header
lasting_with h n a r = record { policy = h.policy; count = n; aca = a; run = r }

-- RULES 1.14
abbrev pub fresh_header : Policy → Header
fresh_header p = record { policy = p; count = 0; aca = None; run = 0 }

-- RULES 1.10: one part changed, the others as they were
abbrev pub with_count : Header → ℕ → Header
with_count h n = lasting_with h n h.aca h.run

abbrev pub with_aca : Header → Allegiance → Header
with_aca h a = lasting_with h h.count a h.run

abbrev pub with_run : Header → ℕ → Header
with_run h r = lasting_with h h.count h.aca r

-- RULES 1.15: run is 0 to 4
abbrev pub most_run : ℕ
most_run = 4

-- RULES 1.15 and 1.16: run after a turn, by the task's attribute; an ACA task's completion leaves it
abbrev pub run_after : Attribute → ℕ → ℕ
run_after HeadOfQueue run = min (run + 1) most_run
run_after Simple run = 0
run_after Ordered run = 0
run_after Aca run = run

-- RULES 1.15 and 1.16: a completion of the task whose turn it is, and any other
abbrev pub run_next : Header → Attribute → Bool → Header
run_next h a its_turn = with_run h (cond its_turn (run_after a h.run) h.run)
