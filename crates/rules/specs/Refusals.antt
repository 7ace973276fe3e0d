-- RULES 12: where the answers 5, 6, 7 and 8 stand. It says once more what Rules computes; that the two agree is proved (proofs/Refusals).
--
--   Absent s e        := answer 5: the event e completes a task that is not in the table
--   Waits s e         := answer 6: it completes one that is there and not enabled
--   Stopped s c       := one of the checks 1 to 5 ends the command c at entry; which of them is the first does not matter here
--   EndsAtEntry s e   := answer 7: the event is such a command
--   EntryStatus st    := a status with which such a command ends
--   RejectedBy s e    := answer 8: the event is a function that is rejected
use Rattle.std.specs.Prelude.{ℕ, ◌≡◌, true, false, ◌&&◌, not, length, Some, None}
use Rattle.laws.specs.Lists.{any}
use Rattle.rules.specs.Types.{Aca, Task, Entry, Finish, ClearAca, Unknown, Event, Command, Completion, Management, Bit}
use Rattle.rules.specs.Tasks.{places, aca_task, same, enabled_task}
use Rattle.rules.specs.Rulings.{State, pending_of}
use Rattle.rules.specs.Attentions.{is_set}

-- RULES 12.1: answer 5
pub data Absent (s : State) : Event → Type 0 where
  no_such_task : {n g : ℕ} {f : Finish} → any (same n g) s.tasks ≡ false → Absent s (Completion n g f)

-- RULES 12.1: answer 6
pub data Waits (s : State) : Event → Type 0 where
  not_enabled : {n g : ℕ} {f : Finish} → any (λ (t : Task). same n g t && not (enabled_task t)) s.tasks ≡ true
      → Waits s (Completion n g f)

-- RULES 12.2: what stops a command at entry
pub data Stopped (s : State) (c : Entry) : Type 0 where
  -- check 1
  overlapped : any (same c.nexus c.tag) s.tasks ≡ true → Stopped s c
  -- check 2: no other nexus goes on, no other attribute, no second ACA task
  other_nexus : {f : ℕ} → s.header.aca ≡ Some f → (c.nexus ≡ f → ⊥) → Stopped s c
  other_attribute : {f : ℕ} → s.header.aca ≡ Some f → (c.asked ≡ Some Aca → ⊥) → Stopped s c
  aca_task_present : {f : ℕ} → s.header.aca ≡ Some f → any aca_task s.tasks ≡ true → Stopped s c
  -- check 3
  unit_attention : (b : Bit) → c.exempt ≡ false → is_set (pending_of s c.nexus) b ≡ true → Stopped s c
  -- check 4
  none_of_four : c.asked ≡ None → Stopped s c
  aca_without_aca : c.asked ≡ Some Aca → s.header.aca ≡ None → Stopped s c
  -- check 5
  full : length s.tasks ≡ places → Stopped s c

-- RULES 12.2: answer 7
pub data EndsAtEntry (s : State) : Event → Type 0 where
  at_entry : {c : Entry} → Stopped s c → EndsAtEntry s (Command c)

-- RULES 12.3
pub data EntryStatus : ℕ → Type 0 where
  check_condition_status : EntryStatus 0x02
  busy : EntryStatus 0x08
  task_set_full : EntryStatus 0x28
  aca_active : EntryStatus 0x30

-- RULES 12.4: answer 8
pub data RejectedBy (s : State) : Event → Type 0 where
  -- RULES 7.10
  unknown_function : {n : ℕ} → RejectedBy s (Management n Unknown)
  -- RULES 7.4
  not_faulted : {n f : ℕ} → s.header.aca ≡ Some f → (n ≡ f → ⊥) → RejectedBy s (Management n ClearAca)
