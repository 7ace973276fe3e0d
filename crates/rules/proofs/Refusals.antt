-- Where the answers 5, 6, 7 and 8 stand: the rules agree with specs/Refusals. With them answer 4, and what stands with 7.
use Rattle.std.specs.Prelude.{Some, None, Option}
use Prim.Native.Nat.{ℕ, ◌≤◌, ◌<◌}
use mathlib.Core.Bool.{Bool, true, false, cond, ◌&&◌, not}
use mathlib.Core.Path.{◌≡◌, refl, sym, ◌∙◌}
use mathlib.Core.Logic.{◌↔◌}
use native.Mathlib.Omega.{arith}
use lib.Dec.{eqb, ltb, leb}
use borrow.Author.Tests.{not-true, not-false, ltb-false, leb-true, leb-false, eqb-true, eqb-false, ne_eqb}
use Rattle.laws.specs.Lists.{any, first}
use Rattle.laws.proofs.Bools.{and-true, and-false, or-false, not_both, cases, split}
use Rattle.laws.proofs.Lists.{first_passes, first_any, first_none}
use Rattle.rules.specs.Types.{Simple, HeadOfQueue, Ordered, Aca, Task, Entry, Finish, Function, AbortTask, AbortTaskSet, ClearTaskSet, ClearAca, LogicalUnitReset, Unknown, Happening, PowerOn, HardReset, NexusLoss, Event, Command, Completion, Management, Condition, Allegiance, Pending, Bit, Sense, Answer, Done, BadTable, BadReport, BadEvent, NexusAboveSeven, NoSuchTask, NotEnabled, EndedAtEntry, Rejected, BadPolicy, Attribute}
use Rattle.rules.specs.Tasks.{places, nexuses, is_aca, is_enabled, aca_task, same, enabled_task, is_named}
use Rattle.rules.specs.Bits.{top}
use Rattle.rules.specs.Rulings.{State, pending_of, turn, answer_of}
use Rattle.rules.specs.Rules.{asks_aca, bad_attribute, complete, clearing, manage, happen, nexus_of, rule_for, ruling, answer}
use Rattle.rules.specs.Well.{WellFormed}
use Rattle.rules.specs.Attentions.{ranks, is_set}
use Rattle.rules.specs.Refusals.{Absent, no_such_task, Waits, not_enabled, Stopped, overlapped, other_nexus, other_attribute, aca_task_present, unit_attention, none_of_four, aca_without_aca, full, EndsAtEntry, at_entry, EntryStatus, check_condition_status, busy, task_set_full, aca_active, RejectedBy, unknown_function, not_faulted}
use Rattle.rules.proofs.Distinct.{distinct_first}
use Rattle.rules.proofs.Cases.{stop, check_cases, Passed, enter_cases, check2_none, ruling_low, ruling_high, rule_command, rule_completion, rule_management}
use Rattle.rules.proofs.WellSays.{says_tested}
use Rattle.rules.proofs.Telling.{every_bit}
use Rattle.rules.proofs.FieldErrors.{top_first}

-- The checks one by one --------------------------------------------------------------------------------------------------------------------

asks_known : (a : Option Attribute) → asks_aca a ≡ true → a ≡ Some Aca
asks_known (Some Simple) e = not_both e refl
asks_known (Some HeadOfQueue) e = not_both e refl
asks_known (Some Ordered) e = not_both e refl
asks_known (Some Aca) e = refl
asks_known None e = not_both e refl

-- no bit to report: none is set
no_bit : (p : Pending) (b : Bit) → top p ≡ None → is_set p b ≡ false
no_bit p b e =
    let o0 = or-false p.power _ (first_none (is_set p) ranks (sym (top_first p) ∙ e)) in
    let o1 = or-false p.hard _ o0.1 in
    let o2 = or-false p.unit _ o1.1 in
    let o3 = or-false p.loss _ o2.1 in
    every_bit (λ x. is_set p x ≡ false) o0.0 o1.0 o2.0 o3.0 (or-false p.cleared _ o3.1).0 b

-- the bit to report is set, and the command is not exempt
bit_set : (exempt : Bool) (p : Pending) (b : Bit) → cond exempt None (top p) ≡ Some b → (exempt ≡ false) × (is_set p b ≡ true)
bit_set true p b e = absurd (let z : ◌≡◌ {A = ℕ} 0 1 = cc in omega arith)
bit_set false p b e = (refl, first_passes (is_set p) ranks b (sym (top_first p) ∙ e))

module _ (s : State) (c : Entry) where
  -- each check that stops the command
  active_stops : (f : ℕ) → s.header.aca ≡ Some f → asks_aca c.asked && not (any aca_task s.tasks) ≡ false → Stopped s c
  active_stops f a k =
      split (asks_aca c.asked)
      (λ q. aca_task_present a (not-false _ (and-false (asks_aca c.asked) _ k q)))
      (λ q. other_attribute a (λ z. not_both (rw z) q))

  bad_stops : bad_attribute s.header.aca c.asked ≡ true → Stopped s c
  bad_stops = go c.asked s.header.aca refl refl
    where
      go : (x : Option Attribute) (a : Allegiance) → c.asked ≡ x → s.header.aca ≡ a → bad_attribute a x ≡ true → Stopped s c
      go None a p q e = none_of_four p
      go (Some t) (Some f) p q e = not_both (and-true (is_aca t) _ e).1 refl
      go (Some t) None p q e = aca_without_aca (p ∙ asks_known (Some t) (and-true (is_aca t) _ e).0) q

  full_stops : WellFormed s → leb places s.header.count ≡ true → Stopped s c
  full_stops w e = full (omega (arith, leb-true places s.header.count e, w.counted, w.few))

  -- a command that all checks let pass is not stopped
  not_stopped :
      WellFormed s → Passed s.header c (any (same c.nexus c.tag) s.tasks) (any aca_task s.tasks) (pending_of s c.nexus)
      → Stopped s c → ⊥
  not_stopped w p (overlapped e) = not_both e p.not_overlapped
  not_stopped w p (other_nexus {f} a ne) =
      ne (eqb-true c.nexus f (check2_none f c (any aca_task s.tasks) (rw a at p.aca_lets_it)).0)
  not_stopped w p (other_attribute {f} a ne) =
      ne (asks_known c.asked (check2_none f c (any aca_task s.tasks) (rw a at p.aca_lets_it)).1)
  not_stopped w p (aca_task_present {f} a e) =
      not_both e (check2_none f c (any aca_task s.tasks) (rw a at p.aca_lets_it)).2
  not_stopped w p (unit_attention b x e) = not_both e (no_bit (pending_of s c.nexus) b (rw x at p.no_attention))
  not_stopped w p (none_of_four e) = not_both refl (rw e at p.attribute_good)
  not_stopped w p (aca_without_aca e a) = not_both refl (rw (e, a) at p.attribute_good)
  not_stopped w p (full e) = omega (arith, leb-false places s.header.count p.room, w.counted)

-- What each answer says --------------------------------------------------------------------------------------------------------------------

-- what stands with answer 7
record Fits (st : ℕ) (se : Sense) : Type 0 where
  status : EntryStatus st
  sense : (st ≡ 0x02 → ⊥) → se ≡ record { key = 0; code = 0; qualifier = 0 }

abbrev Says : State → Event → Answer → Type 0
Says s e Done = Unit {0}
Says s e BadTable = ⊥
Says s e BadReport = ⊥
Says s e BadEvent = ⊥
Says s e NexusAboveSeven = nexuses ≤ nexus_of e
Says s e NoSuchTask = Absent s e
Says s e NotEnabled = Waits s e
Says s e (EndedAtEntry st se) = (WellFormed s → EndsAtEntry s e) × Fits st se
Says s e Rejected = RejectedBy s e
Says s e BadPolicy = ⊥

module _ (s : State) where
  says_command : (c : Entry) → Says s (Command c) (answer_of (rule_for s (Command c)))
  says_command c =
      rw (rule_command s c)
      (check_cases (λ r. Says s (Command c) (answer_of r)) s.header c (any (same c.nexus c.tag) s.tasks) (any aca_task s.tasks)
      (pending_of s c.nexus)
      (stop (λ y. (λ w. at_entry (overlapped y), with_sense)) λ n1.
      stop (
        λ f a e k. (λ w. at_entry (active_stops s c f a k), sense_zero aca_active),
        λ f a e. (λ w. at_entry (other_nexus a (eqb-false c.nexus f e)), sense_zero (cases EntryStatus c.naca (λ k. aca_active) (λ k. busy))),
      ) λ n2.
      stop (λ b e. let q = bit_set c.exempt (pending_of s c.nexus) b e in (λ w. at_entry (unit_attention b q.0 q.1), with_sense)) λ n3.
      stop (λ y. (λ w. at_entry (bad_stops s c y), with_sense)) λ n4.
      stop (λ y. (λ w. at_entry (full_stops s c w y), sense_zero task_set_full)) λ n5.
      tt))
    where
      with_sense : {se : Sense} → Fits 0x02 se
      with_sense = record { status = check_condition_status; sense = λ n. absurd (n refl) }

      sense_zero : {st : ℕ} → EntryStatus st → Fits st (record { key = 0; code = 0; qualifier = 0 })
      sense_zero k = record { status = k; sense = λ n. refl }

  says_completion : (n g : ℕ) (f : Finish) → Says s (Completion n g f) (answer_of (rule_for s (Completion n g f)))
  unfolding complete
  says_completion n g f = rw (rule_completion s n g f) (go (first (same n g) s.tasks) refl)
    where
      go :
          (o : Option Task) → first (same n g) s.tasks ≡ o
          → Says s (Completion n g f) (answer_of (complete s.header o f (is_named n g (turn s))))
      go None e = no_such_task (first_none (same n g) s.tasks e)
      go (Some t) e =
          cases (λ r. Says s (Completion n g f) (answer_of r)) (is_enabled t.state) (λ k. tt)
          (λ k.
          not_enabled
          (first_any (same n g) (λ u. same n g u && not (enabled_task u)) s.tasks t e
          (rw (first_passes (same n g) s.tasks t e, k))))

  says_management : (n : ℕ) (f : Function) → Says s (Management n f) (answer_of (manage s.header n f))
  unfolding manage
  says_management n (AbortTask g) = tt
  says_management n AbortTaskSet = tt
  says_management n ClearTaskSet = tt
  says_management n ClearAca = go s.header.aca refl
    where
      go : (a : Allegiance) → s.header.aca ≡ a → Says s (Management n ClearAca) (answer_of (clearing s.header n a))
      go None e = tt
      go (Some f) e =
          cases (λ r. Says s (Management n ClearAca) (answer_of r)) (eqb n f) (λ k. tt) (λ k. not_faulted e (eqb-false n f k))
  says_management n LogicalUnitReset = tt
  says_management n Unknown = unknown_function

  says_condition : (c : Happening) → Says s (Condition c) (answer_of (happen s.header c))
  unfolding happen
  says_condition PowerOn = tt
  says_condition HardReset = tt
  says_condition (NexusLoss n) = tt

  -- every answer of the rules says what RULES 12 says of it
  says : (e : Event) → Says s e (answer s e)
  unfolding answer ruling rule_for
  says e =
      cases (λ r. Says s e (answer_of r)) (ltb (nexus_of e) nexuses) (λ l. go e) (λ l. ltb-false (nexus_of e) nexuses l)
    where
      go : (e : Event) → Says s e (answer_of (rule_for s e))
      go (Command c) = says_command c
      go (Completion n g f) = says_completion n g f
      go (Management n f) = says_management n f
      go (Condition c) = says_condition c

-- The answers ------------------------------------------------------------------------------------------------------------------------------

answer_low : (s : State) (e : Event) → nexus_of e < nexuses → answer s e ≡ answer_of (rule_for s e)
unfolding answer
answer_low s e l = rw (ruling_low s e l)

-- RULES 9.3: answer 4
pub nexus_says : (s : State) (e : Event) → (answer s e ≡ NexusAboveSeven) ↔ (nexuses ≤ nexus_of e)
unfolding answer
nexus_says s e = (λ a. rw a at (says s e), λ l. rw (ruling_high s e l))

-- RULES 12.1, answer 5: exactly where the event completes a task that is not in the table
pub absent_says : (s : State) (e : Event) → nexus_of e < nexuses → (answer s e ≡ NoSuchTask) ↔ Absent s e
unfolding complete
absent_says s e low = (λ a. rw a at (says s e), back e low)
  where
    back : (e : Event) → nexus_of e < nexuses → Absent s e → answer s e ≡ NoSuchTask
    back (Completion n g f) l (no_such_task x) =
        rw (answer_low s (Completion n g f) l, rule_completion s n g f) (go (first (same n g) s.tasks) refl)
      where
        go : (o : Option Task) → first (same n g) s.tasks ≡ o → answer_of (complete s.header o f (is_named n g (turn s))) ≡ NoSuchTask
        go None q = refl
        go (Some t) q = not_both (first_any (same n g) (same n g) s.tasks t q (first_passes (same n g) s.tasks t q)) x
    back (Command _) l x = elim x [ ]
    back (Management _ _) l x = elim x [ ]
    back (Condition _) l x = elim x [ ]

-- RULES 12.1, answer 6: exactly where it completes one that is there and not enabled
pub waits_says : (s : State) (e : Event) → WellFormed s → nexus_of e < nexuses → (answer s e ≡ NotEnabled) ↔ Waits s e
unfolding complete
waits_says s e w low = (λ a. rw a at (says s e), back e low)
  where
    back : (e : Event) → nexus_of e < nexuses → Waits s e → answer s e ≡ NotEnabled
    back (Completion n g f) l (not_enabled x) = go (first waiting s.tasks) refl
      where
        waiting : Task → Bool
        waiting t = same n g t && not (enabled_task t)

        go : (o : Option Task) → first waiting s.tasks ≡ o → answer s (Completion n g f) ≡ NotEnabled
        go None q = not_both x (first_none waiting s.tasks q)
        go (Some t) q =
            let o = and-true (same n g t) (not (enabled_task t)) (first_passes waiting s.tasks t q) in
            rw (
              answer_low s (Completion n g f) l,
              rule_completion s n g f,
              distinct_first n g waiting s.tasks t (says_tested s w).apart q o.0,
              not-true (enabled_task t) o.1,
            )
    back (Command _) l x = elim x [ ]
    back (Management _ _) l x = elim x [ ]
    back (Condition _) l x = elim x [ ]

-- RULES 12.2, answer 7: exactly where the event is a command that one of the checks 1 to 5 stops
pub entry_says :
    (s : State) (e : Event) → WellFormed s → nexus_of e < nexuses
    → ((st : ℕ) × (se : Sense) × (answer s e ≡ EndedAtEntry st se)) ↔ EndsAtEntry s e
entry_says s e w low = (λ a. (rw a.2 at (says s e)).0 w, back e low)
  where
    back : (e : Event) → nexus_of e < nexuses → EndsAtEntry s e → (st : ℕ) × (se : Sense) × (answer s e ≡ EndedAtEntry st se)
    back (Command c) l (at_entry x) =
        rw (answer_low s (Command c) l, rule_command s c)
        (enter_cases (λ r. (st : ℕ) × (se : Sense) × (answer_of r ≡ EndedAtEntry st se)) s.header c
        (any (same c.nexus c.tag) s.tasks)
        (any aca_task s.tasks)
        (pending_of s c.nexus)
        (λ se v o. (_, _, refl))
        (λ st. (_, _, refl))
        (λ p. absurd (not_stopped s c w p x)))
    back (Completion _ _ _) l x = elim x [ ]
    back (Management _ _) l x = elim x [ ]
    back (Condition _) l x = elim x [ ]

-- RULES 12.4, answer 8: exactly where the function is unknown, or CLEAR ACA from another nexus than the faulted one
pub rejected_says : (s : State) (e : Event) → nexus_of e < nexuses → (answer s e ≡ Rejected) ↔ RejectedBy s e
unfolding manage
rejected_says s e low = (λ a. rw a at (says s e), back e low)
  where
    back : (e : Event) → nexus_of e < nexuses → RejectedBy s e → answer s e ≡ Rejected
    back (Management n Unknown) l unknown_function = rw (answer_low s (Management n Unknown) l, rule_management s n Unknown)
    back (Management n ClearAca) l (not_faulted {f} a ne) =
        rw (answer_low s (Management n ClearAca) l, rule_management s n ClearAca, a, ne_eqb n f ne)
    back (Command _) l x = elim x [ ]
    back (Completion _ _ _) l x = elim x [ ]
    back (Management _ (AbortTask _)) l x = elim x [ ]
    back (Management _ AbortTaskSet) l x = elim x [ ]
    back (Management _ ClearTaskSet) l x = elim x [ ]
    back (Management _ LogicalUnitReset) l x = elim x [ ]
    back (Condition _) l x = elim x [ ]

-- RULES 18.2: no sense without 02h
pub sense_with_check :
    (s : State) (e : Event) (st : ℕ) (se : Sense) → answer s e ≡ EndedAtEntry st se → (st ≡ 0x02 → ⊥)
    → se ≡ record { key = 0; code = 0; qualifier = 0 }
sense_with_check s e st se a = (rw a at (says s e)).1.sense

-- a command that ends at entry does so with 02h, 08h, 28h or 30h
pub status_of_entry : (s : State) (e : Event) (st : ℕ) (se : Sense) → answer s e ≡ EndedAtEntry st se → EntryStatus st
status_of_entry s e st se a = (rw a at (says s e)).1.status

-- a bad table, report, event or policy is not the rules' to refuse
pub answered_by :
    (s : State) (e : Event)
    → (answer s e ≡ BadTable → ⊥) × (answer s e ≡ BadReport → ⊥) × (answer s e ≡ BadEvent → ⊥) × (answer s e ≡ BadPolicy → ⊥)
answered_by s e = (λ a. rw a at (says s e), λ a. rw a at (says s e), λ a. rw a at (says s e), λ a. rw a at (says s e))
