-- A COMMAND that ends at entry, over bytes and answers: on every table, with every report buffer and event, whatever calls led to it (RULES 5.16 to 5.20).
--
--   has_naca e        := the event record e has NACA 1
--   state_at t i      := the state byte of the task at place i of the table t
--   status_at r i     := the status byte of the ended record at place i of the report r
--   is_overlapped t e := a task of the table t has the nexus and the tag of the event record e
--   records_from n l  := the first n task records of l
--   records_in t      := the task records of the table t, oldest first
use Rattle.std.specs.Prelude.{Some, None}
use Prim.Native.Nat.{ℕ, zero, suc, ◌+◌, ◌*◌, ◌≤◌, ◌<◌}
use mathlib.Core.Bool.{Bool, true, false, ◌&&◌, not}
use mathlib.Core.Path.{◌≡◌, refl, ap, sym, subst, ◌∙◌}
use mathlib.Core.List.{List, [], ◌∷◌, ◌++◌, map, Sublist}
use mathlib.Core.Logic.{◌⊎◌, inl, inr}
use native.Mathlib.Omega.{arith}
use lib.ListN.{length, get_or, take, drop, replicate, length-drop}
use lib.Seq.{drop-drop}
use lib.Dec.{eqb}
use borrow.Author.Tests.{eqb-true, not-false}
use Rattle.laws.specs.Lists.{any, passing}
use Rattle.laws.specs.RecordsInLists.{record_at, joined}
use Rattle.laws.proofs.Bools.{and-true, or-true, not_both, split, eqb_sym}
use Rattle.laws.proofs.Lists.{map_passing}
use Rattle.octets.specs.Sizes.{policy_offset, aca_offset, nexus_offset, second_offset, state_offset, status_offset}
use Rattle.rules.specs.Tasks.{same, enabled_task}
use Rattle.rules.specs.Rulings.{State, answer_of, ruled, report_of, task_name}
use Rattle.rules.specs.Rules.{ruling, step, answer, report}
use Rattle.rules.specs.Refusals.{EndsAtEntry, at_entry}
use Rattle.rules.proofs.Ruled.{step_ruled, answer_ruled, report_ruled}
use Rattle.rules.proofs.Cases.{enter_cases, other_cases}
use Rattle.rules.proofs.Ends.{is_command, report_within}
use Rattle.rules.proofs.WellKept.{Tested}
use Rattle.rules.proofs.FairRulings.{tested_ruling}
use Rattle.rules.proofs.WellSays.{says_tested}
use Rattle.rules.proofs.AtEntry.{refused_begins_aca, refused_in_aca, aborted, refused_lists_aborted, refused_empties}
use Rattle.records.specs.Numbers.{aca_number, policy_from}
use Rattle.records.specs.Records.{task_size, ended_size, task_bytes, task_fits, ended_bytes}
use Rattle.records.specs.Tables.{Bytes, tasks_at, report_size, tasks_from, count_in, state_of, counts_of, table_bytes, report_bytes, GoodTable, tasks_fit}
use Rattle.records.specs.Events.{second_number}
use Rattle.records.proofs.Good.{task_good, bytes_drop, table_tested}
use Rattle.records.proofs.GoodSays.{good_table_says}
use Rattle.records.proofs.ReadBack.{written_count, table_tasks}
use Rattle.history.specs.History.{nobody}
use Rattle.operations.specs.AnswerNumbers.{said}
use Rattle.operations.specs.Operations.{Outcome, carried, outcome}
use Rattle.operations.proofs.Answered.{number_of, number_at_entry, writes_report_ended}
use Rattle.rules.specs.Types.{Task, Entry, Event, Command, Completion, Management, Condition, EndAll, Policy, Allegiance, Ended, Sense, Answer, EndedAtEntry, Ruling, Keeps, Changes, Named}
use Rattle.numbers.specs.Boundary.{answered}
use Rattle.demands.specs.Seen.{event_name, names_from, task_at, present_in, is_listed}
use Rattle.demands.specs.Demands.{number, Reaches}
use Rattle.demands.proofs.Reading.{event_reads, second_asked, report_names, present_in_lem, any_at, count_is, task_is, aca_byte, clear_is, policy_is}
use Rattle.demands.proofs.Refused.{reason, carried_out}
use Rattle.demands.proofs.Stepped.{one_step}

-- RULES 16.1: NACA is bit 0 and exempt bit 1, and the others are 0
abbrev pub has_naca : List ℕ → Type 0
has_naca e = (get_or e second_offset 0 ≡ 1) ⊎ (get_or e second_offset 0 ≡ 3)

-- RULES 15.3
abbrev pub state_at : List ℕ → ℕ → ℕ
state_at t i = get_or (task_at t i) state_offset 0

-- RULES 13.3 and 15.5
abbrev pub status_at : List ℕ → ℕ → ℕ
status_at r i = get_or (record_at ended_size r (ended_size * i)) status_offset 0

-- RULES 5.2: check 1
abbrev pub is_overlapped : List ℕ → List ℕ → Bool
is_overlapped t e = is_listed (event_name e) (present_in t)

-- RULES 13.2 and 17.1
abbrev pub records_from : ℕ → List ℕ → List (List ℕ)
records_from zero l = []
records_from (suc n) l = take task_size l ∷ records_from n (drop task_size l)

abbrev pub records_in : List ℕ → List (List ℕ)
records_in t = records_from (count_in t) (drop tasks_at t)

-- The records ------------------------------------------------------------------------------------------------------------------------------

listed_is : (n g : ℕ) (ts : List Task) → is_listed (record { nexus = n; tag = g }) (map task_name ts) ≡ any (same n g) ts
listed_is n g [] = refl
listed_is n g (t ∷ ts) = rw (eqb_sym n t.nexus, eqb_sym g t.tag, listed_is n g ts)

records_good : (n : ℕ) (l : List ℕ) → Bytes l → task_size * n ≤ length l → tasks_fit n l ≡ true → records_from n l ≡ map task_bytes (tasks_from n l)
unfolding tasks_fit tasks_from
records_good zero l b h e = refl
records_good (suc n) l b h e =
    let o = and-true (task_fits (take task_size l)) (tasks_fit n (drop task_size l)) e in
    rw (task_good l (omega arith) b o.0, records_good n (drop task_size l) (bytes_drop l task_size b) (simp length-drop (omega arith)) o.1)

records_back : (ts : List Task) (rest : List ℕ) → records_from (length ts) (joined task_bytes ts ++ rest) ≡ map task_bytes ts
records_back [] rest = refl
records_back (t ∷ ts) rest = rw (records_back ts rest)

-- of a good table, and of the writing of a state
good_records : (t : List ℕ) → Bytes t → GoodTable t → records_in t ≡ map task_bytes (state_of t).tasks
unfolding state_of
good_records t by good =
    records_good (count_in t) (drop tasks_at t) (bytes_drop t tasks_at by) (simp length-drop (omega (arith, good.long, good.well.few, count_is t)))
    (table_tested t ((good_table_says t).1 good)).used

written_records : (s : State) → Tested s → records_in (table_bytes s) ≡ map task_bytes s.tasks
unfolding table_bytes
written_records s w =
    ap (λ n. records_from n (drop tasks_at (table_bytes s))) (written_count s ∙ w.counted)
    ∙ ap (records_from (length s.tasks)) (table_tasks (counts_of s) s w.eight)
    ∙ records_back s.tasks _

-- The report -------------------------------------------------------------------------------------------------------------------------------

abbrev no_record : Ended
no_record = record { nexus = 0; status = 0; tag = 0 }

joined_status : (es : List Ended) (rest : List ℕ) (i : ℕ) → i < length es → status_at (joined ended_bytes es ++ rest) i ≡ (get_or es i no_record).status
joined_status [] rest i h = absurd (omega arith)
joined_status (e ∷ es) rest zero h = refl
joined_status (e ∷ es) rest (suc i) h =
    let z : ended_size * suc i ≡ ended_size + ended_size * i = omega arith in
    rw (z, ← drop-drop (ended_size * i) ended_size (joined ended_bytes (e ∷ es) ++ rest)) (joined_status es rest i (omega arith))

status_is : (es : List Ended) (i : ℕ) → i < length es → status_at (report_bytes es) i ≡ (get_or es i no_record).status
unfolding report_bytes
status_is es i h = joined_status es _ i h

-- a record that is of an aborted task, by its status
aborted_status_lem : (x : Ended) → aborted x ≡ true → (x.status ≡ 0xFF) ⊎ (x.status ≡ 0x40)
aborted_status_lem x q =
    split (eqb x.status 0xFF) (λ y. inl (eqb-true x.status 0xFF y)) (λ n. inr (eqb-true x.status 0x40 (or-true _ _ q n)))

-- The command ------------------------------------------------------------------------------------------------------------------------------

naca_asked : (e : List ℕ) (c : Entry) → has_naca e → get_or e second_offset 0 ≡ second_number c → c.naca ≡ true
naca_asked e c h q = go c.naca c.exempt h q
  where
    go : (n x : Bool) → has_naca e → get_or e second_offset 0 ≡ second_number (record { nexus = 0; asked = c.asked; naca = n; exempt = x; tag = 0 }) → n ≡ true
    go true x h q = refl
    go false true (inl z) q = absurd (omega arith)
    go false true (inr z) q = absurd (omega arith)
    go false false (inl z) q = absurd (omega arith)
    go false false (inr z) q = absurd (omega arith)

-- the command of a call that is answered 7, and what the rules answer
record SoEnded (t r e : List ℕ) : Type 0 where
  command : Entry
  sense : Sense
  reaches : Reaches t r e (Command command)
  says : answer (state_of t) (Command command) ≡ EndedAtEntry (answered (outcome t r e)).status sense

module _ (t r e : List ℕ) where
  so_ended : number t r e ≡ 7 → SoEnded t r e
  so_ended seven = let k = reason t r e 7 seven in go k.0 k.1 k.2
    where
      go : (v : Event) → Reaches t r e v → EndsAtEntry (state_of t) v → SoEnded t r e
      go (Command c) h (at_entry s) =
          let on = ap (λ (o : Outcome). o.answer) (carried_out t r e (Command c) h) in
          number_at_entry (outcome t r e).answer seven
          (λ st se q.
          record {
            command = c;
            sense = se;
            reaches = h;
            says = answer_ruled (state_of t) (Command c) ∙ sym on ∙ q ∙ ap (λ (a : Answer). EndedAtEntry (said a).status se) (sym q);
          })
      go (Completion _ _ _) h x = elim x [ ]
      go (Management _ _) h x = elim x [ ]
      go (Condition _) h x = elim x [ ]

  -- what the rules answer it, where the status is 02h
  says_two : (k : SoEnded t r e) → (answered (outcome t r e)).status ≡ 0x02 → answer (state_of t) (Command k.command) ≡ EndedAtEntry 0x02 k.sense
  says_two k two = k.says ∙ ap (λ st. EndedAtEntry st k.sense) two

  -- its nexus and its tag
  names_it : (k : SoEnded t r e) → event_name e ≡ record { nexus = k.command.nexus; tag = k.command.tag }
  names_it k = (event_reads e (Some (Command k.command)) k.reaches.event).1

  -- what the table says afterwards
  after_it : (k : SoEnded t r e) → state_of (outcome t r e).table ≡ step (state_of t) (Command k.command)
  after_it k = one_step t r e (Command k.command) k.reaches

  -- the report is written
  reported : (s : State) (l : Ruling) → number_of (answer_of l) ≡ 7 → (carried t r s l).report ≡ report_bytes (report_of s l)
  reported s (Keeps a) q = rw (writes_report_ended a (inr q))
  reported s (Changes a c) q = refl

  -- the task records afterwards
  records_after :
      Bytes t → GoodTable t → (l : Ruling) → Tested (ruled (state_of t) l)
      → records_in (carried t r (state_of t) l).table ≡ map task_bytes (ruled (state_of t) l).tasks
  records_after by good (Keeps a) w = good_records t by good
  records_after by good (Changes a c) w = written_records (ruled (state_of t) (Changes a c)) w

  -- without 02h nothing is carried out
  abbrev KeptOut : Outcome → Type 0
  KeptOut o =
      (answered o).answer ≡ 7 → ((answered o).status ≡ 0x02 → ⊥) → (o.table ≡ t) × (o.report ≡ replicate report_size 0)

  kept_out : (s : State) (v : Event) → is_command v ≡ true → KeptOut (carried t r s (ruling s v))
  unfolding report_bytes
  kept_out s v =
      other_cases (λ v l. is_command v ≡ true → KeptOut (carried t r s l)) s (λ v q z n. absurd (omega arith)) (λ n g f q. not_both q refl)
      (λ c l.
      enter_cases (λ l. true ≡ true → KeptOut (carried t r s l)) s.header c _ _ _ (λ se w o q z n. absurd (n refl)) (λ st q z n. (refl, refl))
      (λ p q z n. absurd (omega arith)))
      (λ n f q. not_both q refl)
      (λ c q. not_both q refl)
      v

  -- The laws -------------------------------------------------------------------------------------------------------------------------------

  -- RULES 5.17: with 02h, without an ACA and with NACA 1 an ACA is in effect for the command's nexus, and no task is enabled
  pub entry_begins_aca :
      number t r e ≡ 7 → (answered (outcome t r e)).status ≡ 0x02 → get_or t aca_offset 0 ≡ 0 → has_naca e
      → (get_or (outcome t r e).table aca_offset 0 ≡ 1 + (event_name e).nexus)
      × ((i : ℕ) → i < count_in (outcome t r e).table → state_at (outcome t r e).table i ≡ 2 → ⊥)
  entry_begins_aca seven two clear naca =
      let k = so_ended seven in
      let b = (outcome t r e).table in
      let asks = naca_asked e k.command naca (second_asked e k.command k.reaches.event) in
      let begins = refused_begins_aca (state_of t) k.command k.sense (says_two k two) (clear_is t clear) asks in
      let aca = aca_byte b ∙ ap (λ (s : State). aca_number s.header.aca) (after_it k) ∙ ap aca_number begins.0 in
      let none = ap (λ (s : State). any enabled_task s.tasks) (after_it k) ∙ begins.1 in (
        omega (arith, aca, ap (λ (n : Named). n.nexus) (names_it k)),
        λ i h two.
            not_both (ap enabled_task (task_is b i h) ∙ rw two) (any_at enabled_task nobody (state_of b).tasks i none (omega (arith, count_is b))),
      )

  -- RULES 5.19: with any other status both buffers are as they were, but that the report is emptied
  pub entry_changes_nothing :
      number t r e ≡ 7 → ((answered (outcome t r e)).status ≡ 0x02 → ⊥)
      → ((outcome t r e).table ≡ t) × ((outcome t r e).report ≡ replicate report_size 0)
  entry_changes_nothing seven =
      let k = so_ended seven in
      let v = Command k.command in
      subst KeptOut (sym (carried_out t r e v k.reaches)) (kept_out (state_of t) v refl) seven

  -- RULES 4.5 and 5.16: with 02h, without an ACA and with QERR 01b no task is left
  pub entry_empties :
      number t r e ≡ 7 → (answered (outcome t r e)).status ≡ 0x02 → get_or t aca_offset 0 ≡ 0
      → (get_or t policy_offset 0 ≡ 1) ⊎ (get_or t policy_offset 0 ≡ 5) → count_in (outcome t r e).table ≡ 0
  entry_empties seven two clear all =
      let k = so_ended seven in
      let qerr = ap (λ (p : Policy). p.qerr) (policy_is t) ∙ end_all all in
      let none = refused_empties (state_of t) k.command k.sense (says_two k two) (clear_is t clear) qerr in
      sym (count_is (outcome t r e).table) ∙ ap (λ (s : State). length s.tasks) (after_it k) ∙ ap length none
    where
      end_all : (get_or t policy_offset 0 ≡ 1) ⊎ (get_or t policy_offset 0 ≡ 5) → (policy_from (get_or t policy_offset 0)).qerr ≡ EndAll
      end_all (inl z) = rw z
      end_all (inr z) = rw z

  -- RULES 4.9 and 5.16: the report lists aborted tasks, with FFh or 40h, in the order of the table
  pub entry_lists_aborted :
      number t r e ≡ 7
      → ((i : ℕ) → i < (answered (outcome t r e)).ended → (status_at (outcome t r e).report i ≡ 0xFF) ⊎ (status_at (outcome t r e).report i ≡ 0x40))
      × Sublist (names_from (answered (outcome t r e)).ended (outcome t r e).report) (present_in t)
  entry_lists_aborted seven =
      let k = so_ended seven in
      let v = Command k.command in
      let es = report (state_of t) v in
      let on = carried_out t r e v k.reaches in
      let count : (outcome t r e).ended ≡ length es = ap (λ (o : Outcome). o.ended) on ∙ ap length (sym (report_ruled (state_of t) v)) in
      let written : (outcome t r e).report ≡ report_bytes es =
      ap (λ (o : Outcome). o.report) on
      ∙ reported (state_of t) (ruling (state_of t) v) (sym (ap (λ (o : Outcome). number_of o.answer) on) ∙ seven)
      ∙ ap report_bytes (sym (report_ruled (state_of t) v))
      in
      rw (count, written) (
        λ i h.
            rw (status_is es i h)
            (aborted_status_lem (get_or es i no_record)
            (not-false _ (any_at (λ (x : Ended). not (aborted x)) no_record es i (refused_lists_aborted (state_of t) k.command _ k.sense k.says) h))),
        rw (report_names es, present_in_lem t) (report_within (state_of t) v),
      )

  -- RULES 5.18: in an ACA the ACA is as it was, and those that stay are all but the tasks of the command's nexus, if it was overlapped, byte for byte
  pub entry_in_aca :
      number t r e ≡ 7 → (answered (outcome t r e)).status ≡ 0x02 → (get_or t aca_offset 0 ≡ 0 → ⊥)
      → (get_or (outcome t r e).table aca_offset 0 ≡ get_or t aca_offset 0)
      × (present_in (outcome t r e).table ≡ passing (λ (k : Named). not (is_overlapped t e && eqb k.nexus (event_name e).nexus)) (present_in t))
      × (Bytes t → records_in (outcome t r e).table
      ≡ passing (λ (x : List ℕ). not (is_overlapped t e && eqb (get_or x nexus_offset 0) (event_name e).nexus)) (records_in t))
  entry_in_aca seven two aca = go (state_of t).header.aca refl
    where
      k : SoEnded t r e
      k = so_ended seven

      v : Event
      v = Command k.command

      b : List ℕ
      b = (outcome t r e).table

      m : ℕ
      m = k.command.nexus

      twin : Bool
      twin = any (same m k.command.tag) (state_of t).tasks

      overlapped : is_overlapped t e ≡ twin
      overlapped =
          ap (λ (x : Named). is_listed x (present_in t)) (names_it k) ∙ ap (is_listed _) (present_in_lem t)
          ∙ listed_is m k.command.tag (state_of t).tasks

      -- those that stay, by nexus and tag or by record
      left : {A : Type 0} (f : Task → A) (n : A → ℕ) → (step (state_of t) v).tasks ≡ passing (λ u. not (twin && eqb (n (f u)) m)) (state_of t).tasks
          → map f (step (state_of t) v).tasks ≡ passing (λ x. not (is_overlapped t e && eqb (n x) (event_name e).nexus)) (map f (state_of t).tasks)
      left f n q =
          let us = map f (state_of t).tasks in
          ap (map f) q ∙ map_passing f (λ x. not (twin && eqb (n x) m)) (state_of t).tasks
          ∙ ap (λ o. passing (λ x. not (o && eqb (n x) m)) us) (sym overlapped)
          ∙ ap (λ (x : Named). passing (λ y. not (is_overlapped t e && eqb (n y) x.nexus)) us) (sym (names_it k))

      tested : Tested (ruled (state_of t) (ruling (state_of t) v))
      tested = tested_ruling (state_of t) v (says_tested (state_of t) k.reaches.table.well)

      go :
          (a : Allegiance) → (state_of t).header.aca ≡ a
          → (get_or b aca_offset 0 ≡ get_or t aca_offset 0)
          × (present_in b ≡ passing (λ (k : Named). not (is_overlapped t e && eqb k.nexus (event_name e).nexus)) (present_in t))
          × (Bytes t → records_in b ≡ passing (λ (x : List ℕ). not (is_overlapped t e && eqb (get_or x nexus_offset 0) (event_name e).nexus)) (records_in t))
      go None q = absurd (aca (aca_byte t ∙ ap aca_number q))
      go (Some f) q =
          let spares = refused_in_aca (state_of t) k.command k.sense f (says_two k two) q in (
            aca_byte b ∙ ap (λ (s : State). aca_number s.header.aca) (after_it k) ∙ ap aca_number (spares.aca_stays ∙ sym q) ∙ sym (aca_byte t),
            present_in_lem b ∙ ap (λ (s : State). map task_name s.tasks) (after_it k) ∙ left task_name (λ (x : Named). x.nexus) spares.tasks_stay
                ∙ ap (passing _) (sym (present_in_lem t)),
            λ by.
                ap (λ (o : Outcome). records_in o.table) (carried_out t r e v k.reaches)
                ∙ records_after by k.reaches.table (ruling (state_of t) v) tested
                ∙ ap (λ (s : State). map task_bytes s.tasks) (sym (step_ruled (state_of t) v))
                ∙ left task_bytes (λ (x : List ℕ). get_or x nexus_offset 0) spares.tasks_stay
                ∙ ap (passing _) (sym (good_records t by k.reaches.table)),
          )
