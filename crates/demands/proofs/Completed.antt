-- A COMPLETION over bytes and answers: on every table, with every report buffer, whatever calls led to it (RULES 6.5 to 6.9, 16.2 and 22.3).
--
--   IsStatus a   := a is one of the four statuses of a COMPLETION
--   run_by a run  := run after the turn of a task with the attribute byte a
--   ends a       := a call with the COMPLETION record of a nexus and tag, with the status byte a
--   Alike o p    := two results that differ at most in the status of the one record of the report
use Rattle.std.specs.Prelude.{Option, Some, None}
use Prim.Native.Nat.{ℕ, zero, suc, ◌+◌, ◌<◌, min}
use mathlib.Core.Bool.{true, false, cond, ◌||◌, ◌&&◌, not}
use mathlib.Core.Path.{◌≡◌, refl, ap, sym, subst, ◌∙◌}
use mathlib.Core.Logic.{◌⊎◌, inl, inr}
use mathlib.Core.List.{List, [], ◌∷◌, map}
use native.Mathlib.Omega.{arith}
use lib.ListN.{length, get_or, take, drop}
use lib.Seq.{split_at}
use lib.Dec.{eqb}
use borrow.Author.Tests.{eqb-true, eqb-false, eq-eqb}
use Rattle.laws.specs.Lists.{first, passing}
use Rattle.laws.proofs.Bools.{not_both, cases, split}
use Rattle.octets.specs.Sizes.{aca_offset, run_offset, first_offset, status_offset}
use Rattle.values.specs.Headers.{run_after}
use Rattle.rules.specs.Tasks.{nexuses, aca_task, same, is_named}
use Rattle.rules.specs.Bits.{no_pending}
use Rattle.rules.specs.Rulings.{State, turn, pending_of, answer_of, report_of, task_name, same_name}
use Rattle.rules.specs.Rules.{status_of, ruling, answer}
use Rattle.rules.proofs.Distinct.{distinct_found}
use Rattle.rules.proofs.Order.{no_aca_task}
use Rattle.rules.proofs.WellSays.{says_tested}
use Rattle.rules.proofs.Ruled.{answer_ruled, report_ruled}
use Rattle.rules.proofs.Completions.{both_completions, same_answer, ends_alike, ends_one, completion_run, aca_stands, only_ends}
use Rattle.records.specs.Numbers.{attribute_from, aca_number, pending_from}
use Rattle.records.specs.Tables.{report_size, count_in, state_of, report_bytes, good_table, GoodTable}
use Rattle.records.specs.Events.{event_of, event_line}
use Rattle.records.proofs.GoodSays.{good_table_says}
use Rattle.records.proofs.EventsSay.{event_back}
use Rattle.history.specs.History.{nobody}
use Rattle.operations.specs.Operations.{Outcome, refused, carried, outcome, named}
use Rattle.operations.specs.Types.{Naming}
use Rattle.operations.proofs.Answered.{number_of, number_done}
use Rattle.operations.proofs.Names.{named_good}
use Rattle.operations.proofs.Looked.{no_table_lem, no_report, no_event, ruled_on}
use Rattle.rules.specs.Types.{Attribute, Finish, Good, CheckCondition, Busy, ReservationConflict, Event, Command, Completion, Management, Condition, Done, BadTable, BadReport, Named, Ruling, Keeps, Changes}
use Rattle.numbers.specs.Boundary.{answered, turn_for}
use Rattle.demands.specs.Calls.{Call}
use Rattle.demands.specs.Seen.{kind_of, event_name, record_name, task_at, attribute_at, pending_byte, present_in, is_named_by, is_turn_by}
use Rattle.demands.specs.Demands.{number, Reaches}
use Rattle.demands.proofs.Reading.{event_reads, status_brought, any_at, count_is, task_is, present_in_lem, aca_byte, clear_is, run_is}
use Rattle.demands.proofs.Refused.{reason, carried_out}
use Rattle.demands.proofs.Counted.{named_by}
use Rattle.demands.proofs.Stepped.{pending_is, one_step}

-- Which statuses are taken -----------------------------------------------------------------------------------------------------------------

-- RULES 16.2: the four
abbrev pub IsStatus : ℕ → Type 0
IsStatus a = (a ≡ 0x00) ⊎ ((a ≡ 0x02) ⊎ ((a ≡ 0x08) ⊎ (a ≡ 0x18)))

is_status : (f : Finish) → IsStatus (status_of f)
is_status Good = inl refl
is_status CheckCondition = inr (inl refl)
is_status Busy = inr (inr (inl refl))
is_status ReservationConflict = inr (inr (inr refl))

status_is : (a : ℕ) → IsStatus a → (f : Finish) × (status_of f ≡ a)
status_is a (inl z) = (Good, sym z)
status_is a (inr (inl z)) = (CheckCondition, sym z)
status_is a (inr (inr (inl z))) = (Busy, sym z)
status_is a (inr (inr (inr z))) = (ReservationConflict, sym z)

-- RULES 16.2: any other is answered 3
pub other_status_refused :
    (t r e : List ℕ) → GoodTable t → length r ≡ report_size → kind_of e ≡ 2 → (IsStatus (get_or e first_offset 0) → ⊥) → number t r e ≡ 3
other_status_refused t r e good long two other = go (event_of e) refl
  where
    go : (o : Option Event) → event_of e ≡ o → number t r e ≡ 3
    go None q = ap (λ (o : Outcome). number_of o.answer) (no_event t r e ((good_table_says t).1 good) long q)
    go (Some (Command c)) q = absurd (omega (arith, two, (event_reads e (Some (Command c)) q).0))
    go (Some (Completion n g f)) q = absurd (other (subst IsStatus (sym (status_brought e n g f q)) (is_status f)))
    go (Some (Management n f)) q = absurd (omega (arith, two, event_reads e (Some (Management n f)) q))
    go (Some (Condition c)) q = absurd (omega (arith, two, event_reads e (Some (Condition c)) q))

-- What an accepted one does ----------------------------------------------------------------------------------------------------------------

-- RULES 1.15, 1.16 and 14.2: HEAD OF QUEUE, SIMPLE or ORDERED, else ACA
abbrev pub run_by : ℕ → ℕ → ℕ
run_by a run = cond (eqb a 1) (min (run + 1) 4) (cond (eqb a 0 || eqb a 2) 0 run)

run_by_lem : (a run : ℕ) → run_after (attribute_from a) run ≡ run_by a run
run_by_lem a run =
    cases (λ (x : Attribute). run_after x run ≡ run_by a run) (eqb a 0) (λ y. rw (eqb-true a 0 y))
    (λ n0.
    cases (λ (x : Attribute). run_after x run ≡ run_by a run) (eqb a 1) (λ y. rw y)
    (λ n1. cases (λ (x : Attribute). run_after x run ≡ run_by a run) (eqb a 2) (λ y. rw (n1, y, n0)) (λ n2. rw (n1, n0, n2))))

-- the completion of a call that is answered 0
record SoCompleted (t r e : List ℕ) : Type 0 where
  nexus : ℕ
  tag : ℕ
  finish : Finish
  reaches : Reaches t r e (Completion nexus tag finish)
  done : answer (state_of t) (Completion nexus tag finish) ≡ Done

module _ (t r e : List ℕ) where
  so_completed : number t r e ≡ 0 → kind_of e ≡ 2 → SoCompleted t r e
  so_completed done two = let k = reason t r e 0 done in go k.0 k.1
    where
      go : (v : Event) → Reaches t r e v → SoCompleted t r e
      go (Command c) h = absurd (omega (arith, two, (event_reads e (Some (Command c)) h.event).0))
      go (Completion n g f) h =
          record {
            nexus = n;
            tag = g;
            finish = f;
            reaches = h;
            done =
                number_done (answer (state_of t) (Completion n g f))
                (ap number_of (answer_ruled (state_of t) (Completion n g f))
                ∙ sym (ap (λ (o : Outcome). number_of o.answer) (carried_out t r e (Completion n g f) h)) ∙ done);
          }
      go (Management n f) h = absurd (omega (arith, two, event_reads e (Some (Management n f)) h.event))
      go (Condition c) h = absurd (omega (arith, two, event_reads e (Some (Condition c)) h.event))

  -- RULES 6.5 and 6.9: answered 0 and with another status than 02h it ends its task with that status, and no other; the ACA stands, and nobody is told
  pub completion_only_ends :
      number t r e ≡ 0 → kind_of e ≡ 2 → (get_or e first_offset 0 ≡ 0x02 → ⊥)
      → ((outcome t r e).report ≡ report_bytes (record { nexus = (event_name e).nexus; status = get_or e first_offset 0; tag = (event_name e).tag } ∷ []))
      × (present_in (outcome t r e).table ≡ passing (λ (x : Named). not (same_name x (event_name e))) (present_in t))
      × (get_or (outcome t r e).table aca_offset 0 ≡ get_or t aca_offset 0)
      × ((i : ℕ) → i < nexuses → pending_from (pending_byte (outcome t r e).table i) ≡ pending_from (pending_byte t i))
  completion_only_ends done two other =
      let k = so_completed done two in
      let v = Completion k.nexus k.tag k.finish in
      let b = (outcome t r e).table in
      let s = state_of t in
      let brought = status_brought e k.nexus k.tag k.finish k.reaches.event in
      let its = sym (event_reads e (Some v) k.reaches.event).1 in
      let status = sym brought in
      let after = one_step t r e v k.reaches in
      let mild : status_of k.finish ≡ 0x02 → ⊥ = λ q. other (brought ∙ q) in
      let only = only_ends s k.nexus k.tag k.finish k.reaches.table.well mild k.done in
      let stands = aca_stands s k.nexus k.tag k.finish mild in (
        ap (λ (o : Outcome). o.report) (carried_out t r e v k.reaches)
            ∙ written s (ruling s v) (sym (answer_ruled s v) ∙ k.done)
            ∙ ap report_bytes (sym (report_ruled s v) ∙ only.0)
            ∙ (λ i. report_bytes (record { nexus = (its i).nexus; status = status i; tag = (its i).tag } ∷ [])),
        present_in_lem b ∙ ap (λ (z : State). map task_name z.tasks) after ∙ only.1
            ∙ ap (λ (k : Named). passing (λ (x : Named). not (same_name x k)) (map task_name s.tasks)) its
            ∙ ap (passing (λ (x : Named). not (same_name x (event_name e)))) (sym (present_in_lem t)),
        aca_byte b ∙ ap (λ (z : State). aca_number z.header.aca) after ∙ ap aca_number stands.0 ∙ sym (aca_byte t),
        λ i h.
            sym (pending_is b i h) ∙ ap (λ (z : State). pending_of z i) after ∙ ap (λ ps. get_or ps i no_pending) stands.1 ∙ pending_is t i h,
      )
    where
      written : (s : State) (l : Ruling) → answer_of l ≡ Done → (carried t r s l).report ≡ report_bytes (report_of s l)
      written s (Keeps a) q = rw q
      written s (Changes a c) q = refl

  -- RULES 1.15 and 1.16: run by the attribute byte of the task, at place i, and whether name named it; whatever the status
  pub completion_run_byte :
      (i : ℕ) → number t r e ≡ 0 → kind_of e ≡ 2 → i < count_in t → record_name (task_at t i) ≡ event_name e
      → get_or (outcome t r e).table run_offset 0
      ≡ cond (is_named_by (turn_for (named t)) (event_name e)) (run_by (attribute_at t i) (get_or t run_offset 0)) (get_or t run_offset 0)
  completion_run_byte i done two l here =
      let k = so_completed done two in
      let s = state_of t in
      let v = Completion k.nexus k.tag k.finish in
      let its = (event_reads e (Some v) k.reaches.event).1 in
      let u = get_or s.tasks i nobody in
      let is = task_is t i l in
      let name : task_name u ≡ record { nexus = k.nexus; tag = k.tag } = ap task_name is ∙ here ∙ its in
      let itself : same k.nexus k.tag u ≡ true =
      rw (
        eq-eqb u.nexus k.nexus (ap (λ (x : Named). x.nexus) name),
        eq-eqb u.tag k.tag (ap (λ (x : Named). x.tag) name),
      )
      in
      let there : first (same k.nexus k.tag) s.tasks ≡ Some u =
      distinct_found k.nexus k.tag s.tasks (take i s.tasks) u (drop (suc i) s.tasks) (split_at s.tasks i nobody (omega (arith, count_is t)))
      (says_tested s k.reaches.table.well).apart itself
      in
      let who : is_named_by (turn_for (named t)) (event_name e) ≡ is_named k.nexus k.tag (turn s) =
      ap (λ (x : Named). is_named_by (turn_for (named t)) x) its
      ∙ ap (λ (x : Naming). is_named_by (turn_for x) (record { nexus = k.nexus; tag = k.tag })) (named_good t ((good_table_says t).1 k.reaches.table))
      ∙ named_by k.nexus k.tag (turn s)
      in
      sym (run_is (outcome t r e).table)
      ∙ ap (λ (z : State). z.header.run) (one_step t r e v k.reaches)
      ∙ completion_run s k.nexus k.tag k.finish u there k.done
      ∙ rw (who, is, run_is t, run_by_lem (attribute_at t i) (get_or t run_offset 0)) refl

-- By its status ----------------------------------------------------------------------------------------------------------------------------

-- RULES 6.9
abbrev pub Alike : Outcome → Outcome → Type 0
Alike o p =
    (answered o ≡ answered p) × (o.table ≡ p.table) × ((i : ℕ) → (i ≡ status_offset → ⊥) → get_or o.report i 0 ≡ get_or p.report i 0)

same_report : (n g st k i : ℕ) → (i ≡ status_offset → ⊥)
    → get_or (report_bytes (record { nexus = n; status = st; tag = g } ∷ [])) i 0 ≡ get_or (report_bytes (record { nexus = n; status = k; tag = g } ∷ [])) i 0
unfolding report_bytes
same_report n g st k zero h = refl
same_report n g st k (suc zero) h = refl
same_report n g st k (suc (suc zero)) h = refl
same_report n g st k (suc (suc (suc zero))) h = absurd (h refl)
same_report n g st k (suc (suc (suc (suc i)))) h = refl

module _ (t r : List ℕ) (n g : ℕ) where
  -- RULES 16.2 and 16.6
  abbrev pub ends : ℕ → Outcome
  ends a = outcome t r (event_line 2 n a 0 g)

  -- two of them are refused alike by the table or the report, or both are put to the rules
  two_calls :
      (P : Outcome → Outcome → Type 0) (f k : Finish) → ((o : Outcome) → P o o)
      → (GoodTable t
      → P (carried t r (state_of t) (ruling (state_of t) (Completion n g f))) (carried t r (state_of t) (ruling (state_of t) (Completion n g k))))
      → P (ends (status_of f)) (ends (status_of k))
  two_calls P f k same rules =
      split (good_table t)
      (λ y.
      split (eqb (length r) report_size)
      (λ l. rw (on f y (eqb-true _ _ l), on k y (eqb-true _ _ l)) (rules ((good_table_says t).0 y)))
      (λ l. rw (no_report t r (line f) y (eqb-false _ _ l), no_report t r (line k) y (eqb-false _ _ l)) (same (refused BadReport t r))))
      (λ y. rw (no_table_lem t r (line f) y, no_table_lem t r (line k) y) (same (refused BadTable t r)))
    where
      line : Finish → List ℕ
      line x = event_line 2 n (status_of x) 0 g

      on :
          (x : Finish) → good_table t ≡ true → length r ≡ report_size → ends (status_of x) ≡ carried t r (state_of t) (ruling (state_of t) (Completion n g x))
      on x y l = ruled_on t r (line x) y l (Completion n g x) (event_back 0 0 (Completion n g x) tt)

  -- RULES 6.9: with 08h and 18h all is as with GOOD, but for that status in the report
  pub completion_as_good : (a : ℕ) → IsStatus a → (a ≡ 0x02 → ⊥) → Alike (ends a) (ends 0x00)
  completion_as_good a is other =
      let k = status_is a is in
      subst (λ x. Alike (ends x) (ends 0x00)) k.1 (go k.0 (λ q. other (sym k.1 ∙ q)))
    where
      go : (f : Finish) → (status_of f ≡ 0x02 → ⊥) → Alike (ends (status_of f)) (ends 0x00)
      go f mild =
          two_calls Alike f Good (λ o. (refl, refl, λ i h. refl))
          (λ good.
          both_completions (λ l q. Alike (carried t r (state_of t) l) (carried t r (state_of t) q)) (state_of t) n g f Good (λ a. (refl, refl, λ i h. refl))
          (λ u h.
          let one = ends_one (state_of t) n g f mild good.well u h in
          let good_one = ends_one (state_of t) n g Good (λ q. absurd (omega arith)) good.well u h in
          rw (ends_alike (state_of t) n g f mild u, one, good_one) (refl, refl, same_report n g (status_of f) 0x00)))

  -- RULES 6.8: every status gets the same answer
  pub same_number : (a b : ℕ) → IsStatus a → IsStatus b → (answered (ends a)).answer ≡ (answered (ends b)).answer
  same_number a b x y =
      let f = status_is a x in
      let k = status_is b y in
      ap (λ c. (answered (ends c)).answer) (sym f.1) ∙ go f.0 k.0 ∙ ap (λ c. (answered (ends c)).answer) k.1
    where
      go : (f k : Finish) → (answered (ends (status_of f))).answer ≡ (answered (ends (status_of k))).answer
      go f k =
          two_calls (λ o p. (answered o).answer ≡ (answered p).answer) f k (λ o. refl)
          (λ good.
          ap number_of (sym (answer_ruled (state_of t) (Completion n g f)) ∙ same_answer (state_of t) n g f k ∙ answer_ruled (state_of t) (Completion n g k)))

  -- RULES 21.3 and 22.3: and is a turn or is none like every other
  pub same_turn :
      (a b : ℕ) → IsStatus a → IsStatus b
      → is_turn_by t (record { event = event_line 2 n a 0 g; report = r }) ≡ is_turn_by t (record { event = event_line 2 n b 0 g; report = r })
  unfolding is_turn_by
  same_turn a b x y =
      ap (λ c. eqb (get_or t aca_offset 0) 0 && true && is_named_by (turn_for (named t)) (event_name (event_line 2 n b 0 g)) && eqb c 0) (same_number a b x y)

-- RULES 22.3: while a task with attribute ACA is in the table no call is a turn
pub aca_task_no_turn : (t : List ℕ) (m : Call) (i : ℕ) → GoodTable t → i < count_in t → attribute_at t i ≡ 4 → is_turn_by t m ≡ false
unfolding is_turn_by
aca_task_no_turn t m i good l four = split (eqb (get_or t aca_offset 0) 0) (λ y. not_both there (none (eqb-true (get_or t aca_offset 0) 0 y))) (λ y. rw y)
  where
    there : aca_task (get_or (state_of t).tasks i nobody) ≡ true
    there = ap aca_task (task_is t i l) ∙ rw four

    none : get_or t aca_offset 0 ≡ 0 → aca_task (get_or (state_of t).tasks i nobody) ≡ false
    none z = any_at aca_task nobody (state_of t).tasks i (no_aca_task (state_of t) good.well (clear_is t z)) (omega (arith, count_is t))
