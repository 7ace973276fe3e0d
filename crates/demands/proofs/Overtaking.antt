-- The mission's accident over bytes, and that whom name names can be completed: on every table, whatever calls led to it.
use Rattle.std.specs.Prelude.{Option, Some, None}
use Prim.Native.Nat.{ℕ, suc, ◌+◌, ◌-◌, ◌≤◌, ◌<◌}
use mathlib.Core.Bool.{true, false, ◌&&◌, not, and-true as and_on}
use mathlib.Core.Path.{◌≡◌, refl, ap, sym, subst, ◌∙◌}
use mathlib.Core.List.{List}
use mathlib.Core.Logic.{◌⊎◌, inl, inr}
use native.Mathlib.Omega.{arith}
use lib.ListN.{length, get_or, take, drop, length-drop}
use lib.Seq.{split_at, get_or-drop}
use borrow.Author.Tests.{eq-eqb, not-false, ltb-true, ltb-false}
use lib.Dec.{ltb}
use Rattle.laws.specs.Lists.{any}
use Rattle.laws.proofs.Bools.{and-false, not_both, split}
use Rattle.octets.specs.Sizes.{aca_offset}
use Rattle.rules.specs.Tasks.{nexuses, is_plain, same, enabled_task, enabled_plain, is_named}
use Rattle.rules.specs.Rulings.{State, turn}
use Rattle.rules.specs.Rules.{nexus_of, answer}
use Rattle.rules.specs.Refusals.{Waits, not_enabled}
use Rattle.rules.specs.Well.{WellFormed}
use Rattle.rules.proofs.Order.{is_barrier, no_overtaking}
use Rattle.rules.proofs.TurnRule.{named_completes, somebody_named}
use Rattle.rules.proofs.Refusals.{nexus_says}
use Rattle.records.specs.Numbers.{attribute_from}
use Rattle.records.specs.Tables.{report_size, count_in, state_of, GoodTable}
use Rattle.records.specs.Events.{event_bytes}
use Rattle.records.proofs.GoodSays.{good_table_says}
use Rattle.records.proofs.EventsSay.{event_bytes_back}
use Rattle.history.specs.History.{nobody, is_done}
use Rattle.operations.specs.Operations.{named}
use Rattle.operations.proofs.Names.{named_good}
use Rattle.rules.specs.Types.{Task, Finish, Event, Command, Completion, Management, Condition, Done, Named}
use Rattle.numbers.specs.declared.NamedTurn.{NamedTurn}
use Rattle.numbers.specs.Boundary.{turn_in_numbers, turn_for}
use Rattle.demands.specs.Seen.{kind_of, event_name, record_name, task_at, attribute_at}
use Rattle.demands.specs.Demands.{number, Reaches}
use Rattle.demands.proofs.Reading.{event_reads, any_at, count_is, task_is, clear_is}
use Rattle.demands.proofs.Refused.{reason, reached, demand1}

-- behind a HEAD OF QUEUE or ORDERED task no SIMPLE or ORDERED one is enabled
overtakes :
    (s : State) (i j : ℕ) → WellFormed s → j < i → i < length s.tasks → enabled_plain (get_or s.tasks i nobody) ≡ true
    → is_barrier (get_or s.tasks j nobody).attribute ≡ true → ⊥
overtakes s i j w l h e b =
    let ts = s.tasks in
    let none = no_overtaking s (take j ts) (get_or ts j nobody) (drop (suc j) ts) w (split_at ts j nobody (omega arith)) b in
    let there : get_or (drop (suc j) ts) (i - suc j) nobody ≡ get_or ts i nobody =
    get_or-drop (suc j) ts (i - suc j) nobody ∙ ap (λ k. get_or ts k nobody) (let z : suc j + (i - suc j) ≡ i = omega arith in z)
    in
    not_both e (ap enabled_plain (sym there) ∙ any_at enabled_plain nobody (drop (suc j) ts) (i - suc j) none (simp length-drop (omega arith)))

-- The accident -------------------------------------------------------------------------------------------------------------------------------

module _ (t r e : List ℕ) (done : number t r e ≡ 0) (completes : kind_of e ≡ 2) where
  -- none of the tasks that the completion names waits
  not_waiting :
      (v : Event) → Reaches t r e v
      → any (λ (u : Task). same (event_name e).nexus (event_name e).tag u && not (enabled_task u)) (state_of t).tasks ≡ false
  not_waiting (Command c) h = absurd (omega (arith, completes, (event_reads e (Some (Command c)) h.event).0))
  not_waiting (Completion n g f) h =
      let names = (event_reads e (Some (Completion n g f)) h.event).1 in
      split (any (λ (u : Task). same (event_name e).nexus (event_name e).tag u && not (enabled_task u)) (state_of t).tasks)
      (λ y.
      let waits : Waits (state_of t) (Completion n g f) =
      not_enabled (ap (λ (k : Named). any (λ (u : Task). same k.nexus k.tag u && not (enabled_task u)) (state_of t).tasks) (sym names) ∙ y)
      in
      absurd (omega (arith, done, (demand1.not_enabled t r e).1 (Completion n g f, h, waits))))
      (λ y. y)
  not_waiting (Management n f) h = absurd (omega (arith, completes, event_reads e (Some (Management n f)) h.event))
  not_waiting (Condition c) h = absurd (omega (arith, completes, event_reads e (Some (Condition c)) h.event))

  enabled_there : (v : Event) → Reaches t r e v → (i : ℕ) → i < count_in t → record_name (task_at t i) ≡ event_name e → enabled_task (get_or (state_of t).tasks i nobody) ≡ true
  enabled_there v h i l q =
      let u = get_or (state_of t).tasks i nobody in
      let is = task_is t i l in
      let here : same (event_name e).nexus (event_name e).tag u ≡ true =
      rw (
        eq-eqb u.nexus (event_name e).nexus (ap (λ (x : Task). x.nexus) is ∙ ap (λ (k : Named). k.nexus) q),
        eq-eqb u.tag (event_name e).tag (ap (λ (x : Task). x.tag) is ∙ ap (λ (k : Named). k.tag) q),
      )
      in
      not-false _
      (and-false _ (not (enabled_task u))
      (any_at (λ (u : Task). same (event_name e).nexus (event_name e).tag u && not (enabled_task u)) nobody (state_of t).tasks i (not_waiting v h)
      (omega (arith, count_is t)))
      here)

  -- RULES 2.3 and 2.4, no read overtakes a write: a COMPLETION that is answered 0, of the SIMPLE or ORDERED task at place i, means that no older record
  -- is HEAD OF QUEUE or ORDERED
  pub no_older_barrier :
      (i j : ℕ) → i < count_in t → record_name (task_at t i) ≡ event_name e → (attribute_at t i ≡ 0) ⊎ (attribute_at t i ≡ 2) → j < i
      → (attribute_at t j ≡ 1 → ⊥) × (attribute_at t j ≡ 2 → ⊥)
  no_older_barrier i j l q a k =
      let h = reason t r e 0 done in
      let plain : enabled_plain (get_or (state_of t).tasks i nobody) ≡ true =
      rw (enabled_there h.0 h.1 i l q, and_on, ap (λ (x : Task). x.attribute) (task_is t i l)) (is_plain_lem a)
      in
      let stops : is_barrier (attribute_from (attribute_at t j)) ≡ true → ⊥ =
      λ b.
      overtakes (state_of t) i j h.1.table.well k (omega (arith, count_is t)) plain
      (ap (λ (x : Task). is_barrier x.attribute) (task_is t j (omega arith)) ∙ b)
      in
      (λ z. stops (rw z), λ z. stops (rw z))
    where
      is_plain_lem : (attribute_at t i ≡ 0) ⊎ (attribute_at t i ≡ 2) → is_plain (attribute_from (attribute_at t i)) ≡ true
      is_plain_lem (inl z) = rw z
      is_plain_lem (inr z) = rw z

-- Whom name names ----------------------------------------------------------------------------------------------------------------------------

module _ (t : List ℕ) (good : GoodTable t) where
  turn_is : turn_for (named t) ≡ turn_in_numbers Done (turn (state_of t))
  turn_is = ap turn_for (named_good t ((good_table_says t).1 good))

  low_if_done : (v : Event) → answer (state_of t) v ≡ Done → nexus_of v < nexuses
  low_if_done v q =
      split (ltb (nexus_of v) nexuses) (λ y. ltb-true (nexus_of v) nexuses y)
      (λ y. not_both (ap is_done q) (ap is_done ((nexus_says (state_of t) v).1 (ltb-false (nexus_of v) nexuses y))))

  done_by :
      (r : List ℕ) (f : Finish) → length r ≡ report_size → (u : Option Named) → turn (state_of t) ≡ u → (turn_in_numbers Done u).found ≡ true
      → number t r (event_bytes (Completion (turn_in_numbers Done u).nexus (turn_in_numbers Done u).tag f)) ≡ 0
  done_by r f l None e q = not_both q refl
  done_by r f l (Some x) e q =
      let v = Completion x.nexus x.tag f in
      let d = named_completes (state_of t) x.nexus x.tag f good.well (ap (is_named x.nexus x.tag) e ∙ self x) in
      reached t r (event_bytes v) v
      (record { table = good; report = l; event = event_bytes_back v; nexus = low_if_done v d })
      Done
      d
    where
      self : (x : Named) → is_named x.nexus x.tag (Some x) ≡ true
      self x = rw (eq-eqb x.nexus x.nexus refl, eq-eqb x.tag x.tag refl)

  -- whom name names can be completed, with any of the four statuses: apply answers 0
  pub named_can_complete :
      (r : List ℕ) (f : Finish) → length r ≡ report_size → (turn_for (named t)).found ≡ true
      → number t r (event_bytes (Completion (turn_for (named t)).nexus (turn_for (named t)).tag f)) ≡ 0
  named_can_complete r f l =
      subst
      (λ (u : NamedTurn). u.found ≡ true → number t r (event_bytes (Completion u.nexus u.tag f)) ≡ 0)
      (sym turn_is)
      (done_by r f l (turn (state_of t)) refl)

  -- without ACA a table with tasks names somebody
  pub somebody_is_named : get_or t aca_offset 0 ≡ 0 → 1 ≤ count_in t → (turn_for (named t)).found ≡ true
  somebody_is_named c n = ap (λ (u : NamedTurn). u.found) turn_is ∙ go (turn (state_of t)) refl
    where
      go : (u : Option Named) → turn (state_of t) ≡ u → (turn_in_numbers Done u).found ≡ true
      go None e =
          absurd
          (somebody_named (state_of t) good.well (clear_is t c)
          (λ z. omega (arith, count_is t, ap length z))
          e)
      go (Some x) e = refl
