-- The mission's demand 1: every call is answered, each number stands exactly where it applies, and what is refused changes nothing.
use Rattle.std.specs.Prelude.{Option, Some, None}
use Prim.Native.Nat.{ℕ, zero, suc, ◌≤◌}
use mathlib.Core.Bool.{true, false}
use mathlib.Core.Path.{◌≡◌, refl, ap, sym, ◌∙◌}
use mathlib.Core.List.{List}
use native.Mathlib.Omega.{arith}
use lib.Dec.{eqb}
use lib.ListN.{length}
use borrow.Author.Tests.{eqb-true, eqb-false}
use Rattle.laws.proofs.Bools.{split, not_both}
use Rattle.rules.specs.Tasks.{nexuses}
use Rattle.rules.specs.Rulings.{State, turn, answer_of}
use Rattle.rules.specs.Rules.{nexus_of, ruling, answer}
use Rattle.rules.specs.Refusals.{Absent, Waits, EndsAtEntry, RejectedBy}
use Rattle.rules.proofs.Ruled.{answer_ruled}
use Rattle.rules.proofs.Refusals.{nexus_says, absent_says, waits_says, entry_says, rejected_says, answered_by}
use Rattle.records.specs.Numbers.{policy_fits}
use Rattle.records.specs.Tables.{table_size, report_size, state_of, GoodTable, good_table}
use Rattle.records.specs.Events.{event_of}
use Rattle.records.proofs.GoodSays.{good_table_says}
use Rattle.records.proofs.EventsSay.{bad_event_says}
use Rattle.operations.proofs.Looked.{no_table_lem, no_report, no_event, no_nexus, ruled_on, outcome_cases}
use Rattle.operations.proofs.Starts.{no_room, no_policy, begun, started_cases}
use Rattle.operations.proofs.Names.{named_bad, named_good}
use Rattle.operations.proofs.Answered.{number_of}
use Rattle.operations.proofs.Buffers.{outcome_unchanged, outcome_emptied}
use Rattle.operations.specs.Operations.{Outcome, carried, outcome, named}
use Rattle.rules.specs.Types.{Event, Answer, Done, BadTable, BadReport, BadEvent, NexusAboveSeven, NoSuchTask, NotEnabled, EndedAtEntry, Rejected, BadPolicy, Named}
use Rattle.numbers.specs.Boundary.{turn_in_numbers, turn_for, start_number}
use Rattle.demands.specs.Demands.{Demand1, number, name_number, Reaches, Fields}
use Rattle.demands.proofs.Fielded.{refused_fields, ruled_fields}

not_good : (t : List ℕ) → (GoodTable t → ⊥) → good_table t ≡ false
not_good t n = split (good_table t) (λ g. absurd (n ((good_table_says t).0 g))) (λ g. g)

-- The numbers -----------------------------------------------------------------------------------------------------------------------------------

module _ (t r e : List ℕ) where
  -- the event reaches the rules, and they answer it so
  abbrev pub RuledBy : (State → Event → Type 0) → Type 0
  RuledBy Q = (v : Event) × Reaches t r e v × Q (state_of t) v

  -- what an answer with this number says of the call; no other number is given
  abbrev pub Reason : ℕ → Type 0
  Reason zero = (v : Event) × Reaches t r e v
  Reason (suc zero) = GoodTable t → ⊥
  Reason (suc (suc zero)) = GoodTable t × (length r ≡ report_size → ⊥)
  Reason (suc (suc (suc zero))) = GoodTable t × (length r ≡ report_size) × (event_of e ≡ None)
  Reason (suc (suc (suc (suc zero)))) = GoodTable t × (length r ≡ report_size) × ((v : Event) × (event_of e ≡ Some v) × (nexuses ≤ nexus_of v))
  Reason (suc (suc (suc (suc (suc zero))))) = RuledBy Absent
  Reason (suc (suc (suc (suc (suc (suc zero)))))) = RuledBy Waits
  Reason (suc (suc (suc (suc (suc (suc (suc zero))))))) = RuledBy EndsAtEntry
  Reason (suc (suc (suc (suc (suc (suc (suc (suc zero)))))))) = RuledBy RejectedBy
  Reason (suc (suc (suc (suc (suc (suc (suc (suc (suc n))))))))) = ⊥

  ruled_reason : (v : Event) → Reaches t r e v → (a : Answer) → answer (state_of t) v ≡ a → Reason (number_of a)
  ruled_reason v h Done q = (v, h)
  ruled_reason v h BadTable q = absurd ((answered_by (state_of t) v).0 q)
  ruled_reason v h BadReport q = absurd ((answered_by (state_of t) v).1 q)
  ruled_reason v h BadEvent q = absurd ((answered_by (state_of t) v).2 q)
  ruled_reason v h NexusAboveSeven q = absurd (omega (arith, h.nexus, (nexus_says (state_of t) v).0 q))
  ruled_reason v h NoSuchTask q = (v, h, (absent_says (state_of t) v h.nexus).0 q)
  ruled_reason v h NotEnabled q = (v, h, (waits_says (state_of t) v h.table.well h.nexus).0 q)
  ruled_reason v h (EndedAtEntry st se) q = (v, h, (entry_says (state_of t) v h.table.well h.nexus).0 (st, se, q))
  ruled_reason v h Rejected q = (v, h, (rejected_says (state_of t) v h.nexus).0 q)
  ruled_reason v h BadPolicy q = (answered_by (state_of t) v).3 q

  some_reason : Reason (number t r e)
  some_reason =
      outcome_cases (λ o. Reason (number_of o.answer)) t r e (λ n. n) (λ w l. (w, l)) (λ w l u. (w, l, u))
      (λ w l v u h. (w, l, (v, u, h)))
      (λ w l v u h. ruled_reason v (record { table = w; report = l; event = u; nexus = h }) (answer_of (ruling (state_of t) v))
      (answer_ruled (state_of t) v))

  pub reason : (n : ℕ) → number t r e ≡ n → Reason n
  reason n q = rw q at some_reason

  at_most_eight : (n : ℕ) → Reason n → n ≤ 8
  at_most_eight zero q = omega arith
  at_most_eight (suc zero) q = omega arith
  at_most_eight (suc (suc zero)) q = omega arith
  at_most_eight (suc (suc (suc zero))) q = omega arith
  at_most_eight (suc (suc (suc (suc zero)))) q = omega arith
  at_most_eight (suc (suc (suc (suc (suc zero))))) q = omega arith
  at_most_eight (suc (suc (suc (suc (suc (suc zero)))))) q = omega arith
  at_most_eight (suc (suc (suc (suc (suc (suc (suc zero))))))) q = omega arith
  at_most_eight (suc (suc (suc (suc (suc (suc (suc (suc zero)))))))) q = omega arith
  at_most_eight (suc (suc (suc (suc (suc (suc (suc (suc (suc n))))))))) q = absurd q

  -- what the rules say is carried out
  pub carried_out : (v : Event) → Reaches t r e v → outcome t r e ≡ carried t r (state_of t) (ruling (state_of t) v)
  carried_out v h = ruled_on t r e ((good_table_says t).1 h.table) h.report v h.event

  -- what the rules answer is the number
  pub reached : (v : Event) → Reaches t r e v → (a : Answer) → answer (state_of t) v ≡ a → number t r e ≡ number_of a
  reached v h a q =
      ap (λ (o : Outcome). number_of o.answer) (carried_out v h)
      ∙ ap number_of (sym (answer_ruled (state_of t) v) ∙ q)

-- Start and name --------------------------------------------------------------------------------------------------------------------------------

turn_number : (a : Answer) (u : Option Named) → (turn_in_numbers a u).answer ≡ number_of a
turn_number a None = refl
turn_number a (Some n) = refl

turn_nothing : (a : Answer) (u : Option Named) → (turn_in_numbers a u).found ≡ false → ((turn_in_numbers a u).nexus ≡ 0) × ((turn_in_numbers a u).tag ≡ 0)
turn_nothing a None q = (refl, refl)
turn_nothing a (Some n) q = not_both refl q

module _ (t : List ℕ) where
  good_named : GoodTable t → name_number t ≡ 0
  good_named w = ap (λ n. (turn_for n).answer) (named_good t ((good_table_says t).1 w)) ∙ turn_number Done (turn (state_of t))

  bad_named : (GoodTable t → ⊥) → turn_for (named t) ≡ turn_in_numbers BadTable None
  bad_named n = ap turn_for (named_bad t (not_good t n))

  good_or_bad : {P : Type 0} → (GoodTable t → P) → ((GoodTable t → ⊥) → P) → P
  good_or_bad f g = split (good_table t) (λ h. f ((good_table_says t).0 h)) (λ h. g (λ w. not_both ((good_table_says t).1 w) h))

  name_is_one : name_number t ≡ 1 → GoodTable t → ⊥
  name_is_one q w = omega (arith, good_named w)

  name_is_zero : name_number t ≡ 0 → GoodTable t
  name_is_zero q = good_or_bad (λ w. w) (λ n. absurd (omega (arith, ap (λ u. u.answer) (bad_named n))))

start_is_zero : (t : List ℕ) (p : ℕ) → start_number t p ≡ 0 → (length t ≡ table_size) × (policy_fits p ≡ true)
start_is_zero t p q =
    split (eqb (length t) table_size)
    (λ l. (
      eqb-true (length t) table_size l,
      split (policy_fits p) (λ f. f) (λ f. absurd (omega (arith, zero_not f (eqb-true (length t) table_size l)))),
    ))
    (λ l. absurd (omega (arith, one_not (eqb-false (length t) table_size l))))
  where
    one_not : (length t ≡ table_size → ⊥) → start_number t p ≡ 1
    one_not n = rw (start_number, no_room t p n)

    zero_not : policy_fits p ≡ false → length t ≡ table_size → start_number t p ≡ 9
    zero_not f l = rw (start_number, no_policy t p l f)

-- The demand ------------------------------------------------------------------------------------------------------------------------------------

pub demand1 : Demand1
demand1 =
    record {
      some_answer = λ t r e. at_most_eight t r e (number t r e) (some_reason t r e);
      bad_table = λ t r e. (reason t r e 1, λ n. rw (number, no_table_lem t r e (not_good t n)));
      bad_report = λ t r e. (reason t r e 2, λ h. rw (number, no_report t r e ((good_table_says t).1 h.0) h.1));
      bad_event = λ t r e. (reason t r e 3, λ h. rw (number, no_event t r e ((good_table_says t).1 h.0) h.1 h.2));
      no_event = bad_event_says;
      bad_nexus =
          λ t r e. (
            reason t r e 4,
            λ h. let k = h.2 in rw (number, no_nexus t r e ((good_table_says t).1 h.0) h.1 k.0 k.1 k.2),
          );
      no_such_task =
          λ t r e. (
            reason t r e 5,
            λ h. reached t r e h.0 h.1 NoSuchTask ((absent_says (state_of t) h.0 h.1.nexus).1 h.2),
          );
      not_enabled =
          λ t r e. (
            reason t r e 6,
            λ h. reached t r e h.0 h.1 NotEnabled ((waits_says (state_of t) h.0 h.1.table.well h.1.nexus).1 h.2),
          );
      at_entry =
          λ t r e. (
            reason t r e 7,
            λ h.
                let a = (entry_says (state_of t) h.0 h.1.table.well h.1.nexus).1 h.2 in
                reached t r e h.0 h.1 (EndedAtEntry a.0 a.1) a.2,
          );
      rejected =
          λ t r e. (
            reason t r e 8,
            λ h. reached t r e h.0 h.1 Rejected ((rejected_says (state_of t) h.0 h.1.nexus).1 h.2),
          );
      unchanged = outcome_unchanged;
      emptied = outcome_emptied;
      fields =
          λ t r e.
          outcome_cases Fields t r e (λ n. refused_fields BadTable 1 t r refl (omega arith) (omega arith))
          (λ w l. refused_fields BadReport 2 t r refl (omega arith) (omega arith))
          (λ w l u. refused_fields BadEvent 3 t r refl (omega arith) (omega arith))
          (λ w l v u h. refused_fields NexusAboveSeven 4 t r refl (omega arith) (omega arith))
          (λ w l v u h. ruled_fields (state_of t) v t r w.well.few);
      start_length =
          λ t p. (
            started_cases (λ o. number_of o.answer ≡ 1 → length t ≡ table_size → ⊥) t p (λ n q. n) (λ l f q. absurd (omega arith))
                (λ q. absurd (omega arith)),
            λ n. rw (start_number, no_room t p n),
          );
      start_policy =
          λ t p. (
            started_cases (λ o. number_of o.answer ≡ 9 → (length t ≡ table_size) × (policy_fits p ≡ false)) t p (λ n q. absurd (omega arith))
                (λ l f q. (l, f))
                (λ q. absurd (omega arith)),
            λ h. rw (start_number, no_policy t p h.0 h.1),
          );
      start_done = λ t p. (start_is_zero t p, λ h. rw (start_number, begun t p h.0 h.1));
      start_unchanged =
          λ t p.
          started_cases (λ o. 1 ≤ number_of o.answer → o.table ≡ t) t p (λ n q. refl) (λ l f q. refl) (λ q. absurd (omega arith));
      name_table = λ t. (name_is_one t, λ n. ap (λ u. u.answer) (bad_named t n));
      name_done = λ t. (name_is_zero t, good_named t);
      name_found = λ t q. ap (λ u. u.found) (bad_named t (name_is_one t q));
      name_nothing = λ t. turn_nothing (named t).answer (named t).turn;
    }
