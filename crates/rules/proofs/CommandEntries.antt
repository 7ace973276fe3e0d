-- Laws of a command's entry, for every state: the overlapped command (check 1), the bad attribute (check 4) and the full task set (check 5).
use Rattle.std.specs.Prelude.{Some, None}
use Prim.Native.Nat.{ℕ, ◌<◌}
use mathlib.Core.Bool.{Bool, true, false, cond, ◌&&◌, not}
use mathlib.Core.Path.{◌≡◌, refl, ap, ◌∙◌}
use mathlib.Core.List.{List, [], ◌∷◌, map, append-nil}
use mathlib.Core.Logic.{◌⊎◌, inl, inr}
use native.Mathlib.Omega.{arith}
use lib.Dec.{eqb, ltb}
use lib.ListN.{length}
use borrow.Author.Tests.{lt-ltb, le-leb, lt-leb}
use Rattle.laws.specs.Lists.{any, passing}
use Rattle.laws.proofs.Bools.{not_both, cases}
use Rattle.laws.proofs.Lists.{any_never, map_alike}
use Rattle.rules.specs.Types.{Task, Entry, Command, Qerr, EndNone, EndAll, EndNexus, Policy, Allegiance, Bit, Fate, Sense, Ended, Nobody, EndedAtEntry, Done, Ruling, Changes}
use Rattle.rules.specs.Tasks.{places, nexuses, aca_task, of_nexus, same, restate}
use Rattle.rules.specs.Bits.{top, sense_for}
use Rattle.rules.specs.Rulings.{State, is_clear, pending_of, end_if, kept, fate_by_qerr, answer_of, ruled, ended_from, report_of, task_name}
use Rattle.rules.specs.Rules.{sense, ended_with, check_condition, check2, bit_to_report, bad_attribute, check5, by_checks, enter, rule_for, ruling, step, answer, report}
use Rattle.rules.specs.Well.{WellFormed, states_fit}
use Rattle.rules.specs.Attentions.{ends_others}
use Rattle.rules.proofs.Fates.{is_ends, gone, all_stay, none_ends}
use Rattle.rules.proofs.Distinct.{any_restate}
use Rattle.rules.proofs.Settled.{settle_settled}
use Rattle.rules.proofs.Cases.{stop, check_cases, failing_cases}
use Rattle.rules.proofs.WellSays.{says_tested}
use Rattle.rules.proofs.Telling.{every_bit}
use Rattle.rules.proofs.AtEntry.{fate_at_entry, aca_at_entry, refused_with_02, names_left}

-- Overlapped -------------------------------------------------------------------------------------------------------------------------------

-- RULES 5.2, check 1: a command from nexus 0 to 7 whose nexus and tag a task of the table has
pub record Overlapped (s : State) (c : Entry) : Type 0 where
  pub low : c.nexus < nexuses
  pub here : any (same c.nexus c.tag) s.tasks ≡ true

-- RULES 5.2: status and sense
pub overlapped_answer : (s : State) (c : Entry) → Overlapped s c → answer s (Command c) ≡ EndedAtEntry 0x02 (sense 0xB 0x4E 0x00)
unfolding answer ruling rule_for enter
overlapped_answer s c o = rw (lt-ltb c.nexus nexuses o.low, o.here)

-- RULES 5.2: no task of that nexus is left
pub overlapped_leaves_none : (s : State) (c : Entry) → Overlapped s c → any (of_nexus c.nexus) (step s (Command c)).tasks ≡ false
unfolding step
overlapped_leaves_none s c o =
    ap (any (of_nexus c.nexus)) (refused_with_02 s c _ (overlapped_answer s c o)).tasks
    ∙ any_restate (of_nexus c.nexus) (λ t st. refl) s.header.aca (aca_at_entry s c) (kept (map (fate_at_entry s c) s.tasks) s.tasks)
    ∙ gone (of_nexus c.nexus) (fate_at_entry s c) s.tasks (any_never _ s.tasks (λ t. rw o.here (ends (of_nexus c.nexus t) _)))
  where
    ends : (b : Bool) (f : Fate) → b && not (is_ends (cond b (Some 0xFF) f)) ≡ false
    ends true f = refl
    ends false f = refl

-- no task of another nexus ends: the report names none, and all of them stay, in their order
pub record EndsNoOther (s : State) (c : Entry) : Type 0 where
  pub reported : any (λ (r : Ended). not (eqb r.nexus c.nexus)) (report s (Command c)) ≡ false
  pub stay : map task_name (step s (Command c)).tasks ≡ map task_name (passing (λ t. not (of_nexus c.nexus t)) s.tasks)

own_reported :
    (n : ℕ) (ts : List Task) → any (λ (r : Ended). not (eqb r.nexus n)) (ended_from (map (λ (t : Task). end_if (of_nexus n t) 0xFF) ts) ts) ≡ false
own_reported n [] = refl
own_reported n (t ∷ ts) = go (of_nexus n t) refl (own_reported n ts)
  where
    go :
        (b : Bool) → of_nexus n t ≡ b
        → any (λ (r : Ended). not (eqb r.nexus n)) (ended_from (map (λ (t : Task). end_if (of_nexus n t) 0xFF) ts) ts) ≡ false
        → any (λ (r : Ended). not (eqb r.nexus n)) (ended_from (end_if b 0xFF ∷ map (λ (t : Task). end_if (of_nexus n t) 0xFF) ts) (t ∷ ts)) ≡ false
    go true e rest = rw e rest
    go false e rest = rest

-- where QERR ends no task of another nexus: in an ACA, where it is not applied, or if it is not 01b
spared : (a : Allegiance) (q : Qerr) (p : Policy) (n : ℕ) (t : Task) → is_clear a && ends_others q ≡ false
    → cond (of_nexus n t) (Some 0xFF) (cond (is_clear a) (fate_by_qerr q p n t) None) ≡ end_if (of_nexus n t) 0xFF
spared a q p n t e = go a q (of_nexus n t) refl e
  where
    go : (a : Allegiance) (q : Qerr) (b : Bool) → of_nexus n t ≡ b → is_clear a && ends_others q ≡ false
        → cond b (Some 0xFF) (cond (is_clear a) (fate_by_qerr q p n t) None) ≡ end_if b 0xFF
    go a q true k e = refl
    go (Some f) q false k e = refl
    go None EndNone false k e = refl
    go None EndAll false k e = not_both refl e
    go None EndNexus false k e = rw k

-- RULES 5.2 and 5.18
pub overlapped_ends_no_other :
    (s : State) (c : Entry) → Overlapped s c → is_clear s.header.aca && ends_others s.header.policy.qerr ≡ false → EndsNoOther s c
unfolding step report
overlapped_ends_no_other s c o e =
    let f = refused_with_02 s c _ (overlapped_answer s c o) in
    record {
      reported = rw (f.fates, own) (own_reported c.nexus s.tasks);
      stay = names_left s c _ (overlapped_answer s c o) own;
    }
  where
    own : map (fate_at_entry s c) s.tasks ≡ map (λ (t : Task). end_if (of_nexus c.nexus t) 0xFF) s.tasks
    own =
        map_alike (fate_at_entry s c) (λ (t : Task). end_if (of_nexus c.nexus t) 0xFF)
        (λ t. rw o.here (spared s.header.aca s.header.policy.qerr s.header.policy c.nexus t e))
        s.tasks

-- Attribute --------------------------------------------------------------------------------------------------------------------------------

restate_same : (a : Allegiance) (ts : List Task) → states_fit a ts ≡ true → restate a a ts ≡ ts
restate_same None ts e = settle_settled [] ts e
restate_same (Some f) ts e = refl

-- a check with no sweep and no bit of its own leaves a well-formed state as it was under QERR 00b and with NACA 0, and nobody is reported
nothing_changes :
    (s : State) (c : Entry) (se : Sense) → WellFormed s → s.header.policy.qerr ≡ EndNone → c.naca ≡ false
    → (ruled s (check_condition s.header c se Nobody None) ≡ s) × (report_of s (check_condition s.header c se Nobody None) ≡ [])
nothing_changes s c se w q n =
    failing_cases (λ d. (ruled s (Changes (EndedAtEntry 0x02 se) d) ≡ s) × (report_of s (Changes (EndedAtEntry 0x02 se) d) ≡ [])) s.header c Nobody None
    (λ a. (
      rw (q, n, all_stay s.tasks, append-nil s.tasks, settle_settled [] s.tasks (rw a at (says_tested s w).states), ← w.counted, a),
      rw q (none_ends s.tasks),
    ))
    (λ f a. (
      rw (all_stay s.tasks, append-nil s.tasks, restate_same s.header.aca s.tasks (says_tested s w).states, ← w.counted),
      none_ends s.tasks,
    ))

key_of : {st : ℕ} {se : Sense} → EndedAtEntry st se ≡ EndedAtEntry 0x02 (sense 0x5 0x49 0x00) → se.key ≡ 0x5
key_of {st} {se} e = let z : se ≡ sense 0x5 0x49 0x00 = cc in ap (λ x. x.key) z

-- RULES 3.2 and 3.3: the key
key_six : (b : Bit) → (sense_for b).key ≡ 0x6
key_six = every_bit (λ b. (sense_for b).key ≡ 0x6) refl refl refl refl refl

abbrev Unchanged : State → Ruling → Type 0
Unchanged s r = answer_of r ≡ EndedAtEntry 0x02 (sense 0x5 0x49 0x00) → (ruled s r ≡ s) × (report_of s r ≡ [])

-- RULES 5.11, check 4: a command that is answered so changes nothing under QERR 00b and with NACA 0
pub bad_attribute_changes_nothing :
    (s : State) (c : Entry) → WellFormed s → s.header.policy.qerr ≡ EndNone → c.naca ≡ false
    → answer s (Command c) ≡ EndedAtEntry 0x02 (sense 0x5 0x49 0x00)
    → (step s (Command c) ≡ s) × (report s (Command c) ≡ [])
unfolding answer step report ruling rule_for
bad_attribute_changes_nothing s c w q n =
    cases (Unchanged s) (ltb c.nexus nexuses)
    (λ l.
    check_cases (Unchanged s) s.header c (any (same c.nexus c.tag) s.tasks) (any aca_task s.tasks) (pending_of s c.nexus)
    (stop (λ y e. absurd (omega (arith, key_of e))) λ n1.
    stop (λ f a y k e. (refl, refl), λ f a y e. (refl, refl)) λ n2.
    stop (λ b y e. absurd (omega (arith, key_of e, key_six b))) λ n3.
    stop (λ y e. nothing_changes s c (sense 0x5 0x49 0x00) w q n) λ n4.
    stop (λ y e. (refl, refl)) λ n5 e.
    absurd (let z : ◌≡◌ {A = ℕ} 0 1 = cc in omega arith)))
    (λ l e. (refl, refl))

-- Full -------------------------------------------------------------------------------------------------------------------------------------

-- a command from nexus 0 to 7 that checks 1 to 4 let pass
pub record Passes (s : State) (c : Entry) : Type 0 where
  pub low : c.nexus < nexuses
  pub not_overlapped : any (same c.nexus c.tag) s.tasks ≡ false
  pub aca_lets_it : check2 s.header.aca c (any aca_task s.tasks) ≡ None
  pub no_attention : (c.exempt ≡ true) ⊎ (top (pending_of s c.nexus) ≡ None)
  pub attribute_good : bad_attribute s.header.aca c.asked ≡ false

passed_ruling :
    (s : State) (c : Entry) → Passes s c
    → ruling s (Command c) ≡ by_checks (check5 s.header ∷ []) s.header c
unfolding ruling rule_for enter
passed_ruling s c p =
    rw (lt-ltb c.nexus nexuses p.low, p.not_overlapped, p.aca_lets_it, quiet p.no_attention, p.attribute_good)
  where
    quiet : (c.exempt ≡ true) ⊎ (top (pending_of s c.nexus) ≡ None) → bit_to_report c (pending_of s c.nexus) ≡ None
    quiet (inl e) = rw e
    quiet (inr e) = cases (λ o. o ≡ None) c.exempt (λ h. refl) (λ h. e)

-- RULES 5.12 and 5.14, checks 5 and 6: full at 64 and at no fewer
pub full_at_64_only :
    (s : State) (c : Entry) → WellFormed s → Passes s c
    → (length s.tasks ≡ places → answer s (Command c) ≡ ended_with 0x28) × (length s.tasks < places → answer s (Command c) ≡ Done)
unfolding answer
full_at_64_only s c w p = (
  λ h. rw (passed_ruling s c p, le-leb places s.header.count (omega (arith, w.counted))),
  λ h. rw (passed_ruling s c p, lt-leb places s.header.count (omega (arith, w.counted))),
)
