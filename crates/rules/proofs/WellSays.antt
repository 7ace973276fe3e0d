-- The test of a well-formed state holds exactly if the statement does (RULES 10); and every event keeps them.
use Rattle.std.specs.Prelude.{Some, None}
use Prim.Native.Nat.{ℕ, ◌<◌}
use mathlib.Core.Bool.{Bool, true, false, ◌||◌, not}
use mathlib.Core.Path.{◌≡◌, refl, ap, sym, ◌∙◌}
use mathlib.Core.List.{List, [], ◌∷◌, ◌++◌, map}
use mathlib.Core.Logic.{◌↔◌}
use lib.Dec.{eqb}
use borrow.Author.Tests.{eqb-true, eq-eqb, lt-ltb, ltb-true, leb-false, lt-leb, not-true}
use Rattle.laws.specs.Lists.{any, is_nil}
use Rattle.laws.proofs.Bools.{and-true, or-false, not_both, split}
use Rattle.laws.proofs.Lists.{any_suffix}
use Rattle.rules.specs.Types.{Attribute, Simple, HeadOfQueue, Ordered, Aca, TaskState, Dormant, Enabled, Blocked, Task, Event, Allegiance}
use Rattle.rules.specs.Tasks.{nexuses, is_aca, is_enabled, same, holds_back, eligible, enabled_if}
use Rattle.rules.specs.Rulings.{State}
use Rattle.rules.specs.Rules.{step}
use Rattle.rules.specs.Well.{Stands, FitsWithoutAca, FitsInAca, WellFormed, same_state, settled_task, held_task, settled, held, states_fit, fault_fits, distinct, too_high, well_formed}
use Rattle.rules.proofs.Distinct.{same_parts}
use Rattle.rules.proofs.Settled.{is_aca_lem, same_state_lem, SettledHead, settled_cons}
use Rattle.rules.proofs.Held.{held_cons, held_aca, held_enabled}
use Rattle.rules.proofs.WellKept.{Tested, to_tested, from_tested}
use Rattle.rules.proofs.FairRulings.{tested_ruling}

-- Every place of a list --------------------------------------------------------------------------------------------------------------------

further : {ts l : List Task} (x : Task) → ts ≡ l → x ∷ ts ≡ x ∷ l
further x e = ap {B = List Task} (λ k. x ∷ k) e

any_places :
    (p : Task → Bool) (ts : List Task)
    → ((older : List Task) (t : Task) (younger : List Task) → Stands ts older t younger → p t ≡ false) → any p ts ≡ false
any_places p [] h = refl
any_places p (x ∷ xs) h = rw (h [] x xs refl) (any_places p xs (λ o t y e. h (x ∷ o) t y (further x e)))

any_place : (p : Task → Bool) (ts older : List Task) (t : Task) (younger : List Task) → any p ts ≡ false → Stands ts older t younger → p t ≡ false
any_place p ts older t younger e w = (or-false (p t) (any p younger) (any_suffix p older (t ∷ younger) (rw w at e))).0

-- the attributes passed on the way through a list, and those of the list, hold back the same
behind : List Task → List Attribute → List Attribute
behind [] acc = acc
behind (t ∷ ts) acc = behind ts (t.attribute ∷ acc)

or_swap : (a b c : Bool) → (a || b) || c ≡ b || (a || c)
or_swap true true c = refl
or_swap true false c = refl
or_swap false true c = refl
or_swap false false c = refl

abbrev pub attributes : List Task → List Attribute
attributes ts = map (λ (u : Task). u.attribute) ts

any_behind : (q : Attribute → Bool) (ts : List Task) (acc : List Attribute) → any q (behind ts acc) ≡ any q acc || any q (attributes ts)
unfolding behind
any_behind q [] acc = go (any q acc)
  where
    go : (b : Bool) → b ≡ b || false
    go true = refl
    go false = refl
any_behind q (t ∷ ts) acc =
    any_behind q ts (t.attribute ∷ acc) ∙ or_swap (q t.attribute) (any q acc) (any q (attributes ts))

eligible_behind : (ts : List Task) (a : Attribute) → eligible (behind ts []) a ≡ eligible (attributes ts) a
eligible_behind ts a = ap not (any_behind (holds_back a) ts [])

-- Without ACA ----------------------------------------------------------------------------------------------------------------------------

settled_place :
    (acc : List Attribute) (older : List Task) (t : Task) (younger : List Task) → settled acc (older ++ (t ∷ younger)) ≡ true
    → SettledHead (behind older acc) t younger
unfolding behind
settled_place acc [] t younger e = settled_cons acc t younger e
settled_place acc (u ∷ us) t younger e =
    settled_place (u.attribute ∷ acc) us t younger (settled_cons acc u (us ++ (t ∷ younger)) e).rest

enabled_means : (b : Bool) → enabled_if b ≡ Enabled → b ≡ true
enabled_means true e = refl
enabled_means false e = ap is_enabled e

never_blocked : (b : Bool) → enabled_if b ≡ Blocked → ⊥
never_blocked true e = not_both (sym (ap is_enabled e)) refl
never_blocked false e = not_both (ap (same_state Blocked) e) refl

fits_without : (ts older : List Task) (t : Task) (younger : List Task) → settled [] ts ≡ true → Stands ts older t younger → FitsWithoutAca older t
fits_without ts older t younger e w =
    let o = settled_place [] older t younger (rw w at e) in
    let st : t.state ≡ enabled_if (eligible (attributes older) t.attribute) =
    o.state ∙ ap enabled_if (eligible_behind older t.attribute)
    in
    record {
      not_blocked = λ h. never_blocked (eligible (attributes older) t.attribute) (sym st ∙ h);
      not_aca = λ h. not_both (ap is_aca h) o.ordinary;
      enabled_if_eligible = λ h. st ∙ ap enabled_if h;
      enabled_only_if = λ h. enabled_means _ (sym st ∙ h);
      else_dormant =
          λ h.
          st
          ∙ split (eligible (attributes older) t.attribute) (λ (y : eligible (attributes older) t.attribute ≡ true). absurd (h y))
          (λ y. ap enabled_if y);
    }

settled_fits :
    (b : Bool) (older : List Task) (t : Task) → eligible (attributes older) t.attribute ≡ b → FitsWithoutAca older t
    → settled_task b t.attribute t.state ≡ true
settled_fits b older t e f =
    rw (split (is_aca t.attribute) (λ y. absurd (f.not_aca (is_aca_lem t.attribute y))) (λ y. y)) (go b e)
  where
    go : (b : Bool) → eligible (attributes older) t.attribute ≡ b → same_state t.state (enabled_if b) ≡ true
    go true e = rw (f.enabled_if_eligible e)
    go false e = rw (f.else_dormant (λ h. not_both h e))

settled_places :
    (acc : List Attribute) (ts : List Task)
    → ((older : List Task) (t : Task) (younger : List Task) → Stands ts older t younger
    → settled_task (eligible (behind older acc) t.attribute) t.attribute t.state ≡ true)
    → settled acc ts ≡ true
unfolding behind
settled_places acc [] h = refl
settled_places acc (x ∷ xs) h =
    rw (h [] x xs refl) (settled_places (x.attribute ∷ acc) xs (λ o t y e. h (x ∷ o) t y (further x e)))

-- In an ACA ------------------------------------------------------------------------------------------------------------------------------

held_place :
    (f : ℕ) (acc : List Attribute) (older : List Task) (t : Task) (younger : List Task) → held f acc (older ++ (t ∷ younger)) ≡ true
    → held_task (is_nil younger) (eligible (behind older acc) t.attribute) (eqb t.nexus f) t.attribute t.state ≡ true
unfolding behind
held_place f acc [] t younger e = (held_cons f acc t younger e).0
held_place f acc (u ∷ us) t younger e =
    held_place f (u.attribute ∷ acc) us t younger (held_cons f acc u (us ++ (t ∷ younger)) e).1

held_places :
    (f : ℕ) (acc : List Attribute) (ts : List Task)
    → ((older : List Task) (t : Task) (younger : List Task) → Stands ts older t younger
    → held_task (is_nil younger) (eligible (behind older acc) t.attribute) (eqb t.nexus f) t.attribute t.state ≡ true)
    → held f acc ts ≡ true
unfolding behind
held_places f acc [] h = refl
held_places f acc (x ∷ xs) h =
    rw (h [] x xs refl) (held_places f (x.attribute ∷ acc) xs (λ o t y e. h (x ∷ o) t y (further x e)))

nil_is : (ts : List Task) → is_nil ts ≡ true → ts ≡ []
nil_is [] e = refl
nil_is (t ∷ ts) e = not_both e refl

blocked_may : (l m f : Bool) (a : Attribute) → held_task l m f a Blocked ≡ true → m ≡ true
blocked_may l m f Simple e = e
blocked_may l m f HeadOfQueue e = e
blocked_may l m f Ordered e = e
blocked_may l m f Aca e = not_both e refl

fits_in_aca :
    (f : ℕ) (ts older : List Task) (t : Task) (younger : List Task) → held f [] ts ≡ true → Stands ts older t younger
    → FitsInAca f older t younger
fits_in_aca f ts older t younger e w =
    let o :
    held_task (is_nil younger) (eligible (attributes older) t.attribute) (eqb t.nexus f) t.attribute t.state ≡ true =
    rw (eligible_behind older t.attribute) at (held_place f [] older t younger (rw w at e))
    in
    record {
      aca_youngest = λ h. nil_is younger (held_aca _ _ _ t.attribute t.state (ap is_aca h) o).0;
      aca_enabled =
          λ h.
          same_state_lem t.state Enabled
          (and-true (same_state t.state Enabled) (is_nil younger) (and-true _ (eqb t.nexus f) (rw h at o)).0).0;
      aca_faulted = λ h. eqb-true t.nexus f (held_aca _ _ _ t.attribute t.state (ap is_aca h) o).1;
      other_not_enabled =
          λ n h. n (is_aca_lem t.attribute (held_enabled _ _ _ t.attribute t.state (ap is_enabled h) o));
      blocked_eligible = λ h. blocked_may _ _ _ t.attribute (rw h at o);
      head_blocked = λ h. same_state_lem t.state Blocked (and-true _ _ (rw h at o)).0;
    }

held_by :
    (l m f : Bool) (a : Attribute) (st : TaskState) → (a ≡ Aca → l ≡ true) → (a ≡ Aca → st ≡ Enabled) → (a ≡ Aca → f ≡ true)
    → ((a ≡ Aca → ⊥) → st ≡ Enabled → ⊥) → (st ≡ Blocked → m ≡ true) → (a ≡ HeadOfQueue → st ≡ Blocked)
    → held_task l m f a st ≡ true
held_by l m f Aca st p1 p2 p3 p4 p5 p6 = rw (p2 refl, p1 refl, p3 refl)
held_by l m f HeadOfQueue st p1 p2 p3 p4 p5 p6 = rw (p6 refl) (p5 (p6 refl))
held_by l m f Simple Dormant p1 p2 p3 p4 p5 p6 = refl
held_by l m f Simple Enabled p1 p2 p3 p4 p5 p6 = absurd (p4 (λ h. not_both (ap is_aca h) refl) refl)
held_by l m f Simple Blocked p1 p2 p3 p4 p5 p6 = p5 refl
held_by l m f Ordered Dormant p1 p2 p3 p4 p5 p6 = refl
held_by l m f Ordered Enabled p1 p2 p3 p4 p5 p6 = absurd (p4 (λ h. not_both (ap is_aca h) refl) refl)
held_by l m f Ordered Blocked p1 p2 p3 p4 p5 p6 = p5 refl

held_fits :
    (f : ℕ) (older : List Task) (t : Task) (younger : List Task) → FitsInAca f older t younger
    → held_task (is_nil younger) (eligible (behind older []) t.attribute) (eqb t.nexus f) t.attribute t.state ≡ true
held_fits f older t younger h =
    held_by _ _ _ t.attribute t.state (λ a. ap is_nil (h.aca_youngest a)) h.aca_enabled
    (λ a. eq-eqb t.nexus f (h.aca_faulted a))
    h.other_not_enabled
    (λ b. eligible_behind older t.attribute ∙ h.blocked_eligible b)
    h.head_blocked

-- No two tasks share nexus and tag ---------------------------------------------------------------------------------------------------------

distinct_place :
    (older : List Task) (t : Task) (younger : List Task) → distinct (older ++ (t ∷ younger)) ≡ true
    → any (same t.nexus t.tag) younger ≡ false
distinct_place [] t younger e = not-true _ (and-true (not (any (same t.nexus t.tag) younger)) (distinct younger) e).0
distinct_place (u ∷ us) t younger e =
    distinct_place us t younger
    (and-true (not (any (same u.nexus u.tag) (us ++ (t ∷ younger)))) (distinct (us ++ (t ∷ younger))) e).1

distinct_places :
    (ts : List Task)
    → ((older : List Task) (t : Task) (between : List Task) (u : Task) (younger : List Task)
    → Stands ts older t (between ++ (u ∷ younger)) → t.nexus ≡ u.nexus → t.tag ≡ u.tag → ⊥)
    → distinct ts ≡ true
distinct_places [] h = refl
distinct_places (t ∷ ts) h =
    rw (any_places (same t.nexus t.tag) ts
    (λ b u y e.
    split (same t.nexus t.tag u)
    (λ k. let q = same_parts t.nexus t.tag u k in absurd (h [] t b u y (further t e) (sym q.0) (sym q.1)))
    (λ k. k)))
    (distinct_places ts (λ o v b u y e. h (t ∷ o) v b u y (further t e)))

-- The two say the same ---------------------------------------------------------------------------------------------------------------------

fault_says : (a : Allegiance) → fault_fits a ≡ true → (f : ℕ) → a ≡ Some f → f < nexuses
fault_says a e f h = ltb-true f nexuses (rw h at e)

fault_fits_lem : (a : Allegiance) → ((f : ℕ) → a ≡ Some f → f < nexuses) → fault_fits a ≡ true
fault_fits_lem None h = refl
fault_fits_lem (Some f) h = lt-ltb f nexuses (h f refl)

pub tested_says : (s : State) → Tested s → WellFormed s
tested_says s w =
    record {
      counted = w.counted;
      few = w.few;
      fault = fault_says s.header.aca w.fault;
      run = w.run;
      eight = w.eight;
      nexus = λ o t y e. leb-false nexuses t.nexus (any_place too_high s.tasks o t y w.nexuses e);
      apart =
          λ o t b u y e p q.
          not_both (rw (p, q, eq-eqb u.nexus u.nexus refl, eq-eqb u.tag u.tag refl))
          (or-false (same t.nexus t.tag u) (any (same t.nexus t.tag) y)
          (any_suffix (same t.nexus t.tag) b (u ∷ y) (distinct_place o t (b ++ (u ∷ y)) (rw e at w.apart)))
          ).0;
      without_aca = λ h o t y e. fits_without s.tasks o t y (rw h at w.states) e;
      in_an_aca = λ f h o t y e. fits_in_aca f s.tasks o t y (rw h at w.states) e;
    }

states_fit_lem :
    (a : Allegiance) (ts : List Task)
    → (a ≡ None → (older : List Task) (t : Task) (younger : List Task) → Stands ts older t younger → FitsWithoutAca older t)
    → ((f : ℕ) → a ≡ Some f → (older : List Task) (t : Task) (younger : List Task) → Stands ts older t younger
    → FitsInAca f older t younger)
    → states_fit a ts ≡ true
states_fit_lem None ts p q =
    settled_places [] ts
    (λ o t y e. rw (eligible_behind o t.attribute) (settled_fits _ o t refl (p refl o t y e)))
states_fit_lem (Some f) ts p q = held_places f [] ts (λ o t y e. held_fits f o t y (q f refl o t y e))

pub says_tested : (s : State) → WellFormed s → Tested s
says_tested s w =
    record {
      run = w.run;
      few = w.few;
      counted = w.counted;
      eight = w.eight;
      fault = fault_fits_lem s.header.aca w.fault;
      nexuses = any_places too_high s.tasks (λ o t y e. lt-leb nexuses t.nexus (w.nexus o t y e));
      apart = distinct_places s.tasks w.apart;
      states = states_fit_lem s.header.aca s.tasks w.without_aca w.in_an_aca;
    }

-- without ACA each task of a well-formed state is enabled exactly if it is eligible, else dormant
pub clear_settled : (s : State) → WellFormed s → s.header.aca ≡ None → settled [] s.tasks ≡ true
clear_settled s w c = go s.header.aca c (says_tested s w).states
  where
    go : (a : Allegiance) → a ≡ None → states_fit a s.tasks ≡ true → settled [] s.tasks ≡ true
    go a p z = rw p at z

-- the test holds exactly if the statement does
pub well_formed_says : (s : State) → (well_formed s ≡ true) ↔ WellFormed s
well_formed_says s =
    (λ e. tested_says s (to_tested s e), λ w. from_tested s (says_tested s w))

-- one event keeps any well-formed state well formed
pub well_formed_step : (s : State) (e : Event) → WellFormed s → WellFormed (step s e)
unfolding step
well_formed_step s e w = tested_says (step s e) (tested_ruling s e (says_tested s w))
