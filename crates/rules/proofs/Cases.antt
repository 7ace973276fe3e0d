-- What the ruling on an event can come to, as laws for whoever argues by cases.
use Rattle.std.specs.Prelude.{Some, None, Option}
use Prim.Native.Nat.{ℕ, ◌<◌, ◌≤◌}
use mathlib.Core.Bool.{Bool, true, false, cond, ◌&&◌, not}
use mathlib.Core.Path.{◌≡◌, refl, ap, sym}
use mathlib.Core.List.{List, [], ◌∷◌}
use lib.Dec.{eqb, ltb, leb}
use borrow.Author.Tests.{ltb-true, lt-ltb, le-ltb, not-true, not-false}
use Rattle.laws.specs.Lists.{any, first}
use Rattle.laws.proofs.Bools.{and-true, cases, none_some, some_is}
use Rattle.rules.specs.Types.{Task, Entry, Finish, Good, CheckCondition, Busy, ReservationConflict, Function, Happening, Event, Command, Completion, Management, Condition, Allegiance, Header, Pending, Bit, Sweep, Nobody, NexusTasks, Change, Sense, Done, NexusAboveSeven, NoSuchTask, NotEnabled, Ruling, Keeps, Changes}
use Rattle.values.specs.Headers.{with_aca, run_after}
use Rattle.rules.specs.Tasks.{places, nexuses, is_enabled, aca_task, same, is_named}
use Rattle.rules.specs.Bits.{sense_for}
use Rattle.rules.specs.Rulings.{State, is_clear, pending_of, turn, also_by_qerr}
use Rattle.rules.specs.Rules.{sense, ended_with, tells_others, telling, aca_by_naca, failing, check_condition, only_if, asks_aca, check2, bit_to_report, check3, bad_attribute, accepting, first_that_rules, checks, enter, status_of, ending, finish, complete, manage, happen, nexus_of, rule_for, ruling}

-- The checks of a command -----------------------------------------------------------------------------------------------------------------

-- what is to be shown of a check: A where it rules, B where it lets pass
pub data Check (A B : Type 0) : Type 0 where
  stop : A → B → Check A B

stops : {A B : Type 0} → Check A B → A
stops (stop a b) = a

passes : {A B : Type 0} → Check A B → B
passes (stop a b) = b

-- what is to be shown so that P holds of what a list of checks comes to, with r where all of them let pass
abbrev pub Ruled : (Ruling → Type 0) → List (Option Ruling) → Ruling → Type 0
Ruled P [] r = P r
Ruled P (o ∷ cs) r = Check ((q : Ruling) → o ≡ Some q → P q) (o ≡ None → Ruled P cs r)

-- the one law of every list of checks, however long
pub first_ruled : (P : Ruling → Type 0) (cs : List (Option Ruling)) (r : Ruling) → Ruled P cs r → P (first_that_rules cs r)
first_ruled P [] r k = k
first_ruled P (None ∷ cs) r k = first_ruled P cs r (passes k refl)
first_ruled P (Some q ∷ cs) r k = stops k q refl

only_some : (P : Ruling → Type 0) (b : Bool) (r q : Ruling) → (b ≡ true → P r) → only_if b r ≡ Some q → P q
only_some P true r q p e = some_is P r q e (p refl)
only_some P false r q p e = none_some q e

only_none : (b : Bool) (r : Ruling) → only_if b r ≡ None → b ≡ false
only_none true r e = none_some r (sym e)
only_none false r e = refl

-- what is to be shown of check 2, in an ACA of nexus f
abbrev pub AcaStops : (Ruling → Type 0) → Allegiance → Entry → Bool → Type 0
AcaStops P a c aca =
    ((f : ℕ) → a ≡ Some f → eqb c.nexus f ≡ true → asks_aca c.asked && not aca ≡ false → P (Keeps (ended_with 0x30)))
    × ((f : ℕ) → a ≡ Some f → eqb c.nexus f ≡ false → P (Keeps (ended_with (cond c.naca 0x30 0x08))))

check2_some :
    (P : Ruling → Type 0) (a : Allegiance) (c : Entry) (aca : Bool) (q : Ruling) → AcaStops P a c aca → check2 a c aca ≡ Some q → P q
check2_some P None c aca q k e = none_some q e
check2_some P (Some f) c aca q k e =
    cases (λ o. o ≡ Some q → P q) (eqb c.nexus f)
    (λ h. only_some P (not (asks_aca c.asked && not aca)) _ q (λ n. k.0 f refl h (not-true _ n)))
    (λ h e'. some_is P _ q e' (k.1 f refl h))
    e

check3_some :
    (P : Ruling → Type 0) (h : Header) (c : Entry) (o : Option Bit) (q : Ruling)
    → ((b : Bit) → o ≡ Some b → P (check_condition h c (sense_for b) Nobody (Some b))) → check3 h c o ≡ Some q → P q
check3_some P h c None q tells e = none_some q e
check3_some P h c (Some b) q tells e = some_is P _ q e (tells b refl)

check3_none : (h : Header) (c : Entry) (o : Option Bit) → check3 h c o ≡ None → o ≡ None
check3_none h c None e = refl
check3_none h c (Some b) e = none_some _ (sym e)

-- a command, check by check, each with what those before it said
pub check_cases :
    (P : Ruling → Type 0) (h : Header) (c : Entry) (here aca : Bool) (p : Pending)
    → Check (here ≡ true → P (check_condition h c (sense 0xB 0x4E 0x00) (NexusTasks c.nexus) None)) (here ≡ false
    → Check (AcaStops P h.aca c aca) (check2 h.aca c aca ≡ None
    → Check ((b : Bit) → bit_to_report c p ≡ Some b → P (check_condition h c (sense_for b) Nobody (Some b))) (bit_to_report c p ≡ None
    → Check (bad_attribute h.aca c.asked ≡ true → P (check_condition h c (sense 0x5 0x49 0x00) Nobody None)) (
    bad_attribute h.aca c.asked ≡ false
    → Check (leb places h.count ≡ true → P (Keeps (ended_with 0x28))) (leb places h.count ≡ false
    → P (Changes Done (accepting h c)))))))
    → P (enter h c here aca p)
unfolding enter
check_cases P h c here aca p k =
    first_ruled P (checks h c here aca p) _
    (stop (λ q. only_some P here _ q (stops k)) λ e1.
    let k1 = passes k (only_none here _ e1) in
    stop (λ q. check2_some P h.aca c aca q (stops k1)) λ e2.
    let k2 = passes k1 e2 in
    stop (λ q. check3_some P h c (bit_to_report c p) q (stops k2)) λ e3.
    let k3 = passes k2 (check3_none h c (bit_to_report c p) e3) in
    stop (λ q. only_some P (bad_attribute h.aca c.asked) _ q (stops k3)) λ e4.
    let k4 = passes k3 (only_none (bad_attribute h.aca c.asked) _ e4) in
    stop (λ q. only_some P (leb places h.count) _ q (stops k4)) λ e5.
    passes k4 (only_none (leb places h.count) _ e5))

-- what the checks have said of a command that all of them let pass
pub record Passed (h : Header) (c : Entry) (here aca : Bool) (p : Pending) : Type 0 where
  pub not_overlapped : here ≡ false
  pub aca_lets_it : check2 h.aca c aca ≡ None
  pub no_attention : bit_to_report c p ≡ None
  pub attribute_good : bad_attribute h.aca c.asked ≡ false
  pub room : leb places h.count ≡ false

-- a command: ended with CHECK CONDITION, kept out with another status, or accepted
pub enter_cases :
    (P : Ruling → Type 0) (h : Header) (c : Entry) (here aca : Bool) (p : Pending)
    → ((se : Sense) (w : Sweep) (o : Option Bit) → P (check_condition h c se w o)) → ((st : ℕ) → P (Keeps (ended_with st)))
    → (Passed h c here aca p → P (Changes Done (accepting h c))) → P (enter h c here aca p)
enter_cases P h c here aca p fails keeps accepts =
    check_cases P h c here aca p
    (stop (λ e. fails _ _ None) λ n1.
    stop (λ f a e k. keeps _, λ f a e. keeps _) λ n2.
    stop (λ b e. fails _ _ (Some b)) λ n3.
    stop (λ e. fails _ _ None) λ n4.
    stop (λ e. keeps _) λ n5.
    accepts (record { not_overlapped = n1; aca_lets_it = n2; no_attention = n3; attribute_good = n4; room = n5 }))

-- what a CHECK CONDITION at entry does, without an ACA and in one
pub failing_cases :
    (P : Change → Type 0) (h : Header) (c : Entry) (w : Sweep) (o : Option Bit) → (h.aca ≡ None → P (failing None h c w o))
    → ((f : ℕ) → h.aca ≡ Some f → P (failing (Some f) h c w o)) → P (failing h.aca h c w o)
failing_cases P h c w o free held = go h.aca refl
  where
    go : (a : Allegiance) → h.aca ≡ a → P (failing a h c w o)
    go None e = free e
    go (Some f) e = held f e

-- the same without cases, by whether QERR and NACA apply
pub failing_is :
    (h : Header) (c : Entry) (w : Sweep) (o : Option Bit)
    → failing h.aca h c w o
    ≡ record {
      sweep = cond (is_clear h.aca) (also_by_qerr h.policy.qerr h.policy c.nexus w) w;
      joins = None;
      header = with_aca h (aca_by_naca (is_clear h.aca && c.naca) c.nexus h.aca);
      notice = telling c.nexus o (is_clear h.aca && tells_others h.policy.qerr h.policy.tas);
    }
failing_is h c w o = go h.aca refl
  where
    go :
        (a : Allegiance) → h.aca ≡ a
        → failing a h c w o
        ≡ record {
          sweep = cond (is_clear a) (also_by_qerr h.policy.qerr h.policy c.nexus w) w;
          joins = None;
          header = with_aca h (aca_by_naca (is_clear a && c.naca) c.nexus a);
          notice = telling c.nexus o (is_clear a && tells_others h.policy.qerr h.policy.tas);
        }
    go None e = refl
    go (Some f) e = rw (← e) refl

pub failing_joins : (h : Header) (c : Entry) (w : Sweep) (o : Option Bit) → (failing h.aca h c w o).joins ≡ None
failing_joins h c w o = failing_cases (λ d. d.joins ≡ None) h c w o (λ e. refl) (λ f e. refl)

pub failing_run : (h : Header) (c : Entry) (w : Sweep) (o : Option Bit) → (failing h.aca h c w o).header.run ≡ h.run
failing_run h c w o = failing_cases (λ d. d.header.run ≡ h.run) h c w o (λ e. refl) (λ f e. refl)

-- a command that passes check 2 in an ACA is of the faulted nexus and asks for attribute ACA, and there is no ACA task
pub check2_none :
    (f : ℕ) (c : Entry) (aca : Bool) → check2 (Some f) c aca ≡ None
    → (eqb c.nexus f ≡ true) × (asks_aca c.asked ≡ true) × (aca ≡ false)
check2_none f c aca =
    cases (λ o. o ≡ None → (eqb c.nexus f ≡ true) × (asks_aca c.asked ≡ true) × (aca ≡ false)) (eqb c.nexus f)
    (λ h e.
    let o =
    and-true (asks_aca c.asked) (not aca)
    (not-false _ (only_none (not (asks_aca c.asked && not aca)) _ e))
    in
    (h, o.0, not-true _ o.1))
    (λ h e. none_some _ (sym e))

-- all statuses but 02h are one case
pub finish_cases :
    (P : Change → Type 0) (h : Header) (f : Finish) (t : Task) (b : Bool) → (eqb (status_of f) 0x02 ≡ false → P (ending h f t b))
    → (f ≡ CheckCondition → P (finish h CheckCondition t b)) → P (finish h f t b)
finish_cases P h Good t b only fails = only refl
finish_cases P h CheckCondition t b only fails = fails refl
finish_cases P h Busy t b only fails = only refl
finish_cases P h ReservationConflict t b only fails = only refl

pub finish_ending : (h : Header) (f : Finish) (t : Task) (b : Bool) → (status_of f ≡ 0x02 → ⊥) → finish h f t b ≡ ending h f t b
finish_ending h f t b other = finish_cases (λ c. c ≡ ending h f t b) h f t b (λ q. refl) (λ q. absurd (other (ap status_of q)))

pub finish_run :
    (h : Header) (f : Finish) (t : Task) (b : Bool) → (finish h f t b).header.run ≡ cond b (run_after t.attribute h.run) h.run
finish_run h f t b =
    finish_cases (λ c. c.header.run ≡ cond b (run_after t.attribute h.run) h.run) h f t b (λ q. refl) (λ q. refl)

-- a completion: refused by 4, 5 or 6, or the enabled task of that nexus and tag ends
pub completion_cases :
    (P : Ruling → Type 0) (s : State) (n g : ℕ) (f : Finish) → P (Keeps NexusAboveSeven) → P (Keeps NoSuchTask) → P (Keeps NotEnabled)
    → ((t : Task) → n < nexuses → first (same n g) s.tasks ≡ Some t → is_enabled t.state ≡ true
    → P (Changes Done (finish s.header f t (is_named n g (turn s)))))
    → P (ruling s (Completion n g f))
unfolding ruling rule_for complete
completion_cases P s n g f high absent waits ends =
    cases P (ltb n nexuses) (λ l. go (first (same n g) s.tasks) refl (ltb-true n nexuses l)) (λ l. high)
  where
    go : (o : Option Task) → first (same n g) s.tasks ≡ o → n < nexuses → P (complete s.header o f (is_named n g (turn s)))
    go None e l = absent
    go (Some t) e l = cases P (is_enabled t.state) (λ k. ends t l e k) (λ k. waits)

-- any event but a completion, by its own rule
pub other_cases :
    (P : Event → Ruling → Type 0) (s : State) → ((e : Event) → P e (Keeps NexusAboveSeven))
    → ((n g : ℕ) (f : Finish) → P (Completion n g f) (ruling s (Completion n g f)))
    → ((c : Entry) → c.nexus < nexuses
    → P (Command c) (enter s.header c (any (same c.nexus c.tag) s.tasks) (any aca_task s.tasks) (pending_of s c.nexus)))
    → ((n : ℕ) (f : Function) → P (Management n f) (manage s.header n f))
    → ((c : Happening) → P (Condition c) (happen s.header c))
    → (e : Event) → P e (ruling s e)
unfolding ruling rule_for
other_cases P s high completes enters manages happens (Completion n g f) = completes n g f
other_cases P s high completes enters manages happens (Command c) =
    cases (P (Command c)) (ltb c.nexus nexuses) (λ l. enters c (ltb-true c.nexus nexuses l)) (λ l. high (Command c))
other_cases P s high completes enters manages happens (Management n f) =
    cases (P (Management n f)) (ltb n nexuses) (λ l. manages n f) (λ l. high (Management n f))
other_cases P s high completes enters manages happens (Condition c) =
    cases (P (Condition c)) (ltb (nexus_of (Condition c)) nexuses) (λ l. happens c) (λ l. high (Condition c))

-- The ruling by its event ------------------------------------------------------------------------------------------------------------------

module _ (s : State) where
  pub ruling_low : (e : Event) → nexus_of e < nexuses → ruling s e ≡ rule_for s e
  unfolding ruling
  ruling_low e h = rw (lt-ltb (nexus_of e) nexuses h)

  pub ruling_high : (e : Event) → nexuses ≤ nexus_of e → ruling s e ≡ Keeps NexusAboveSeven
  unfolding ruling
  ruling_high e h = rw (le-ltb (nexus_of e) nexuses h)

  pub rule_command :
      (c : Entry)
      → rule_for s (Command c)
      ≡ enter s.header c (any (same c.nexus c.tag) s.tasks) (any aca_task s.tasks) (pending_of s c.nexus)
  unfolding rule_for
  rule_command c = refl

  pub rule_completion :
      (n g : ℕ) (f : Finish) → rule_for s (Completion n g f) ≡ complete s.header (first (same n g) s.tasks) f (is_named n g (turn s))
  unfolding rule_for
  rule_completion n g f = refl

  pub rule_management : (n : ℕ) (f : Function) → rule_for s (Management n f) ≡ manage s.header n f
  unfolding rule_for
  rule_management n f = refl

  pub rule_condition : (c : Happening) → rule_for s (Condition c) ≡ happen s.header c
  unfolding rule_for
  rule_condition c = refl
