-- Laws of a command that ends at entry, for every state: what becomes of each task, of the ACA, of run and of the report (RULES 5.16 to 5.20).
use Rattle.std.specs.Prelude.{Option, Some, None}
use Prim.Native.Nat.{ℕ}
use mathlib.Core.Bool.{Bool, true, false, cond, ◌||◌, ◌&&◌, not, and-false as and_off, or-true as or_on}
use mathlib.Core.Path.{◌≡◌, refl, ap, sym, ◌∙◌}
use mathlib.Core.List.{List, [], ◌∷◌, map, append-nil}
use native.Mathlib.Omega.{arith}
use lib.Dec.{eqb, ltb}
use borrow.Author.Tests.{eqb-true, eqb-false, not-false}
use Rattle.laws.specs.Lists.{any, passing}
use Rattle.laws.proofs.Bools.{cases, split}
use Rattle.laws.proofs.Lists.{any_less, map_alike}
use Rattle.rules.specs.Types.{TaskState, Dormant, Enabled, Blocked, Task, Entry, Command, Qerr, EndNone, EndAll, EndNexus, Policy, Allegiance, Fate, Ended, Sweep, Nobody, NexusTasks, Sense, Done, NexusAboveSeven, EndedAtEntry, Ruling, Changes, Bit}
use Rattle.rules.specs.Tasks.{nexuses, aca_task, of_nexus, same, is_enabled, blocked_if_enabled, restate, enabled_task}
use Rattle.rules.specs.Rulings.{State, is_clear, pending_of, end_if, kept, lost, also_by_qerr, fate_by_qerr, fate_of, fates_of, answer_of, ruled, ended_from, report_of, task_name}
use Rattle.rules.specs.Rules.{aca_by_naca, check_condition, rule_for, ruling, step, answer, report}
use Rattle.rules.proofs.Fates.{is_ends, any_lost, all_end, kept_others}
use Rattle.rules.proofs.Distinct.{blocked_task, map_restate}
use Rattle.rules.proofs.Cases.{stop, check_cases, failing_cases}

-- What it does -----------------------------------------------------------------------------------------------------------------------------

-- RULES 5.2, 5.16 and 5.18: one task, where the command c ends with 02h: by check 1, and else by QERR, as beside a task that fails, where no ACA is in effect
abbrev pub fate_at_entry : State → Entry → Task → Fate
fate_at_entry s c t =
    cond (any (same c.nexus c.tag) s.tasks && of_nexus c.nexus t) (Some 0xFF)
    (cond (is_clear s.header.aca) (fate_by_qerr s.header.policy.qerr s.header.policy c.nexus t) None)

-- RULES 5.17 and 5.18: the allegiance then
abbrev pub aca_at_entry : State → Entry → Allegiance
aca_at_entry s c = aca_by_naca (is_clear s.header.aca && c.naca) c.nexus s.header.aca

-- what the ruling on such a command comes to
pub record FailsAs (s : State) (c : Entry) (r : Ruling) : Type 0 where
  pub fates : fates_of s r ≡ map (fate_at_entry s c) s.tasks
  pub tasks : (ruled s r).tasks ≡ restate s.header.aca (aca_at_entry s c) (kept (map (fate_at_entry s c) s.tasks) s.tasks)
  pub aca : (ruled s r).header.aca ≡ aca_at_entry s c
  pub run_stays : (ruled s r).header.run ≡ s.header.run

-- the check's own sweep, by whether the command was overlapped
abbrev own_sweep : Bool → ℕ → Sweep
own_sweep overlapped n = cond overlapped (NexusTasks n) Nobody

if_ends : (b : Bool) → cond b (Some 0xFF) None ≡ end_if b 0xFF
if_ends true = refl
if_ends false = refl

own_fate : (overlapped : Bool) (n : ℕ) (t : Task) → fate_of (own_sweep overlapped n) t ≡ cond (overlapped && of_nexus n t) (Some 0xFF) None
own_fate true n t = sym (if_ends (of_nexus n t))
own_fate false n t = refl

-- check 1 and QERR together: the tasks of the command's nexus end with FFh, whatever QERR is, and QERR adds the others
pub also_fate :
    (q : Qerr) (p : Policy) (overlapped : Bool) (n : ℕ) (t : Task)
    → fate_of (also_by_qerr q p n (own_sweep overlapped n)) t ≡ cond (overlapped && of_nexus n t) (Some 0xFF) (fate_by_qerr q p n t)
also_fate EndNone p overlapped n t = own_fate overlapped n t
also_fate EndAll p true n t = go (of_nexus n t)
  where
    go : (b : Bool) → ◌≡◌ {A = Fate} (Some (cond (not b && p.tas) 0x40 0xFF)) (cond b (Some 0xFF) (Some (cond (not b && p.tas) 0x40 0xFF)))
    go true = refl
    go false = refl
also_fate EndAll p false n t = refl
also_fate EndNexus p true n t = go (of_nexus n t)
  where
    go : (b : Bool) → end_if b 0xFF ≡ cond b (Some 0xFF) (end_if b 0xFF)
    go true = refl
    go false = refl
also_fate EndNexus p false n t = refl

fails_as :
    (s : State) (c : Entry) (se : Sense) (overlapped : Bool) (o : Option Bit) → any (same c.nexus c.tag) s.tasks ≡ overlapped
    → FailsAs s c (check_condition s.header c se (own_sweep overlapped c.nexus) o)
fails_as s c se overlapped o here =
    failing_cases (λ d. FailsAs s c (Changes (EndedAtEntry 0x02 se) d)) s.header c (own_sweep overlapped c.nexus) o
    (λ a.
    let same_fates = map_alike (fate_of (also_by_qerr s.header.policy.qerr s.header.policy c.nexus (own_sweep overlapped c.nexus))) (fate_at_entry s c)
    (λ t. rw (here, a) (also_fate s.header.policy.qerr s.header.policy overlapped c.nexus t))
    s.tasks
    in
    record { fates = same_fates; tasks = rw (append-nil, same_fates, a) refl; aca = rw a; run_stays = refl })
    (λ f a.
    let same_fates = map_alike (fate_of (own_sweep overlapped c.nexus)) (fate_at_entry s c) (λ t. rw (here, a) (own_fate overlapped c.nexus t)) s.tasks in
    record { fates = same_fates; tasks = rw (append-nil, same_fates, a) refl; aca = rw a; run_stays = refl })

status_of_lem : {a b : ℕ} {x y : Sense} → EndedAtEntry a x ≡ EndedAtEntry b y → a ≡ b
status_of_lem e = cc

no_end : {P : Type 0} {st : ℕ} {se : Sense} → Done ≡ EndedAtEntry st se → P
no_end e = absurd (let z : ◌≡◌ {A = ℕ} 0 1 = cc in omega arith)

no_entry : {P : Type 0} {st : ℕ} {se : Sense} → NexusAboveSeven ≡ EndedAtEntry st se → P
no_entry e = absurd (let z : ◌≡◌ {A = ℕ} 0 1 = cc in omega arith)

not_two : {P : Type 0} (naca : Bool) {x y : Sense} → EndedAtEntry (cond naca 0x30 0x08) x ≡ EndedAtEntry 0x02 y → P
not_two true e = absurd (omega (arith, status_of_lem e))
not_two false e = absurd (omega (arith, status_of_lem e))

-- RULES 5.16 to 5.18 and 5.20: of every command that is answered 02h
pub refused_with_02 : (s : State) (c : Entry) (se : Sense) → answer s (Command c) ≡ EndedAtEntry 0x02 se → FailsAs s c (ruling s (Command c))
unfolding answer ruling rule_for
refused_with_02 s c se =
    cases (λ r. answer_of r ≡ EndedAtEntry 0x02 se → FailsAs s c r) (ltb c.nexus nexuses)
    (λ l.
    check_cases (λ r. answer_of r ≡ EndedAtEntry 0x02 se → FailsAs s c r) s.header c (any (same c.nexus c.tag) s.tasks) (any aca_task s.tasks)
    (pending_of s c.nexus)
    (stop (λ y e. fails_as s c _ true None y) λ n1.
    stop (λ f a y k e. absurd (omega (arith, status_of_lem e)), λ f a y e. not_two c.naca e) λ n2.
    stop (λ b y e. fails_as s c _ false (Some b) n1) λ n3.
    stop (λ y e. fails_as s c _ false None n1) λ n4.
    stop (λ y e. absurd (omega (arith, status_of_lem e))) λ n5 e.
    no_end e))
    (λ l e. no_entry e)

abbrev ChangesNothing : State → ℕ → Sense → Ruling → Type 0
ChangesNothing s st se r = answer_of r ≡ EndedAtEntry st se → (st ≡ 0x02 → ⊥) → (ruled s r ≡ s) × (report_of s r ≡ [])

-- RULES 5.19: with any other status nothing changes, and nobody ends
pub refused_otherwise :
    (s : State) (c : Entry) (st : ℕ) (se : Sense) → answer s (Command c) ≡ EndedAtEntry st se → (st ≡ 0x02 → ⊥)
    → (step s (Command c) ≡ s) × (report s (Command c) ≡ [])
unfolding answer step report ruling rule_for
refused_otherwise s c st se =
    cases (ChangesNothing s st se) (ltb c.nexus nexuses)
    (λ l.
    check_cases (ChangesNothing s st se) s.header c (any (same c.nexus c.tag) s.tasks) (any aca_task s.tasks) (pending_of s c.nexus)
    (stop (λ y e n. absurd (n (sym (status_of_lem e)))) λ n1.
    stop (λ f a y k e n. (refl, refl), λ f a y e n. (refl, refl)) λ n2.
    stop (λ b y e n. absurd (n (sym (status_of_lem e)))) λ n3.
    stop (λ y e n. absurd (n (sym (status_of_lem e)))) λ n4.
    stop (λ y e n. (refl, refl)) λ n5 e n.
    no_end e))
    (λ l e n. no_entry e)

-- What that means --------------------------------------------------------------------------------------------------------------------------

restate_begins : {a b : Allegiance} {n : ℕ} (ts : List Task) → a ≡ None → b ≡ Some n → restate a b ts ≡ map blocked_task ts
restate_begins ts e k = rw (e, k) refl

restate_lasts : {a b : Allegiance} {f n : ℕ} (ts : List Task) → a ≡ Some f → b ≡ Some n → restate a b ts ≡ ts
restate_lasts ts e k = rw (e, k) refl

none_enabled : (ts : List Task) → any enabled_task (map blocked_task ts) ≡ false
none_enabled [] = refl
none_enabled (t ∷ ts) = rw (go t.state) (none_enabled ts)
  where
    go : (st : TaskState) → is_enabled (blocked_if_enabled st) ≡ false
    go Dormant = refl
    go Enabled = refl
    go Blocked = refl

-- RULES 5.17: without an ACA and with NACA 1 an ACA is in effect for the command's nexus, and no task is enabled
pub refused_begins_aca :
    (s : State) (c : Entry) (se : Sense) → answer s (Command c) ≡ EndedAtEntry 0x02 se → s.header.aca ≡ None → c.naca ≡ true
    → ((step s (Command c)).header.aca ≡ Some c.nexus) × (any enabled_task (step s (Command c)).tasks ≡ false)
unfolding step
refused_begins_aca s c se e a n =
    let f = refused_with_02 s c se e in
    let left = kept (map (fate_at_entry s c) s.tasks) s.tasks in
    (f.aca ∙ begins, ap (any enabled_task) (f.tasks ∙ restate_begins left a begins) ∙ none_enabled left)
  where
    begins : aca_at_entry s c ≡ Some c.nexus
    begins = rw (a, n)

-- RULES 5.16 and 5.17: with NACA 0 none begins
pub refused_begins_none :
    (s : State) (c : Entry) (se : Sense) → answer s (Command c) ≡ EndedAtEntry 0x02 se → c.naca ≡ false
    → (step s (Command c)).header.aca ≡ s.header.aca
unfolding step
refused_begins_none s c se e n = (refused_with_02 s c se e).aca ∙ rw (n, and_off (is_clear s.header.aca))

-- RULES 5.18: in an ACA those that stay are all but the tasks of the command's nexus, if it was overlapped, each as it was, and the ACA is as it was
pub record SparesInAca (s : State) (c : Entry) (f : ℕ) : Type 0 where
  pub aca_stays : (step s (Command c)).header.aca ≡ Some f
  pub tasks_stay :
      (step s (Command c)).tasks ≡ passing (λ (t : Task). not (any (same c.nexus c.tag) s.tasks && of_nexus c.nexus t)) s.tasks

pub refused_in_aca :
    (s : State) (c : Entry) (se : Sense) (f : ℕ) → answer s (Command c) ≡ EndedAtEntry 0x02 se → s.header.aca ≡ Some f → SparesInAca s c f
unfolding step
refused_in_aca s c se f e a =
    let k = refused_with_02 s c se e in
    record {
      aca_stays = k.aca ∙ stays;
      tasks_stay =
          k.tasks ∙ restate_lasts (kept (map (fate_at_entry s c) s.tasks) s.tasks) a stays
          ∙ ap (λ fs. kept fs s.tasks) (map_alike (fate_at_entry s c) (λ t. end_if (own t) 0xFF) alike s.tasks)
          ∙ kept_others own 0xFF s.tasks;
    }
  where
    own : Task → Bool
    own t = any (same c.nexus c.tag) s.tasks && of_nexus c.nexus t

    stays : aca_at_entry s c ≡ Some f
    stays = rw a

    alike : (t : Task) → fate_at_entry s c t ≡ end_if (own t) 0xFF
    alike t = rw a (if_ends (own t))

-- RULES 4.4: the status of a record, by whether its task was of the causing nexus
abbrev pub aborted_status : Bool → Bool → ℕ
aborted_status own tas = cond (not own && tas) 0x40 0xFF

abbrev right_fate : Bool → Bool → Fate → Bool
right_fate own tas None = true
right_fate own tas (Some st) = eqb st (aborted_status own tas)

-- a record with another status
abbrev pub wrong_record : ℕ → Bool → Ended → Bool
wrong_record n tas r = not (eqb r.status (aborted_status (eqb r.nexus n) tas))

right_records :
    (n : ℕ) (tas : Bool) (f : Task → Fate) (ts : List Task) → ((t : Task) → right_fate (of_nexus n t) tas (f t) ≡ true)
    → any (wrong_record n tas) (ended_from (map f ts) ts) ≡ false
right_records n tas f [] h = refl
right_records n tas f (t ∷ ts) h = go (f t) (h t) (right_records n tas f ts h)
  where
    go :
        (k : Fate) → right_fate (of_nexus n t) tas k ≡ true → any (wrong_record n tas) (ended_from (map f ts) ts) ≡ false
        → any (wrong_record n tas) (ended_from (k ∷ map f ts) (t ∷ ts)) ≡ false
    go None e rest = rest
    go (Some st) e rest = rw e rest

right_qerr : (q : Qerr) (p : Policy) (n : ℕ) (t : Task) → right_fate (of_nexus n t) p.tas (fate_by_qerr q p n t) ≡ true
right_qerr EndNone p n t = refl
right_qerr EndAll p n t = go (of_nexus n t) p.tas
  where
    go : (own tas : Bool) → right_fate own tas (Some (cond (not own && tas) 0x40 0xFF)) ≡ true
    go true tas = refl
    go false true = refl
    go false false = refl
right_qerr EndNexus p n t = go (of_nexus n t)
  where
    go : (own : Bool) → right_fate own p.tas (end_if own 0xFF) ≡ true
    go true = refl
    go false = refl

right_entry : (s : State) (c : Entry) (t : Task) → right_fate (of_nexus c.nexus t) s.header.policy.tas (fate_at_entry s c t) ≡ true
right_entry s c t =
    go (any (same c.nexus c.tag) s.tasks) (of_nexus c.nexus t) (is_clear s.header.aca) _
    (right_qerr s.header.policy.qerr s.header.policy c.nexus t)
  where
    go :
        (over own clear : Bool) (k : Fate) → right_fate own s.header.policy.tas k ≡ true
        → right_fate own s.header.policy.tas (cond (over && own) (Some 0xFF) (cond clear k None)) ≡ true
    go true true clear k h = refl
    go true false true k h = h
    go true false false k h = refl
    go false own true k h = h
    go false own false k h = refl

-- RULES 4.4 and 5.16: each record has 40h exactly if its nexus is not the command's and TAS is 1, and else FFh
pub refused_statuses :
    (s : State) (c : Entry) (st : ℕ) (se : Sense) → answer s (Command c) ≡ EndedAtEntry st se
    → any (wrong_record c.nexus s.header.policy.tas) (report s (Command c)) ≡ false
unfolding report
refused_statuses s c st se e =
    split (eqb st 0x02)
    (λ k.
    let two : st ≡ 0x02 = eqb-true st 0x02 k in
    rw (refused_with_02 s c se (rw two at e)).fates (right_records c.nexus s.header.policy.tas (fate_at_entry s c) s.tasks (right_entry s c)))
    (λ k. rw (refused_otherwise s c st se e (eqb-false st 0x02 k)).1)

-- RULES 4.9: so each record of the report is of a task that was aborted, with FFh or 40h
abbrev pub aborted : Ended → Bool
aborted r = eqb r.status 0xFF || eqb r.status 0x40

pub refused_lists_aborted :
    (s : State) (c : Entry) (st : ℕ) (se : Sense) → answer s (Command c) ≡ EndedAtEntry st se
    → any (λ (r : Ended). not (aborted r)) (report s (Command c)) ≡ false
refused_lists_aborted s c st se e =
    any_less (wrong_record c.nexus s.header.policy.tas) (λ (r : Ended). not (aborted r)) (report s (Command c))
    (λ r. go (eqb r.nexus c.nexus) s.header.policy.tas r)
    (refused_statuses s c st se e)
  where
    go : (own tas : Bool) (r : Ended) → not (eqb r.status (aborted_status own tas)) ≡ false → not (aborted r) ≡ false
    go true tas r e = rw (not-false (eqb r.status 0xFF) e)
    go false true r e = rw (not-false (eqb r.status 0x40) e) (ap not (or_on (eqb r.status 0xFF)))
    go false false r e = rw (not-false (eqb r.status 0xFF) e)

ended_name_lem : (n g : ℕ) (fs : List Fate) (ts : List Task) → any (λ (r : Ended). eqb r.nexus n && eqb r.tag g) (ended_from fs ts) ≡ any (same n g) (lost fs ts)
ended_name_lem n g [] ts = refl
ended_name_lem n g (f ∷ fs) [] = refl
ended_name_lem n g (None ∷ fs) (t ∷ ts) = ended_name_lem n g fs ts
ended_name_lem n g (Some st ∷ fs) (t ∷ ts) = rw (ended_name_lem n g fs ts)

pub command_never_listed :
    (s : State) (c : Entry) → any (same c.nexus c.tag) s.tasks ≡ false
    → any (λ (r : Ended). eqb r.nexus c.nexus && eqb r.tag c.tag) (report s (Command c)) ≡ false
unfolding report
command_never_listed s c e =
    let fs = fates_of s (ruling s (Command c)) in
    ended_name_lem c.nexus c.tag fs s.tasks ∙ any_lost (same c.nexus c.tag) fs s.tasks e

restate_nil : (a b : Allegiance) → restate a b [] ≡ []
restate_nil a None = refl
restate_nil None (Some n) = refl
restate_nil (Some f) (Some n) = refl

-- RULES 5.16: under QERR 01b, without an ACA, no task is left
pub refused_empties :
    (s : State) (c : Entry) (se : Sense) → answer s (Command c) ≡ EndedAtEntry 0x02 se → s.header.aca ≡ None → s.header.policy.qerr ≡ EndAll
    → (step s (Command c)).tasks ≡ []
unfolding step
refused_empties s c se e a q =
    (refused_with_02 s c se e).tasks
    ∙ ap (restate s.header.aca (aca_at_entry s c)) (all_end (fate_at_entry s c) s.tasks ends).0
    ∙ restate_nil s.header.aca (aca_at_entry s c)
  where
    ends : (t : Task) → is_ends (fate_at_entry s c t) ≡ true
    ends t = rw (a, q) (cases (λ k. is_ends k ≡ true) (any (same c.nexus c.tag) s.tasks && of_nexus c.nexus t) (λ x. refl) (λ x. refl))

-- where just the tasks of the command's nexus end, the others stay, in their order
pub names_left :
    (s : State) (c : Entry) (se : Sense) → answer s (Command c) ≡ EndedAtEntry 0x02 se
    → map (fate_at_entry s c) s.tasks ≡ map (λ (t : Task). end_if (of_nexus c.nexus t) 0xFF) s.tasks
    → map task_name (step s (Command c)).tasks ≡ map task_name (passing (λ (t : Task). not (of_nexus c.nexus t)) s.tasks)
unfolding step
names_left s c se e own =
    ap (map task_name) (refused_with_02 s c se e).tasks
    ∙ map_restate task_name (λ t st. refl) s.header.aca (aca_at_entry s c) (kept (map (fate_at_entry s c) s.tasks) s.tasks)
    ∙ ap (λ fs. map task_name (kept fs s.tasks)) own
    ∙ ap (map task_name) (kept_others (of_nexus c.nexus) 0xFF s.tasks)

-- RULES 4.5 and 5.16: under QERR 11b, without an ACA, all tasks of the command's nexus end, and no other
pub refused_ends_nexus :
    (s : State) (c : Entry) (se : Sense) → answer s (Command c) ≡ EndedAtEntry 0x02 se → s.header.aca ≡ None → s.header.policy.qerr ≡ EndNexus
    → map task_name (step s (Command c)).tasks ≡ map task_name (passing (λ (t : Task). not (of_nexus c.nexus t)) s.tasks)
refused_ends_nexus s c se e a q = names_left s c se e (map_alike (fate_at_entry s c) (λ t. end_if (of_nexus c.nexus t) 0xFF) alike s.tasks)
  where
    alike : (t : Task) → fate_at_entry s c t ≡ end_if (of_nexus c.nexus t) 0xFF
    alike t = rw (a, q) (go (any (same c.nexus c.tag) s.tasks) (of_nexus c.nexus t))
      where
        go : (over own : Bool) → cond (over && own) (Some 0xFF) (end_if own 0xFF) ≡ end_if own 0xFF
        go true true = refl
        go true false = refl
        go false own = refl
