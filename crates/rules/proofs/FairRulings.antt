-- Each event keeps a state well formed: the ruling on it is fair. Said of the test; WellSays carries it to the statement (RULES 10).
use Rattle.std.specs.Prelude.{Option, Some, None}
use Prim.Native.Nat.{ℕ, ◌≤◌, ◌<◌}
use mathlib.Core.Bool.{Bool, true, false, cond, ◌&&◌, not, and-false as and_off}
use mathlib.Core.Path.{◌≡◌, refl, ap}
use mathlib.Core.List.{List, [], ◌∷◌, map, append-nil}
use native.Mathlib.Omega.{arith}
use lib.Dec.{eqb}
use borrow.Author.Tests.{lt-ltb, eqb-true, leb-false, lt-leb}
use Rattle.laws.specs.Lists.{any, first}
use Rattle.laws.proofs.Bools.{not_both, cases}
use Rattle.laws.proofs.Lists.{any_append, any_less, any_never, first_passes}
use Rattle.rules.specs.Types.{Attribute, Simple, HeadOfQueue, Ordered, Aca, Task, Entry, Finish, CheckCondition, Function, AbortTask, AbortTaskSet, ClearTaskSet, ClearAca, LogicalUnitReset, Unknown, Happening, PowerOn, HardReset, NexusLoss, Event, Policy, Allegiance, Pending, Fate, Sweep, AcaTask, AllTasks, FailedTask, NexusTasks, Notice, Quiet, UnitWasReset, HardWasReset, PowerCameOn, Ruling, Keeps, Changes, Bit}
use Rattle.values.specs.Headers.{run_after, with_aca, with_run}
use Rattle.rules.specs.Tasks.{places, nexuses, is_aca, is_enabled, aca_task, of_nexus, same}
use Rattle.rules.specs.Rulings.{State, is_clear, end_if, kept, also_by_qerr, fate_by_qerr, or_else, fate_of, ruled}
use Rattle.rules.specs.Rules.{sweeping, aca_by_naca, failing, asks_aca, check2, bad_attribute, attribute_of, new_task, enter, finish, resetting, clearing, manage, aca_without, happen, ruling}
use Rattle.rules.specs.Well.{states_fit, fault_fits}
use Rattle.rules.proofs.Fates.{is_ends, any_kept, gone}
use Rattle.rules.proofs.Distinct.{same_parts}
use Rattle.rules.proofs.Settled.{settled_ordinary}
use Rattle.rules.proofs.Held.{held_found, held_one, held_faulted}
use Rattle.rules.proofs.Cases.{enter_cases, failing_cases, check2_none, finish_cases, completion_cases, other_cases}
use Rattle.rules.proofs.WellKept.{Tested, Allowed, Fair, tested_ruled}

abbrev FairR : State → Ruling → Type 0
FairR s (Keeps a) = Unit {0}
FairR s (Changes a c) = Fair s c

allowed_same : (a : Allegiance) (ts : List Task) (fs : List Fate) → states_fit a ts ≡ true → Allowed a a ts fs []
allowed_same None ts fs e = rw append-nil (any_kept aca_task fs ts (settled_ordinary [] ts e))
allowed_same (Some f) ts fs e = (refl, tt)

-- nobody joins, the allegiance stays, and run is good
fair_same :
    (s : State) (w : Sweep) (run : ℕ) (k : Notice) → Tested s → run ≤ 4
    → Fair s (record { sweep = w; joins = None; header = with_run s.header run; notice = k })
fair_same s w run k t r =
    record {
      run = r;
      fault = t.fault;
      joining = tt;
      allowed = allowed_same s.header.aca s.tasks (map (fate_of w) s.tasks) t.states;
    }

-- nobody joins, and no ACA is left
fair_clear :
    (s : State) (w : Sweep) (run : ℕ) (k : Notice) → run ≤ 4 → any aca_task (kept (map (fate_of w) s.tasks) s.tasks) ≡ false
    → Fair s (record { sweep = w; joins = None; header = with_aca (with_run s.header run) None; notice = k })
fair_clear s w run k r g = record { run = r; fault = refl; joining = tt; allowed = rw append-nil g }

fair_sweeping : (s : State) (w : Sweep) → Tested s → Fair s (sweeping s.header w)
fair_sweeping s w t = fair_same s w s.header.run Quiet t t.run

-- Entry

aca_asked : (a : Option Attribute) → asks_aca a ≡ true → attribute_of a ≡ Aca
aca_asked None e = not_both e refl
aca_asked (Some Simple) e = not_both e refl
aca_asked (Some HeadOfQueue) e = not_both e refl
aca_asked (Some Ordered) e = not_both e refl
aca_asked (Some Aca) e = refl

good_asked : (a : Option Attribute) → bad_attribute None a ≡ false → is_aca (attribute_of a) ≡ false
good_asked None e = not_both refl e
good_asked (Some Simple) e = refl
good_asked (Some HeadOfQueue) e = refl
good_asked (Some Ordered) e = refl
good_asked (Some Aca) e = not_both refl e

allowed_accept :
    (a : Allegiance) (ts : List Task) (fs : List Fate) (c : Entry) → states_fit a ts ≡ true → check2 a c (any aca_task ts) ≡ None
    → bad_attribute a c.asked ≡ false → Allowed a a ts fs (new_task c ∷ [])
unfolding new_task
allowed_accept None ts fs c e o b =
    rw (any_append aca_task (kept fs ts) (new_task c ∷ []) (any_kept aca_task fs ts (settled_ordinary [] ts e)), good_asked c.asked b)
allowed_accept (Some f) ts fs c e o b =
    let k = check2_none f c (any aca_task ts) o in
    (refl, (k.2, aca_asked c.asked k.1, refl, k.0))

allowed_failing :
    (a : Allegiance) (naca : Bool) (n : ℕ) (ts : List Task) (fs : List Fate) → a ≡ None → states_fit a ts ≡ true
    → Allowed a (aca_by_naca naca n None) ts fs []
allowed_failing (Some f) naca n ts fs e w = not_both (ap is_clear e) refl
allowed_failing None true n ts fs e w = refl
allowed_failing None false n ts fs e w = allowed_same None ts fs w

-- an ACA begins, or none does; the one that stands stays
fair_failing : (s : State) (c : Entry) (w : Sweep) (o : Option Bit) → Tested s → c.nexus < nexuses → Fair s (failing s.header.aca s.header c w o)
fair_failing s c w o t l =
    failing_cases (Fair s) s.header c w o
    (λ e.
    record {
      run = t.run;
      fault = cases (λ a. fault_fits a ≡ true) c.naca (λ k. lt-ltb c.nexus nexuses l) (λ k. refl);
      joining = tt;
      allowed = allowed_failing s.header.aca c.naca c.nexus s.tasks fs e t.states;
    })
    (λ f e. fair_same s w s.header.run _ t t.run)
  where
    fs : List Fate
    fs = map (fate_of (also_by_qerr s.header.policy.qerr s.header.policy c.nexus w)) s.tasks

fair_enter :
    (s : State) (c : Entry) (p : Pending) → Tested s → c.nexus < nexuses
    → FairR s (enter s.header c (any (same c.nexus c.tag) s.tasks) (any aca_task s.tasks) p)
unfolding new_task
fair_enter s c p w l =
    enter_cases (FairR s) s.header c (any (same c.nexus c.tag) s.tasks) (any aca_task s.tasks) p
    (λ se v o. fair_failing s c v o w l)
    (λ st. tt)
    λ k.
    record {
      run = w.run;
      fault = w.fault;
      joining = (lt-leb nexuses c.nexus l, k.not_overlapped, omega (arith, leb-false places s.header.count k.room, w.counted));
      allowed = allowed_accept s.header.aca s.tasks _ c w.states k.aca_lets_it k.attribute_good;
    }

-- Completion

run_after_lem : (a : Attribute) (run : ℕ) → run ≤ 4 → run_after a run ≤ 4
run_after_lem Simple run h = omega arith
run_after_lem HeadOfQueue run h = omega arith
run_after_lem Ordered run h = omega arith
run_after_lem Aca run h = h

-- the completed task is the ACA task: no other is left
none_left :
    (a : Allegiance) (n g : ℕ) (p : Policy) (ts : List Task) (t : Task) → states_fit a ts ≡ true → first (same n g) ts ≡ Some t
    → is_aca t.attribute ≡ true → any aca_task (kept (map (fate_of (FailedTask n g p)) ts) ts) ≡ false
none_left None n g p ts t e h k = any_kept aca_task (map (fate_of (FailedTask n g p)) ts) ts (settled_ordinary [] ts e)
none_left (Some f) n g p ts t e h k =
    gone aca_task (fate_of (FailedTask n g p)) ts
    (any_less (λ u. aca_task u && not (same n g u)) (λ u. aca_task u && not (is_ends (fate_of (FailedTask n g p) u))) ts
    (λ u. hit (aca_task u) (same n g u) (fate_by_qerr p.qerr p n u))
    (held_one f [] (same n g) ts t e h k))
  where
    hit : (a b : Bool) (r : Fate) → a && not b ≡ false → a && not (is_ends (or_else (end_if b 0x02) r)) ≡ false
    hit a true r e = e
    hit true false r e = not_both refl e
    hit false false r e = refl

-- an ACA begins, or goes on for its nexus
allowed_fault :
    (a : Allegiance) (n g : ℕ) (ts : List Task) (fs : List Fate) (t : Task) → states_fit a ts ≡ true → first (same n g) ts ≡ Some t
    → is_enabled t.state ≡ true → Allowed a (Some t.nexus) ts fs []
allowed_fault None n g ts fs t e h k = refl
allowed_fault (Some f) n g ts fs t e h k = (eqb-true t.nexus f (held_found f [] (same n g) ts t e h k).1, tt)

fair_finish :
    (s : State) (n g : ℕ) (f : Finish) (t : Task) (named : Bool) → Tested s → n < nexuses → first (same n g) s.tasks ≡ Some t
    → is_enabled t.state ≡ true → Fair s (finish s.header f t named)
fair_finish s n g f t named w l h k =
    finish_cases (Fair s) s.header f t named (λ q. fair_same s _ _ Quiet w runs) (λ q. failed)
  where
    q : (t.nexus ≡ n) × (t.tag ≡ g)
    q = same_parts n g t (first_passes (same n g) s.tasks t h)

    runs : cond named (run_after t.attribute s.header.run) s.header.run ≤ 4
    runs = cases (λ r. r ≤ 4) named (λ e. run_after_lem t.attribute s.header.run w.run) (λ e. w.run)

    fs : List Fate
    fs = map (fate_of (FailedTask t.nexus t.tag s.header.policy)) s.tasks

    failed : Fair s (finish s.header CheckCondition t named)
    failed =
        record {
          run = runs;
          fault =
              cases (λ b. fault_fits b ≡ true) t.naca (λ e. lt-ltb t.nexus nexuses (rw q.0 l))
              (λ e. cases (λ b. fault_fits b ≡ true) (aca_task t) (λ a. refl) (λ a. w.fault));
          joining = tt;
          allowed =
              cases (λ b. Allowed s.header.aca b s.tasks fs []) t.naca
              (λ e. allowed_fault s.header.aca n g s.tasks fs t w.states h k)
              (λ e.
              cases (λ b. Allowed s.header.aca b s.tasks fs []) (aca_task t)
              (λ a.
              rw append-nil
              (none_left s.header.aca t.nexus t.tag s.header.policy s.tasks t w.states (rw (← q.0, ← q.1) at h) a))
              (λ a. allowed_same s.header.aca s.tasks fs w.states));
        }

-- Management and conditions

fair_reset : (s : State) (k : Notice) → Fair s (resetting s.header k)
fair_reset s k =
    fair_clear s AllTasks 0 k (omega arith)
    (gone aca_task (fate_of AllTasks) s.tasks (any_never _ s.tasks (λ u. and_off (aca_task u))))

fair_clearing : (s : State) (n : ℕ) (a : Allegiance) → Tested s → FairR s (clearing s.header n a)
fair_clearing s n None w = tt
fair_clearing s n (Some f) w =
    cases (FairR s) (eqb n f)
    (λ e.
    fair_clear s AcaTask s.header.run Quiet w.run
    (gone aca_task (fate_of AcaTask) s.tasks (any_never _ s.tasks (λ u. ends (aca_task u)))))
    (λ e. tt)
  where
    ends : (b : Bool) → b && not (is_ends (end_if b 0xFF)) ≡ false
    ends true = refl
    ends false = refl

fair_manage : (s : State) (n : ℕ) (f : Function) → Tested s → FairR s (manage s.header n f)
unfolding manage
fair_manage s n (AbortTask g) w = fair_sweeping s _ w
fair_manage s n AbortTaskSet w = fair_sweeping s _ w
fair_manage s n ClearTaskSet w = fair_same s _ s.header.run _ w w.run
fair_manage s n ClearAca w = fair_clearing s n s.header.aca w
fair_manage s n LogicalUnitReset w = fair_reset s UnitWasReset
fair_manage s n Unknown w = tt

allowed_loss :
    (a : Allegiance) (n : ℕ) (ts : List Task) → states_fit a ts ≡ true
    → Allowed a (aca_without n a) ts (map (fate_of (NexusTasks n)) ts) []
allowed_loss None n ts e = allowed_same None ts (map (fate_of (NexusTasks n)) ts) e
allowed_loss (Some f) n ts e =
    cases (λ b. Allowed (Some f) b ts (map (fate_of (NexusTasks n)) ts) []) (eqb n f)
    (λ h.
    rw append-nil
    (gone aca_task (fate_of (NexusTasks n)) ts
    (any_less (λ u. aca_task u && not (of_nexus n u)) (λ u. aca_task u && not (is_ends (fate_of (NexusTasks n) u))) ts
    (λ u. hit (aca_task u) (of_nexus n u))
    (rw (eqb-true n f h) (held_faulted f [] ts e)))))
    (λ h. (refl, tt))
  where
    hit : (a b : Bool) → a && not b ≡ false → a && not (is_ends (end_if b 0xFF)) ≡ false
    hit a true e = e
    hit a false e = e

fault_loss : (n : ℕ) (a : Allegiance) → fault_fits a ≡ true → fault_fits (aca_without n a) ≡ true
fault_loss n None e = refl
fault_loss n (Some f) e = cases (λ b. fault_fits b ≡ true) (eqb n f) (λ h. refl) (λ h. e)

fair_happen : (s : State) (c : Happening) → Tested s → FairR s (happen s.header c)
unfolding happen
fair_happen s PowerOn w = fair_reset s PowerCameOn
fair_happen s HardReset w = fair_reset s HardWasReset
fair_happen s (NexusLoss n) w =
    record {
      run = w.run;
      fault = fault_loss n s.header.aca w.fault;
      joining = tt;
      allowed = allowed_loss s.header.aca n s.tasks w.states;
    }

-- Any event

fair_ruling : (s : State) (e : Event) → Tested s → FairR s (ruling s e)
fair_ruling s e w =
    other_cases (λ e r. FairR s r) s (λ e. tt)
    (λ n g f. completion_cases (FairR s) s n g f tt tt tt (λ t l h k. fair_finish s n g f t _ w l h k))
    (λ c l. fair_enter s c _ w l)
    (λ n f. fair_manage s n f w)
    (λ c. fair_happen s c w)
    e

tested_by : (s : State) (r : Ruling) → Tested s → FairR s r → Tested (ruled s r)
tested_by s (Keeps a) w f = w
tested_by s (Changes a c) w f = tested_ruled s a c w f

pub tested_ruling : (s : State) (e : Event) → Tested s → Tested (ruled s (ruling s e))
tested_ruling s e w = tested_by s (ruling s e) w (fair_ruling s e w)
