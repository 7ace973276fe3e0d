-- The status that a task ends with is a byte.
use Rattle.std.specs.Prelude.{Option, Some, None}
use Prim.Native.Nat.{ℕ}
use mathlib.Core.Bool.{Bool, true, false, ◌&&◌, not}
use mathlib.Core.Path.{◌≡◌, refl, ap}
use mathlib.Core.List.{List, [], ◌∷◌, map}
use native.Mathlib.Omega.{arith}
use lib.Dec.{eqb, ltb}
use lib.ListN.{length}
use Rattle.laws.specs.Lists.{one_if, count}
use Rattle.laws.proofs.Bools.{cases}
use Rattle.rules.specs.Types.{Task, Entry, Policy, Qerr, EndNone, EndAll, EndNexus, Finish, Good, CheckCondition, Busy, ReservationConflict, Function, AbortTask, AbortTaskSet, ClearTaskSet, ClearAca, LogicalUnitReset, Unknown, Happening, PowerOn, HardReset, NexusLoss, Event, Allegiance, Done, Fate, Ended, Sweep, Nobody, OneTask, NexusTasks, AcaTask, AllTasks, ClearedBy, FailedTask, Ruling, Keeps, Changes, Bit}
use Rattle.rules.specs.Tasks.{aca_task, of_nexus, same}
use Rattle.rules.specs.Rulings.{State, end_if, aborted_by, also_by_qerr, fate_by_qerr, or_else, fate_of, ended_from, report_of}
use Rattle.rules.specs.Rules.{failing, status_of, finish, clearing, manage, happen, ruling, report}
use Rattle.rules.proofs.Cases.{stop, check_cases, failing_cases, finish_cases, completion_cases, other_cases}
use Rattle.rules.proofs.Ruled.{report_ruled}

abbrev pub is_byte : ℕ → Bool
is_byte n = ltb n 256

abbrev byte_fate : Fate → Bool
byte_fate None = true
byte_fate (Some st) = is_byte st

-- of the sweeps one carries a status
abbrev byte_sweep : Sweep → Bool
byte_sweep Nobody = true
byte_sweep (OneTask n g st) = is_byte st
byte_sweep (NexusTasks n) = true
byte_sweep AcaTask = true
byte_sweep AllTasks = true
byte_sweep (ClearedBy n p) = true
byte_sweep (FailedTask n g p) = true

byte_if : (b : Bool) (st : ℕ) → is_byte st ≡ true → byte_fate (end_if b st) ≡ true
byte_if true st e = e
byte_if false st e = refl

byte_aborted : (p : Policy) (n : ℕ) (t : Task) → byte_fate (aborted_by p n t) ≡ true
byte_aborted p n t = cases (λ (st : ℕ). is_byte st ≡ true) (not (of_nexus n t) && p.tas) {x = 0x40} {y = 0xFF} (λ e. refl) (λ e. refl)

byte_qerr : (q : Qerr) (p : Policy) (n : ℕ) (t : Task) → byte_fate (fate_by_qerr q p n t) ≡ true
byte_qerr EndNone p n t = refl
byte_qerr EndAll p n t = byte_aborted p n t
byte_qerr EndNexus p n t = byte_if (of_nexus n t) 0xFF refl

byte_sweep_lem : (q : Qerr) (p : Policy) (n : ℕ) (w : Sweep) → byte_sweep w ≡ true → byte_sweep (also_by_qerr q p n w) ≡ true
byte_sweep_lem EndNone p n w e = e
byte_sweep_lem EndAll p n w e = refl
byte_sweep_lem EndNexus p n w e = refl

byte_fate_lem : (w : Sweep) (t : Task) → byte_sweep w ≡ true → byte_fate (fate_of w t) ≡ true
byte_fate_lem Nobody t e = refl
byte_fate_lem (OneTask n g st) t e = byte_if (same n g t) st e
byte_fate_lem (NexusTasks n) t e = byte_if (of_nexus n t) 0xFF refl
byte_fate_lem AcaTask t e = byte_if (aca_task t) 0xFF refl
byte_fate_lem AllTasks t e = refl
byte_fate_lem (ClearedBy n p) t e = byte_aborted p n t
byte_fate_lem (FailedTask n g p) t e = go (same n g t)
  where
    go : (b : Bool) → byte_fate (or_else (end_if b 0x02) (fate_by_qerr p.qerr p n t)) ≡ true
    go true = refl
    go false = byte_qerr p.qerr p n t

byte_status : (f : Finish) → is_byte (status_of f) ≡ true
byte_status Good = refl
byte_status CheckCondition = refl
byte_status Busy = refl
byte_status ReservationConflict = refl

abbrev byte_ruling : Ruling → Bool
byte_ruling (Keeps a) = true
byte_ruling (Changes a c) = byte_sweep c.sweep

byte_ruling_lem : (s : State) (e : Event) → byte_ruling (ruling s e) ≡ true
unfolding manage happen
byte_ruling_lem s =
    other_cases (λ e r. byte_ruling r ≡ true) s (λ e. refl)
    (λ n g f. completion_cases (λ r. byte_ruling r ≡ true) s n g f refl refl refl (λ t l h k. finishes f t _))
    (λ c l. check_cases (λ r. byte_ruling r ≡ true) s.header c _ _ _
    (stop (λ e. fails c _ None refl) λ n1.
    stop (λ f a e k. refl, λ f a e. refl) λ n2.
    stop (λ b e. fails c _ (Some b) refl) λ n3.
    stop (λ e. fails c _ None refl) λ n4.
    stop (λ e. refl) λ n5.
    refl))
    manages
    happens
  where
    fails : (c : Entry) (w : Sweep) (o : Option Bit) → byte_sweep w ≡ true → byte_sweep (failing s.header.aca s.header c w o).sweep ≡ true
    fails c w o e =
        failing_cases (λ d. byte_sweep d.sweep ≡ true) s.header c w o
        (λ a. byte_sweep_lem s.header.policy.qerr s.header.policy c.nexus w e)
        (λ f a. e)

    finishes : (f : Finish) (t : Task) (b : Bool) → byte_ruling (Changes Done (finish s.header f t b)) ≡ true
    finishes f t b = finish_cases (λ c. byte_ruling (Changes Done c) ≡ true) s.header f t b (λ q. byte_status f) (λ q. refl)

    clears : (n : ℕ) (a : Allegiance) → byte_ruling (clearing s.header n a) ≡ true
    clears n None = refl
    clears n (Some f) = cases (λ r. byte_ruling r ≡ true) (eqb n f) (λ e. refl) (λ e. refl)

    manages : (n : ℕ) (f : Function) → byte_ruling (manage s.header n f) ≡ true
    manages n (AbortTask g) = refl
    manages n AbortTaskSet = refl
    manages n ClearTaskSet = refl
    manages n ClearAca = clears n s.header.aca
    manages n LogicalUnitReset = refl
    manages n Unknown = refl

    happens : (c : Happening) → byte_ruling (happen s.header c) ≡ true
    happens PowerOn = refl
    happens HardReset = refl
    happens (NexusLoss n) = refl

abbrev pub byte_end : Ended → Bool
byte_end d = is_byte d.status

one_more : (f : Fate) (fs : List Fate) (t : Task) (ts : List Task) → byte_fate f ≡ true → count byte_end (ended_from fs ts) ≡ length (ended_from fs ts)
    → count byte_end (ended_from (f ∷ fs) (t ∷ ts)) ≡ length (ended_from (f ∷ fs) (t ∷ ts))
one_more None fs t ts b e = e
one_more (Some st) fs t ts b e = omega (arith, ap one_if b, e)

ended_bytes_lem : (w : Sweep) (ts : List Task) → byte_sweep w ≡ true
    → count byte_end (ended_from (map (fate_of w) ts) ts) ≡ length (ended_from (map (fate_of w) ts) ts)
ended_bytes_lem w [] e = refl
ended_bytes_lem w (t ∷ ts) e = one_more (fate_of w t) (map (fate_of w) ts) t ts (byte_fate_lem w t e) (ended_bytes_lem w ts e)

pub report_bytes_lem : (s : State) (e : Event) → count byte_end (report s e) ≡ length (report s e)
report_bytes_lem s e = rw (report_ruled s e) (go (ruling s e) (byte_ruling_lem s e))
  where
    go : (r : Ruling) → byte_ruling r ≡ true → count byte_end (report_of s r) ≡ length (report_of s r)
    go (Keeps a) b = refl
    go (Changes a c) b = ended_bytes_lem c.sweep s.tasks b
