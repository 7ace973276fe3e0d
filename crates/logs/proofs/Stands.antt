-- The counters, the table and the history of the events keep step, piece by piece.
use Rattle.std.specs.Prelude.{Option, Some, None}
use Prim.Native.Nat.{ℕ, zero, suc, ◌+◌, ◌-◌, ◌*◌, ◌<◌, ◌≤◌, max}
use native.Mathlib.Omega.{arith}
use mathlib.Core.Path.{◌≡◌, refl, ◌∙◌, ap, sym}
use mathlib.Core.Bool.{Bool, true, false, cond, ◌&&◌, and-false as and_off}
use mathlib.Core.List.{List, [], ◌∷◌, ◌++◌}
use lib.Dec.{eqb}
use lib.ListN.{length, take, drop, length-append, length-replicate}
use borrow.Author.Tests.{eq-eqb, eqb-true, eqb-false}
use Rattle.laws.specs.Lists.{one_if}
use Rattle.laws.specs.RecordsInLists.{joined}
use Rattle.laws.proofs.Bools.{split, cases}
use Rattle.laws.proofs.Lists.{count_append}
use Rattle.rules.specs.Types.{Event, Command, Completion, Management, Condition, Ended, Task, Changes, Done, EndedAtEntry, BadEvent}
use Rattle.rules.specs.Tasks.{places}
use Rattle.rules.specs.Rulings.{State, answer_of, report_of}
use Rattle.rules.specs.Rules.{answer, report, step, ruling}
use Rattle.rules.specs.Refusals.{EntryStatus, check_condition_status, busy, task_set_full, aca_active}
use Rattle.rules.proofs.EndStatuses.{report_bytes_lem}
use Rattle.rules.proofs.Ruled.{answer_ruled, report_ruled, report_short}
use Rattle.rules.proofs.RulingCases.{ruling_cases}
use Rattle.rules.proofs.WellKept.{Tested}
use Rattle.records.specs.Records.{event_size, ended_size, ended_bytes}
use Rattle.records.specs.Tables.{report_size, count_in, table_bytes, report_bytes}
use Rattle.records.specs.Events.{event_of}
use Rattle.records.proofs.ReadBack.{written_count, length_joined}
use Rattle.history.specs.History.{Past, advance, play, accepted, is_done}
use Rattle.history.proofs.Advanced.{advance_state, advance_roll, advance_log, play_append}
use Rattle.history.proofs.Reached.{tested_advance}
use Rattle.operations.specs.AnswerNumbers.{said, writes_report}
use Rattle.operations.specs.Operations.{Outcome, outcome, refused}
use Rattle.operations.proofs.Answered.{number_of}
use Rattle.numbers.specs.Boundary.{answered}
use Rattle.demands.specs.Calls.{read_in, command_task, expected_on}
use Rattle.demands.specs.Seen.{kind_of}
use Rattle.demands.proofs.Runs.{outcome_is}
use Rattle.demands.proofs.Reading.{Reads, event_reads}
use Rattle.demands.proofs.Counted.{done_number}
use Rattle.demands.proofs.Entered.{enters_rule}
use Rattle.demands.proofs.Refused.{demand1}
use Rattle.tallies.specs.Tally.{statuses, events_from, ends_with, has_status, entries_with, largest_over}
use Rattle.tallies.proofs.Telling.{Tells, tells_same, event_step}
use Rattle.logs.specs.declared.play.Standing.{Standing}
use Rattle.logs.specs.Walking.{counted, count_piece, walk_over}

-- One event --------------------------------------------------------------------------------------------------------------------------------

pub status_byte : (t r e : List ℕ) → (answered (outcome t r e)).status < statuses
status_byte t r e =
    let f = demand1.fields t r e in
    split (eqb (answered (outcome t r e)).answer 7) (λ y. go (f.status (eqb-true _ 7 y)))
    (λ y. rw (f.no_status (eqb-false _ 7 y)) (omega arith))
  where
    go : {st : ℕ} → EntryStatus st → st < statuses
    go check_condition_status = omega arith
    go busy = omega arith
    go task_set_full = omega arith
    go aca_active = omega arith

none : (b : Bool) → length (cond {A = List Task} b [] []) ≡ 0
none true = refl
none false = refl

one : (b : Bool) (t : Task) → length (cond b (t ∷ []) []) ≡ one_if b
one true t = refl
one false t = refl

accepted_one : (s : State) (e : List ℕ) (v : Event) → event_of e ≡ Some v
    → length (accepted s v) ≡ one_if (eqb (kind_of e) 1 && eqb (number_of (answer s v)) 0)
accepted_one s e v q =
    ap (length {A = Task}) (enters_rule s v) ∙ rw (done_number (answer s v)) (go v (is_done (answer s v)) (event_reads e (Some v) q))
  where
    go : (v : Event) (d : Bool) → Reads (Some v) e → length (cond d (command_task (Some v)) []) ≡ one_if (eqb (kind_of e) 1 && d)
    go (Command c) d k = rw k.0 (one d _)
    go (Completion n g f) d k = rw k.0 (none d)
    go (Management n f) d k = rw k (none d)
    go (Condition c) d k = rw k (none d)

-- the report holds the ended records first, and is as long as before
abbrev Lists : List Ended → List ℕ → Type 0
Lists ds r = (rest : List ℕ) × (r ≡ joined ended_bytes ds ++ rest)

written : (ds : List Ended) → Lists ds (report_bytes ds)
unfolding report_bytes
written ds = (_, refl)

report_lists : (s : State) (v : Event) (r : List ℕ) → Lists (report s v) (cond (writes_report (answer s v)) (report_bytes (report s v)) r)
report_lists s v r =
    rw (answer_ruled s v, report_ruled s v)
    (ruling_cases (λ l. Lists (report_of s l) (cond (writes_report (answer_of l)) (report_bytes (report_of s l)) r)) s v (λ a. (_, refl))
    (λ c. written (report_of s (Changes Done c))) (λ st se c. written (report_of s (Changes (EndedAtEntry st se) c))))

length_report : (ds : List Ended) → length ds ≤ places → length (report_bytes ds) ≡ report_size
unfolding report_bytes
length_report ds h =
    let j = length_joined ended_size ended_bytes (λ d. refl) ds in
    length-append (joined ended_bytes ds) _ ∙ rw (j, length-replicate {A = ℕ} (report_size - ended_size * length ds) 0) (omega arith)

report_long : (s : State) (v : Event) (r : List ℕ) → length s.tasks ≤ places → length r ≡ report_size
    → length (cond (writes_report (answer s v)) (report_bytes (report s v)) r) ≡ report_size
report_long s v r h k =
    cases (λ (l : List ℕ). length l ≡ report_size) (writes_report (answer s v))
    (λ y. rw (report_ruled s v) (length_report (report_of s (ruling s v)) (omega (arith, report_short s (ruling s v)))))
    (λ y. k)

-- Standing ---------------------------------------------------------------------------------------------------------------------------------

-- after the past h, with x ends at entry by status and m as the largest count
pub record Stands (h : Past) (x : ℕ → ℕ) (m : ℕ) (w : Standing) : Type 0 where
  pub tested : Tested h.state
  pub table : w.table ≡ table_bytes h.state
  pub report : length w.report ≡ report_size
  pub above : length h.state.tasks ≤ m
  pub tells : Tells (ends_with h) x (length h.roll) m (length h.state.tasks) w.counts

pub stands_same : {h : Past} {x y : ℕ → ℕ} {m n : ℕ} {w : Standing} → ((s : ℕ) → x s ≡ y s) → m ≡ n → Stands h x m w → Stands h y n w
stands_same f e s =
    record {
      tested = s.tested;
      table = s.table;
      report = s.report;
      above = omega (arith, s.above, e);
      tells = tells_same (λ i k. refl) (λ i k. f i) refl e refl s.tells;
    }

task_count_lem : (s : State) → Tested s → count_in (table_bytes s) ≡ length s.tasks
task_count_lem s w = written_count s ∙ w.counted

abbrev behind : Standing → Outcome → ℕ → Standing
behind w o k = record { table = o.table; report = o.report; counts = counted o k w.counts }

module _ (h : Past) (x : ℕ → ℕ) (m : ℕ) (w : Standing) (e : List ℕ) (st : Stands h x m w) where
  as_expected : outcome w.table w.report e ≡ expected_on h.state w.report (event_of e)
  as_expected =
      rw st.table
      (rw (eq-eqb (length w.report) report_size st.report) at (outcome_is h.state (record { event = e; report = w.report }) st.tested))

  abbrev Next : Option Event → Standing → Type 0
  Next o w' = Stands (play h (read_in o)) (λ s. x s + entries_with s h (read_in o)) (max m (largest_over h (read_in o))) w'

  unread : Next None (behind w (expected_on h.state w.report None) (kind_of e))
  unread =
      let n = task_count_lem h.state st.tested in
      record {
        tested = st.tested;
        table = refl;
        report = st.report;
        above = omega (arith, st.above);
        tells =
            tells_same (λ s k. omega arith) (λ s k. omega arith) (ap (λ b. length h.roll + one_if b) (and_off (eqb (kind_of e) 1)) ∙ omega arith)
            (omega (arith, n, st.above)) n
            (event_step (ends_with h) x (length h.roll) m (length h.state.tasks) w.counts (answered (refused BadEvent (table_bytes h.state) w.report)) (kind_of e) (count_in (table_bytes h.state)) w.report [] w.report
            refl refl refl (omega arith) (omega (arith, n, st.tested.few)) st.tells);
      }

  read : (v : Event) → event_of e ≡ Some v → Next (Some v) (behind w (expected_on h.state w.report (Some v)) (kind_of e))
  read v q =
      let s = h.state in
      let after = tested_advance h v st.tested in
      let state = advance_state h v in
      let n : count_in (table_bytes (step s v)) ≡ length (advance h v).state.tasks = rw (← state) (task_count_lem (advance h v).state after) in
      let lists = report_lists s v w.report in
      let status : (said (answer s v)).status < statuses = rw (as_expected, q) at (status_byte w.table w.report e) in
      record {
        tested = after;
        table = ap table_bytes (sym state);
        report = report_long s v w.report st.tested.few st.report;
        above = omega arith;
        tells =
            tells_same
            (λ i k. rw (advance_log h v) (sym (count_append (has_status i) h.log (report s v))))
            (λ i k. omega arith)
            (rw (advance_roll h v) (rw (← accepted_one s e v q) (sym (length-append h.roll (accepted s v)))))
            (omega (arith, n)) n
            (event_step (ends_with h) x (length h.roll) m (length s.tasks) w.counts (answered (expected_on s w.report (Some v))) (kind_of e) (count_in (table_bytes (step s v)))
            (cond (writes_report (answer s v)) (report_bytes (report s v)) w.report) (report s v) lists.0
            (report_bytes_lem s v) refl lists.1 status (omega (arith, n, after.few)) st.tells);
      }

  pub piece_stands : Next (event_of e) (count_piece w e)
  unfolding count_piece
  piece_stands = rw as_expected (go (event_of e) refl)
    where
      go : (o : Option Event) → event_of e ≡ o → Next o (behind w (expected_on h.state w.report o) (kind_of e))
      go None q = unread
      go (Some v) q = read v q

-- Events one behind the other --------------------------------------------------------------------------------------------------------------

pub entries_append : (s : ℕ) (h : Past) (es fs : List Event) → entries_with s h (es ++ fs) ≡ entries_with s h es + entries_with s (play h es) fs
entries_append s h [] fs = omega arith
entries_append s h (e ∷ es) fs = omega (arith, entries_append s (advance h e) es fs)

pub largest_append : (h : Past) (es fs : List Event) → largest_over h (es ++ fs) ≡ max (largest_over h es) (largest_over (play h es) fs)
largest_append h [] fs = omega arith
largest_append h (e ∷ es) fs = omega (arith, largest_append (advance h e) es fs)

pub walk_stands : (n : ℕ) (h : Past) (x : ℕ → ℕ) (m : ℕ) (w : Standing) (l : List ℕ) → Stands h x m w
    → Stands (play h (events_from n l)) (λ s. x s + entries_with s h (events_from n l)) (max m (largest_over h (events_from n l))) (walk_over n w l)
unfolding events_from walk_over
walk_stands zero h x m w l st = stands_same (λ s. omega arith) (omega arith) st
walk_stands (suc n) h x m w l st =
    let es = read_in (event_of (take event_size l)) in
    let fs = events_from n (drop event_size l) in
    rw (play_append h es fs)
    (stands_same (λ s. omega (arith, entries_append s h es fs)) (omega (arith, largest_append h es fs))
    (walk_stands n (play h es) _ _ (count_piece w (take event_size l)) (drop event_size l) (piece_stands h x m w (take event_size l) st)))
