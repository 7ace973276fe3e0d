-- A change carried out step by step on the table of a state gives the table of the state that the rules say.
use Rattle.std.specs.Prelude.{Option, Some, None}
use Prim.Native.Nat.{ℕ, ◌+◌, ◌≤◌}
use mathlib.Core.Bool.{true}
use mathlib.Core.Path.{◌≡◌, refl, ap, sym, ◌∙◌}
use mathlib.Core.List.{List, [], ◌∷◌, ◌++◌, map, append-nil}
use native.Mathlib.Omega.{arith}
use lib.ListN.{length, drop, set, length-append, take-append-drop}
use Rattle.laws.specs.RecordsInLists.{record_at, put_at}
use Rattle.octets.specs.Sizes.{head_size, tasks_at, table_size, count_offset, aca_offset, run_offset}
use Rattle.rules.specs.Tasks.{places, nexuses, restate}
use Rattle.values.specs.Headers.{lasting, with_count}
use Rattle.rules.specs.Rulings.{State, kept, lost, fate_of, newcomers, noted, tasks_after, ruled, report_of}
use Rattle.rules.specs.Well.{fault_fits}
use Rattle.rules.proofs.Distinct.{length_restate}
use Rattle.rules.proofs.WellKept.{Tested, to_tested, length_noted}
use Rattle.records.specs.Numbers.{aca_number}
use Rattle.records.specs.Records.{header_bytes}
use Rattle.records.specs.Tables.{Bytes, state_of, table_with, counts_of, table_bytes, report_bytes}
use Rattle.records.proofs.Good.{good_tested, table_good}
use Rattle.steps.specs.Steps.{restated_bytes, losers, kept_count, closed_bytes, ends_of}
use Rattle.steps.proofs.StepTables.{with_tasks, with_pending, settled_table, blocked_table}
use Rattle.steps.proofs.Closed.{kept_count_lem, losers_are, ends_are, closed_table, joined_table, header_table}
use Rattle.steps.proofs.Noted.{noted_table}
use Rattle.rules.specs.Types.{Task, Header, Ended, Allegiance, Notice, Quiet, Reported, OthersLost, ReportedAndOthersLost, NexusLost, UnitWasReset, HardWasReset, PowerCameOn, Change, Done, Changes}
use Rattle.carry.specs.Carrying.{noted_unless_quiet, joined_bytes, HeaderKept}
use Rattle.carry.specs.Changes.{ChangeFits, ChangedAs}

module _ (cs : ℕ → ℕ) (s : State) (eight : length s.pending ≡ nexuses) where
  noted_step : (k : Notice) (ls : List Task) → noted_unless_quiet k ls (table_with cs s) ≡ table_with cs (with_pending s (noted k ls s.pending))
  noted_step Quiet ls = refl
  noted_step (Reported n b) ls = noted_table cs s (Reported n b) ls eight
  noted_step (OthersLost n) ls = noted_table cs s (OthersLost n) ls eight
  noted_step (ReportedAndOthersLost n b) ls = noted_table cs s (ReportedAndOthersLost n b) ls eight
  noted_step (NexusLost n) ls = noted_table cs s (NexusLost n) ls eight
  noted_step UnitWasReset ls = noted_table cs s UnitWasReset ls eight
  noted_step HardWasReset ls = noted_table cs s HardWasReset ls eight
  noted_step PowerCameOn ls = noted_table cs s PowerCameOn ls eight

  joined_step :
      (j : Option Task) → length (s.tasks ++ newcomers j) ≤ places
      → joined_bytes j (length s.tasks) (table_with cs s) ≡ table_with cs (with_tasks s (s.tasks ++ newcomers j))
  joined_step None h = ap (λ (ts : List Task). table_with cs (with_tasks s ts)) (sym (append-nil s.tasks))
  joined_step (Some t) h = joined_table cs s eight t (omega (arith, length-append s.tasks (t ∷ [])))

  restated_step :
      (a b : Allegiance) → restated_bytes a b (length s.tasks) (table_with cs s) ≡ table_with cs (with_tasks s (restate a b s.tasks))
  restated_step a None = settled_table cs s eight
  restated_step None (Some f) = blocked_table cs s eight
  restated_step (Some g) (Some f) = refl

module _ (cs : ℕ → ℕ) (s : State) (c : Change) (eight : length s.pending ≡ nexuses) (b t1 : List ℕ) (eb : b ≡ table_with cs s)
    (e1 : t1 ≡ noted_unless_quiet c.notice (losers c.sweep (length s.tasks) (drop tasks_at b)) b) where
  abbrev lost_by : List Task
  lost_by = lost (map (fate_of c.sweep) s.tasks) s.tasks

  abbrev stay : List Task
  stay = kept (map (fate_of c.sweep) s.tasks) s.tasks

  abbrev told : State
  told = with_pending s (noted c.notice lost_by s.pending)

  told_eight : length told.pending ≡ nexuses
  told_eight = length_noted c.notice lost_by s.pending ∙ eight

  noted_first : t1 ≡ table_with cs told
  noted_first =
      e1
      ∙ ap (λ (z : List ℕ). noted_unless_quiet c.notice (losers c.sweep (length s.tasks) (drop tasks_at z)) z) eb
      ∙ ap (λ (l : List Task). noted_unless_quiet c.notice l (table_with cs s)) (losers_are cs s eight c.sweep)
      ∙ noted_step cs s eight c.notice lost_by

  stay_count : (k : ℕ) → k ≡ kept_count c.sweep (length s.tasks) (drop tasks_at t1) → k ≡ length stay
  stay_count k ek =
      ek ∙ ap (λ (z : List ℕ). kept_count c.sweep (length s.tasks) (drop tasks_at z)) noted_first ∙ kept_count_lem cs told told_eight c.sweep

-- every step of a change but the last, one after the other
module _ (cs : ℕ → ℕ) (s : State) (c : Change) (eight : length s.pending ≡ nexuses) (few : length s.tasks ≤ places)
    (room : length (kept (map (fate_of c.sweep) s.tasks) s.tasks ++ newcomers c.joins) ≤ places)
    (b t1 t2 t3 t4 : List ℕ) (k m : ℕ) (eb : b ≡ table_with cs s)
    (e1 : t1 ≡ noted_unless_quiet c.notice (losers c.sweep (length s.tasks) (drop tasks_at b)) b)
    (ek : k ≡ kept_count c.sweep (length s.tasks) (drop tasks_at t1))
    (e2 : t2 ≡ closed_bytes c.sweep (length s.tasks) t1)
    (em : m ≡ k + length (newcomers c.joins))
    (e3 : t3 ≡ joined_bytes c.joins k t2)
    (e4 : t4 ≡ restated_bytes s.header.aca c.header.aca m t3) where
  abbrev all : List Task
  all = stay cs s c eight b t1 eb e1 ++ newcomers c.joins

  abbrev restated : State
  restated = with_tasks (told cs s c eight b t1 eb e1) (restate s.header.aca c.header.aca all)

  all_count : m ≡ length all
  all_count =
      em ∙ ap (λ (i : ℕ). i + length (newcomers c.joins)) (stay_count cs s c eight b t1 eb e1 k ek)
      ∙ sym (length-append (stay cs s c eight b t1 eb e1) (newcomers c.joins))

  restated_last : t4 ≡ table_with cs restated
  restated_last =
      let w = c.sweep in
      let n = length s.tasks in
      let s1 = told cs s c eight b t1 eb e1 in
      let rest = stay cs s c eight b t1 eb e1 in
      let s2 = with_tasks s1 rest in
      let s3 = with_tasks s1 all in
      let eight1 = told_eight cs s c eight b t1 eb e1 in
      let f2 : t2 ≡ table_with cs s2 = e2 ∙ ap (closed_bytes w n) (noted_first cs s c eight b t1 eb e1) ∙ closed_table cs s1 eight1 w few in
      let f3 : t3 ≡ table_with cs s3 =
      e3 ∙ ap (λ (z : List ℕ). joined_bytes c.joins k z) f2
      ∙ ap (λ (i : ℕ). joined_bytes c.joins i (table_with cs s2)) (stay_count cs s c eight b t1 eb e1 k ek)
      ∙ joined_step cs s2 eight1 c.joins room
      in
      e4 ∙ ap (restated_bytes s.header.aca c.header.aca m) f3
      ∙ ap (λ (i : ℕ). restated_bytes s.header.aca c.header.aca i (table_with cs s3)) all_count
      ∙ restated_step cs s3 eight1 s.header.aca c.header.aca

  header_stands : record_at head_size t4 0 ≡ header_bytes s.header
  unfolding table_with
  header_stands = rw restated_last

  change_table : (t5 : List ℕ) → t5 ≡ put_at head_size t4 0 (header_bytes (with_count c.header m)) → t5 ≡ table_with cs (ruled s (Changes Done c))
  change_table t5 e5 =
      let fh : m ≡ length (tasks_after s c) = all_count ∙ sym (length_restate s.header.aca c.header.aca all) in
      e5 ∙ ap (λ (z : List ℕ). put_at head_size z 0 (header_bytes (with_count c.header m))) restated_last
      ∙ ap (λ (i : ℕ). put_at head_size (table_with cs restated) 0 (header_bytes (with_count c.header i))) fh
      ∙ header_table cs restated (with_count c.header (length (tasks_after s c)))

-- the three bytes of a header that can change
stored : (l rest : List ℕ) (was h : Header) → l ≡ header_bytes was ++ rest → lasting was ≡ lasting h
    → set (set (set l count_offset h.count) aca_offset (aca_number h.aca)) run_offset h.run ≡ header_bytes h ++ rest
stored l rest was h e p = rw (e, p)

pub header_stored :
    (t : List ℕ) (h : Header) (k : HeaderKept t h)
    → set (set (set t count_offset h.count) aca_offset (aca_number h.aca)) run_offset h.run ≡ put_at head_size t 0 (header_bytes h)
header_stored t h k =
    stored t (drop head_size t) k.was h (sym (take-append-drop head_size t) ∙ ap (λ (r : List ℕ). r ++ drop head_size t) k.stands) k.lasts

-- What the steps ask and give, where a change fits -----------------------------------------------------------------------------------------

module _ {t : List ℕ} {n : ℕ} {before : Allegiance} {c : Change} (fits : ChangeFits t n before c) where
  whole : Tested (state_of t)
  whole = good_tested t fits.good

  after : Tested (ruled (state_of t) (Changes Done c))
  after = to_tested (ruled (state_of t) (Changes Done c)) fits.well

  counted : n ≡ length (state_of t).tasks
  counted = fits.counted ∙ whole.counted

  pub change_few : n ≤ places
  change_few = omega (arith, counted, whole.few)

  pub change_fault : fault_fits c.header.aca ≡ true
  change_fault = after.fault

  room : length (kept (map (fate_of c.sweep) (state_of t).tasks) (state_of t).tasks ++ newcomers c.joins) ≤ places
  room =
      omega (
        arith,
        after.few,
        length_restate (state_of t).header.aca c.header.aca
            (kept (map (fate_of c.sweep) (state_of t).tasks) (state_of t).tasks ++ newcomers c.joins),
      )

  module _ (bytes : Bytes t) (t1 : List ℕ) (e1 : t1 ≡ noted_unless_quiet c.notice (losers c.sweep n (drop tasks_at t)) t)
      (k : ℕ) (ek : k ≡ kept_count c.sweep n (drop tasks_at t1)) where
    counts : ℕ → ℕ
    counts = counts_of (state_of t)

    written : t ≡ table_with counts (state_of t)
    unfolding table_bytes counts
    written = sym (table_good t bytes fits.good)

    pub change_room : k + length (newcomers c.joins) ≤ places
    change_room =
        omega (
          arith,
          room,
          length-append (kept (map (fate_of c.sweep) (state_of t).tasks) (state_of t).tasks) (newcomers c.joins),
          stay_count counts (state_of t) c whole.eight t t1 written (rw counted at e1) k (rw counted at ek),
        )

    ends : ends_of c.sweep n (drop tasks_at t) ≡ report_of (state_of t) (Changes Done c)
    ends =
        ap (λ (i : ℕ). ends_of c.sweep i (drop tasks_at t)) counted
        ∙ ap (λ (z : List ℕ). ends_of c.sweep (length (state_of t).tasks) (drop tasks_at z)) written
        ∙ ends_are counts (state_of t) whole.eight c.sweep

    module _ (t2 t3 t4 : List ℕ) (m : ℕ) (e2 : t2 ≡ closed_bytes c.sweep n t1) (em : m ≡ k + length (newcomers c.joins))
        (e3 : t3 ≡ joined_bytes c.joins k t2) (e4 : t4 ≡ restated_bytes before c.header.aca m t3) where
      pub header_kept : length t4 ≡ table_size → HeaderKept t4 (with_count c.header m)
      header_kept long =
          record {
            long = omega arith;
            fault = change_fault;
            was = (state_of t).header;
            stands =
                header_stands counts (state_of t) c whole.eight whole.few room t t1 t2 t3 t4 k m written (rw counted at e1) (rw counted at ek)
                (rw counted at e2)
                em
                e3
                (rw fits.aca at e4);
            lasts = sym fits.lasts;
          }

      pub changed :
          (t5 rep : List ℕ) (q : ℕ)
          → t5 ≡ put_at head_size t4 0 (header_bytes (with_count c.header m))
          → q ≡ length (ends_of c.sweep n (drop tasks_at t))
          → rep ≡ report_bytes (ends_of c.sweep n (drop tasks_at t))
          → q ≤ places
          → ChangedAs t c t5 rep q
      unfolding table_bytes counts
      changed t5 rep q e5 eq er few =
          record {
            table =
                change_table counts (state_of t) c whole.eight whole.few room t t1 t2 t3 t4 k m written (rw counted at e1) (rw counted at ek)
                (rw counted at e2)
                em
                e3
                (rw fits.aca at e4)
                t5
                e5;
            report = er ∙ ap report_bytes ends;
            ended = eq ∙ ap (λ (es : List Ended). length es) ends;
            few = few;
          }
