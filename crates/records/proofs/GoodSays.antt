-- The writing of a well-formed state is a good table; and the test of a good table holds exactly if the statement does (RULES 17.3).
use Rattle.std.specs.Prelude.{Some, None}
use Prim.Native.Nat.{ℕ, zero, suc, ◌+◌, ◌-◌, ◌*◌, ◌≤◌, ◌<◌}
use mathlib.Core.Bool.{Bool, true, false, ◌&&◌}
use mathlib.Core.Path.{◌≡◌, refl, ap, sym, ◌∙◌}
use mathlib.Core.List.{List, [], ◌∷◌, ◌++◌}
use mathlib.Core.Logic.{◌↔◌}
use native.Mathlib.Omega.{arith}
use native.Mathlib.Numerals.{add-one}
use native.Mathlib.Nat.{zero-add, mul-suc, mul-zero}
use lib.Dec.{ltb}
use lib.ListN.{length, take, drop}
use lib.Seq.{drop-drop}
use borrow.Author.Tests.{eq-eqb, ltb-true, lt-ltb, le-leb, leb-false}
use Rattle.laws.specs.Lists.{any}
use Rattle.laws.specs.RecordsInLists.{record_at, joined}
use Rattle.laws.proofs.Bools.{and-true, or-false}
use Rattle.octets.specs.Sizes.{nexus_size, task_size, nexuses_at, tasks_at}
use Rattle.values.specs.Headers.{most_run}
use Rattle.rules.specs.Tasks.{places, nexuses}
use Rattle.rules.specs.Rulings.{State}
use Rattle.rules.specs.Well.{WellFormed, fault_fits, too_high}
use Rattle.rules.proofs.WellKept.{Tested, from_tested}
use Rattle.rules.proofs.WellSays.{well_formed_says, says_tested}
use Rattle.rules.specs.Types.{TaskState, Dormant, Enabled, Blocked, Task, Qerr, EndNone, EndAll, EndNexus, Policy, Allegiance, Pending, Header}
use Rattle.records.specs.Numbers.{flag, state_number, state_fits, aca_number, policy_number, policy_fits}
use Rattle.records.specs.Records.{header_bytes, header_fits, nexus_fits, task_bytes, task_fits, unused_fits}
use Rattle.records.specs.Tables.{Bytes, count_in, state_of, nexus_records, unused_records, task_records, counts_of, table_bytes, GoodTable, nexuses_fit, tasks_fit, unused_fit, good_table}
use Rattle.records.proofs.Values.{attribute_fits_lem, pending_fits_lem}
use Rattle.records.proofs.ReadBack.{state_back_again, length_table, table_header, written_count, table_behind_header, table_tasks, behind_used}
use Rattle.records.proofs.Good.{table_tested, tested_table, table_good}

-- What is written fits ---------------------------------------------------------------------------------------------------------------------

policy_fits_lem : (p : Policy) → policy_fits (policy_number p) ≡ true
policy_fits_lem p = go p.qerr p.tas
  where
    go : (q : Qerr) (t : Bool) → policy_fits (policy_number (record { qerr = q; tas = t })) ≡ true
    go EndNone true = refl
    go EndNone false = refl
    go EndAll true = refl
    go EndAll false = refl
    go EndNexus true = refl
    go EndNexus false = refl

aca_fits : (a : Allegiance) → fault_fits a ≡ true → aca_number a ≤ nexuses
aca_fits None e = omega arith
aca_fits (Some f) e = omega (arith, ltb-true f nexuses e)

header_fits_lem : (h : Header) → h.count ≤ places → fault_fits h.aca ≡ true → h.run ≤ most_run → header_fits (header_bytes h) ≡ true
header_fits_lem h c f r =
    rw (policy_fits_lem h.policy, le-leb h.count places c, le-leb (aca_number h.aca) nexuses (aca_fits h.aca f), le-leb h.run most_run r)

nexuses_fit_lem : (i : ℕ) (ps : List Pending) (rest : List ℕ) → nexuses_fit i (length ps) (nexus_records (λ j. 0) i ps ++ rest) ≡ true
unfolding nexuses_fit nexus_records
nexuses_fit_lem i [] rest = refl
nexuses_fit_lem i (p ∷ ps) rest =
    rw (pending_fits_lem p, eq-eqb i i refl, add-one) (nexuses_fit_lem (suc i) ps rest)

state_fits_lem : (st : TaskState) → state_fits (state_number st) ≡ true
state_fits_lem Dormant = refl
state_fits_lem Enabled = refl
state_fits_lem Blocked = refl

flag_fits : (b : Bool) → ltb (flag b) 2 ≡ true
flag_fits true = refl
flag_fits false = refl

tasks_fit_lem : (ts : List Task) (rest : List ℕ) → any too_high ts ≡ false → tasks_fit (length ts) (joined task_bytes ts ++ rest) ≡ true
unfolding tasks_fit
tasks_fit_lem [] rest e = refl
tasks_fit_lem (t ∷ ts) rest e =
    let o = or-false (too_high t) (any too_high ts) e in
    rw (lt-ltb t.nexus nexuses (leb-false nexuses t.nexus o.0), flag_fits t.naca, attribute_fits_lem t.attribute, state_fits_lem t.state)
    (tasks_fit_lem ts rest o.1)

unused_fit_lem : (n : ℕ) → unused_fit n (unused_records n) ≡ true
unfolding unused_fit unused_records
unused_fit_lem zero = refl
unused_fit_lem (suc n) = unused_fit_lem n

-- the writing of a well-formed state is a good table
pub good_written : (s : State) → Tested s → good_table (table_bytes s) ≡ true
unfolding table_bytes
good_written s w =
    tested_table (table_bytes s)
    (record {
      long = length_table (counts_of s) s w.eight w.few;
      header = rw (table_header (counts_of s) s) (header_fits_lem s.header (omega (arith, w.few, w.counted)) w.fault w.run);
      nexus_records_lem =
          rw (table_behind_header (counts_of s) s)
          (ap (λ (n : ℕ). nexuses_fit 0 n (nexus_records (counts_of s) 0 s.pending ++ task_records s.tasks)) (sym w.eight)
          ∙ nexuses_fit_lem 0 s.pending (task_records s.tasks));
      used = ap (λ (n : ℕ). tasks_fit n (drop tasks_at (table_bytes s))) count ∙ ap (tasks_fit (length s.tasks)) (table_tasks (counts_of s) s w.eight) ∙ tasks_fit_lem s.tasks (unused_records (places - length s.tasks)) w.nexuses;
      unused =
          ap (λ (n : ℕ). unused_fit (places - n) (drop (tasks_at + task_size * n) (table_bytes s))) count
          ∙ ap (unused_fit (places - length s.tasks)) (behind_used (counts_of s) s w.eight)
          ∙ unused_fit_lem (places - length s.tasks);
      well = rw (state_back_again s w.counted w.eight) (from_tested s w);
    })
  where
    count : count_in (table_bytes s) ≡ length s.tasks
    count = written_count s ∙ w.counted

-- a table of bytes is good exactly if it is the writing of a well-formed state
pub good_is_written : (b : List ℕ) → Bytes b → (good_table b ≡ true) ↔ (WellFormed (state_of b) × (table_bytes (state_of b) ≡ b))
good_is_written b by = (
  λ e. ((well_formed_says (state_of b)).0 (table_tested b e).well, table_good b by e),
  λ w. rw w.1 at (good_written (state_of b) (says_tested (state_of b) w.0)),
)

-- The statement ----------------------------------------------------------------------------------------------------------------------------

-- a walk that tests every record, and what it says of each
module _ (w : ℕ) (fit : ℕ → List ℕ → Bool) (walk : ℕ → ℕ → List ℕ → Bool)
    (none : (i : ℕ) (l : List ℕ) → walk i 0 l ≡ true)
    (one : (i n : ℕ) (l : List ℕ) → walk i (suc n) l ≡ fit i (take w l) && walk (suc i) n (drop w l)) where
  first : (at : ℕ) → at + w * 0 ≡ at
  first at = rw mul-zero (omega arith)

  further : (at k : ℕ) → at + w * suc k ≡ at + w + w * k
  further at k = rw mul-suc (omega arith)

  walk_says : (n i : ℕ) (b : List ℕ) (at : ℕ) → walk i n (drop at b) ≡ true → (k : ℕ) → k < n → fit (i + k) (record_at w b (at + w * k)) ≡ true
  walk_says zero i b at e k h = absurd (omega arith)
  walk_says (suc n) i b at e zero h =
      let o = and-true (fit i (take w (drop at b))) _ (sym (one i n (drop at b)) ∙ e) in
      rw ((let z : i + 0 ≡ i = omega arith in z), first at) o.0
  walk_says (suc n) i b at e (suc k) h =
      let o = and-true (fit i (take w (drop at b))) _ (sym (one i n (drop at b)) ∙ e) in
      rw ((let z : i + suc k ≡ suc i + k = omega arith in z), further at k)
      (walk_says n (suc i) b (at + w) (rw (drop-drop w at b) at o.1) k (omega arith))

  says_walk :
      (n i : ℕ) (b : List ℕ) (at : ℕ) → ((k : ℕ) → k < n → fit (i + k) (record_at w b (at + w * k)) ≡ true) → walk i n (drop at b) ≡ true
  says_walk zero i b at h = none i (drop at b)
  says_walk (suc n) i b at h =
      one i n (drop at b)
      ∙ rw (
        (let z : ◌≡◌ {A = Bool} (fit i (take w (drop at b))) true = rw ((let z : i + 0 ≡ i = omega arith in z), first at) at (h 0 (omega arith)) in z),
        drop-drop w at b,
      )
      (says_walk n (suc i) b (at + w)
      (λ k l. rw ((let z : i + suc k ≡ suc i + k = omega arith in z), further at k) at (h (suc k) (omega arith))))

-- the test holds exactly if the statement does
pub good_table_says : (b : List ℕ) → (good_table b ≡ true) ↔ GoodTable b
unfolding nexuses_fit tasks_fit unused_fit
good_table_says b = (to, from)
  where
    n : ℕ
    n = count_in b

    place : (i : ℕ) → n ≤ i → tasks_at + task_size * n + task_size * (i - n) ≡ tasks_at + task_size * i
    place i l = omega arith

    to : good_table b ≡ true → GoodTable b
    to e =
        let w = table_tested b e in
        record {
          long = w.long;
          header = w.header;
          nexus = λ i h. rw zero-add at (walk_says nexus_size nexus_fits nexuses_fit (λ i l. refl) (λ i n l. rw add-one) nexuses 0 b nexuses_at w.nexus_records_lem i h);
          used = λ i h. walk_says task_size (λ i. task_fits) (λ i. tasks_fit) (λ i l. refl) (λ i n l. refl) n 0 b tasks_at w.used i h;
          unused =
              λ i l h.
              rw (place i l) at
              (walk_says task_size (λ i. unused_fits) (λ i. unused_fit) (λ i l. refl) (λ i n l. refl) (places - n) 0 b (tasks_at + task_size * n) w.unused (i - n)
              (omega arith));
          well = (well_formed_says (state_of b)).0 w.well;
        }

    from : GoodTable b → good_table b ≡ true
    from w =
        tested_table b
        (record {
          long = w.long;
          header = w.header;
          nexus_records_lem = says_walk nexus_size nexus_fits nexuses_fit (λ i l. refl) (λ i n l. rw add-one) nexuses 0 b nexuses_at (λ k h. rw zero-add (w.nexus k h));
          used = says_walk task_size (λ i. task_fits) (λ i. tasks_fit) (λ i l. refl) (λ i n l. refl) n 0 b tasks_at (λ k h. w.used k h);
          unused =
              says_walk task_size (λ i. unused_fits) (λ i. unused_fit) (λ i l. refl) (λ i n l. refl) (places - n) 0 b (tasks_at + task_size * n)
              (λ k h.
              let z : tasks_at + task_size * (n + k) ≡ tasks_at + task_size * n + task_size * k = omega arith in
              rw z at (w.unused (n + k) (omega arith) (omega arith)));
          well = (well_formed_says (state_of b)).1 w.well;
        })
