-- The mission's demand 2: over any calls on a started table, the operations follow the rules.
use Rattle.std.specs.Prelude.{Some}
use Prim.Native.Nat.{ℕ}
use mathlib.Core.Path.{◌≡◌, refl, ap, sym, ◌∙◌}
use mathlib.Core.Bool.{cond}
use mathlib.Core.List.{List, [], ◌∷◌, ◌++◌, map, append-nil}
use native.Mathlib.Omega.{arith}
use Rattle.rules.specs.Rulings.{fresh, task_name, ended_name}
use Rattle.rules.proofs.FreshSet.{fresh_tasks}
use Rattle.rules.proofs.WellKept.{tested_fresh}
use Rattle.records.specs.Numbers.{policy_from}
use Rattle.records.specs.Tables.{table_bytes}
use Rattle.records.specs.Events.{event_of}
use Rattle.records.proofs.ReadBack.{state_back_again}
use Rattle.records.proofs.GoodSays.{good_written, good_table_says}
use Rattle.history.specs.History.{Past, begin, play, after}
use Rattle.history.proofs.Advanced.{play_append}
use Rattle.history.proofs.Reached.{tested_after}
use Rattle.history.proofs.Conserve.{exactly_one, ended_grows}
use Rattle.history.proofs.Identity.{known}
use Rattle.operations.specs.Operations.{started}
use Rattle.operations.proofs.Answered.{number_of}
use Rattle.operations.proofs.Starts.{started_cases}
use Rattle.rules.specs.Types.{Task, Event, Policy}
use Rattle.numbers.specs.Boundary.{start_number}
use Rattle.demands.specs.Calls.{Call, table_by, heard, events_in, command_task, opened}
use Rattle.demands.specs.Seen.{present_in, is_accepted, listed_by, ledger_by}
use Rattle.demands.specs.Demands.{Demand2}
use Rattle.demands.proofs.Runs.{outcome_is, named_is, table_runs, events_append}
use Rattle.demands.proofs.Reading.{present_is}
use Rattle.demands.proofs.Entered.{lets_one}
use Rattle.demands.proofs.Told.{listed_run, ledger_run}

pub started_opened : (t : List ℕ) (b : ℕ) → start_number t b ≡ 0 → (started t b).table ≡ opened (policy_from b)
unfolding opened
started_opened t b =
    started_cases (λ o. number_of o.answer ≡ 0 → o.table ≡ table_bytes (fresh (policy_from b))) t b (λ n q. absurd (omega arith))
    (λ l f q. absurd (omega arith))
    (λ q. refl)

module _ (p : Policy) where
  pub table_after_lem : (ms : List Call) → table_by (opened p) ms ≡ table_bytes (after p (events_in ms)).state
  unfolding opened
  table_after_lem ms = table_runs ms (begin (fresh p)) (tested_fresh p)

  pub after_append : (xs ys : List Call) → after p (events_in (xs ++ ys)) ≡ play (after p (events_in xs)) (events_in ys)
  after_append xs ys = rw (events_append xs ys) (play_append (begin (fresh p)) (events_in xs) (events_in ys))

  pub lets_after :
      (ms : List Call) (m : Call)
      → (after p (events_in (ms ++ (m ∷ [])))).roll
      ≡ (after p (events_in ms)).roll ++ cond (is_accepted (table_by (opened p) ms) m) (command_task (event_of m.event)) []
  lets_after ms m =
      let h = after p (events_in ms) in
      ap (λ (g : Past). g.roll) (after_append ms (m ∷ []))
      ∙ ap (λ (l : List Event). (play h l).roll) (append-nil (heard m))
      ∙ lets_one h m (tested_after p (events_in ms))
      ∙ ap (λ (t : List ℕ). h.roll ++ cond (is_accepted t m) (command_task (event_of m.event)) []) (sym (table_after_lem ms))

  listed_all : (ms : List Call) → listed_by (opened p) ms ≡ map ended_name (after p (events_in ms)).log
  unfolding opened
  listed_all ms = listed_run ms (begin (fresh p)) (tested_fresh p)

  ledger_after : (ms : List Call) → ledger_by (opened p) ms [] ≡ Some (present_in (table_by (opened p) ms))
  unfolding opened
  ledger_after ms =
      ap (λ (l : List Task). ledger_by (opened p) ms (map task_name l)) (sym (fresh_tasks p))
      ∙ ledger_run ms (begin (fresh p)) (tested_fresh p)
      ∙ ap (λ l. Some l)
      (sym (present_is (after p (events_in ms)).state (tested_after p (events_in ms)))
      ∙ ap present_in (sym (table_after_lem ms)))

pub demand2 : Demand2
demand2 =
    record {
      begins = started_opened;
      table = table_after_lem;
      names = λ p ms. rw (table_after_lem p ms) (named_is (after p (events_in ms)).state (tested_after p (events_in ms)));
      answers = λ p ms m. rw (table_after_lem p ms) (outcome_is (after p (events_in ms)).state m (tested_after p (events_in ms)));
      well =
          λ p ms.
          rw (table_after_lem p ms)
          ((good_table_says (table_bytes (after p (events_in ms)).state)).0
          (good_written (after p (events_in ms)).state (tested_after p (events_in ms))));
      lets_in = lets_after;
      once = λ p ms. exactly_one p (events_in ms);
      never_back = λ p ms later. rw (after_append p ms later) (ended_grows (after p (events_in ms)) (events_in later));
      tasks_in_table =
          λ p ms.
          let w = tested_after p (events_in ms) in
          rw (table_after_lem p ms, state_back_again (after p (events_in ms)).state w.counted w.eight) (known p (events_in ms)).table;
      reported = λ p ms. listed_all p ms ∙ (known p (events_in ms)).reports;
      ledger = λ t b ms q. rw (started_opened t b q) (ledger_after (policy_from b) ms);
    }
