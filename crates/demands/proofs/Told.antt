-- The names that reports list are those of the tasks that ended, and a driver's ledger of names holds just the tasks of the table.
use Rattle.std.specs.Prelude.{Some, None, Option}
use Prim.Native.Nat.{ℕ}
use mathlib.Core.Bool.{Bool, true, false, cond, ◌&&◌, not, and-false as and_off}
use mathlib.Core.Path.{◌≡◌, refl, ap, sym, ◌∙◌}
use mathlib.Core.List.{List, [], ◌∷◌, ◌++◌, map, append_assoc, append-nil, map-append}
use lib.Dec.{eqb}
use lib.ListN.{length}
use borrow.Author.Tests.{eq-eqb, not-true}
use Rattle.laws.specs.Lists.{any}
use Rattle.laws.proofs.Bools.{and-true, or-false, none_some}
use Rattle.rules.specs.Tasks.{same}
use Rattle.rules.specs.Rulings.{State, kept, lost, fates_of, answer_of, report_of, task_name, ended_name, same_name}
use Rattle.rules.specs.Rules.{new_task, ruling, answer, report}
use Rattle.rules.specs.Well.{distinct}
use Rattle.rules.proofs.Fates.{any_lost, report_names as lost_names}
use Rattle.rules.proofs.Ruled.{step_ruled, answer_ruled, report_ruled, ruled_names}
use Rattle.rules.proofs.RulingCases.{ruling_cases}
use Rattle.rules.proofs.NewTasks.{new_task_name}
use Rattle.rules.proofs.WellKept.{Tested}
use Rattle.records.specs.Tables.{table_bytes, report_bytes}
use Rattle.records.specs.Events.{event_of}
use Rattle.history.specs.History.{Past, play, is_done}
use Rattle.history.proofs.Advanced.{advance_state, advance_log, play_append}
use Rattle.history.proofs.Reached.{tested_play}
use Rattle.operations.specs.AnswerNumbers.{writes_report}
use Rattle.operations.specs.Operations.{Outcome}
use Rattle.rules.specs.Types.{Task, Event, Command, Completion, Management, Condition, Fate, Named, Done, EndedAtEntry, Ruling, Changes}
use Rattle.demands.specs.Calls.{Call, applied, heard_if, heard, events_in, command_task, expected_on, expected_if, expected}
use Rattle.demands.specs.Seen.{kind_of, event_name, names_from, listed, listed_by, found, strike, strike_all, gained, ledger_by}
use Rattle.demands.proofs.Runs.{outcome_is, one_call}
use Rattle.demands.proofs.Reading.{Reads, event_reads, report_names}
use Rattle.demands.proofs.Counted.{done_number, fits}
use Rattle.demands.proofs.Entered.{enters_rule}

-- Listed -------------------------------------------------------------------------------------------------------------------------------------

abbrev names_of : Outcome → List Named
names_of o = names_from o.ended o.report

-- where the report is not written no task ended
names_on : (s : State) (r : List ℕ) (e : Event) → names_of (expected_on s r (Some e)) ≡ map ended_name (report s e)
names_on s r e =
    rw (answer_ruled s e, report_ruled s e)
    (ruling_cases
    (λ l.
    names_from (length (report_of s l)) (cond (writes_report (answer_of l)) (report_bytes (report_of s l)) r) ≡ map ended_name (report_of s l))
    s
    e
    (λ a. refl)
    (λ c. report_names (report_of s (Changes Done c)))
    (λ st se c. report_names (report_of s (Changes (EndedAtEntry st se) c))))

log_step :
    (h : Past) (b : Bool) (r : List ℕ) (o : Option Event)
    → map ended_name h.log ++ names_of (expected_if b h.state r o) ≡ map ended_name (play h (heard_if b o)).log
log_step h false r o = append-nil (map ended_name h.log)
log_step h true r None = append-nil (map ended_name h.log)
log_step h true r (Some e) =
    ap (λ (l : List Named). map ended_name h.log ++ l) (names_on h.state r e)
    ∙ sym (map-append ended_name h.log (report h.state e))
    ∙ ap (map ended_name) (sym (advance_log h e))

listed_is : (s : State) (m : Call) → Tested s → listed (table_bytes s) m ≡ names_of (expected s m)
listed_is s m w = ap names_of (outcome_is s m w)

pub listed_run :
    (ms : List Call) (h : Past) → Tested h.state
    → map ended_name h.log ++ listed_by (table_bytes h.state) ms ≡ map ended_name (play h (events_in ms)).log
listed_run [] h w = append-nil (map ended_name h.log)
listed_run (m ∷ ms) h w =
    let h' = play h (heard m) in
    let t = table_bytes h.state in
    let here : map ended_name h.log ++ listed t m ≡ map ended_name h'.log =
    ap (λ (l : List Named). map ended_name h.log ++ l) (listed_is h.state m w)
    ∙ log_step h (fits m) m.report (event_of m.event)
    in
    sym (append_assoc (map ended_name h.log) (listed t m) (listed_by (applied t m).table ms))
    ∙ ap (λ (l : List Named). l ++ listed_by (applied t m).table ms) here
    ∙ ap (λ (b : List ℕ). map ended_name h'.log ++ listed_by b ms) (one_call h m w)
    ∙ listed_run ms h' (tested_play h (heard m) w)
    ∙ ap (λ (g : Past). map ended_name g.log) (sym (play_append h (heard m) (events_in ms)))

-- Struck -------------------------------------------------------------------------------------------------------------------------------------

-- names that are not the first one's are struck behind it
strike_past :
    (ks : List Named) (x : Named) (l : List Named) → any (λ k. same_name k x) ks ≡ false
    → strike_all ks (x ∷ l) ≡ found (strike_all ks l) (λ r. Some (x ∷ r))
strike_past [] x l e = refl
strike_past (k ∷ ks) x l e =
    let o = or-false (same_name k x) (any (λ k. same_name k x) ks) e in
    rw o.0 (go (strike k l) (λ r. strike_past ks x r o.1))
  where
    go :
        (o : Option (List Named)) → ((r : List Named) → strike_all ks (x ∷ r) ≡ found (strike_all ks r) (λ r. Some (x ∷ r)))
        → found (found o (λ r. Some (x ∷ r))) (strike_all ks) ≡ found (found o (strike_all ks)) (λ r. Some (x ∷ r))
    go None f = refl
    go (Some r) f = f r

any_names : (t : Task) (us : List Task) → any (λ k. same_name k (task_name t)) (map task_name us) ≡ any (same t.nexus t.tag) us
any_names t [] = refl
any_names t (u ∷ us) = rw (any_names t us)

-- where no two tasks share nexus and tag, striking those that end leaves those that stay, in order
strike_lost :
    (fs : List Fate) (ts : List Task) → distinct ts ≡ true
    → strike_all (map task_name (lost fs ts)) (map task_name ts) ≡ Some (map task_name (kept fs ts))
strike_lost [] ts d = refl
strike_lost (f ∷ fs) [] d = refl
strike_lost (None ∷ fs) (t ∷ ts) d =
    let o = and-true (not (any (same t.nexus t.tag) ts)) (distinct ts) d in
    strike_past (map task_name (lost fs ts)) (task_name t) (map task_name ts)
    (any_names t (lost fs ts) ∙ any_lost (same t.nexus t.tag) fs ts (not-true _ o.0))
    ∙ ap (λ (r : Option (List Named)). found r (λ l. Some (task_name t ∷ l))) (strike_lost fs ts o.1)
strike_lost (Some st ∷ fs) (t ∷ ts) d =
    let o = and-true (not (any (same t.nexus t.tag) ts)) (distinct ts) d in
    rw (eq-eqb t.nexus t.nexus refl, eq-eqb t.tag t.tag refl) (strike_lost fs ts o.1)

-- The ledger ---------------------------------------------------------------------------------------------------------------------------------

struck_by :
    (s : State) (l : Ruling) → distinct s.tasks ≡ true
    → strike_all (map ended_name (report_of s l)) (map task_name s.tasks) ≡ Some (map task_name (kept (fates_of s l) s.tasks))
struck_by s l d =
    ap (λ (ks : List Named). strike_all ks (map task_name s.tasks)) (lost_names (fates_of s l) s.tasks)
    ∙ strike_lost (fates_of s l) s.tasks d

nobody : (d : Bool) → [] ≡ map task_name (cond d [] [])
nobody true = refl
nobody false = refl

-- a call that is refused changes nothing
kept_as_is :
    (h : Past) (e : List ℕ)
    → Some (map task_name h.state.tasks ++ cond (eqb (kind_of e) 1 && false) (event_name e ∷ []) []) ≡ Some (map task_name h.state.tasks)
kept_as_is h e = rw (and_off (eqb (kind_of e) 1), append-nil (map task_name h.state.tasks))

-- whom a call gains, by its bytes and as a task
gained_is :
    (e : List ℕ) (v : Event) (d : Bool) → Reads (Some v) e
    → cond (eqb (kind_of e) 1 && d) (event_name e ∷ []) [] ≡ map task_name (cond d (command_task (Some v)) [])
gained_is e (Command c) d q =
    ap (λ (k : ℕ). cond (eqb k 1 && d) (event_name e ∷ []) []) q.0
    ∙ ap (λ (x : Named). cond d (x ∷ []) []) (q.1 ∙ sym (new_task_name c))
    ∙ go d
  where
    go : (d : Bool) → cond d (task_name (new_task c) ∷ []) [] ≡ map task_name (cond d (new_task c ∷ []) [])
    go true = refl
    go false = refl
gained_is e (Completion n g f) d q = rw q.0 (nobody d)
gained_is e (Management n f) d q = rw q (nobody d)
gained_is e (Condition c) d q = rw q (nobody d)

one_call_if :
    (h : Past) (b : Bool) (r e : List ℕ) (o : Option Event) → Tested h.state → Reads o e
    → found (strike_all (names_of (expected_if b h.state r o)) (map task_name h.state.tasks))
    (λ k. Some (k ++ cond (eqb (kind_of e) 1 && is_done (expected_if b h.state r o).answer) (event_name e ∷ []) []))
    ≡ Some (map task_name (play h (heard_if b o)).state.tasks)
one_call_if h false r e o w q = kept_as_is h e
one_call_if h true r e None w q = kept_as_is h e
one_call_if h true r e (Some v) w q =
    let s = h.state in
    let l = ruling s v in
    let grows : List Named → List Named = λ k. k ++ cond (eqb (kind_of e) 1 && is_done (answer s v)) (event_name e ∷ []) [] in
    ap (λ (ks : List Named). found (strike_all ks (map task_name s.tasks)) (λ k. Some (grows k))) (names_on s r v ∙ ap (map ended_name) (report_ruled s v))
    ∙ ap (λ (x : Option (List Named)). found x (λ k. Some (grows k))) (struck_by s l w.apart)
    ∙ ap (λ (x : List Named). Some (map task_name (kept (fates_of s l) s.tasks) ++ x))
    (gained_is e v (is_done (answer s v)) q ∙ ap (map task_name) (sym (enters_rule s v)))
    ∙ ap {B = Option (List Named)} Some (sym (ruled_names s l))
    ∙ ap (λ (z : State). Some (map task_name z.tasks)) (sym (advance_state h v ∙ step_ruled s v))

found_then :
    {A B C : Type 0} (o : Option A) (f : A → B) (g : B → Option C) (b : B) → found o (λ a. Some (f a)) ≡ Some b
    → found o (λ a. g (f a)) ≡ g b
found_then None f g b e = none_some b e
found_then (Some a) f g b e = let z : f a ≡ b = cc in ap g z

one_ledger :
    (h : Past) (m : Call) → Tested h.state
    → found (strike_all (listed (table_bytes h.state) m) (map task_name h.state.tasks))
    (λ k. Some (k ++ gained (table_bytes h.state) m))
    ≡ Some (map task_name (play h (heard m)).state.tasks)
one_ledger h m w =
    rw (outcome_is h.state m w, done_number (expected h.state m).answer)
    (one_call_if h (fits m) m.report m.event (event_of m.event) w (event_reads m.event (event_of m.event) refl))

pub ledger_run :
    (ms : List Call) (h : Past) → Tested h.state
    → ledger_by (table_bytes h.state) ms (map task_name h.state.tasks) ≡ Some (map task_name (play h (events_in ms)).state.tasks)
ledger_run [] h w = refl
ledger_run (m ∷ ms) h w =
    let h' = play h (heard m) in
    let t = table_bytes h.state in
    found_then (strike_all (listed t m) (map task_name h.state.tasks)) (λ k. k ++ gained t m) (ledger_by (applied t m).table ms)
    (map task_name h'.state.tasks)
    (one_ledger h m w)
    ∙ ap (λ (b : List ℕ). ledger_by b ms (map task_name h'.state.tasks)) (one_call h m w)
    ∙ ledger_run ms h' (tested_play h (heard m) w)
    ∙ ap (λ (g : Past). Some (map task_name g.state.tasks)) (sym (play_append h (heard m) (events_in ms)))
