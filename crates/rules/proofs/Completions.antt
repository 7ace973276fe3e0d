-- Laws of completions: every status gets the same answer and counts alike for run (RULES 6.7); one other than 02h does what GOOD does, and no more (RULES 6.9).
--
--   with_status st x := the ended record x with the status st
use Rattle.std.specs.Prelude.{Some, None, Option}
use Prim.Native.Nat.{ℕ}
use mathlib.Core.Bool.{Bool, true, false, cond, not}
use mathlib.Core.Path.{◌≡◌, refl, ap, sym, ◌∙◌}
use mathlib.Core.List.{List, [], ◌∷◌, ◌++◌, map, append-nil}
use native.Mathlib.Omega.{arith}
use lib.Dec.{ltb}
use lib.ListN.{length}
use borrow.Author.Tests.{not-true}
use Rattle.laws.specs.Lists.{any, first, passing}
use Rattle.laws.proofs.Bools.{and-true, or-false, none_some, some_is, split}
use Rattle.laws.proofs.Lists.{first_cases, first_passes, map_passing}
use Rattle.values.specs.Headers.{with_count, run_after, run_next}
use Rattle.rules.specs.Types.{Task, Finish, Good, Completion, Ended, Answer, Done, NexusAboveSeven, NoSuchTask, NotEnabled, Named, Ruling, Keeps, Changes}
use Rattle.rules.specs.Tasks.{nexuses, is_enabled, same, is_named, restate}
use Rattle.rules.specs.Rulings.{State, turn, end_if, kept, fates_of, answer_of, ruled, ended_from, report_of, task_name, same_name}
use Rattle.rules.specs.Rules.{status_of, ending, finish, complete, rule_for, ruling, step, answer, report}
use Rattle.rules.specs.Well.{WellFormed, distinct}
use Rattle.rules.proofs.Fates.{kept_others}
use Rattle.rules.proofs.Distinct.{same_parts}
use Rattle.rules.proofs.Cases.{finish_run, finish_ending, completion_cases}
use Rattle.rules.proofs.Ruled.{ruled_names}
use Rattle.rules.proofs.WellSays.{says_tested}

abbrev pub with_status : ℕ → Ended → Ended
with_status st x = record { nexus = x.nexus; status = st; tag = x.tag }

-- Who ends ---------------------------------------------------------------------------------------------------------------------------------

-- the status changes the records that have it, and nothing else
ended_status :
    (q : Task → Bool) (st other : ℕ) (ts : List Task)
    → ended_from (map (λ t. end_if (q t) st) ts) ts ≡ map (with_status st) (ended_from (map (λ t. end_if (q t) other) ts) ts)
ended_status q st other [] = refl
ended_status q st other (t ∷ ts) = go (q t) (ended_status q st other ts)
  where
    go :
        (b : Bool) → ended_from (map (λ t. end_if (q t) st) ts) ts ≡ map (with_status st) (ended_from (map (λ t. end_if (q t) other) ts) ts)
        → ended_from (end_if b st ∷ map (λ t. end_if (q t) st) ts) (t ∷ ts)
        ≡ map (with_status st) (ended_from (end_if b other ∷ map (λ t. end_if (q t) other) ts) (t ∷ ts))
    go true e = rw e
    go false e = e

none_ended : (q : Task → Bool) (st : ℕ) (ts : List Task) → any q ts ≡ false → ended_from (map (λ t. end_if (q t) st) ts) ts ≡ []
none_ended q st [] e = refl
none_ended q st (t ∷ ts) e = let o = or-false (q t) (any q ts) e in rw o.0 (none_ended q st ts o.1)

one_ended :
    (n g st : ℕ) (ts : List Task) (t : Task) → distinct ts ≡ true → first (same n g) ts ≡ Some t
    → ended_from (map (λ u. end_if (same n g u) st) ts) ts ≡ record { nexus = n; status = st; tag = g } ∷ []
one_ended n g st [] t d e = none_some t e
one_ended n g st (u ∷ us) t d e =
    let o : (not (any (same u.nexus u.tag) us) ≡ true) × (distinct us ≡ true) = and-true _ _ d in
    first_cases (same n g) u us t e
    (λ y z.
    let p = same_parts n g u y in
    let None = not-true (any (same u.nexus u.tag) us) o.0 in
    rw (y, none_ended (same n g) st us (rw (p.0, p.1) at None), p.0, p.1))
    (λ y z. rw y (one_ended n g st us t o.1 z))

-- Two completions of one task --------------------------------------------------------------------------------------------------------------

-- they are refused alike, or the same enabled task ends by the one or the other
pub both_completions :
    (P : Ruling → Ruling → Type 0) (s : State) (n g : ℕ) (f k : Finish) → ((a : Answer) → P (Keeps a) (Keeps a))
    → ((t : Task) → first (same n g) s.tasks ≡ Some t
    → P (Changes Done (finish s.header f t (is_named n g (turn s)))) (Changes Done (finish s.header k t (is_named n g (turn s)))))
    → P (ruling s (Completion n g f)) (ruling s (Completion n g k))
unfolding ruling rule_for complete
both_completions P s n g f k keeps ends =
    split (ltb n nexuses) (λ l. rw l (go (first (same n g) s.tasks) refl)) (λ l. rw l (keeps NexusAboveSeven))
  where
    go :
        (o : Option Task) → first (same n g) s.tasks ≡ o
        → P (complete s.header o f (is_named n g (turn s))) (complete s.header o k (is_named n g (turn s)))
    go None h = keeps NoSuchTask
    go (Some t) h = split (is_enabled t.state) (λ e. rw e (ends t h)) (λ e. rw e (keeps NotEnabled))

-- one that is answered 0: the task of that nexus and tag ends
accepted :
    (P : Ruling → Type 0) (s : State) (n g : ℕ) (f : Finish) → answer_of (ruling s (Completion n g f)) ≡ Done
    → ((t : Task) → first (same n g) s.tasks ≡ Some t → P (Changes Done (finish s.header f t (is_named n g (turn s)))))
    → P (ruling s (Completion n g f))
accepted P s n g f e ends =
    completion_cases (λ r. answer_of r ≡ Done → P r) s n g f
    (λ q. absurd (let z : ◌≡◌ {A = ℕ} 0 1 = cc in omega arith))
    (λ q. absurd (let z : ◌≡◌ {A = ℕ} 0 1 = cc in omega arith))
    (λ q. absurd (let z : ◌≡◌ {A = ℕ} 0 1 = cc in omega arith))
    (λ t l h k q. ends t h) e

module _ (s : State) (n g : ℕ) where
  -- RULES 6.8: 0, 4, 5 and 6 whatever the status
  pub same_answer : (f k : Finish) → answer s (Completion n g f) ≡ answer s (Completion n g k)
  unfolding answer
  same_answer f k = both_completions (λ r q. answer_of r ≡ answer_of q) s n g f k (λ a. refl) (λ t h. refl)

  -- the state afterwards, where the task t ends and the tasks us stay
  abbrev afterwards : Task → List Task → State
  afterwards t us =
      let a = s.header.aca in
      record {
        header = with_count (run_next s.header t.attribute (is_named n g (turn s))) (length (restate a a (us ++ [])));
        pending = s.pending;
        tasks = restate a a (us ++ []);
      }

  -- the status shows nowhere in it
  pub ends_alike :
      (f : Finish) → (status_of f ≡ 0x02 → ⊥) → (t : Task)
      → ruled s (Changes Done (finish s.header f t (is_named n g (turn s)))) ≡ ruled s (Changes Done (finish s.header Good t (is_named n g (turn s))))
  ends_alike f other t =
      rw (finish_ending s.header f t (is_named n g (turn s)) other)
      (ap (afterwards t) (kept_others (same t.nexus t.tag) (status_of f) s.tasks ∙ sym (kept_others (same t.nexus t.tag) 0x00 s.tasks)))

  -- RULES 6.9: the states after differ in nothing, the reports in the status
  pub as_good :
      (f : Finish) → (status_of f ≡ 0x02 → ⊥)
      → (step s (Completion n g f) ≡ step s (Completion n g Good))
      × (report s (Completion n g f) ≡ map (with_status (status_of f)) (report s (Completion n g Good)))
  unfolding step report
  as_good f other =
      both_completions (λ r q. (ruled s r ≡ ruled s q) × (report_of s r ≡ map (with_status (status_of f)) (report_of s q))) s n g f Good
      (λ a. (refl, refl))
      (λ t h. (ends_alike f other t, rw (finish_ending s.header f t (is_named n g (turn s)) other) (ended_status (same t.nexus t.tag) (status_of f) 0x00 s.tasks)))

  -- RULES 1.15, 1.16 and 6.7: every status counts alike for run, and only where the task was the named one on the table before
  pub completion_run :
      (f : Finish) (t : Task) → first (same n g) s.tasks ≡ Some t → answer s (Completion n g f) ≡ Done
      → (step s (Completion n g f)).header.run ≡ cond (is_named n g (turn s)) (run_after t.attribute s.header.run) s.header.run
  unfolding answer step
  completion_run f t h e =
      accepted (λ r. (ruled s r).header.run ≡ run_for t) s n g f e
      (λ u there. finish_run s.header f u (is_named n g (turn s)) ∙ some_is (λ x. run_for u ≡ run_for x) u t (sym there ∙ h) refl)
    where
      run_for : Task → ℕ
      run_for x = cond (is_named n g (turn s)) (run_after x.attribute s.header.run) s.header.run

  -- RULES 6.5 and 6.9: accepted or not, the ACA stands, and nobody is told
  pub aca_stands :
      (f : Finish) → (status_of f ≡ 0x02 → ⊥)
      → ((step s (Completion n g f)).header.aca ≡ s.header.aca) × ((step s (Completion n g f)).pending ≡ s.pending)
  unfolding step
  aca_stands f other =
      completion_cases (λ r. ((ruled s r).header.aca ≡ s.header.aca) × ((ruled s r).pending ≡ s.pending)) s n g f (refl, refl) (refl, refl) (refl, refl)
      (λ t l h k. rw (finish_ending s.header f t (is_named n g (turn s)) other) (refl, refl))

  -- who ends, by the task found
  fates_are :
      (f : Finish) (t : Task) → first (same n g) s.tasks ≡ Some t
      → fates_of s (Changes Done (ending s.header f t (is_named n g (turn s)))) ≡ map (λ u. end_if (same n g u) (status_of f)) s.tasks
  fates_are f t h =
      let p = same_parts n g t (first_passes (same n g) s.tasks t h) in
      λ i. map (λ u. end_if (same (p.0 i) (p.1 i) u) (status_of f)) s.tasks

  pub ends_one :
      (f : Finish) → (status_of f ≡ 0x02 → ⊥) → WellFormed s → (t : Task) → first (same n g) s.tasks ≡ Some t
      → report_of s (Changes Done (finish s.header f t (is_named n g (turn s)))) ≡ record { nexus = n; status = status_of f; tag = g } ∷ []
  ends_one f other w t h =
      rw (finish_ending s.header f t (is_named n g (turn s)) other)
      (ap (λ fs. ended_from fs s.tasks) (fates_are f t h) ∙ one_ended n g (status_of f) s.tasks t (says_tested s w).apart h)

  -- RULES 6.5 and 6.9: that task and no other ends, with that status
  pub only_ends :
      (f : Finish) → WellFormed s → (status_of f ≡ 0x02 → ⊥) → answer s (Completion n g f) ≡ Done
      → (report s (Completion n g f) ≡ record { nexus = n; status = status_of f; tag = g } ∷ [])
      × (map task_name (step s (Completion n g f)).tasks
      ≡ passing (λ (x : Named). not (same_name x (record { nexus = n; tag = g }))) (map task_name s.tasks))
  unfolding answer report step
  only_ends f w other e =
      accepted
      (λ r.
      (report_of s r ≡ record { nexus = n; status = status_of f; tag = g } ∷ [])
      × (map task_name (ruled s r).tasks ≡ passing (λ (x : Named). not (same_name x (record { nexus = n; tag = g }))) (map task_name s.tasks)))
      s n g f e (λ t h. (ends_one f other w t h, stay t h))
    where
      stay :
          (t : Task) → first (same n g) s.tasks ≡ Some t
          → map task_name (ruled s (Changes Done (finish s.header f t (is_named n g (turn s))))).tasks
          ≡ passing (λ (x : Named). not (same_name x (record { nexus = n; tag = g }))) (map task_name s.tasks)
      stay t h =
          let r = Changes Done (ending s.header f t (is_named n g (turn s))) in
          rw (finish_ending s.header f t (is_named n g (turn s)) other)
          (ruled_names s r ∙ append-nil (map task_name (kept (fates_of s r) s.tasks))
          ∙ ap (λ fs. map task_name (kept fs s.tasks)) (fates_are f t h)
          ∙ ap (map task_name) (kept_others (same n g) (status_of f) s.tasks)
          ∙ map_passing task_name (λ (x : Named). not (same_name x (record { nexus = n; tag = g }))) s.tasks)
