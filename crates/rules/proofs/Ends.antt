-- Who ends by an event, and what becomes of those that stay as an ACA begins: for every state and every event.
use Rattle.std.specs.Prelude.{Some, None}
use Prim.Native.Nat.{ℕ}
use mathlib.Core.Bool.{Bool, true, false}
use mathlib.Core.Path.{◌≡◌, refl, ap, sym, ◌∙◌}
use mathlib.Core.List.Sublist
use mathlib.Core.List.{List, [], ◌∷◌, ◌++◌, map, append-nil, Sublist, nil-sublist}
use mathlib.Core.Logic.{◌⊎◌, inl, inr}
use native.Mathlib.Omega.{arith}
use lib.Dec.{eqb}
use lib.ListN.{length, length-append}
use Rattle.laws.proofs.Bools.{not_both, cases}
use Rattle.rules.specs.Types.{Dormant, Enabled, Blocked, Task, Finish, Function, AbortTask, AbortTaskSet, ClearTaskSet, ClearAca, LogicalUnitReset, Unknown, Happening, PowerOn, HardReset, NexusLoss, Event, Command, Completion, Management, Condition, Allegiance, Header, Fate, Ruling, Keeps, Changes}
use Rattle.rules.specs.Rulings.{State, is_clear, kept, lost, fate_of, fates_of, newcomers, joins_of, ruled, task_name, ended_name}
use Rattle.rules.specs.Rules.{finish, clearing, manage, happen, ruling, step, report}
use Rattle.rules.specs.Well.{Stands}
use Rattle.rules.proofs.Fates.{map_lost, report_names}
use Rattle.rules.proofs.Distinct.{blocked_task}
use Rattle.rules.proofs.Cases.{enter_cases, failing_joins, finish_cases, completion_cases, other_cases}

-- The report -------------------------------------------------------------------------------------------------------------------------------

lost_within : {A : Type 0} (fs : List Fate) (xs : List A) → Sublist (lost fs xs) xs
lost_within [] xs = nil-sublist xs
lost_within (f ∷ fs) [] = nil-sublist []
lost_within (None ∷ fs) (x ∷ xs) = Sublist.cons x (lost_within fs xs)
lost_within (Some st ∷ fs) (x ∷ xs) = Sublist.cons-cons x (lost_within fs xs)

-- RULES 4.9: the names in the report are those in the table, in its order, some left out
pub report_within : (s : State) (e : Event) → Sublist (map ended_name (report s e)) (map task_name s.tasks)
unfolding report
report_within s e =
    let fs = fates_of s (ruling s e) in
    rw (report_names fs s.tasks, map_lost task_name fs s.tasks) (lost_within fs (map task_name s.tasks))

-- Who was there ----------------------------------------------------------------------------------------------------------------------------

-- the task t of the table afterwards was in the table before, under the same nexus and tag; RULES 2.8 of its state
pub record WasThere (before : List Task) (t : Task) : Type 0 where
  pub task : Task
  pub older : List Task
  pub younger : List Task
  pub stood : Stands before older task younger
  pub nexus : t.nexus ≡ task.nexus
  pub tag : t.tag ≡ task.tag
  pub dormant_stays : task.state ≡ Dormant → t.state ≡ Dormant
  pub enabled_blocked : task.state ≡ Enabled → t.state ≡ Blocked

not_nil : {P : Type 0} (older : List Task) (t : Task) (younger : List Task) → Stands [] older t younger → P
not_nil older t younger e = absurd (omega (arith, simp length-append at (ap length e)))

was_further : (u : Task) (ts : List Task) (t : Task) → WasThere ts t → WasThere (u ∷ ts) t
was_further u ts t w =
    record {
      task = w.task;
      older = u ∷ w.older;
      younger = w.younger;
      stood = ap {B = List Task} (λ l. u ∷ l) w.stood;
      nexus = w.nexus;
      tag = w.tag;
      dormant_stays = w.dormant_stays;
      enabled_blocked = w.enabled_blocked;
    }

-- one that stayed, now the first of those left
was_first : (u : Task) (us : List Task) (t : Task) → blocked_task u ≡ t → WasThere (u ∷ us) t
was_first u us t e =
    record {
      task = u;
      older = [];
      younger = us;
      stood = refl;
      nexus = rw (← e) refl;
      tag = rw (← e) refl;
      dormant_stays = λ h. rw (← e, h) refl;
      enabled_blocked = λ h. rw (← e, h) refl;
    }

blocked_were :
    (fs : List Fate) (ts older : List Task) (t : Task) (younger : List Task) → Stands (map blocked_task (kept fs ts)) older t younger
    → WasThere ts t
blocked_were [] [] older t younger e = not_nil older t younger e
blocked_were [] (u ∷ us) [] t younger e = was_first u us t (cc)
blocked_were [] (u ∷ us) (o ∷ os) t younger e =
    let z : map blocked_task us ≡ os ++ (t ∷ younger) = cc in
    was_further u us t (blocked_were [] us os t younger z)
blocked_were (f ∷ fs) [] older t younger e = not_nil older t younger e
blocked_were (None ∷ fs) (u ∷ us) [] t younger e = was_first u us t (cc)
blocked_were (None ∷ fs) (u ∷ us) (o ∷ os) t younger e =
    let z : map blocked_task (kept fs us) ≡ os ++ (t ∷ younger) = cc in
    was_further u us t (blocked_were fs us os t younger z)
blocked_were (Some st ∷ fs) (u ∷ us) older t younger e = was_further u us t (blocked_were fs us older t younger e)

-- Who joins --------------------------------------------------------------------------------------------------------------------------------

abbrev pub is_command : Event → Bool
is_command (Command c) = true
is_command (Completion n g f) = false
is_command (Management n f) = false
is_command (Condition c) = false

finish_joins : (h : Header) (f : Finish) (t : Task) (b : Bool) → newcomers (finish h f t b).joins ≡ []
finish_joins h f t b = finish_cases (λ c. newcomers c.joins ≡ []) h f t b (λ q. refl) (λ q. refl)

manage_joins : (h : Header) (n : ℕ) (f : Function) → joins_of (manage h n f) ≡ []
unfolding manage
manage_joins h n (AbortTask g) = refl
manage_joins h n AbortTaskSet = refl
manage_joins h n ClearTaskSet = refl
manage_joins h n ClearAca = go h.aca
  where
    go : (a : Allegiance) → joins_of (clearing h n a) ≡ []
    go None = refl
    go (Some f) = cases (λ r. joins_of r ≡ []) (eqb n f) (λ e. refl) (λ e. refl)
manage_joins h n LogicalUnitReset = refl
manage_joins h n Unknown = refl

happen_joins : (h : Header) (c : Happening) → joins_of (happen h c) ≡ []
unfolding happen
happen_joins h PowerOn = refl
happen_joins h HardReset = refl
happen_joins h (NexusLoss n) = refl

-- RULES 5.14: nothing but a command lets a task in
pub only_commands_join : (s : State) (e : Event) → is_command e ≡ false → joins_of (ruling s e) ≡ []
only_commands_join s e =
    other_cases (λ e r. is_command e ≡ false → joins_of r ≡ []) s (λ e n. refl)
    (λ n g f. completion_cases (λ r. false ≡ false → joins_of r ≡ []) s n g f (λ z. refl) (λ z. refl) (λ z. refl) (λ t l h k z. finish_joins s.header f t _))
    (λ c l n. not_both refl n)
    (λ n f z. manage_joins s.header n f)
    (λ c z. happen_joins s.header c)
    e

-- An ACA begins ----------------------------------------------------------------------------------------------------------------------------

-- nobody joins, or the ACA is as it was
abbrev JoinsInPeace : State → Ruling → Type 0
JoinsInPeace s r = (joins_of r ≡ []) ⊎ ((ruled s r).header.aca ≡ s.header.aca)

joins_in_peace : (s : State) (e : Event) → JoinsInPeace s (ruling s e)
joins_in_peace s e =
    other_cases (λ e. JoinsInPeace s) s (λ e. inl refl) (λ n g f. inl (only_commands_join s (Completion n g f) refl))
    (λ c l. enter_cases (JoinsInPeace s) s.header c _ _ _ (λ se w o. inl (ap newcomers (failing_joins s.header c w o))) (λ st. inl refl) (λ p. inr refl))
    (λ n f. inl (manage_joins s.header n f))
    (λ c. inl (happen_joins s.header c))
    e

-- RULES 2.8, and nobody joins
pub aca_begins_lem :
    (s : State) (e : Event) (f : ℕ) → s.header.aca ≡ None → (step s e).header.aca ≡ Some f
    → (older : List Task) (t : Task) (younger : List Task) → Stands (step s e).tasks older t younger → WasThere s.tasks t
unfolding step
aca_begins_lem s e f before begun older t younger stands = go (ruling s e) (joins_in_peace s e) begun stands
  where
    go :
        (r : Ruling) → JoinsInPeace s r → (ruled s r).header.aca ≡ Some f → Stands (ruled s r).tasks older t younger
        → WasThere s.tasks t
    go r (inr same) h k = not_both (ap is_clear before) (ap is_clear (sym same ∙ h))
    go (Keeps a) (inl nobody) h k = not_both (ap is_clear before) (ap is_clear h)
    go (Changes a c) (inl nobody) h k =
        blocked_were (map (fate_of c.sweep) s.tasks) s.tasks older t younger (rw (before, h, nobody, append-nil) at k)
