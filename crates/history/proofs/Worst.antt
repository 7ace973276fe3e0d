-- The events of a worst case, one stretch after the other: how many turns they are, and the table that they lead to.
use Prim.Native.Nat.{ℕ, zero, suc, ◌+◌, ◌-◌, ◌*◌, ◌/◌, ◌≤◌, ◌<◌, min}
use mathlib.Core.Bool.{Bool, true, false, and-false as and_off}
use mathlib.Core.Path.{◌≡◌, refl, sym, ◌∙◌}
use mathlib.Core.List.{List, [], ◌∷◌, ◌++◌, append-nil, append_assoc}
use native.Mathlib.Omega.{arith}
use lib.Dec.{eqb, ltb}
use lib.ListN.{length, length-append}
use lib.Seq.{append_snoc}
use borrow.Author.Tests.{ne_eqb}
use Rattle.laws.specs.Lists.{any}
use Rattle.laws.proofs.Lists.{any_append}
use Rattle.rules.specs.Types.{Attribute, Simple, HeadOfQueue, Task, Finish, Completion, Good, Policy}
use Rattle.rules.specs.Tasks.{places, nexuses, is_head, is_aca, same}
use Rattle.rules.proofs.Settled.{head_task}
use Rattle.rules.proofs.TurnRule.{head_is}
use Rattle.history.specs.History.{Past, after, is_turn}
use Rattle.history.specs.Waits.{first_overtakers, longest, itself, exempt_command, commands_of, completions_of, overtakers, rounds_of, woven_turns, worst_before, worst_since}
use Rattle.history.proofs.Figures.{by_room, four_first}
use Rattle.history.proofs.Served.{task, names_head, names_other, names_first}
use Rattle.history.proofs.Leads.{Leads, leads_none, leads_as, leads_so, leads_then, At, at_as, at_fresh, at_turn, comes, goes}
use Rattle.history.proofs.Rows.{row, length_row, any_row, standing, run_before}

-- the turn is 2.0's
abbrev pub TwoNext : Past → Type 0
TwoNext h = (f : Finish) → is_turn h.state (Completion itself.nexus itself.tag f) ≡ true

module _ (p : Policy) where
  -- k commands of nexus n come in behind the tasks ts
  leads_commands :
      (n : ℕ) (x : Attribute) (k run : ℕ) (ts : List Task) {h : Past} → ltb n nexuses ≡ true → is_aca x ≡ false
      → ((g : ℕ) → g < k → any (same n g) ts ≡ false) → length ts + k ≤ places → At p run ts h
      → Leads 0 (At p run (ts ++ row n x k)) h (commands_of n x k)
  leads_commands n x zero run ts l a f m t = leads_none (at_as p t refl (sym (append-nil ts)))
  leads_commands n x (suc k) run ts l a f m t =
      leads_then 0 (exempt_command n k x ∷ []) (commands_of n x k) (comes p n k x l a (f k (omega arith)) (omega arith) t)
      (λ h t.
      rw (← (append_snoc ts (task n k x) (row n x k)))
      (leads_commands n x k run (ts ++ task n k x ∷ []) l a
      (λ g i. rw (any_append (same n g) ts (task n k x ∷ []) (f g (omega arith)), ne_eqb k g (omega arith), and_off (eqb n n)))
      (omega (arith, length-append ts (task n k x ∷ [])))
      t))
      refl

  -- the k oldest tasks, HEAD OF QUEUE ones of nexus 1, go
  leads_completions :
      (k run : ℕ) (ts : List Task) {h : Past} → At p run (row 1 HeadOfQueue k ++ ts) h
      → Leads k (At p (min (run + k) 4) ts) h (completions_of 1 k)
  leads_completions zero run ts t = leads_none (at_as p t (omega (arith, rw t.state at t.tested.run)) refl)
  leads_completions (suc k) run ts t =
      let us : List Task = row 1 HeadOfQueue k ++ ts in
      leads_then k (Completion 1 k Good ∷ []) (completions_of 1 k)
      (goes p [] (task 1 k HeadOfQueue) us (names_head run 1 k us) refl refl t)
      (λ h t. rw (let z : min (run + suc k) 4 ≡ min (min (run + 1) 4 + k) 4 = omega arith in z) (leads_completions k (min (run + 1) 4) ts t))
      (omega arith)

  -- k newcomers come in and go, past tasks that are not HEAD OF QUEUE; they need a place in the table
  leads_overtakers :
      (k run : ℕ) (ts : List Task) {h : Past} → run + k ≤ 4 → any head_task ts ≡ false → any (same 3 0) ts ≡ false
      → length ts + min k 1 ≤ places → At p run ts h → Leads k (At p (run + k) ts) h (overtakers k)
  leads_overtakers zero run ts l q f m t = leads_none (at_as p t (omega arith) refl)
  leads_overtakers (suc k) run ts l q f m t =
      leads_then (suc k) (exempt_command 3 0 HeadOfQueue ∷ []) (Completion 3 0 Good ∷ overtakers k)
      (comes p 3 0 HeadOfQueue refl refl f (omega arith) t)
      (λ h t.
      leads_then k (Completion 3 0 Good ∷ []) (overtakers k)
      (goes p ts (task 3 0 HeadOfQueue) [] (names_first run ts 3 0 [] (omega arith) q) refl refl t)
      (λ h t.
      rw (let z : run + suc k ≡ run + 1 + k = omega arith in z)
      (leads_overtakers k (run + 1) ts (omega arith) q f (omega arith) (at_as p t (omega arith) (append-nil ts))))
      (omega arith))
      (omega arith)

  -- Past a task that is not HEAD OF QUEUE ------------------------------------------------------------------------------------------------------

  module _ (x : Attribute) (ordinary : is_aca x ≡ false) (plain : is_head x ≡ false) where
    -- b others and the task itself
    abbrev line : ℕ → List Task
    line b = row 0 Simple b ++ task 2 0 x ∷ []

    no_heads : (b : ℕ) → any head_task (line b) ≡ false
    no_heads b = any_append head_task (row 0 Simple b) _ (any_row head_task 0 Simple b (λ g. refl)) ∙ rw plain

    leads_past :
        (k run b : ℕ) {h : Past} → run + k ≤ 4 → b + 1 + min k 1 ≤ places → At p run (line b) h → Leads k (At p (run + k) (line b)) h (overtakers k)
    leads_past k run b l m t =
        leads_overtakers k run (line b) l (no_heads b) (any_append (same 3 0) (row 0 Simple b) _ (any_row (same 3 0) 0 Simple b (λ g. refl)))
        (omega (arith, length-append (row 0 Simple b) (task 2 0 x ∷ []), length_row 0 Simple b))
        t

    -- one of the others goes, and 4 newcomers go before the next one does: at the start run may be anything, as no HEAD OF QUEUE task is there
    leads_rounds :
        (b run : ℕ) {h : Past} → b < places → At p run (line b) h
        → Leads (5 * b) TwoNext h (rounds_of b)
    leads_rounds zero run m t =
        leads_none (at_turn p (task 2 0 x) (names_other run 2 0 x [] ordinary plain (and_off (ltb run 4))) t)
    leads_rounds (suc b) run m t =
        leads_then (4 + 5 * b) (Completion 0 b Good ∷ []) (overtakers 4 ++ rounds_of b)
        (goes p [] (task 0 b Simple) (line b) (names_other run 0 b Simple (line b) refl refl (rw (no_heads b) (and_off (ltb run 4)))) refl refl t)
        (λ h t.
        leads_then (5 * b) (overtakers 4) (rounds_of b) (leads_past 4 0 b (omega arith) (omega arith) t)
        (λ h t. leads_rounds b 4 (omega arith) t)
        refl)
        (omega arith)

    -- all a older ones go, newcomers up to 4 in a row, and then the rounds
    since_other :
        (a b : ℕ) {h : Past} → a + b < places → At p 0 ((row 1 HeadOfQueue a ++ row 0 Simple b) ++ task 2 0 x ∷ []) h
        → Leads (longest false a b - 1) TwoNext h (worst_since false a b)
    since_other a b l t =
        let k = first_overtakers b - a in
        let run = min (0 + a) 4 in
        leads_then (5 * b) (completions_of 1 a ++ overtakers k) (rounds_of b)
        (leads_then k (completions_of 1 a) (overtakers k)
        (leads_completions a 0 (line b) (at_as p t refl (append_assoc (row 1 HeadOfQueue a) (row 0 Simple b) (task 2 0 x ∷ []))))
        (λ h t. leads_past k run b (omega (arith, four_first b)) (room a b l) t)
        refl)
        (λ h t. leads_rounds b (run + k) (omega arith) t)
        (omega (arith, four_first b))
      where
        room : (a b : ℕ) → a + b < places → b + 1 + min (first_overtakers b - a) 1 ≤ places
        room a b l = by_room b (λ r e. omega arith) (λ r e. omega arith)

  -- Before a HEAD OF QUEUE task ----------------------------------------------------------------------------------------------------------------

  abbrev two : List Task
  two = task 2 0 HeadOfQueue ∷ []

  -- the others are the oldest, then nexus 1's, then the task itself; r more of nexus 1's go before run is 4 and the oldest of the others goes
  leads_woven :
      (r a b : ℕ) {h : Past} → r ≤ 4 → At p (4 - r) (row 0 Simple b ++ (row 1 HeadOfQueue a ++ two)) h
      → Leads (a + min b ((a + 4 - r) / 4)) TwoNext h (woven_turns r a b)
  leads_woven r a zero l t =
      leads_as
      (leads_so (leads_completions a (4 - r) two t) (λ h t. at_turn p (task 2 0 HeadOfQueue) (names_head (min (4 - r + a) 4) 2 0 []) t))
      (omega arith)
  leads_woven zero a (suc b) l t =
      let us : List Task = row 0 Simple b ++ (row 1 HeadOfQueue a ++ two) in
      leads_then (a + min b ((a + 4 - 4) / 4)) (Completion 0 b Good ∷ []) (woven_turns 4 a b)
      (goes p [] (task 0 b Simple) us (names_other 4 0 b Simple us refl refl refl) refl refl t)
      (λ h t. leads_woven 4 a b (omega arith) t)
      (omega arith)
  leads_woven (suc r) zero (suc b) l t =
      leads_as
      (leads_none
      (at_turn p (task 2 0 HeadOfQueue)
      (names_first (4 - suc r) (row 0 Simple (suc b)) 2 0 [] (omega arith) (any_row head_task 0 Simple (suc b) (λ g. refl)))
      t))
      (omega arith)
  leads_woven (suc r) (suc a) (suc b) l t =
      let os : List Task = row 0 Simple (suc b) in
      let us : List Task = row 1 HeadOfQueue a ++ two in
      let m = names_first (4 - suc r) os 1 a us (omega arith) (any_row head_task 0 Simple (suc b) (λ g. refl)) in
      leads_then (a + min (suc b) ((a + 4 - r) / 4)) (Completion 1 a Good ∷ []) (woven_turns r a (suc b))
      (goes p os (task 1 a HeadOfQueue) us m refl refl t)
      (λ h t. leads_woven r a (suc b) (omega arith) (at_as p t (omega arith) refl))
      (omega arith)

  -- The worst case -----------------------------------------------------------------------------------------------------------------------------

  pub filled : (head : Bool) (a b : ℕ) → a + b < places → At p (run_before head) (standing head a b) (after p (worst_before head a b))
  filled false a b l =
      (leads_then 0 (commands_of 1 HeadOfQueue a) (commands_of 0 Simple b)
      (leads_commands 1 HeadOfQueue a 0 [] refl refl (λ g i. refl) (omega arith) (at_fresh p))
      (λ h t.
      leads_commands 0 Simple b 0 (row 1 HeadOfQueue a) refl refl (λ g i. any_row (same 0 g) 1 HeadOfQueue a (λ j. refl))
      (omega (arith, length_row 1 HeadOfQueue a))
      t)
      refl
      ).reaches
  filled true a b l =
      (leads_then 0 (overtakers 4 ++ commands_of 0 Simple b) (commands_of 1 HeadOfQueue a)
      (leads_then 0 (overtakers 4) (commands_of 0 Simple b) (leads_overtakers 4 0 [] (omega arith) refl refl (omega arith) (at_fresh p))
      (λ h t. leads_commands 0 Simple b 4 [] refl refl (λ g i. refl) (omega arith) t)
      refl)
      (λ h t.
      leads_commands 1 HeadOfQueue a 4 (row 0 Simple b) refl refl (λ g i. any_row (same 1 g) 0 Simple b (λ j. refl))
      (omega (arith, length_row 0 Simple b))
      t)
      refl
      ).reaches

  pub leads_since :
      (x : Attribute) (head : Bool) (a b : ℕ) {h : Past} → is_aca x ≡ false → is_head x ≡ head → a + b < places
      → At p (run_before head) (standing head a b ++ task 2 0 x ∷ []) h → Leads (longest head a b - 1) TwoNext h (worst_since head a b)
  leads_since x false a b o e l t = since_other x o e a b l t
  leads_since x true a b o e l t =
      leads_as
      (leads_woven 0 a b (omega arith)
      (at_as p t refl (rw (head_is x e) (append_assoc (row 0 Simple b) (row 1 HeadOfQueue a) two))))
      (omega arith)
