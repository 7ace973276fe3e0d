-- Events one by one from a table without ACA: how many turns they are, and that they end no task of nexus 2.
use Rattle.std.specs.Prelude.{Some, None}
use Prim.Native.Nat.{ℕ, ◌+◌, ◌<◌}
use mathlib.Core.Bool.{Bool, true, false}
use mathlib.Core.Path.{◌≡◌, refl, ap, sym, ◌∙◌}
use mathlib.Core.List.{List, [], ◌∷◌, ◌++◌, map, append_assoc, append-nil, map-append}
use native.Mathlib.Omega.{arith}
use lib.Dec.{eqb, ltb}
use lib.ListN.{length}
use borrow.Author.Tests.{eqb-true, eq-eqb}
use Rattle.laws.specs.Lists.{one_if, any}
use Rattle.laws.proofs.Bools.{not_both, split}
use Rattle.laws.proofs.Lists.{any_append}
use Rattle.rules.specs.Types.{Attribute, Enabled, Task, Finish, Event, Completion, Good, Policy, Named, Fate, Ruling, Keeps, Changes}
use Rattle.values.specs.Headers.{run_after}
use Rattle.rules.specs.Tasks.{places, nexuses, is_aca, same, with_state, settle_from, whose_turn, is_named}
use Rattle.rules.specs.Rulings.{State, turn, fresh, fate_of, answer_of, ended_from, report_of, ended_name}
use Rattle.rules.specs.Rules.{ruling}
use Rattle.rules.specs.Well.{distinct}
use Rattle.rules.proofs.Fates.{is_ends}
use Rattle.rules.proofs.Ruled.{answer_ruled}
use Rattle.rules.proofs.WellKept.{Tested, tested_fresh}
use Rattle.rules.proofs.WellSays.{tested_says}
use Rattle.rules.proofs.TurnRule.{named_completes}
use Rattle.history.specs.History.{Past, begin, advance, play, turn_by, is_turn, turns}
use Rattle.history.specs.Waits.{exempt_command}
use Rattle.history.proofs.Advanced.{play_append}
use Rattle.history.proofs.Reached.{tested_advance}
use Rattle.history.proofs.Places.{ends_by}
use Rattle.history.proofs.Served.{task, table, comes_by, table_comes, goes_by, table_goes}

-- Any events -------------------------------------------------------------------------------------------------------------------------------

abbrev pub of_two : Named → Bool
of_two k = eqb 2 k.nexus

-- the events es from h are n turns, their reports list the names `ended`, none of them of nexus 2, and they lead to a past with Q
pub record Leads (n : ℕ) (Q : Past → Type 0) (h : Past) (es : List Event) : Type 0 where
  pub counted : turns h es ≡ n
  pub ended : List Named
  pub listed : map ended_name h.log ++ ended ≡ map ended_name (play h es).log
  pub spared : any of_two ended ≡ false
  pub reaches : Q (play h es)

pub leads_none : {Q : Past → Type 0} {h : Past} → Q h → Leads 0 Q h []
leads_none {h = h} q = record { counted = refl; ended = []; listed = append-nil (map ended_name h.log); spared = refl; reaches = q }

pub leads_as : {n m : ℕ} {Q : Past → Type 0} {h : Past} {es : List Event} → Leads n Q h es → n ≡ m → Leads m Q h es
leads_as l e = rw e at l

pub leads_so : {n : ℕ} {Q R : Past → Type 0} {h : Past} {es : List Event} → Leads n Q h es → ((g : Past) → Q g → R g) → Leads n R h es
leads_so {h = h} {es = es} l f =
    record { counted = l.counted; ended = l.ended; listed = l.listed; spared = l.spared; reaches = f (play h es) l.reaches }

turns_then : (h : Past) (es fs : List Event) → turns h (es ++ fs) ≡ turns h es + turns (play h es) fs
turns_then h [] fs = omega arith
turns_then h (e ∷ es) fs = omega (arith, turns_then (advance h e) es fs)

-- and then m turns more
pub leads_then :
    {n k : ℕ} {Q R : Past → Type 0} {h : Past} (m : ℕ) (es fs : List Event) → Leads n Q h es → ((g : Past) → Q g → Leads m R g fs)
    → n + m ≡ k → Leads k R h (es ++ fs)
leads_then {h = h} m es fs l next e =
    let g = play h es in
    let r = next g l.reaches in
    let there = play_append h es fs in
    record {
      counted = omega (arith, turns_then h es fs, l.counted, r.counted);
      ended = l.ended ++ r.ended;
      listed =
          sym (append_assoc (map ended_name h.log) l.ended r.ended)
          ∙ ap (λ (z : List Named). z ++ r.ended) l.listed
          ∙ rw there r.listed;
      spared = any_append of_two l.ended r.ended l.spared ∙ r.spared;
      reaches = rw there r.reaches;
    }

-- One event --------------------------------------------------------------------------------------------------------------------------------

spared_by :
    (fate : Task → Fate) (ts : List Task) → ((t : Task) → t.nexus ≡ 2 → is_ends (fate t) ≡ false)
    → any of_two (map ended_name (ended_from (map fate ts) ts)) ≡ false
spared_by fate [] s = refl
spared_by fate (t ∷ ts) s = go (fate t) (λ y. s t y) (spared_by fate ts s)
  where
    go :
        (f : Fate) → (t.nexus ≡ 2 → is_ends f ≡ false) → any of_two (map ended_name (ended_from (map fate ts) ts)) ≡ false
        → any of_two (map ended_name (ended_from (f ∷ map fate ts) (t ∷ ts))) ≡ false
    go None n r = r
    go (Some st) n r = split (eqb 2 t.nexus) (λ y. not_both refl (n (sym (eqb-true 2 t.nexus y)))) (λ y. rw y r)

report_spares :
    (s : State) (r : Ruling) → ((t : Task) → t.nexus ≡ 2 → ends_by r t ≡ false) → any of_two (map ended_name (report_of s r)) ≡ false
report_spares s (Keeps a) f = refl
report_spares s (Changes a c) f = spared_by (fate_of c.sweep) s.tasks f

-- by its ruling
leads_one :
    {Q : Past → Type 0} {h : Past} (e : Event) (r : Ruling) (turn : Bool) → ruling h.state e ≡ r → turn_by h.state e (answer_of r) ≡ turn
    → ((t : Task) → t.nexus ≡ 2 → ends_by r t ≡ false) → Q (advance h e)
    → Leads (one_if turn) Q h (e ∷ [])
unfolding advance
leads_one {h = h} e r turn q b f a =
    record {
      counted = rw (answer_ruled h.state e, q, b) (omega arith);
      ended = map ended_name (report_of h.state r);
      listed = rw q (sym (map-append ended_name h.log (report_of h.state r)));
      spared = report_spares h.state r f;
      reaches = a;
    }

module _ (p : Policy) where
  -- the state is a table with these tasks
  pub record At (run : ℕ) (ts : List Task) (h : Past) : Type 0 where
    pub tested : Tested h.state
    pub state : h.state ≡ table p run ts

  pub at_as : {run run' : ℕ} {ts ts' : List Task} {h : Past} → At run ts h → run ≡ run' → ts ≡ ts' → At run' ts' h
  at_as t e f = rw (e, f) at t

  pub at_fresh : At 0 [] (begin (fresh p))
  unfolding fresh
  at_fresh = record { tested = tested_fresh p; state = refl }

  -- whoever is named there, the completion of that task is a turn
  pub at_turn :
      {run : ℕ} {ts : List Task} {h : Past} (u : Task) → whose_turn None run (settle_from [] ts) ≡ Some u → At run ts h → (f : Finish)
      → is_turn h.state (Completion u.nexus u.tag f) ≡ true
  at_turn {h = h} u m t f =
      let named : is_named u.nexus u.tag (turn h.state) ≡ true =
      rw (t.state, m, eq-eqb u.nexus u.nexus refl, eq-eqb u.tag u.tag refl)
      in
      rw (named_completes h.state u.nexus u.tag f (tested_says h.state t.tested) named, named, t.state)

  -- a command comes in
  pub comes :
      {run : ℕ} {ts : List Task} (n g : ℕ) (x : Attribute) {h : Past} → ltb n nexuses ≡ true → is_aca x ≡ false → any (same n g) ts ≡ false
      → length ts < places → At run ts h → Leads 0 (At run (ts ++ task n g x ∷ [])) h (exempt_command n g x ∷ [])
  unfolding advance
  comes {run} {ts} n g x {h} l a f m t =
      let e = exempt_command n g x in
      let r = ap (λ s. ruling s e) t.state ∙ comes_by p run ts n g x l a f m in
      leads_one e _ false r refl (λ v q. refl)
      (record { tested = tested_advance h e t.tested; state = rw (r, t.state) (table_comes p run ts n g x) })

  -- the named task ends
  pub goes :
      {run : ℕ} (pre : List Task) (u : Task) (post : List Task) {h : Past}
      → whose_turn None run (settle_from [] (pre ++ u ∷ post)) ≡ Some (with_state u Enabled) → ltb u.nexus nexuses ≡ true
      → eqb 2 u.nexus ≡ false → At run (pre ++ u ∷ post) h
      → Leads 1 (At (run_after u.attribute run) (pre ++ post)) h (Completion u.nexus u.tag Good ∷ [])
  unfolding advance
  goes {run} pre u post {h} m l o t =
      let e = Completion u.nexus u.tag Good in
      let d : distinct (settle_from [] (pre ++ u ∷ post)) ≡ true = rw t.state at t.tested.apart in
      let r = ap (λ s. ruling s e) t.state ∙ goes_by p run pre u post d m l in
      leads_one e _ true r (rw (t.state, m, eq-eqb u.nexus u.nexus refl, eq-eqb u.tag u.tag refl)) (λ v q. rw (q, o))
      (record { tested = tested_advance h e t.tested; state = rw (r, t.state) (table_goes p run pre u post d) })
