-- The test of a well-formed state, taken apart (RULES 10), and which changes keep it. FairRulings shows that each event's is one; WellSays carries it to the
-- statement.
use Rattle.std.specs.Prelude.{Some, None}
use Prim.Native.Nat.{ℕ, suc, ◌≤◌, ◌<◌}
use mathlib.Core.Bool.{true, false, not}
use mathlib.Core.Path.{◌≡◌, refl, ap, ◌∙◌}
use mathlib.Core.List.{List, [], ◌∷◌, ◌++◌, map, append-nil}
use native.Mathlib.Omega.{arith}
use lib.Dec.{eqb, leb}
use lib.ListN.{length, get_or, set, length-append, length-map, length-set}
use borrow.Author.Tests.{eqb-true, not-true, leb-true}
use Rattle.laws.specs.Lists.{any}
use Rattle.laws.proofs.Bools.{and-true}
use Rattle.laws.proofs.Lists.{any_append}
use Rattle.rules.specs.Types.{Aca, Enabled, Task, Policy, Allegiance, Pending, Fate, Notice, Quiet, Reported, OthersLost, ReportedAndOthersLost, NexusLost, UnitWasReset, HardWasReset, PowerCameOn, Change, Answer, Changes}
use Rattle.rules.specs.Tasks.{places, nexuses, aca_task, same, restate}
use Rattle.rules.specs.Bits.{no_pending, without, after_power_on, after_hard_reset, after_unit_reset}
use Rattle.rules.specs.Rulings.{State, fresh, kept, lost, fate_of, newcomers, tell_losers_from, noted, ruled}
use Rattle.rules.specs.Well.{held, states_fit, fault_fits, distinct, too_high, well_formed}
use Rattle.rules.proofs.WellParts.{well_formed_parts}
use Rattle.rules.proofs.Fates.{any_kept, length_split}
use Rattle.rules.proofs.Distinct.{length_restate, any_restate, distinct_restate, distinct_kept, distinct_join}
use Rattle.rules.proofs.Settled.{within_refl, settled_settle}
use Rattle.rules.proofs.Held.{held_kept, held_blocked, held_join}

-- the test, taken apart
pub record Tested (s : State) : Type 0 where
  pub run : s.header.run ≤ 4
  pub few : length s.tasks ≤ places
  pub counted : s.header.count ≡ length s.tasks
  pub eight : length s.pending ≡ nexuses
  pub fault : fault_fits s.header.aca ≡ true
  pub nexuses : any too_high s.tasks ≡ false
  pub apart : distinct s.tasks ≡ true
  pub states : states_fit s.header.aca s.tasks ≡ true

pub to_tested : (s : State) → well_formed s ≡ true → Tested s
unfolding well_formed
to_tested s e =
    let a1 = and-true _ (states_fit s.header.aca s.tasks) e in
    let a2 = and-true _ (distinct s.tasks) a1.0 in
    let a3 = and-true _ (not (any too_high s.tasks)) a2.0 in
    let a4 = and-true _ (fault_fits s.header.aca) a3.0 in
    let a5 = and-true _ (eqb (length s.pending) nexuses) a4.0 in
    let a6 = and-true _ (eqb s.header.count (length s.tasks)) a5.0 in
    let a7 = and-true (leb s.header.run 4) (leb (length s.tasks) places) a6.0 in
    record {
      run = leb-true s.header.run 4 a7.0;
      few = leb-true (length s.tasks) places a7.1;
      counted = eqb-true s.header.count (length s.tasks) a6.1;
      eight = eqb-true (length s.pending) nexuses a5.1;
      fault = a4.1;
      nexuses = not-true _ a3.1;
      apart = a2.1;
      states = a1.1;
    }

pub from_tested : (s : State) → Tested s → well_formed s ≡ true
from_tested s w =
    well_formed_parts s w.run w.few w.counted w.eight w.fault w.nexuses ∙ rw (w.apart, w.states)

-- What a change has to be ------------------------------------------------------------------------------------------------------------------

-- a task that joins is new, of a nexus that there is, and has a place
abbrev pub Joining : List Task → List Task → Type 0
Joining ts [] = Unit {0}
Joining ts (u ∷ []) = (too_high u ≡ false) × (any (same u.nexus u.tag) ts ≡ false) × (length ts < places)
Joining ts (u ∷ v ∷ vs) = ⊥

-- in an ACA only an ACA task joins, where there is none
abbrev pub JoiningAca : ℕ → List Task → List Task → Type 0
JoiningAca f ts [] = Unit {0}
JoiningAca f ts (u ∷ []) = (any aca_task ts ≡ false) × (u.attribute ≡ Aca) × (u.state ≡ Enabled) × (eqb u.nexus f ≡ true)
JoiningAca f ts (u ∷ v ∷ vs) = ⊥

-- with no ACA afterwards no ACA task is left; none joins as an ACA begins; an ACA that goes on stays that of its nexus
abbrev pub Allowed : Allegiance → Allegiance → List Task → List Fate → List Task → Type 0
Allowed before None ts fs js = any aca_task (kept fs ts ++ js) ≡ false
Allowed None (Some n) ts fs js = js ≡ []
Allowed (Some f) (Some n) ts fs js = (n ≡ f) × JoiningAca f ts js

pub record Fair (s : State) (c : Change) : Type 0 where
  pub run : c.header.run ≤ 4
  pub fault : fault_fits c.header.aca ≡ true
  pub joining : Joining s.tasks (newcomers c.joins)
  pub allowed : Allowed s.header.aca c.header.aca s.tasks (map (fate_of c.sweep) s.tasks) (newcomers c.joins)

length_tell : (i n : ℕ) (ls : List Task) (ps : List Pending) → length (tell_losers_from i n ls ps) ≡ length ps
length_tell i n ls [] = refl
length_tell i n ls (p ∷ ps) = ap suc (length_tell (suc i) n ls ps)

pub length_noted : (k : Notice) (ls : List Task) (ps : List Pending) → length (noted k ls ps) ≡ length ps
length_noted Quiet ls ps = refl
length_noted (Reported n b) ls ps = length-set ps n _
length_noted (OthersLost n) ls ps = length_tell 0 n ls ps
length_noted (ReportedAndOthersLost n b) ls ps =
    length_tell 0 n ls (set ps n (without b (get_or ps n no_pending))) ∙ length-set ps n (without b (get_or ps n no_pending))
length_noted (NexusLost n) ls ps = length-set ps n _
length_noted UnitWasReset ls ps = length-map ps after_unit_reset
length_noted HardWasReset ls ps = length-map ps after_hard_reset
length_noted PowerCameOn ls ps = length-map ps after_power_on

few_joined : (ts : List Task) (fs : List Fate) (js : List Task) → length ts ≤ places → Joining ts js → length (kept fs ts ++ js) ≤ places
few_joined ts fs [] a j = rw append-nil (omega (arith, length_split fs ts))
few_joined ts fs (u ∷ []) a j = simp length-append (omega (arith, length_split fs ts, j.2))
few_joined ts fs (u ∷ v ∷ vs) a j = absurd j

nexuses_joined : (ts ks js : List Task) → any too_high ks ≡ false → Joining ts js → any too_high (ks ++ js) ≡ false
nexuses_joined ts ks [] e j = rw (any_append too_high ks [] e)
nexuses_joined ts ks (u ∷ []) e j = rw (any_append too_high ks (u ∷ []) e, j.0)
nexuses_joined ts ks (u ∷ v ∷ vs) e j = absurd j

apart_joined :
    (ts : List Task) (fs : List Fate) (js : List Task) → distinct ts ≡ true → Joining ts js → distinct (kept fs ts ++ js) ≡ true
apart_joined ts fs [] e j = rw append-nil (distinct_kept fs ts e)
apart_joined ts fs (u ∷ []) e j =
    distinct_join (kept fs ts) u (distinct_kept fs ts e) (any_kept (same u.nexus u.tag) fs ts j.1)
apart_joined ts fs (u ∷ v ∷ vs) e j = absurd j

held_joined :
    (f : ℕ) (ts : List Task) (fs : List Fate) (js : List Task) → held f [] ts ≡ true → JoiningAca f ts js
    → held f [] (kept fs ts ++ js) ≡ true
held_joined f ts fs [] e j = rw append-nil (held_kept f fs [] [] ts (within_refl []) e)
held_joined f ts fs (u ∷ []) e j =
    held_join f [] (kept fs ts) u (held_kept f fs [] [] ts (within_refl []) e) (any_kept aca_task fs ts j.0) j.1 j.2 j.3
held_joined f ts fs (u ∷ v ∷ vs) e j = absurd j

states_after :
    (a b : Allegiance) (ts : List Task) (fs : List Fate) (js : List Task) → states_fit a ts ≡ true → Allowed a b ts fs js
    → states_fit b (restate a b (kept fs ts ++ js)) ≡ true
states_after a None ts fs js e h = settled_settle [] (kept fs ts ++ js) h
states_after None (Some n) ts fs js e h =
    rw (h, append-nil (kept fs ts)) (held_blocked n fs [] [] ts (within_refl []) e)
states_after (Some f) (Some n) ts fs js e h = rw h.0 (held_joined f ts fs js e h.1)

pub tested_ruled : (s : State) (a : Answer) (c : Change) → Tested s → Fair s c → Tested (ruled s (Changes a c))
tested_ruled s a c w f =
    let fs : List Fate = map (fate_of c.sweep) s.tasks in
    let js : List Task = newcomers c.joins in
    record {
      run = f.run;
      few = rw length_restate (few_joined s.tasks fs js w.few f.joining);
      counted = refl;
      eight = length_noted c.notice (lost fs s.tasks) s.pending ∙ w.eight;
      fault = f.fault;
      nexuses =
          rw (any_restate too_high (λ t st. refl))
          (nexuses_joined s.tasks (kept fs s.tasks) js (any_kept too_high fs s.tasks w.nexuses) f.joining);
      apart = rw distinct_restate (apart_joined s.tasks fs js w.apart f.joining);
      states = states_after s.header.aca c.header.aca s.tasks fs js w.states f.allowed;
    }

pub tested_fresh : (p : Policy) → Tested (fresh p)
unfolding fresh
tested_fresh p =
    record {
      run = omega arith;
      few = omega arith;
      counted = refl;
      eight = refl;
      fault = refl;
      nexuses = refl;
      apart = refl;
      states = refl;
    }
