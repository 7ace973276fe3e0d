-- A task's place: where the command with a serial number stands in the table, over an event.
use Rattle.std.specs.Prelude.{Some, None}
use Prim.Native.Nat.{ℕ, ◌≤◌}
use mathlib.Core.Bool.{Bool, true, false, not}
use mathlib.Core.Path.{◌≡◌, refl, ap, sym, ◌∙◌}
use mathlib.Core.List.{List, [], ◌∷◌, ◌++◌, map, append-nil}
use native.Mathlib.Omega.{arith}
use lib.Dec.{eqb}
use lib.ListN.{length}
use borrow.Author.Tests.{eq-eqb}
use Rattle.laws.specs.Lists.{one_if, count}
use Rattle.laws.proofs.Bools.{not_both, split}
use Rattle.laws.proofs.Lists.{count_append}
use Rattle.rules.specs.Types.{Attribute, Task, Event, Allegiance, Fate, Ruling, Keeps, Changes}
use Rattle.rules.specs.Tasks.{is_head, settle_from, restate}
use Rattle.rules.specs.Rulings.{kept, lost, fate_of, newcomers, joins_of}
use Rattle.rules.specs.Rules.{ruling}
use Rattle.rules.proofs.WellSays.{attributes}
use Rattle.rules.proofs.Fates.{is_ends, stays_is, length_kept, count_kept_le}
use Rattle.rules.proofs.Distinct.{blocked_task}
use Rattle.rules.proofs.Settled.{head_task}
use Rattle.rules.proofs.TurnRule.{other_task}
use Rattle.history.specs.History.{Past, serials_from, advance_by, advance, has_ended}
use Rattle.history.proofs.Conserve.{Conserved}

-- the task t has serial number k, and stands in ts behind the tasks older
pub data Place (k : ℕ) (t : Task) : List ℕ → List Task → List Task → Type 0 where
  here : {ks : List ℕ} {ts : List Task} → Place k t (k ∷ ks) (t ∷ ts) []
  there : {j : ℕ} {u : Task} {ks : List ℕ} {ts older : List Task} → Place k t ks ts older → Place k t (j ∷ ks) (u ∷ ts) (u ∷ older)

pub place_split :
    {k : ℕ} {t : Task} {ks : List ℕ} {ts older : List Task} → Place k t ks ts older
    → (younger : List Task) × (ts ≡ older ++ (t ∷ younger))
place_split (here {ts = ts}) = (ts, refl)
place_split (there {u = u} p) = let r = place_split p in (r.0, ap {B = List Task} (λ l. u ∷ l) r.1)

place_append :
    {k : ℕ} {t : Task} {ks : List ℕ} {ts older : List Task} (js : List ℕ) (us : List Task) → Place k t ks ts older
    → Place k t (ks ++ js) (ts ++ us) older
place_append js us here = here
place_append js us (there p) = there (place_append js us p)

-- at the end of two lists of one length
place_last :
    (k : ℕ) (t : Task) (ks : List ℕ) (ts : List Task) → length ks ≡ length ts → Place k t (ks ++ (k ∷ [])) (ts ++ (t ∷ [])) ts
place_last k t [] [] e = here
place_last k t [] (u ∷ us) e = absurd (omega arith)
place_last k t (j ∷ js) [] e = absurd (omega arith)
place_last k t (j ∷ js) (u ∷ us) e = there (place_last k t js us (omega arith))

place_kept :
    {k : ℕ} {t : Task} {ks : List ℕ} {ts older : List Task} (fate : Task → Fate) → is_ends (fate t) ≡ false → Place k t ks ts older
    → Place k t (kept (map fate ts) ks) (kept (map fate ts) ts) (kept (map fate older) older)
place_kept {t = t} fate e here = rw (stays_is (fate t) e) here
place_kept {k = k} {t = t} fate e (there {j = j} {u = u} {ks = ks} {ts = ts} {older = older} p) =
    go (fate u) (place_kept fate e p)
  where
    go :
        (f : Fate) → Place k t (kept (map fate ts) ks) (kept (map fate ts) ts) (kept (map fate older) older)
        → Place k t (kept (f ∷ map fate ts) (j ∷ ks)) (kept (f ∷ map fate ts) (u ∷ ts)) (kept (f ∷ map fate older) (u ∷ older))
    go None q = there q
    go (Some st) q = q

-- the task's place in a table with other states: behind tasks of the same attributes
pub record Moved (k : ℕ) (t : Task) (ks : List ℕ) (ts older : List Task) : Type 0 where
  pub self : Task
  pub before : List Task
  pub place : Place k self ks ts before
  pub attribute : self.attribute ≡ t.attribute
  pub same : attributes before ≡ attributes older

moved_here : {k : ℕ} {t v : Task} {ks : List ℕ} {ts : List Task} → v.attribute ≡ t.attribute → Moved k t (k ∷ ks) (v ∷ ts) []
moved_here {v = v} e = record { self = v; before = []; place = here; attribute = e; same = refl }

moved_there :
    {k j : ℕ} {t : Task} (u v : Task) {ks : List ℕ} {ts older : List Task} → v.attribute ≡ u.attribute → Moved k t ks ts older
    → Moved k t (j ∷ ks) (v ∷ ts) (u ∷ older)
moved_there u v e r =
    record {
      self = r.self;
      before = v ∷ r.before;
      place = there r.place;
      attribute = r.attribute;
      same = rw (e, r.same);
    }

place_settle :
    {k : ℕ} {t : Task} {ks : List ℕ} {ts pre : List Task} (older : List Attribute) → Place k t ks ts pre
    → Moved k t ks (settle_from older ts) pre
place_settle older here = moved_here refl
place_settle older (there {u = u} p) = moved_there u _ refl (place_settle (u.attribute ∷ older) p)

place_blocked : {k : ℕ} {t : Task} {ks : List ℕ} {ts pre : List Task} → Place k t ks ts pre → Moved k t ks (map blocked_task ts) pre
place_blocked here = moved_here refl
place_blocked (there {u = u} p) = moved_there u _ refl (place_blocked p)

place_restate :
    {k : ℕ} {t : Task} {ks : List ℕ} {ts pre : List Task} (a b : Allegiance) → Place k t ks ts pre → Moved k t ks (restate a b ts) pre
place_restate a None p = place_settle [] p
place_restate None (Some n) p = place_blocked p
place_restate {t = t} {pre = pre} (Some m) (Some n) p =
    record { self = t; before = pre; place = p; attribute = refl; same = refl }

lost_cons : (p : ℕ → Bool) (f : Fate) (fs : List Fate) (j : ℕ) (js : List ℕ) → count p (lost fs js) ≤ count p (lost (f ∷ fs) (j ∷ js))
lost_cons p None fs j js = omega arith
lost_cons p (Some st) fs j js = omega arith

lost_here : (k : ℕ) (f : Fate) (fs : List Fate) (ks : List ℕ) → is_ends f ≡ true → 1 ≤ count (eqb k) (lost (f ∷ fs) (k ∷ ks))
lost_here k None fs ks e = not_both e refl
lost_here k (Some st) fs ks e = omega (arith, ap one_if (eq-eqb k k refl))

-- a task that ends is among those that ended
place_lost :
    {k : ℕ} {t : Task} {ks : List ℕ} {ts pre : List Task} (fate : Task → Fate) → is_ends (fate t) ≡ true → Place k t ks ts pre
    → 1 ≤ count (eqb k) (lost (map fate ts) ks)
place_lost {k = k} {t = t} fate e (here {ks = ks} {ts = ts}) = lost_here k (fate t) (map fate ts) ks e
place_lost {k = k} fate e (there {j = j} {u = u} {ks = ks} {ts = ts} p) =
    omega (arith, place_lost fate e p, lost_cons (eqb k) (fate u) (map fate ts) j ks)

-- Over an event ----------------------------------------------------------------------------------------------------------------------------

-- the attributes of those of the older tasks that stay
abbrev pub stayers : Ruling → List Task → List Attribute
stayers (Keeps a) older = attributes older
stayers (Changes a c) older = attributes (kept (map (fate_of c.sweep) older) older)

abbrev pub ends_by : Ruling → Task → Bool
ends_by (Keeps a) t = false
ends_by (Changes a c) t = is_ends (fate_of c.sweep t)

-- where a task stands after an event that it outlives
pub record Outlives (k : ℕ) (t : Task) (r : Ruling) (older : List Task) (h : Past) : Type 0 where
  pub self : Task
  pub before : List Task
  pub place : Place k self h.present h.state.tasks before
  pub attribute : self.attribute ≡ t.attribute
  pub same : attributes before ≡ stayers r older

-- a task ends with an event, or outlives it
pub place_by :
    {P : Type 0} (h : Past) (r : Ruling) (k : ℕ) (t : Task) (older : List Task) → Place k t h.present h.state.tasks older
    → (ends_by r t ≡ true → 1 ≤ has_ended (advance_by h r) k → P) → (ends_by r t ≡ false → Outlives k t r older (advance_by h r) → P) → P
place_by h (Keeps a) k t older p gone stays =
    stays refl (record { self = t; before = older; place = rw append-nil p; attribute = refl; same = refl })
place_by h (Changes a c) k t older p gone stays =
    split (is_ends (fate_of c.sweep t))
    (λ n. gone n (simp count_append (omega (arith, place_lost (fate_of c.sweep) n p))))
    (λ n.
    let m =
    place_restate h.state.header.aca c.header.aca
    (place_append (serials_from (length h.roll) (newcomers c.joins)) (newcomers c.joins)
    (place_kept (fate_of c.sweep) n p))
    in
    stays n
    (record { self = m.self; before = m.before; place = m.place; attribute = m.attribute; same = m.same }))

-- the place of a task that an event lets in
pub record Entered (h h' : Past) (t : Task) : Type 0 where
  pub self : Task
  pub older : List Task
  pub place : Place (length h.roll) self h'.present h'.state.tasks older
  pub attribute : self.attribute ≡ t.attribute
  pub heads : count head_task older ≤ count head_task h.state.tasks
  pub others : count other_task older ≤ count other_task h.state.tasks

-- counts of attributes
pub count_attributes :
    (q : Attribute → Bool) (ts us : List Task) → attributes ts ≡ attributes us
    → count (λ (t : Task). q t.attribute) ts ≡ count (λ (t : Task). q t.attribute) us
count_attributes q ts us e = go ts ∙ ap (count q) e ∙ sym (go us)
  where
    go : (ts : List Task) → count (λ (t : Task). q t.attribute) ts ≡ count q (attributes ts)
    go [] = refl
    go (t ∷ ts) = omega (arith, go ts)

entered_by : (h : Past) (r : Ruling) (t : Task) → Conserved h → joins_of r ≡ t ∷ [] → Entered h (advance_by h r) t
entered_by h (Keeps a) t i e = absurd (let z : ◌≡◌ {A = ℕ} 0 1 = ap length e in omega arith)
entered_by h (Changes a c) t i e =
    let fs : List Fate = map (fate_of c.sweep) h.state.tasks in
    let m =
    place_restate h.state.header.aca c.header.aca
    (place_last (length h.roll) t (kept fs h.present) (kept fs h.state.tasks)
    (length_kept fs h.present h.state.tasks i.aligned))
    in
    record {
      self = m.self;
      older = m.before;
      place = rw e m.place;
      attribute = m.attribute;
      heads = omega (arith, count_attributes is_head m.before (kept fs h.state.tasks) m.same, count_kept_le head_task fs h.state.tasks);
      others =
          omega (
            arith,
            count_attributes (λ a. not (is_head a)) m.before (kept fs h.state.tasks) m.same,
            count_kept_le other_task fs h.state.tasks,
          );
    }

pub entered : (h : Past) (e : Event) (t : Task) → Conserved h → joins_of (ruling h.state e) ≡ t ∷ [] → Entered h (advance h e) t
unfolding advance
entered h e t i j = entered_by h (ruling h.state e) t i j
