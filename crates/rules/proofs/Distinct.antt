-- Laws of what looks at no state: restating the tasks leaves it as it was. No two tasks share nexus and tag, and it stays so.
use Rattle.std.specs.Prelude.{Some, None}
use Prim.Native.Nat.{ℕ, suc}
use mathlib.Core.Bool.{Bool, true, false, not}
use mathlib.Core.Path.{◌≡◌, refl, ap, sym, subst, ◌∙◌}
use mathlib.Core.List.{List, [], ◌∷◌, ◌++◌, map}
use lib.Dec.{eqb}
use lib.ListN.{length, length-map}
use borrow.Author.Tests.{not-true, eqb-true}
use Rattle.laws.specs.Lists.{any, first}
use Rattle.laws.proofs.Bools.{and-true, or-false, not_both, split, eqb_sym}
use Rattle.laws.proofs.Lists.{any_append, first_any, first_stands}
use Rattle.rules.specs.Types.{Attribute, TaskState, Task, Fate, Allegiance}
use Rattle.rules.specs.Tasks.{same, with_state, eligible, enabled_if, blocked_if_enabled, settle_from, restate}
use Rattle.rules.specs.Rulings.{kept}
use Rattle.rules.specs.Well.{distinct}
use Rattle.rules.proofs.Fates.{any_kept}

abbrev pub blocked_task : Task → Task
blocked_task t = with_state t (blocked_if_enabled t.state)

-- a fact of lists of tasks that no state bears on, shown for settling and for blocking, holds for restating
pub by_restate :
    (P : List Task → List Task → Type 0) → ((ts : List Task) → P (settle_from [] ts) ts) → ((ts : List Task) → P (map blocked_task ts) ts)
    → ((ts : List Task) → P ts ts) → (a b : Allegiance) (ts : List Task) → P (restate a b ts) ts
by_restate P f g h a None ts = f ts
by_restate P f g h None (Some n) ts = g ts
by_restate P f g h (Some m) (Some n) ts = h ts

length_settle : (older : List Attribute) (ts : List Task) → length (settle_from older ts) ≡ length ts
length_settle older [] = refl
length_settle older (t ∷ ts) = ap suc (length_settle (t.attribute ∷ older) ts)

pub length_restate : (a b : Allegiance) (ts : List Task) → length (restate a b ts) ≡ length ts
length_restate =
    by_restate (λ us ts. length us ≡ length ts) (length_settle []) (λ ts. length-map ts blocked_task) (λ ts. refl)

module _ {B : Type 0} (p : Task → B) (blind : (t : Task) (st : TaskState) → p (with_state t st) ≡ p t) where
  map_settle : (older : List Attribute) (ts : List Task) → map p (settle_from older ts) ≡ map p ts
  map_settle older [] = refl
  map_settle older (t ∷ ts) = rw (blind t (enabled_if (eligible older t.attribute)), map_settle (t.attribute ∷ older) ts)

  map_blocked : (ts : List Task) → map p (map blocked_task ts) ≡ map p ts
  map_blocked [] = refl
  map_blocked (t ∷ ts) = rw (blind t (blocked_if_enabled t.state), map_blocked ts)

  -- what is read of the tasks past their states stays
  pub map_restate : (a b : Allegiance) (ts : List Task) → map p (restate a b ts) ≡ map p ts
  map_restate = by_restate (λ us ts. map p us ≡ map p ts) (map_settle []) map_blocked (λ ts. refl)

any_map : {A B : Type 0} (q : B → Bool) (f : A → B) (xs : List A) → any q (map f xs) ≡ any (λ x. q (f x)) xs
any_map q f [] = refl
any_map q f (x ∷ xs) = rw (any_map q f xs)

module _ (p : Task → Bool) (blind : (t : Task) (st : TaskState) → p (with_state t st) ≡ p t) where
  pub any_restate : (a b : Allegiance) (ts : List Task) → any p (restate a b ts) ≡ any p ts
  any_restate a b ts =
      sym (any_map (λ x. x) p (restate a b ts)) ∙ ap (any (λ x. x)) (map_restate p blind a b ts) ∙ any_map (λ x. x) p ts

distinct_settle : (older : List Attribute) (ts : List Task) → distinct (settle_from older ts) ≡ distinct ts
distinct_settle older [] = refl
distinct_settle older (t ∷ ts) =
    rw (
      sym (any_map (λ x. x) (same t.nexus t.tag) (settle_from (t.attribute ∷ older) ts))
          ∙ ap (any (λ x. x)) (map_settle (same t.nexus t.tag) (λ u st. refl) (t.attribute ∷ older) ts)
          ∙ any_map (λ x. x) (same t.nexus t.tag) ts,
      distinct_settle (t.attribute ∷ older) ts,
    )

distinct_blocked : (ts : List Task) → distinct (map blocked_task ts) ≡ distinct ts
distinct_blocked [] = refl
distinct_blocked (t ∷ ts) =
    rw (any_restate (same t.nexus t.tag) (λ u st. refl) None (Some 0) ts, distinct_blocked ts)

pub distinct_restate : (a b : Allegiance) (ts : List Task) → distinct (restate a b ts) ≡ distinct ts
distinct_restate = by_restate (λ us ts. distinct us ≡ distinct ts) (distinct_settle []) distinct_blocked (λ ts. refl)

pub distinct_kept : (fs : List Fate) (ts : List Task) → distinct ts ≡ true → distinct (kept fs ts) ≡ true
distinct_kept [] ts e = e
distinct_kept (f ∷ fs) [] e = refl
distinct_kept (None ∷ fs) (t ∷ ts) e =
    let o : (not (any (same t.nexus t.tag) ts) ≡ true) × (distinct ts ≡ true) = and-true _ _ e in
    rw (any_kept (same t.nexus t.tag) fs ts (not-true _ o.0)) (distinct_kept fs ts o.1)
distinct_kept (Some st ∷ fs) (t ∷ ts) e = distinct_kept fs ts (and-true (not (any (same t.nexus t.tag) ts)) _ e).1

pub distinct_join :
    (ts : List Task) (u : Task) → distinct ts ≡ true → any (same u.nexus u.tag) ts ≡ false
    → distinct (ts ++ (u ∷ [])) ≡ true
distinct_join [] u e h = refl
distinct_join (t ∷ ts) u e h =
    let o : (not (any (same t.nexus t.tag) ts) ≡ true) × (distinct ts ≡ true) = and-true _ _ e in
    let n : (same u.nexus u.tag t ≡ false) × (any (same u.nexus u.tag) ts ≡ false) = or-false _ _ h in
    rw (
      any_append (same t.nexus t.tag) ts (u ∷ []) (not-true _ o.0),
      eqb_sym u.nexus t.nexus,
      eqb_sym u.tag t.tag,
      n.0,
    )
    (distinct_join ts u o.1 n.1)

pub same_parts : (n g : ℕ) (t : Task) → same n g t ≡ true → (t.nexus ≡ n) × (t.tag ≡ g)
same_parts n g t e =
    let o = and-true (eqb t.nexus n) (eqb t.tag g) e in
    (eqb-true t.nexus n o.0, eqb-true t.tag g o.1)

distinct_stands :
    (n g : ℕ) (older : List Task) (x : Task) (younger : List Task) → distinct (older ++ (x ∷ younger)) ≡ true → same n g x ≡ true
    → first (same n g) (older ++ (x ∷ younger)) ≡ Some x
distinct_stands n g [] x younger d h = rw h
distinct_stands n g (u ∷ us) x younger d h =
    let ts = us ++ (x ∷ younger) in
    let o : (not (any (same u.nexus u.tag) ts) ≡ true) × (distinct ts ≡ true) = and-true _ _ d in
    let found = distinct_stands n g us x younger o.1 h in
    split (same n g u)
    (λ y.
    let q = same_parts n g u y in
    not_both (first_any (same n g) (same u.nexus u.tag) ts x found (rw (q.0, q.1) h)) (not-true _ o.0))
    (λ y. rw y found)

-- a task of the table, wherever it stands, is the one that its nexus and tag find
pub distinct_found :
    (n g : ℕ) (ts older : List Task) (x : Task) (younger : List Task) → ts ≡ older ++ (x ∷ younger) → distinct ts ≡ true → same n g x ≡ true
    → first (same n g) ts ≡ Some x
distinct_found n g ts older x younger stands d h =
    subst (λ l. first (same n g) l ≡ Some x) (sym stands) (distinct_stands n g older x younger (subst (λ l. distinct l ≡ true) stands d) h)

-- and so is one that another search finds
pub distinct_first :
    (n g : ℕ) (p : Task → Bool) (ts : List Task) (x : Task) → distinct ts ≡ true → first p ts ≡ Some x → same n g x ≡ true
    → first (same n g) ts ≡ Some x
distinct_first n g p ts x d e h = let s = first_stands p ts x e in distinct_found n g ts s.0 x s.1 s.2 d h
