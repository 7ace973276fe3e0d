-- Laws of those that stay and those that end.
use Rattle.std.specs.Prelude.{Some, None}
use Prim.Native.Nat.{ℕ, suc, ◌+◌, ◌≤◌, ◌<◌}
use mathlib.Core.Bool.{Bool, true, false, cond, ◌&&◌, not}
use mathlib.Core.Path.{◌≡◌, refl, ap}
use mathlib.Core.List.{List, [], ◌∷◌, map}
use native.Mathlib.Omega.{arith}
use lib.ListN.{length}
use Rattle.laws.specs.Lists.{one_if, any, count, first, passing}
use Rattle.laws.proofs.Bools.{not_both, or-false, none_some}
use Rattle.laws.proofs.Lists.{first_cases, any_others}
use Rattle.rules.specs.Types.{Task, Fate, Nobody}
use Rattle.rules.specs.Rulings.{end_if, kept, lost, fate_of, ended_from, task_name, ended_name}

abbrev pub is_ends : Fate → Bool
is_ends None = false
is_ends (Some st) = true

pub stays_is : (f : Fate) → is_ends f ≡ false → f ≡ None
stays_is None e = refl
stays_is (Some st) e = not_both refl e

module _ {A : Type 0} where
  pub count_split : (p : A → Bool) (fs : List Fate) (xs : List A) → count p (kept fs xs) + count p (lost fs xs) ≡ count p xs
  count_split p [] xs = omega arith
  count_split p (f ∷ fs) [] = refl
  count_split p (None ∷ fs) (x ∷ xs) = omega (arith, count_split p fs xs)
  count_split p (Some st ∷ fs) (x ∷ xs) = omega (arith, count_split p fs xs)

  pub length_split : (fs : List Fate) (xs : List A) → length (kept fs xs) + length (lost fs xs) ≡ length xs
  length_split [] xs = omega arith
  length_split (f ∷ fs) [] = refl
  length_split (None ∷ fs) (x ∷ xs) = omega (arith, length_split fs xs)
  length_split (Some st ∷ fs) (x ∷ xs) = omega (arith, length_split fs xs)

  pub count_kept_le : (p : A → Bool) (fs : List Fate) (xs : List A) → count p (kept fs xs) ≤ count p xs
  count_kept_le p fs xs = omega (arith, count_split p fs xs)

  pub any_kept : (p : A → Bool) (fs : List Fate) (xs : List A) → any p xs ≡ false → any p (kept fs xs) ≡ false
  any_kept p [] xs e = e
  any_kept p (f ∷ fs) [] e = refl
  any_kept p (None ∷ fs) (x ∷ xs) e =
      let o : (p x ≡ false) × (any p xs ≡ false) = or-false (p x) (any p xs) e in
      rw o.0 (any_kept p fs xs o.1)
  any_kept p (Some st ∷ fs) (x ∷ xs) e = any_kept p fs xs (or-false (p x) (any p xs) e).1

  pub any_lost : (p : A → Bool) (fs : List Fate) (xs : List A) → any p xs ≡ false → any p (lost fs xs) ≡ false
  any_lost p [] xs e = refl
  any_lost p (f ∷ fs) [] e = refl
  any_lost p (None ∷ fs) (x ∷ xs) e = any_lost p fs xs (or-false (p x) (any p xs) e).1
  any_lost p (Some st ∷ fs) (x ∷ xs) e = let o = or-false (p x) (any p xs) e in rw o.0 (any_lost p fs xs o.1)

  gone_cons :
      (q : A → Bool) (f : Fate) (fs : List Fate) (x : A) (xs : List A) → q x && not (is_ends f) ≡ false
      → any q (kept fs xs) ≡ false → any q (kept (f ∷ fs) (x ∷ xs)) ≡ false
  gone_cons q None fs x xs e h = rw (go (q x) e) h
    where
      go : (b : Bool) → b && true ≡ false → b ≡ false
      go true k = k
      go false k = k
  gone_cons q (Some st) fs x xs e h = h

  -- where each that passes q ends, none that passes q is left
  pub gone :
      (q : A → Bool) (fate : A → Fate) (xs : List A) → any (λ x. q x && not (is_ends (fate x))) xs ≡ false
      → any q (kept (map fate xs) xs) ≡ false
  gone q fate [] e = refl
  gone q fate (x ∷ xs) e =
      let o = or-false (q x && not (is_ends (fate x))) (any (λ x. q x && not (is_ends (fate x))) xs) e in
      gone_cons q (fate x) (map fate xs) x xs o.0 (gone q fate xs o.1)

  -- where each ends, none stays and all are lost
  pub all_end :
      (fate : A → Fate) (xs : List A) → ((x : A) → is_ends (fate x) ≡ true)
      → (kept (map fate xs) xs ≡ []) × (lost (map fate xs) xs ≡ xs)
  all_end fate [] h = (refl, refl)
  all_end fate (x ∷ xs) h = go (fate x) (h x) (all_end fate xs h)
    where
      go :
          (f : Fate) → is_ends f ≡ true → (kept (map fate xs) xs ≡ []) × (lost (map fate xs) xs ≡ xs)
          → (kept (f ∷ map fate xs) (x ∷ xs) ≡ []) × (lost (f ∷ map fate xs) (x ∷ xs) ≡ x ∷ xs)
      go None e rest = not_both e refl
      go (Some st) e rest = (rest.0, ap (λ (l : List A). x ∷ l) rest.1)

  -- where just those that pass q end, the others stay, all of them, in their order
  pub kept_others : (q : A → Bool) (st : ℕ) (xs : List A) → kept (map (λ x. end_if (q x) st) xs) xs ≡ passing (λ x. not (q x)) xs
  kept_others q st [] = refl
  kept_others q st (x ∷ xs) = go (q x) (kept_others q st xs)
    where
      go :
          (b : Bool) → kept (map (λ x. end_if (q x) st) xs) xs ≡ passing (λ x. not (q x)) xs
          → kept (end_if b st ∷ map (λ x. end_if (q x) st) xs) (x ∷ xs)
          ≡ cond (not b) (x ∷ passing (λ x. not (q x)) xs) (passing (λ x. not (q x)) xs)
      go true e = e
      go false e = rw e

  pub ended_gone : (q : A → Bool) (st : ℕ) (xs : List A) → any q (kept (map (λ x. end_if (q x) st) xs) xs) ≡ false
  ended_gone q st xs = rw (kept_others q st xs) (any_others q xs)

  count_cons_le :
      (q : A → Bool) (f : Fate) (fs : List Fate) (x : A) (xs : List A)
      → count q (kept (f ∷ fs) (x ∷ xs)) ≤ one_if (q x) + count q (kept fs xs)
  count_cons_le q None fs x xs = omega arith
  count_cons_le q (Some st) fs x xs = omega arith

  count_cons_ends :
      (q : A → Bool) (f : Fate) (fs : List Fate) (x : A) (xs : List A) → is_ends f ≡ true
      → count q (kept (f ∷ fs) (x ∷ xs)) ≤ count q xs
  count_cons_ends q None fs x xs e = not_both e refl
  count_cons_ends q (Some st) fs x xs e = count_kept_le q fs xs

  -- one that passes q ends: fewer pass
  pub count_falls :
      (p q : A → Bool) (fate : A → Fate) (xs : List A) (y : A) → first p xs ≡ Some y → q y ≡ true → is_ends (fate y) ≡ true
      → count q (kept (map fate xs) xs) < count q xs
  count_falls p q fate [] y h k e = none_some y h
  count_falls p q fate (x ∷ xs) y h k e =
      first_cases p x xs y h
      (λ a b.
      let k' : q x ≡ true = rw (← b) at k in
      let e' : is_ends (fate x) ≡ true = rw (← b) at e in
      omega (arith, count_cons_ends q (fate x) (map fate xs) x xs e', ap one_if k'))
      (λ a b. omega (arith, count_cons_le q (fate x) (map fate xs) x xs, count_falls p q fate xs y b k e))

pub length_kept :
    {A B : Type 0} (fs : List Fate) (xs : List A) (ys : List B) → length xs ≡ length ys
    → length (kept fs xs) ≡ length (kept fs ys)
length_kept [] xs ys e = e
length_kept (f ∷ fs) [] [] e = refl
length_kept (f ∷ fs) [] (y ∷ ys) e = absurd (omega arith)
length_kept (f ∷ fs) (x ∷ xs) [] e = absurd (omega arith)
length_kept (None ∷ fs) (x ∷ xs) (y ∷ ys) e = ap suc (length_kept fs xs ys (omega arith))
length_kept (Some st ∷ fs) (x ∷ xs) (y ∷ ys) e = length_kept fs xs ys (omega arith)

module _ {A B : Type 0} (g : A → B) where
  pub map_kept : (fs : List Fate) (xs : List A) → map g (kept fs xs) ≡ kept fs (map g xs)
  map_kept [] xs = refl
  map_kept (f ∷ fs) [] = refl
  map_kept (None ∷ fs) (x ∷ xs) = rw (map_kept fs xs)
  map_kept (Some st ∷ fs) (x ∷ xs) = map_kept fs xs

  pub map_lost : (fs : List Fate) (xs : List A) → map g (lost fs xs) ≡ lost fs (map g xs)
  map_lost [] xs = refl
  map_lost (f ∷ fs) [] = refl
  map_lost (None ∷ fs) (x ∷ xs) = map_lost fs xs
  map_lost (Some st ∷ fs) (x ∷ xs) = rw (map_lost fs xs)

-- there are as many ended records as tasks that ended
pub length_ended : (fs : List Fate) (ts : List Task) → length (ended_from fs ts) ≡ length (lost fs ts)
length_ended [] ts = refl
length_ended (f ∷ fs) [] = refl
length_ended (None ∷ fs) (t ∷ ts) = length_ended fs ts
length_ended (Some st ∷ fs) (t ∷ ts) = omega (arith, length_ended fs ts)

-- the report has the names of those that ended
pub report_names : (fs : List Fate) (ts : List Task) → map ended_name (ended_from fs ts) ≡ map task_name (lost fs ts)
report_names [] ts = refl
report_names (f ∷ fs) [] = refl
report_names (None ∷ fs) (t ∷ ts) = report_names fs ts
report_names (Some st ∷ fs) (t ∷ ts) = rw (report_names fs ts)

-- under the sweep of nobody all stay, and none ends
pub all_stay : (ts : List Task) → kept (map (fate_of Nobody) ts) ts ≡ ts
all_stay [] = refl
all_stay (t ∷ ts) = rw (all_stay ts)

pub none_ends : (ts : List Task) → ended_from (map (fate_of Nobody) ts) ts ≡ []
none_ends [] = refl
none_ends (t ∷ ts) = none_ends ts
