-- Laws of `any`, `count`, `first`, `passing` and `map`.
use Rattle.std.specs.Prelude.{Some, None}
use Prim.Native.Nat.{◌+◌}
use mathlib.Core.Bool.{Bool, true, false, cond, not, or-true as or_on}
use mathlib.Core.Path.{◌≡◌, refl, ap, sym}
use mathlib.Core.List.{List, [], ◌∷◌, ◌++◌, map}
use native.Mathlib.Omega.{arith}
use lib.ListN.{length}
use Rattle.laws.specs.Lists.{any, count, first, passing}
use Rattle.laws.proofs.Bools.{or-false, one_both, none_some, split}

module _ {A : Type 0} where
  pub count_append : (p : A → Bool) (xs ys : List A) → count p (xs ++ ys) ≡ count p xs + count p ys
  count_append p [] ys = omega arith
  count_append p (x ∷ xs) ys = omega (arith, count_append p xs ys)

  pub count_both : (p : A → Bool) (xs : List A) → count p xs + count (λ x. not (p x)) xs ≡ length xs
  count_both p [] = refl
  count_both p (x ∷ xs) = omega (arith, count_both p xs, one_both (p x))

  pub any_append : (p : A → Bool) (xs ys : List A) → any p xs ≡ false → any p (xs ++ ys) ≡ any p ys
  any_append p [] ys e = refl
  any_append p (x ∷ xs) ys e = rw (or-false (p x) (any p xs) e).0 (any_append p xs ys (or-false (p x) (any p xs) e).1)

  pub any_suffix : (p : A → Bool) (xs ys : List A) → any p (xs ++ ys) ≡ false → any p ys ≡ false
  any_suffix p [] ys e = e
  any_suffix p (x ∷ xs) ys e = any_suffix p xs ys (or-false (p x) _ e).1

  pub any_less : (p q : A → Bool) (xs : List A) → ((x : A) → p x ≡ false → q x ≡ false) → any p xs ≡ false → any q xs ≡ false
  any_less p q [] h e = refl
  any_less p q (x ∷ xs) h e = let o = or-false (p x) (any p xs) e in rw (h x o.0) (any_less p q xs h o.1)

  pub any_never : (q : A → Bool) (xs : List A) → ((x : A) → q x ≡ false) → any q xs ≡ false
  any_never q [] h = refl
  any_never q (x ∷ xs) h = rw (h x) (any_never q xs h)

  pub any_others : (q : A → Bool) (xs : List A) → any q (passing (λ x. not (q x)) xs) ≡ false
  any_others q [] = refl
  any_others q (x ∷ xs) = split (q x) (λ h. rw h (any_others q xs)) (λ h. rw (h, h) (any_others q xs))

  -- the first that passes, found at the head or further on
  pub first_cases {ℓ} :
      {P : Type ℓ} (p : A → Bool) (x : A) (xs : List A) (y : A) → first p (x ∷ xs) ≡ Some y
      → (p x ≡ true → x ≡ y → P) → (p x ≡ false → first p xs ≡ Some y → P) → P
  first_cases {P = P} p x xs y e f g = go (p x) refl e
    where
      go : (b : Bool) → p x ≡ b → cond b (Some x) (first p xs) ≡ Some y → P
      go true q h = f q (cc)
      go false q h = g q h

  pub first_passes : (p : A → Bool) (xs : List A) (y : A) → first p xs ≡ Some y → p y ≡ true
  first_passes p [] y e = cc
  first_passes p (x ∷ xs) y e = first_cases p x xs y e (λ h q. rw q at h) (λ h q. first_passes p xs y q)

  -- what is found is there
  pub first_any : (p q : A → Bool) (xs : List A) (y : A) → first p xs ≡ Some y → q y ≡ true → any q xs ≡ true
  first_any p q [] y e h = none_some y e
  first_any p q (x ∷ xs) y e h =
      first_cases p x xs y e (λ a b. rw (b, h)) (λ a b. rw (first_any p q xs y b h) (or_on (q x)))

  -- none that passes is found: there is none
  pub first_none : (p : A → Bool) (xs : List A) → first p xs ≡ None → any p xs ≡ false
  first_none p [] e = refl
  first_none p (x ∷ xs) e = split (p x) (λ h. none_some x (sym (rw h at e))) (λ h. rw h (first_none p xs (rw h at e)))

  -- what is found stands in the list
  pub first_stands :
      (p : A → Bool) (xs : List A) (y : A) → first p xs ≡ Some y
      → (before : List A) × (behind : List A) × (xs ≡ before ++ (y ∷ behind))
  first_stands p [] y e = none_some y e
  first_stands p (x ∷ xs) y e =
      first_cases p x xs y e (λ a b. ([], xs, rw b refl))
      (λ a b. let r = first_stands p xs y b in (x ∷ r.0, r.1, ap {B = List A} (λ l. x ∷ l) r.2))

  pub first_append :
      {P : Type 0} (p : A → Bool) (xs ys : List A) (y : A) → first p (xs ++ ys) ≡ Some y
      → (first p xs ≡ Some y → P) → (any p xs ≡ false → first p ys ≡ Some y → P) → P
  first_append p [] ys y h f g = g refl h
  first_append p (x ∷ xs) ys y h f g =
      first_cases p x (xs ++ ys) y h (λ a b. f (rw (a, b)))
      (λ a b. first_append p xs ys y b (λ c. f (rw (a, c))) (λ c d. g (rw (a, c)) d))

module _ {A B : Type 0} where
  pub map_alike : (f g : A → B) → ((x : A) → f x ≡ g x) → (xs : List A) → map f xs ≡ map g xs
  map_alike f g h [] = refl
  map_alike f g h (x ∷ xs) = rw (h x, map_alike f g h xs)

  pub map_passing : (f : A → B) (p : B → Bool) (xs : List A) → map f (passing (λ x. p (f x)) xs) ≡ passing p (map f xs)
  map_passing f p [] = refl
  map_passing f p (x ∷ xs) = split (p (f x)) (λ h. rw (h, map_passing f p xs)) (λ h. rw (h, map_passing f p xs))
