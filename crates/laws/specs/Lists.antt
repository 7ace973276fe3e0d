-- Lists: tests and counts. No clause of docs/RULES.md is about them: clauses are said with them.
--
--   one_if b        := 1 if b holds, else 0
--   is_nil xs        := xs is empty
--   any p xs        := some element of xs passes p
--   count p xs      := how many elements of xs pass p
--   first p xs      := the first element of xs that passes p, or none
--   passing p xs    := the elements of xs that pass p, in their order
use Rattle.std.specs.Prelude.{ℕ, ◌+◌, Bool, true, false, cond, ◌||◌, List, [], ◌∷◌, Option, Some, None}

abbrev pub one_if : Bool → ℕ
one_if true = 1
one_if false = 0

module _ {A : Type 0} where
  abbrev pub is_nil : List A → Bool
  is_nil [] = true
  is_nil (x ∷ xs) = false

  abbrev pub any : (A → Bool) → List A → Bool
  any p [] = false
  any p (x ∷ xs) = p x || any p xs

  abbrev pub count : (A → Bool) → List A → ℕ
  count p [] = 0
  count p (x ∷ xs) = one_if (p x) + count p xs

  abbrev pub first : (A → Bool) → List A → Option A
  first p [] = None
  first p (x ∷ xs) = cond (p x) (Some x) (first p xs)

  abbrev pub passing : (A → Bool) → List A → List A
  passing p [] = []
  passing p (x ∷ xs) = cond (p x) (x ∷ passing p xs) (passing p xs)
