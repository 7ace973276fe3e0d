-- Rows of tasks of one nexus, and what stands in the table before the task of a worst case comes in.
use Rattle.std.specs.Prelude.{None}
use Prim.Native.Nat.{ℕ, zero, suc, ◌+◌}
use mathlib.Core.Bool.{Bool, true, false, cond}
use mathlib.Core.Path.{◌≡◌, refl, ap, ◌∙◌}
use mathlib.Core.List.{List, [], ◌∷◌, ◌++◌}
use native.Mathlib.Omega.{arith}
use lib.ListN.{length, length-append}
use Rattle.laws.specs.Lists.{one_if, any, count}
use Rattle.laws.proofs.Lists.{count_append, any_append}
use Rattle.rules.specs.Types.{Attribute, Simple, HeadOfQueue, Task}
use Rattle.rules.specs.Tasks.{same, settle_from}
use Rattle.rules.proofs.Distinct.{map_restate}
use Rattle.history.proofs.Places.{count_attributes}
use Rattle.history.proofs.Served.{task}

-- the tasks of `commands_of`
abbrev pub row : ℕ → Attribute → ℕ → List Task
row n x zero = []
row n x (suc k) = task n k x ∷ row n x k

pub length_row : (n : ℕ) (x : Attribute) (k : ℕ) → length (row n x k) ≡ k
length_row n x zero = refl
length_row n x (suc k) = ap suc (length_row n x k)

-- what no task of a row passes
pub any_row : (q : Task → Bool) (n : ℕ) (x : Attribute) (k : ℕ) → ((g : ℕ) → q (task n g x) ≡ false) → any q (row n x k) ≡ false
any_row q n x zero f = refl
any_row q n x (suc k) f = rw (f k) (any_row q n x k f)

-- and what all of them pass, or none
count_row : (q : Task → Bool) (b : Bool) (n : ℕ) (x : Attribute) (k : ℕ) → ((g : ℕ) → q (task n g x) ≡ b) → count q (row n x k) ≡ cond b k 0
count_row q true n x zero f = refl
count_row q true n x (suc k) f = omega (arith, ap one_if (f k), count_row q true n x k f)
count_row q false n x zero f = refl
count_row q false n x (suc k) f = omega (arith, ap one_if (f k), count_row q false n x k f)

-- the tasks in the table after `worst_before`, and run then, by whether the task that comes in is HEAD OF QUEUE
abbrev pub standing : Bool → ℕ → ℕ → List Task
standing false a b = row 1 HeadOfQueue a ++ row 0 Simple b
standing true a b = row 0 Simple b ++ row 1 HeadOfQueue a

abbrev pub run_before : Bool → ℕ
run_before false = 0
run_before true = 4

-- 2.0 is not among them
pub free_standing : (head : Bool) (a b : ℕ) → any (same 2 0) (standing head a b) ≡ false
free_standing false a b =
    any_append (same 2 0) (row 1 HeadOfQueue a) _ (any_row (same 2 0) 1 HeadOfQueue a (λ g. refl)) ∙ any_row (same 2 0) 0 Simple b (λ g. refl)
free_standing true a b =
    any_append (same 2 0) (row 0 Simple b) _ (any_row (same 2 0) 0 Simple b (λ g. refl)) ∙ any_row (same 2 0) 1 HeadOfQueue a (λ g. refl)

pub length_standing : (head : Bool) (a b : ℕ) → length (standing head a b) ≡ a + b
length_standing false a b = simp (length-append, length_row)
length_standing true a b = simp (length-append, length_row) (omega arith)

pub count_standing :
    (q : Attribute → Bool) (head : Bool) (a b : ℕ)
    → count (λ (t : Task). q t.attribute) (settle_from [] (standing head a b)) ≡ cond (q HeadOfQueue) a 0 + cond (q Simple) b 0
count_standing q head a b =
    count_attributes q (settle_from [] (standing head a b)) (standing head a b)
    (map_restate (λ (t : Task). t.attribute) (λ t st. refl) None None (standing head a b))
    ∙ go head
  where
    passes : Task → Bool
    passes t = q t.attribute

    hs : count passes (row 1 HeadOfQueue a) ≡ cond (q HeadOfQueue) a 0
    hs = count_row passes (q HeadOfQueue) 1 HeadOfQueue a (λ g. refl)

    os : count passes (row 0 Simple b) ≡ cond (q Simple) b 0
    os = count_row passes (q Simple) 0 Simple b (λ g. refl)

    go : (head : Bool) → count passes (standing head a b) ≡ cond (q HeadOfQueue) a 0 + cond (q Simple) b 0
    go false = omega (arith, hs, os, count_append passes (row 1 HeadOfQueue a) (row 0 Simple b))
    go true = omega (arith, hs, os, count_append passes (row 0 Simple b) (row 1 HeadOfQueue a))
