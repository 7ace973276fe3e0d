-- What the operations may give is one value only: those that C calls, and the three below them that they hand on.
use Prim.Native.Nat.{ℕ}
use mathlib.Core.Path.{◌≡◌, sym, ◌∙◌}
use mathlib.Core.List.{List}
use Rattle.operations.specs.Operations.{Outcome, AppliedAs, named, Started, StartedAs}
use Rattle.rules.specs.Types.{Answer}
use Rattle.operations.specs.Types.{Applied, Naming}
use Rattle.numbers.specs.declared.Answered.{Answered}
use Rattle.numbers.specs.declared.NamedTurn.{NamedTurn}
use Rattle.numbers.specs.Boundary.{StartsAs, AppliesAs, NamesAs}

joint : {A : Type 0} {x y z : A} → x ≡ z → y ≡ z → x ≡ y
joint p q = p ∙ sym q

-- What C calls: the result, and every byte that is lent to be written -----------------------------------------------------------------------

pub start_unique : (t : List ℕ) (p a b : ℕ) (u v : List ℕ) → StartsAs t p a u → StartsAs t p b v → (a ≡ b) × (u ≡ v)
start_unique t p a b u v x y = (joint x.answer y.answer, joint x.table y.table)

pub apply_unique :
    (t r e : List ℕ) (a b : Answered) (u v q s : List ℕ) → AppliesAs t r e a u q → AppliesAs t r e b v s
    → (a ≡ b) × (u ≡ v) × (q ≡ s)
apply_unique t r e a b u v q s x y =
    (joint x.answer y.answer, joint x.table y.table, joint x.report y.report)

pub name_unique : (t : List ℕ) (a b : NamedTurn) → NamesAs t a → NamesAs t b → a ≡ b
name_unique t a b x y = joint x.turn y.turn

-- Inside the library -------------------------------------------------------------------------------------------------------------------------

pub applied_unique :
    (o : Outcome) (a b : Applied) (t u r q : List ℕ) → AppliedAs o a t r → AppliedAs o b u q → (a ≡ b) × (t ≡ u) × (r ≡ q)
applied_unique o a b t u r q v w =
    let x = joint v.answer w.answer in
    let n = joint v.ended w.ended in
    (λ i. record { answer = x i; ended = n i }, joint v.table w.table, joint v.report w.report)

pub started_unique : (o : Started) (a b : Answer) (t u : List ℕ) → StartedAs o a t → StartedAs o b u → (a ≡ b) × (t ≡ u)
started_unique o a b t u v w = (joint v.answer w.answer, joint v.table w.table)

pub named_unique : (t : List ℕ) (a b : Naming) → a ≡ named t → b ≡ named t → a ≡ b
named_unique t a b = joint
