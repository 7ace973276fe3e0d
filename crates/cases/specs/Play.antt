-- What a worked case is, and when it is right. What a case lists is written by hand: no function of the rules or of the records makes it. Its bytes
-- come from the cases' own `Makers`, its moves in short from `Shorthand`.
--
--   After                  := what a buffer holds afterwards: the same as before, or these bytes now
--   Move                   := an operation, and all that is seen of it:
--     lend t                    no operation: from here on the table buffer holds t
--     start p n t               starting under the policy byte p answers n; the table afterwards
--     name ns                   naming says ns
--     apply e a t r             the event string e gets the answer a; table and report afterwards
--   Case                   := the two buffers at the beginning, and the moves; each event is lent the report buffer as it was at the beginning
--
--   same_bytes a b          := the two strings are equal
--   said_of o, named_of n    := the numbers of an outcome's answer, and of a naming
--   plays r t ms           := from the table t, with the report buffer r, every move sees what it lists
--   right c                := the case is right
--   all p xs               := every one of xs passes p
use Rattle.rules.specs.Types.{Named}
use Rattle.std.specs.Prelude.{ℕ, Bool, true, false, ◌&&◌, List, [], ◌∷◌, eqb, Option, Some, None}
use Rattle.operations.specs.Types.{Naming}
use Rattle.operations.specs.AnswerNumbers.{Said, said}
use Rattle.operations.specs.Operations.{Outcome, outcome, named, Started, started}

-- Cases ------------------------------------------------------------------------------------------------------------------------------------

pub data After : Type 0 where
  unchanged : After
  now : List ℕ → After

pub data Move : Type 0 where
  lend : List ℕ → Move
  start : ℕ → ℕ → After → Move
  name : List ℕ → Move
  apply : List ℕ → List ℕ → After → After → Move

pub record Case : Type 0 where
  pub begins : List ℕ
  pub buffer : List ℕ
  pub moves : List Move

-- The test ---------------------------------------------------------------------------------------------------------------------------------

unfoldable pub same_bytes : List ℕ → List ℕ → Bool
same_bytes [] [] = true
same_bytes [] (y ∷ ys) = false
same_bytes (x ∷ xs) [] = false
same_bytes (x ∷ xs) (y ∷ ys) = eqb x y && same_bytes xs ys

abbrev holds : After → List ℕ → List ℕ → Bool
holds unchanged before after = same_bytes before after
holds (now bytes) before after = same_bytes bytes after

abbrev said_of : Outcome → List ℕ
said_of o =
    let a : Said = said o.answer in
    a.number ∷ a.status ∷ a.sense.key ∷ a.sense.code ∷ a.sense.qualifier ∷ o.ended ∷ []

abbrev turn_numbers : Option Named → List ℕ
turn_numbers None = 0 ∷ 0 ∷ 0 ∷ []
turn_numbers (Some t) = 1 ∷ t.nexus ∷ t.tag ∷ []

abbrev named_of : Naming → List ℕ
named_of n = (said n.answer).number ∷ turn_numbers n.turn

unfoldable pub plays : List ℕ → List ℕ → List Move → Bool
plays r t [] = true
plays r t (lend b ∷ ms) = plays r b ms
plays r t (start p n a ∷ ms) =
    let o : Started = started t p in
    eqb (said o.answer).number n && holds a t o.table && plays r o.table ms
plays r t (name ns ∷ ms) = same_bytes ns (named_of (named t)) && plays r t ms
plays r t (apply e a x y ∷ ms) =
    let o : Outcome = outcome t r e in
    same_bytes a (said_of o) && holds x t o.table && holds y r o.report && plays r o.table ms

abbrev pub right : Case → Bool
right c = plays c.buffer c.begins c.moves

abbrev pub all : {A : Type 0} → (A → Bool) → List A → Bool
all p [] = true
all p (x ∷ xs) = p x && all p xs
