-- RULES 20: what the C port driver is told: the numbers of RULES 18 (operations/specs/AnswerNumbers) in the layout of include/dedakhumi.h.
--
--   numbers_of a n     := the answer a with n ended records
--   answered o        := what apply returns
--   turn_in_numbers a u := the answer a with the turn u; nexus and tag are 0 where none is found
--   turn_for n         := what name returns
--   start_number t p   := what start returns
--   StartsAs, AppliesAs, NamesAs   := what the three functions promise: the result, and every byte of the buffers that they are lent to write
use Rattle.std.specs.Prelude.{ℕ, ◌≡◌, true, false, List, Option, Some, None}
use Rattle.operations.specs.AnswerNumbers.{said}
use Rattle.operations.specs.Operations.{Outcome, outcome, named, started}
use Rattle.rules.specs.Types.{Answer, Named}
use Rattle.operations.specs.Types.{Naming}
use Rattle.numbers.specs.Types.{Answered, NamedTurn}

-- RULES 20.1: apply
abbrev pub numbers_of : Answer → ℕ → Answered
numbers_of a n =
    record {
      answer = (said a).number;
      status = (said a).status;
      key = (said a).sense.key;
      code = (said a).sense.code;
      qualifier = (said a).sense.qualifier;
      ended = n;
    }

abbrev pub answered : Outcome → Answered
answered o = numbers_of o.answer o.ended

-- RULES 20.2: name
abbrev pub turn_in_numbers : Answer → Option Named → NamedTurn
turn_in_numbers a None = record { answer = (said a).number; found = false; nexus = 0; tag = 0 }
turn_in_numbers a (Some n) = record { answer = (said a).number; found = true; nexus = n.nexus; tag = n.tag }

abbrev pub turn_for : Naming → NamedTurn
turn_for n = turn_in_numbers n.answer n.turn

-- RULES 20.2: start
abbrev pub start_number : List ℕ → ℕ → ℕ
start_number t p = (said (started t p).answer).number

-- RULES 1.3 and 20.3 to 20.5: the three functions, of every input, by the bytes lent and by nothing else.
-- dedakhumi_start on the buffer t with the policy byte p answers a and leaves t'
pub record StartsAs (t : List ℕ) (p a : ℕ) (t' : List ℕ) : Type 0 where
  pub answer : a ≡ start_number t p
  pub table : t' ≡ (started t p).table

-- RULES 20.3: dedakhumi_apply on the table t, the report buffer r and the event bytes e answers a and leaves t' and r'
pub record AppliesAs (t r e : List ℕ) (a : Answered) (t' r' : List ℕ) : Type 0 where
  pub answer : a ≡ answered (outcome t r e)
  pub table : t' ≡ (outcome t r e).table
  pub report : r' ≡ (outcome t r e).report

-- RULES 20.3: dedakhumi_name on the table t answers u
pub record NamesAs (t : List ℕ) (u : NamedTurn) : Type 0 where
  pub turn : u ≡ turn_for (named t)
