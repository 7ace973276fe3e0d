-- RULES 24.1: a line of the player as bytes.
--
--   digit d          := the character of a digit below 16
--   decimal n        := n below 1000 in decimal, without leading zeros
--   hex n            := a space, and n below 256 as two hex digits
--   line a           := the line for what apply answered
--   Written ..       := `after` holds, up to `end`, what `before` held up to `at`, and then the bytes
--   Puts w w' bytes  := the writer w has put the bytes, and is w' then
use Rattle.std.specs.Prelude.{ℕ, ◌+◌, ◌/◌, ◌%◌, ◌≡◌, cond, List, [], ◌∷◌, ◌++◌, ltb, length, take}
use Rattle.numbers.specs.declared.Answered.{Answered}
use Rattle.lines.specs.declared.Writer.{Writer}

-- RULES 24.1: hex digits in capitals
unfoldable pub digit : ℕ → ℕ
digit d = cond (ltb d 10) (48 + d) (55 + d)

-- RULES 24.1: decimal without leading zeros
abbrev pub units : ℕ → List ℕ
units n = digit (n % 10) ∷ []

abbrev pub tens : ℕ → List ℕ
tens n = digit (n / 10 % 10) ∷ units n

unfoldable pub decimal : ℕ → List ℕ
decimal n = cond (ltb n 10) (units n) (cond (ltb n 100) (tens n) (digit (n / 100) ∷ tens n))

-- RULES 24.1: two hex digits, behind a space
abbrev pub hex : ℕ → List ℕ
hex n = 32 ∷ digit (n / 16) ∷ digit (n % 16) ∷ []

-- RULES 24.1: the whole line
unfoldable pub line : Answered → List ℕ
line a =
    decimal a.answer
    ++ (hex a.status ++ (hex a.key ++ (hex a.code ++ (hex a.qualifier ++ (32 ∷ (decimal a.ended ++ (10 ∷ [])))))))

-- RULES 24.1: bytes put behind what is written
pub record Written (before : List ℕ) (at : ℕ) (after : List ℕ) (end : ℕ) (bytes : List ℕ) : Type 0 where
  pub long : length after ≡ length before
  pub ends : end ≡ at + length bytes
  pub text : take end after ≡ take at before ++ bytes

-- RULES 24.1: and the buffer is the one that was lent
pub record Puts (w w' : Writer) (bytes : List ℕ) : Type 0 where
  pub written : Written w.buffer.now w.at w'.buffer.now w'.at bytes
  pub same : w'.buffer.ghost_name ≡ w.buffer.ghost_name
