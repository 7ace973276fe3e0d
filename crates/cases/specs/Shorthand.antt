-- Answers and moves in short, as the cases list them.
--
--   answer_line a s k c q n := the numbers of an answer as the player writes them: answer, status, key, code, qualifier, ended count
--   names_task n g, nothing, no_table := what naming says: 0 and the task n.g; 0 and nothing; 1 with zeros
--   does e a t r           := the event e gets a; the table is then t, and the report r
--   enters e t             := the command e gets 0 and all zeros; the table is then t, and the report all zeros
--   keeps e a              := the event e gets a; the table stays the same, and the report is all zeros
--   refuses e n            := the event e gets the answer n with zeros; both buffers stay the same
--   from t ms              := the case that begins with the table t and a report buffer of junk
use Rattle.std.specs.Prelude.{ℕ, List, [], ◌∷◌}
use Rattle.cases.specs.Makers.{report_length, listing, junk}
use Rattle.cases.specs.Play.{unchanged, now, Move, apply, Case}

abbrev pub answer_line : ℕ → ℕ → ℕ → ℕ → ℕ → ℕ → List ℕ
answer_line a s k c q n = a ∷ s ∷ k ∷ c ∷ q ∷ n ∷ []

abbrev pub names_task : ℕ → ℕ → List ℕ
names_task n g = 0 ∷ 1 ∷ n ∷ g ∷ []

abbrev pub nothing : List ℕ
nothing = 0 ∷ 0 ∷ 0 ∷ 0 ∷ []

abbrev pub no_table : List ℕ
no_table = 1 ∷ 0 ∷ 0 ∷ 0 ∷ []

abbrev pub does : List ℕ → List ℕ → List ℕ → List ℕ → Move
does e a t r = apply e a (now t) (now r)

abbrev pub enters : List ℕ → List ℕ → Move
enters e t = does e (answer_line 0 0 0 0 0 0) t (listing [])

abbrev pub keeps : List ℕ → List ℕ → Move
keeps e a = apply e a unchanged (now (listing []))

abbrev pub refuses : List ℕ → ℕ → Move
refuses e n = apply e (answer_line n 0 0 0 0 0) unchanged unchanged

abbrev pub from : List ℕ → List Move → Case
from t ms = record { begins = t; buffer = junk report_length; moves = ms }
