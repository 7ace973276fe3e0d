-- RULES 18: the numbers of an answer.
--
--   Said             := number, status and sense
--   said a           := those of each answer: status 0 except under 7, sense 0 except under 7 with status 02h
--   writes_report a   := the report buffer is written: under 0, 7 and 8
use Rattle.std.specs.Prelude.{ℕ, Bool, ◌||◌, eqb}
use Rattle.rules.specs.Types.{Sense, Answer, Done, BadTable, BadReport, BadEvent, NexusAboveSeven, NoSuchTask, NotEnabled, EndedAtEntry, Rejected, BadPolicy}

-- RULES 18.1 and 18.2
pub record Said : Type 0 where
  pub number : ℕ
  pub status : ℕ
  pub sense : Sense

-- RULES 18.2: zeros
abbrev pub no_sense : Sense
no_sense = record { key = 0; code = 0; qualifier = 0 }

abbrev pub only : ℕ → Said
only n = record { number = n; status = 0; sense = no_sense }

-- RULES 18.1 and 18.2: each answer
abbrev pub said : Answer → Said
said Done = only 0
said BadTable = only 1
said BadReport = only 2
said BadEvent = only 3
said NexusAboveSeven = only 4
said NoSuchTask = only 5
said NotEnabled = only 6
said (EndedAtEntry st se) = record { number = 7; status = st; sense = se }
said Rejected = only 8
said BadPolicy = only 9

-- RULES 18.3: whole, or all zeros
abbrev pub writes_report : Answer → Bool
writes_report a = eqb (said a).number 0 || eqb (said a).number 7 || eqb (said a).number 8
