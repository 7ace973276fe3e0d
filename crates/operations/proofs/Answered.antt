-- The number of an answer, and what stands with it.
use Prim.Native.Nat.{ℕ}
use mathlib.Core.Bool.{true}
use mathlib.Core.Path.{◌≡◌, refl}
use mathlib.Core.Logic.{◌⊎◌, inl, inr}
use native.Mathlib.Omega.{arith}
use Rattle.rules.specs.Types.{Sense, Answer, Done, BadTable, BadReport, BadEvent, NexusAboveSeven, NoSuchTask, NotEnabled, EndedAtEntry, Rejected, BadPolicy}
use Rattle.operations.specs.AnswerNumbers.{said, writes_report}

abbrev pub number_of : Answer → ℕ
number_of a = (said a).number

pub said_no_status : (a : Answer) → (number_of a ≡ 7 → ⊥) → (said a).status ≡ 0
said_no_status Done n = refl
said_no_status BadTable n = refl
said_no_status BadReport n = refl
said_no_status BadEvent n = refl
said_no_status NexusAboveSeven n = refl
said_no_status NoSuchTask n = refl
said_no_status NotEnabled n = refl
said_no_status (EndedAtEntry st se) n = absurd (n refl)
said_no_status Rejected n = refl
said_no_status BadPolicy n = refl

-- an answer with number 7 is one at entry
pub number_at_entry : {P : Type 0} (a : Answer) → number_of a ≡ 7 → ((st : ℕ) (se : Sense) → a ≡ EndedAtEntry st se → P) → P
number_at_entry Done q f = absurd (omega arith)
number_at_entry BadTable q f = absurd (omega arith)
number_at_entry BadReport q f = absurd (omega arith)
number_at_entry BadEvent q f = absurd (omega arith)
number_at_entry NexusAboveSeven q f = absurd (omega arith)
number_at_entry NoSuchTask q f = absurd (omega arith)
number_at_entry NotEnabled q f = absurd (omega arith)
number_at_entry (EndedAtEntry st se) q f = f st se refl
number_at_entry Rejected q f = absurd (omega arith)
number_at_entry BadPolicy q f = absurd (omega arith)

-- an answer with number 0 is Done
pub number_done : (a : Answer) → number_of a ≡ 0 → a ≡ Done
number_done Done q = refl
number_done BadTable q = absurd (omega arith)
number_done BadReport q = absurd (omega arith)
number_done BadEvent q = absurd (omega arith)
number_done NexusAboveSeven q = absurd (omega arith)
number_done NoSuchTask q = absurd (omega arith)
number_done NotEnabled q = absurd (omega arith)
number_done (EndedAtEntry st se) q = absurd (omega arith)
number_done Rejected q = absurd (omega arith)
number_done BadPolicy q = absurd (omega arith)

-- under 0 and 7 tasks may have ended
pub writes_report_ended : (a : Answer) → (number_of a ≡ 0) ⊎ (number_of a ≡ 7) → writes_report a ≡ true
writes_report_ended a (inl q) = rw q
writes_report_ended a (inr q) = rw q
