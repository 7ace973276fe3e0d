-- What carrying a ruling out gives is what the rules say.
use Prim.Native.Nat.{ℕ}
use mathlib.Core.Bool.{cond}
use mathlib.Core.Path.{◌≡◌, refl}
use mathlib.Core.List.{List}
use lib.ListN.{length}
use Rattle.rules.specs.Rulings.{State, ruled, answer_of, report_of}
use Rattle.rules.specs.Rules.{ruling, step, answer, report}
use Rattle.rules.proofs.Ruled.{step_ruled, answer_ruled, report_ruled}
use Rattle.rules.proofs.RulingCases.{ruling_cases}
use Rattle.rules.proofs.WellKept.{Tested}
use Rattle.records.specs.Tables.{state_of, table_bytes, report_bytes}
use Rattle.records.proofs.ReadBack.{state_back_again}
use Rattle.rules.specs.Types.{Event, Ruling, Keeps, Changes}
use Rattle.operations.specs.AnswerNumbers.{writes_report}
use Rattle.operations.specs.Operations.{table_after, carried}

-- on the table that the state writes
pub ruling_carried :
    (s : State) (r : List ℕ) (e : Event)
    → carried (table_bytes s) r s (ruling s e)
    ≡ record {
      answer = answer s e;
      ended = length (report s e);
      table = table_bytes (step s e);
      report = cond (writes_report (answer s e)) (report_bytes (report s e)) r;
    }
ruling_carried s r e =
    rw (answer_ruled s e, report_ruled s e, step_ruled s e)
    (ruling_cases
    (λ l.
    carried (table_bytes s) r s l
    ≡ record {
      answer = answer_of l;
      ended = length (report_of s l);
      table = table_bytes (ruled s l);
      report = cond (writes_report (answer_of l)) (report_bytes (report_of s l)) r;
    })
    s
    e
    (λ a. refl)
    (λ c. refl)
    (λ st se c. refl))

-- on any table: what it says afterwards
pub table_after_says : (t : List ℕ) (l : Ruling) → Tested (ruled (state_of t) l) → state_of (table_after t (state_of t) l) ≡ ruled (state_of t) l
table_after_says t (Keeps a) w = refl
table_after_says t (Changes a c) w = state_back_again (ruled (state_of t) (Changes a c)) w.counted w.eight
