-- A ruling by its answer, as laws for whoever argues by cases and need not know the rule.
use Rattle.std.specs.Prelude.{Some, None}
use Prim.Native.Nat.{ℕ}
use mathlib.Core.Path.{◌≡◌}
use lib.Dec.{eqb, ltb}
use Rattle.laws.proofs.Bools.{cases}
use Rattle.rules.specs.Types.{Entry, Function, AbortTask, AbortTaskSet, ClearTaskSet, ClearAca, LogicalUnitReset, Unknown, Happening, PowerOn, HardReset, NexusLoss, Event, Command, Allegiance, Change, Sense, Answer, Done, NexusAboveSeven, NoSuchTask, NotEnabled, EndedAtEntry, Rejected, Ruling, Keeps, Changes}
use Rattle.rules.specs.Tasks.{nexuses}
use Rattle.rules.specs.Rulings.{State}
use Rattle.rules.specs.Rules.{accepting, clearing, manage, happen, rule_for, ruling}
use Rattle.rules.proofs.Cases.{enter_cases, failing_joins, completion_cases, other_cases}

-- a change is answered Done or at entry
pub ruling_cases :
    (P : Ruling → Type 0) (s : State) (e : Event) → ((a : Answer) → P (Keeps a)) → ((c : Change) → P (Changes Done c))
    → ((st : ℕ) (se : Sense) (c : Change) → P (Changes (EndedAtEntry st se) c))
    → P (ruling s e)
unfolding manage happen
ruling_cases P s e keeps done ends =
    other_cases (λ e. P) s (λ e. keeps NexusAboveSeven)
    (λ n g f. completion_cases P s n g f (keeps NexusAboveSeven) (keeps NoSuchTask) (keeps NotEnabled) (λ t l h k. done _))
    (λ c l. enter_cases P s.header c _ _ _ (λ se w o. ends _ _ _) (λ st. keeps _) (λ p. done _))
    manages
    happens
    e
  where
    clears : (n : ℕ) (a : Allegiance) → P (clearing s.header n a)
    clears n None = keeps Done
    clears n (Some f) = cases P (eqb n f) (λ e. done _) (λ e. keeps Rejected)

    manages : (n : ℕ) (f : Function) → P (manage s.header n f)
    manages n (AbortTask g) = done _
    manages n AbortTaskSet = done _
    manages n ClearTaskSet = done _
    manages n ClearAca = clears n s.header.aca
    manages n LogicalUnitReset = done _
    manages n Unknown = keeps Rejected

    happens : (c : Happening) → P (happen s.header c)
    happens PowerOn = done _
    happens HardReset = done _
    happens (NexusLoss n) = done _

-- a command is accepted, or answered otherwise and nobody joins
pub command_cases :
    (P : Ruling → Type 0) (s : State) (c : Entry) → P (Keeps NexusAboveSeven) → ((st : ℕ) (se : Sense) → P (Keeps (EndedAtEntry st se)))
    → ((st : ℕ) (se : Sense) (d : Change) → d.joins ≡ None → P (Changes (EndedAtEntry st se) d))
    → P (Changes Done (accepting s.header c))
    → P (ruling s (Command c))
unfolding ruling rule_for
command_cases P s c high keeps ends accepts =
    cases P (ltb c.nexus nexuses)
    (λ l. enter_cases P s.header c _ _ _ (λ se w o. ends _ _ _ (failing_joins s.header c w o)) (λ st. keeps _ _) (λ p. accepts))
    (λ l. high)
