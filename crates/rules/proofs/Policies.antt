-- RULES 1.13: what lasts of the header is as it was after every event.
use Rattle.std.specs.Prelude.{Option, Some, None}
use Prim.Native.Nat.{ℕ}
use mathlib.Core.Bool.{Bool}
use mathlib.Core.Path.{◌≡◌, refl}
use lib.Dec.{eqb}
use Rattle.laws.proofs.Bools.{cases}
use Rattle.values.specs.Headers.{lasting}
use Rattle.rules.specs.Types.{Task, Entry, Finish, Function, AbortTask, AbortTaskSet, ClearTaskSet, ClearAca, LogicalUnitReset, Unknown, Happening, PowerOn, HardReset, NexusLoss, Event, Allegiance, Sweep, Changes, Done, Ruling, Bit}
use Rattle.rules.specs.Rulings.{State, ruled}
use Rattle.rules.specs.Rules.{failing, finish, clearing, manage, happen, ruling}
use Rattle.rules.proofs.Cases.{enter_cases, failing_cases, finish_cases, completion_cases, other_cases}

module _ (s : State) where
  abbrev survives : Ruling → Type 0
  survives r = lasting (ruled s r).header ≡ lasting s.header

  by_finish : (f : Finish) (t : Task) (named : Bool) → survives (Changes Done (finish s.header f t named))
  by_finish f t named = finish_cases (λ c. survives (Changes Done c)) s.header f t named (λ q. refl) (λ q. refl)

  by_failing : (c : Entry) (w : Sweep) (o : Option Bit) → survives (Changes Done (failing s.header.aca s.header c w o))
  by_failing c w o = failing_cases (λ d. survives (Changes Done d)) s.header c w o (λ a. refl) (λ f a. refl)

  by_clearing : (n : ℕ) (a : Allegiance) → survives (clearing s.header n a)
  by_clearing n None = refl
  by_clearing n (Some f) = cases survives (eqb n f) (λ e. refl) (λ e. refl)

  by_function_lem : (n : ℕ) (f : Function) → survives (manage s.header n f)
  unfolding manage
  by_function_lem n (AbortTask g) = refl
  by_function_lem n AbortTaskSet = refl
  by_function_lem n ClearTaskSet = refl
  by_function_lem n ClearAca = by_clearing n s.header.aca
  by_function_lem n LogicalUnitReset = refl
  by_function_lem n Unknown = refl

  by_condition : (c : Happening) → survives (happen s.header c)
  unfolding happen
  by_condition PowerOn = refl
  by_condition HardReset = refl
  by_condition (NexusLoss n) = refl

  pub what_lasts : (e : Event) → lasting (ruled s (ruling s e)).header ≡ lasting s.header
  what_lasts e =
      other_cases (λ v r. survives r) s (λ v. refl)
      (λ n g f. completion_cases survives s n g f refl refl refl (λ t l h k. by_finish f t _))
      (λ c l. enter_cases survives s.header c _ _ _ (λ se w o. by_failing c w o) (λ st. refl) (λ p. refl))
      by_function_lem
      by_condition
      e
