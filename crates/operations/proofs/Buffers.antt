-- What apply leaves alone: under 1 to 6 both buffers, under 8 the table, with the report emptied.
use Prim.Native.Nat.{ℕ, ◌≤◌}
use mathlib.Core.Path.{◌≡◌, refl}
use mathlib.Core.List.{List}
use native.Mathlib.Omega.{arith}
use lib.ListN.{replicate}
use borrow.Author.Tests.{ne_eqb}
use Rattle.rules.specs.Rulings.{State}
use Rattle.rules.specs.Rules.{ruling}
use Rattle.rules.proofs.RulingCases.{ruling_cases}
use Rattle.records.specs.Tables.{report_size, state_of, report_bytes}
use Rattle.rules.specs.Types.{Event}
use Rattle.operations.specs.Operations.{Outcome, carried, outcome}
use Rattle.operations.proofs.Answered.{number_of}
use Rattle.operations.proofs.Looked.{outcome_cases}

module _ (t r : List ℕ) where
  abbrev Unchanged : Outcome → Type 0
  Unchanged o = 1 ≤ number_of o.answer → number_of o.answer ≤ 6 → (o.table ≡ t) × (o.report ≡ r)

  ruling_unchanged : (s : State) (v : Event) → Unchanged (carried t r s (ruling s v))
  ruling_unchanged s v =
      ruling_cases (λ l. Unchanged (carried t r s l)) s v
      (λ a low high. (
        refl,
        rw (ne_eqb (number_of a) 0 (λ q. omega arith), ne_eqb (number_of a) 7 (λ q. omega arith), ne_eqb (number_of a) 8 (λ q. omega arith)),
      ))
      (λ c low high. absurd (omega arith))
      (λ st se c low high. absurd (omega arith))

  pub outcome_unchanged : (e : List ℕ) → Unchanged (outcome t r e)
  outcome_unchanged e =
      outcome_cases Unchanged t r e (λ n low high. (refl, refl)) (λ w l low high. (refl, refl)) (λ w l u low high. (refl, refl))
      (λ w l v u h low high. (refl, refl))
      (λ w l v u h. ruling_unchanged (state_of t) v)

  abbrev Emptied : Outcome → Type 0
  Emptied o = number_of o.answer ≡ 8 → (o.table ≡ t) × (o.report ≡ replicate report_size 0)

  ruling_emptied : (s : State) (v : Event) → Emptied (carried t r s (ruling s v))
  unfolding report_bytes
  ruling_emptied s v =
      ruling_cases (λ l. Emptied (carried t r s l)) s v (λ a q. (refl, rw q)) (λ c q. absurd (omega arith)) (λ st se c q. absurd (omega arith))

  pub outcome_emptied : (e : List ℕ) → Emptied (outcome t r e)
  outcome_emptied e =
      outcome_cases Emptied t r e (λ n q. absurd (omega arith)) (λ w l q. absurd (omega arith)) (λ w l u q. absurd (omega arith))
      (λ w l v u h q. absurd (omega arith))
      (λ w l v u h. ruling_emptied (state_of t) v)
