-- The looks that come before a table is started.
use Prim.Native.Nat.{ℕ}
use mathlib.Core.Bool.{true, false}
use mathlib.Core.Path.{◌≡◌}
use mathlib.Core.List.{List}
use lib.Dec.{eqb}
use lib.ListN.{length}
use borrow.Author.Tests.{eqb-true, eqb-false, eq-eqb, ne_eqb}
use Rattle.laws.proofs.Bools.{cases}
use Rattle.rules.specs.Rulings.{fresh}
use Rattle.records.specs.Numbers.{policy_fits, policy_from}
use Rattle.records.specs.Tables.{table_size, table_bytes}
use Rattle.rules.specs.Types.{Done, BadTable, BadPolicy}
use Rattle.operations.specs.Operations.{Started, started_with, started}

module _ (t : List ℕ) (p : ℕ) where
  pub no_room : (length t ≡ table_size → ⊥) → started t p ≡ started_with BadTable t
  unfolding started
  no_room n = rw (ne_eqb (length t) table_size n)

  pub no_policy : length t ≡ table_size → policy_fits p ≡ false → started t p ≡ started_with BadPolicy t
  unfolding started
  no_policy l f = rw (eq-eqb (length t) table_size l, f)

  pub begun : length t ≡ table_size → policy_fits p ≡ true → started t p ≡ started_with Done (table_bytes (fresh (policy_from p)))
  unfolding started
  begun l f = rw (eq-eqb (length t) table_size l, f)

-- where each answer comes from
pub started_cases : (P : Started → Type 0) (t : List ℕ) (p : ℕ)
    → ((length t ≡ table_size → ⊥) → P (started_with BadTable t))
    → (length t ≡ table_size → policy_fits p ≡ false → P (started_with BadPolicy t))
    → P (started_with Done (table_bytes (fresh (policy_from p))))
    → P (started t p)
unfolding started
started_cases P t p room policy done =
    cases P (eqb (length t) table_size)
    (λ l. cases P (policy_fits p) (λ f. done) (λ f. policy (eqb-true (length t) table_size l) f))
    (λ l. room (eqb-false (length t) table_size l))
