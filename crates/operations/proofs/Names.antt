-- The look that comes before the turn is named.
use Rattle.std.specs.Prelude.{None}
use Prim.Native.Nat.{ℕ}
use mathlib.Core.Bool.{true, false}
use mathlib.Core.Path.{◌≡◌}
use mathlib.Core.List.{List}
use Rattle.rules.specs.Rulings.{turn}
use Rattle.records.specs.Tables.{state_of, good_table}
use Rattle.rules.specs.Types.{Done, BadTable}
use Rattle.operations.specs.Operations.{naming, named}

module _ (t : List ℕ) where
  pub named_bad : good_table t ≡ false → named t ≡ naming BadTable None
  unfolding named
  named_bad h = rw h

  pub named_good : good_table t ≡ true → named t ≡ naming Done (turn (state_of t))
  unfolding named
  named_good h = rw h
