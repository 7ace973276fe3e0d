-- Logs one after the other.
use mathlib.Core.Path.{◌≡◌, ◌∙◌, ap}
use mathlib.Core.List.{List, [], ◌∷◌, ◌++◌}
use Prim.Native.Nat.{ℕ}
use lib.ListN.{length}
use Rattle.tallies.specs.Counters.{counters, tally_in, add_counters}
use Rattle.tallies.proofs.Adding.{adds_log}
use Rattle.logs.specs.SoFar.{OfSomeLog, OfSomeLogs}

pub log_added : (a b a' : List ℕ) → length a ≡ counters → length b ≡ counters → OfSomeLogs a → OfSomeLog b → a' ≡ add_counters 0 a b → OfSomeLogs a'
log_added a b a' la lb x y e =
    (x.0 ++ (y.0 ∷ []), ap tally_in e ∙ (adds_log x.0 y.0 a b (record { long = la; shown = x.1 }) (record { long = lb; shown = y.1 })).shown)
