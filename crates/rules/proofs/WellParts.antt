-- What is left of the test of a state where its numbers are known to be good: names and states.
use Prim.Native.Nat.{◌≤◌}
use mathlib.Core.Bool.{true, false, ◌&&◌}
use mathlib.Core.Path.{◌≡◌}
use lib.ListN.{length}
use borrow.Author.Tests.{eq-eqb, le-leb}
use Rattle.laws.specs.Lists.{any}
use Rattle.values.specs.Headers.{most_run}
use Rattle.rules.specs.Tasks.{places, nexuses}
use Rattle.rules.specs.Rulings.{State}
use Rattle.rules.specs.Well.{states_fit, fault_fits, distinct, too_high, well_formed}

pub well_formed_parts :
    (s : State) → s.header.run ≤ most_run → length s.tasks ≤ places → s.header.count ≡ length s.tasks
    → length s.pending ≡ nexuses → fault_fits s.header.aca ≡ true → any too_high s.tasks ≡ false
    → well_formed s ≡ distinct s.tasks && states_fit s.header.aca s.tasks
unfolding well_formed
well_formed_parts s run few counted eight fault low =
    rw (
      le-leb s.header.run most_run run,
      le-leb (length s.tasks) places few,
      eq-eqb s.header.count (length s.tasks) counted,
      eq-eqb (length s.pending) nexuses eight,
      fault,
      low,
    )
