use Rattle.std.proofs.Common.{◌≡◌, ◌++◌, length, take, drop}
use Rattle.tallies.specs.Counters.{counters, add_counters}
use Rattle.tallies.proofs.sum.add_log.Given as goal

abbrev pub invariant-loop-k : goal.invariant-loop-k
invariant-loop-k l =
    record {
      added : take l.k l.all ++ add_counters l.k (drop l.k l.all) (drop l.k l.one) ≡ add_counters 0 l.fn.all l.one;
      long : length l.all ≡ counters;
    }
