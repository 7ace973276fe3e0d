use Rattle.std.proofs.Common.{◌≡◌, ◌≤◌, ◌<◌, ◌-◌, ◌+◌, ◌&&◌, ℕ, List, Bool, true, not, eqb, take}
use lib.Seq.{slice}
use Rattle.laws.specs.Lists.{any}
use Rattle.inspect.specs.TableTest.{keys_apart, spare_key}
use Rattle.inspect.proofs.fits.distinct.Given as goal

-- no two were the same so far: the answer hangs on the keys from i on
pub record Outer (keys : List ℕ) (n : ℕ) (ok : Bool) (i : ℕ) : Type 0 where
  pub passed : i ≤ n
  pub clear : ok ≡ true
  pub rest : keys_apart (slice i n keys) ≡ keys_apart (take n keys)

-- and k, which is at i, has been held against those before j
pub record Inner (keys : List ℕ) (n i k : ℕ) (ok : Bool) (j : ℕ) : Type 0 where
  pub here : i < n
  pub low : k < spare_key
  pub clear : ok ≡ true
  pub rest : (not (any (eqb k) (slice j n keys)) && keys_apart (slice (i + 1) n keys)) ≡ keys_apart (take n keys)

abbrev pub invariant-loop-j : goal.invariant-loop-j
invariant-loop-j l = Inner l.keys l.n l.i l.k l.clear l.j

abbrev pub decreases-loop-j : goal.decreases-loop-j
decreases-loop-j l = l.n - l.j

abbrev pub invariant-pairs : goal.invariant-pairs
invariant-pairs l = Outer l.keys l.n l.clear l.i
