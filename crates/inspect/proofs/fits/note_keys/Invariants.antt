use Rattle.std.proofs.Common.{◌≡◌, ◌≤◌, ◌-◌, ◌+◌, ◌*◌, ◌++◌, ℕ, List, length, take, drop}
use Rattle.octets.specs.Sizes.{task_size, tasks_at}
use Rattle.inspect.specs.TableTest.{keys_from}
use Rattle.inspect.proofs.fits.note_keys.Given as goal

-- i keys are noted, and the rest of the first n is still to come
pub record Noted (t : List ℕ) (n : ℕ) (keys₀ keys : List ℕ) (i : ℕ) : Type 0 where
  pub long : length keys ≡ 68
  pub passed : i ≤ n
  pub rest : take i keys ++ (keys_from (n - i) (drop (tasks_at + task_size * i) t) ++ drop n keys) ≡ keys_from n (drop tasks_at t) ++ drop n keys₀

abbrev pub invariant-loop-i : goal.invariant-loop-i
invariant-loop-i l = Noted l.t l.n l.fn.keys l.keys l.i
