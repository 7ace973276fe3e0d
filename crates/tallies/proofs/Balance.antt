-- RULES 24.8: commands accepted are ends and tasks left.
use Prim.Native.Nat.{ℕ, zero, suc, ◌+◌}
use native.Mathlib.Omega.{arith}
use mathlib.Core.Path.{◌≡◌, refl, ◌∙◌, ap, sym}
use mathlib.Core.List.{List, [], ◌∷◌, map}
use lib.Dec.{eqb, ltb}
use lib.ListN.{length, replicate, length-replicate}
use borrow.Author.Tests.{le-ltb}
use Rattle.laws.specs.Lists.{one_if, count}
use Rattle.laws.proofs.Bools.{one_below_suc}
use Rattle.rules.specs.Types.{Event, Policy, Ended}
use Rattle.rules.proofs.EndStatuses.{byte_end}
use Rattle.records.specs.Numbers.{policy_from}
use Rattle.history.specs.History.{after}
use Rattle.history.proofs.Balance.{recorded, recorded_bytes}
use Rattle.tallies.specs.Tally.{events_of, statuses, Tally, each_from, by_status, has_status, ends_with, tally_over, tally_of, no_tally, plus, onward, together, sum}
use Rattle.tallies.proofs.Numbered.{length_each, sum_each_none, sum_each_both, length_sums, sum_sums}

sum_one : (n s x : ℕ) → sum (each_from n s (λ k. one_if (eqb x k))) + one_if (ltb x s) ≡ one_if (ltb x (s + n))
unfolding each_from
sum_one zero s x = let k : s + 0 ≡ s = omega arith in rw k (omega arith)
sum_one (suc n) s x =
    let k : s + suc n ≡ suc s + n = omega arith in rw k (omega (arith, sum_one n (suc s) x, one_below_suc x s))

sum_count : (l : List Ended) → sum (by_status (λ s. count (has_status s) l)) ≡ count byte_end l
sum_count [] = sum_each_none statuses 0
sum_count (d ∷ l) =
    sum_each_both statuses 0 (λ s. one_if (has_status s d)) (λ s. count (has_status s) l)
    ∙ omega (arith, sum_one statuses 0 d.status, ap one_if (le-ltb d.status 0 (omega arith)), sum_count l)

-- what is accepted is in the ends, or left
abbrev pub Even : Tally → Type 0
Even t = t.accepted ≡ sum t.ends + t.left

pub tally_even : (p : Policy) (es : List Event) → Even (tally_over p es)
tally_even p es = omega (arith, recorded p es, recorded_bytes p es, sum_count (after p es).log)

-- over every log
pub accepted_is_ends_and_left : (l : List ℕ) → (tally_of l).accepted ≡ sum (tally_of l).ends + (tally_of l).left
accepted_is_ends_and_left l = tally_even (policy_from 0) (events_of l)

sum_nothing : (n : ℕ) → sum (replicate n 0) ≡ 0
sum_nothing zero = refl
sum_nothing (suc n) = omega (arith, sum_nothing n)

onward_even : (a : Tally) (ls : List (List ℕ)) → Even a → length a.ends ≡ statuses → Even (onward a (map tally_of ls))
onward_even a [] e k = e
onward_even a (l ∷ ls) e k =
    let n = length_each statuses 0 (ends_with (after (policy_from 0) (events_of l))) in
    onward_even (plus a (tally_of l)) ls
    (omega (arith, e, accepted_is_ends_and_left l, sum_sums a.ends (tally_of l).ends (k ∙ sym n)))
    (length_sums a.ends (tally_of l).ends (k ∙ sym n) ∙ k)

-- and over all logs together
pub all_accepted_is_ends_and_left :
    (ls : List (List ℕ))
    → (together (map tally_of ls)).accepted ≡ sum (together (map tally_of ls)).ends + (together (map tally_of ls)).left
all_accepted_is_ends_and_left ls = onward_even no_tally ls (omega (arith, sum_nothing statuses)) (length-replicate {A = ℕ} statuses 0)
