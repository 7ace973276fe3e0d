-- RULES 24.10: what the tally of logs together holds, number by number.
use Prim.Native.Nat.{ℕ, ◌+◌, max}
use native.Mathlib.Omega.{arith}
use mathlib.Core.Path.{◌≡◌, refl, ◌∙◌, sym}
use mathlib.Core.List.{List, [], ◌∷◌, map}
use lib.ListN.{get_or}
use Rattle.tallies.specs.Tally.{statuses, Tally, tally_of, no_tally, plus, onward, together, sum}
use Rattle.tallies.proofs.Numbered.{get_d_sums, zero_at}
use Rattle.tallies.proofs.Adding.{Whole, log_whole, plus_whole, none_whole}

abbrev pub greatest : List ℕ → ℕ
greatest [] = 0
greatest (n ∷ ns) = max n (greatest ns)

module _ (part : Tally → ℕ) (adds : (a b : Tally) → part (plus a b) ≡ part a + part b) where
  onward_adds : (a : Tally) (ts : List Tally) → part (onward a ts) ≡ part a + sum (map part ts)
  onward_adds a [] = omega arith
  onward_adds a (t ∷ ts) = omega (arith, onward_adds (plus a t) ts, adds a t)

onward_largest : (a : Tally) (ts : List Tally) → (onward a ts).largest ≡ max a.largest (greatest (map (λ t. t.largest) ts))
onward_largest a [] = omega arith
onward_largest a (t ∷ ts) = omega (arith, onward_largest (plus a t) ts)

module _ (list : Tally → List ℕ) (s : ℕ) (adds : (a b : Tally) → Whole a → Whole b → get_or (list (plus a b)) s 0 ≡ get_or (list a) s 0 + get_or (list b) s 0) where
  onward_each : (a : Tally) (ls : List (List ℕ)) → Whole a
      → get_or (list (onward a (map tally_of ls))) s 0 ≡ get_or (list a) s 0 + sum (map (λ l. get_or (list (tally_of l)) s 0) ls)
  onward_each a [] w = omega arith
  onward_each a (l ∷ ls) w =
      omega (arith, onward_each (plus a (tally_of l)) ls (plus_whole a (tally_of l) w (log_whole l)), adds a (tally_of l) w (log_whole l))

-- accepted and left are sums, and the largest is the greatest
pub together_accepted : (ts : List Tally) → (together ts).accepted ≡ sum (map (λ t. t.accepted) ts)
together_accepted ts = onward_adds (λ t. t.accepted) (λ a b. refl) no_tally ts ∙ omega arith

pub together_left : (ts : List Tally) → (together ts).left ≡ sum (map (λ t. t.left) ts)
together_left ts = onward_adds (λ t. t.left) (λ a b. refl) no_tally ts ∙ omega arith

pub together_largest : (ts : List Tally) → (together ts).largest ≡ greatest (map (λ t. t.largest) ts)
together_largest ts = onward_largest no_tally ts ∙ omega arith

-- and so is each status' number
pub together_ends : (ls : List (List ℕ)) (s : ℕ) → get_or (together (map tally_of ls)).ends s 0 ≡ sum (map (λ l. get_or (tally_of l).ends s 0) ls)
together_ends ls s =
    onward_each (λ t. t.ends) s (λ a b v w. get_d_sums a.ends b.ends s (v.ends ∙ sym w.ends)) no_tally ls none_whole
    ∙ omega (arith, zero_at statuses s)

pub together_entry : (ls : List (List ℕ)) (s : ℕ) → get_or (together (map tally_of ls)).entry s 0 ≡ sum (map (λ l. get_or (tally_of l).entry s 0) ls)
together_entry ls s =
    onward_each (λ t. t.entry) s (λ a b v w. get_d_sums a.entry b.entry s (v.entry ∙ sym w.entry)) no_tally ls none_whole
    ∙ omega (arith, zero_at statuses s)
