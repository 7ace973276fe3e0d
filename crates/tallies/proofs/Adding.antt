-- RULES 24.10: the counters of two logs, added, show both together.
use Prim.Native.Nat.{ℕ, zero, suc, ◌+◌, ◌<◌}
use native.Mathlib.Omega.{arith}
use mathlib.Core.Path.{◌≡◌, refl, ◌∙◌, ap, sym}
use mathlib.Core.Logic.{◌≢◌}
use mathlib.Core.List.{List, [], ◌∷◌, ◌++◌, map, map-append}
use lib.ListN.{length, get_or, replicate, length-replicate}
use borrow.Author.Tests.{ne_eqb}
use Rattle.tallies.specs.Tally.{statuses, Tally, tally_of, capped, no_tally, plus, onward, together}
use Rattle.tallies.specs.Counters.{entry_at, accepted_at, largest_at, left_at, counters, both_at, add_counters}
use Rattle.tallies.proofs.Numbered.{zero_at, length_each, length_sums, get_d_sums, capped_both, capped_larger}
use Rattle.tallies.proofs.Telling.{Shows, shows_tells, tells_shows}

length_added : (k : ℕ) (a b : List ℕ) → length (add_counters k a b) ≡ length a
unfolding add_counters
length_added k [] b = refl
length_added k (x ∷ a) [] = refl
length_added k (x ∷ a) (y ∷ b) = ap suc (length_added (suc k) a b)

get_d_added : (k : ℕ) (a b : List ℕ) (i : ℕ) → i < length a → i < length b → get_or (add_counters k a b) i 0 ≡ both_at (k + i) (get_or a i 0) (get_or b i 0)
unfolding add_counters
get_d_added k [] b i h j = absurd (omega arith)
get_d_added k (x ∷ a) [] i h j = absurd (omega arith)
get_d_added k (x ∷ a) (y ∷ b) zero h j = let n : k + 0 ≡ k = omega arith in rw n
get_d_added k (x ∷ a) (y ∷ b) (suc i) h j =
    let n : k + suc i ≡ suc k + i = omega arith in rw n (get_d_added (suc k) a b i (omega arith) (omega arith))

-- a counter that is no largest
summed : (i m n : ℕ) (a b : List ℕ) → length a ≡ counters → length b ≡ counters → i < counters → i ≢ largest_at → get_or a i 0 ≡ capped m → get_or b i 0 ≡ capped n
    → get_or (add_counters 0 a b) i 0 ≡ capped (m + n)
summed i m n a b h k j o p q =
    get_d_added 0 a b i (omega arith) (omega arith)
    ∙ rw (p, q, ne_eqb (0 + i) largest_at (λ z. o (omega arith))) (capped_both m n)

-- whatever two logs the counters show
adds_up : (A B : Tally) (a b : List ℕ) → length A.ends ≡ statuses → length A.entry ≡ statuses → length B.ends ≡ statuses → length B.entry ≡ statuses
    → Shows a A → Shows b B → Shows (add_counters 0 a b) (plus A B)
adds_up A B a b ne nx me mx sa sb =
    let t = shows_tells a A sa in
    let u = shows_tells b B sb in
    tells_shows (add_counters 0 a b) (plus A B) (length_sums A.ends B.ends (ne ∙ sym me) ∙ ne) (length_sums A.entry B.entry (nx ∙ sym mx) ∙ nx)
    (record {
      long = length_added 0 a b ∙ t.long;
      ends =
          λ s h.
          summed s _ _ a b t.long u.long (omega arith) (λ q. omega arith) (t.ends s h) (u.ends s h)
          ∙ ap capped (sym (get_d_sums A.ends B.ends s (ne ∙ sym me)));
      entry =
          λ s h.
          summed (entry_at + s) _ _ a b t.long u.long (omega arith) (λ q. omega arith) (t.entry s h) (u.entry s h)
          ∙ ap capped (sym (get_d_sums A.entry B.entry s (nx ∙ sym mx)));
      accepted = summed accepted_at _ _ a b t.long u.long (omega arith) (λ q. omega arith) t.accepted u.accepted;
      largest =
          get_d_added 0 a b largest_at (omega (arith, t.long)) (omega (arith, u.long)) ∙ rw (t.largest, u.largest) (capped_larger A.largest B.largest);
      left = summed left_at _ _ a b t.long u.long (omega arith) (λ q. omega arith) t.left u.left;
    })

-- one log more
onward_append : (a t : Tally) (ts : List Tally) → onward a (ts ++ (t ∷ [])) ≡ plus (onward a ts) t
onward_append a t [] = refl
onward_append a t (u ∷ ts) = onward_append (plus a u) t ts

-- a number for each status
pub record Whole (t : Tally) : Type 0 where
  pub ends : length t.ends ≡ statuses
  pub entry : length t.entry ≡ statuses

pub log_whole : (l : List ℕ) → Whole (tally_of l)
log_whole l = record { ends = length_each statuses 0 _; entry = length_each statuses 0 _ }

pub plus_whole : (a b : Tally) → Whole a → Whole b → Whole (plus a b)
plus_whole a b v w =
    record {
      ends = length_sums a.ends b.ends (v.ends ∙ sym w.ends) ∙ v.ends;
      entry = length_sums a.entry b.entry (v.entry ∙ sym w.entry) ∙ v.entry;
    }

onward_whole : (a : Tally) (ls : List (List ℕ)) → Whole a → Whole (onward a (map tally_of ls))
onward_whole a [] w = w
onward_whole a (l ∷ ls) w = onward_whole (plus a (tally_of l)) ls (plus_whole a (tally_of l) w (log_whole l))

pub none_whole : Whole no_tally
none_whole = record { ends = length-replicate {A = ℕ} statuses 0; entry = length-replicate {A = ℕ} statuses 0 }

-- the counters of the logs ls and of one more, added
pub adds_log : (ls : List (List ℕ)) (l a b : List ℕ) → Shows a (together (map tally_of ls)) → Shows b (tally_of l)
    → Shows (add_counters 0 a b) (together (map tally_of (ls ++ (l ∷ []))))
adds_log ls l a b sa sb =
    let w = onward_whole no_tally ls none_whole in
    let u = log_whole l in
    rw (map-append tally_of ls (l ∷ []), onward_append no_tally (tally_of l) (map tally_of ls))
    (adds_up (together (map tally_of ls)) (tally_of l) a b w.ends w.entry u.ends u.entry sa sb)

-- and of none
pub shows_none : Shows (replicate counters 0) no_tally
shows_none =
    tells_shows (replicate counters 0) no_tally none_whole.ends none_whole.entry
    (record {
      long = length-replicate {A = ℕ} counters 0;
      ends = λ s h. zero_at counters s ∙ ap capped (sym (zero_at statuses s));
      entry = λ s h. zero_at counters (entry_at + s) ∙ ap capped (sym (zero_at statuses s));
      accepted = zero_at counters accepted_at;
      largest = zero_at counters largest_at;
      left = zero_at counters left_at;
    })
