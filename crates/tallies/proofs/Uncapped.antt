-- RULES 24.11: no counter is capped below 2^64 records.
use Rattle.std.specs.Prelude.{Option, Some, None}
use Prim.Native.Nat.{ℕ, zero, suc, ◌+◌, ◌^◌, ◌<◌, ◌≤◌}
use native.Mathlib.Omega.{arith}
use mathlib.Core.Path.{◌≡◌, ◌∙◌, ap, sym}
use mathlib.Core.Bool.{Bool, true, false}
use mathlib.Core.List.{List, [], ◌∷◌, map}
use lib.ListN.{length, get_or, take, drop, length-append, length-map, length-replicate, get_or-eq_default}
use lib.Seq.{ext_get_or}
use lib.Dec.{ltb}
use borrow.Author.Tests.{ltb-true, ltb-false}
use Rattle.laws.specs.Lists.{one_if}
use Rattle.laws.proofs.Bools.{split}
use Rattle.laws.proofs.Lists.{count_both}
use Rattle.rules.specs.Types.{Event, Policy, Ruling, Keeps, Changes, Task}
use Rattle.rules.specs.Tasks.{places}
use Rattle.rules.specs.Rulings.{fresh, newcomers, joins_of}
use Rattle.rules.specs.Rules.{answer, ruling}
use Rattle.rules.proofs.WellKept.{Tested, tested_fresh}
use Rattle.records.specs.Numbers.{policy_from}
use Rattle.records.specs.Records.{event_size}
use Rattle.records.specs.Events.{event_of, pieces}
use Rattle.history.specs.History.{Past, begin, advance, play, after, accepted}
use Rattle.history.proofs.Advanced.{advance_roll}
use Rattle.history.proofs.Reached.{tested_advance}
use Rattle.history.proofs.Balance.{recorded}
use Rattle.demands.specs.Calls.{read_in}
use Rattle.tallies.specs.Tally.{events_from, events_of, statuses, Tally, by_status, has_status, is_entry_with, entries_with, largest_over, tally_over, tally_of, no_tally, plus, onward, together, sum, capped, capped_tally}
use Rattle.tallies.proofs.Numbered.{zero_at, length_each, get_d_each, length_sums, get_d_sums, capped_small, get_d_capped}

one_most : (b : Bool) → one_if b ≤ 1
one_most true = omega arith
one_most false = omega arith

-- Of events --------------------------------------------------------------------------------------------------------------------------------

joins_most : (r : Ruling) → length (joins_of r) ≤ 1
joins_most (Keeps a) = omega arith
joins_most (Changes a c) = go c.joins
  where
    go : (j : Option Task) → length (newcomers j) ≤ 1
    go None = omega arith
    go (Some t) = omega arith

roll_most : (h : Past) (es : List Event) → length (play h es).roll ≤ length h.roll + length es
roll_most h [] = omega arith
roll_most h (e ∷ es) =
    omega (arith, roll_most (advance h e) es, ap length (advance_roll h e), length-append h.roll (accepted h.state e), joins_most (ruling h.state e))

entries_most : (s : ℕ) (h : Past) (es : List Event) → entries_with s h es ≤ length es
entries_most s h [] = omega arith
entries_most s h (e ∷ es) = omega (arith, entries_most s (advance h e) es, one_most (is_entry_with s (answer h.state e)))

largest_most : (h : Past) (es : List Event) → Tested h.state → largest_over h es ≤ places
largest_most h [] w = omega arith
largest_most h (e ∷ es) w = let u = tested_advance h e w in omega (arith, u.few, largest_most (advance h e) es u)

events_most : (n : ℕ) (l : List ℕ) → length (events_from n l) ≤ n
unfolding events_from
events_most zero l = omega arith
events_most (suc n) l =
    omega (arith, length-append (read_in (event_of (take event_size l))) (events_from n (drop event_size l)), one (event_of (take event_size l)), events_most n (drop event_size l))
  where
    one : (o : Option Event) → length (read_in o) ≤ 1
    one None = omega arith
    one (Some e) = omega arith

-- Of tallies -------------------------------------------------------------------------------------------------------------------------------

-- no number of the tally is above n, which is that of the records; the largest is one of a table
record Within (n : ℕ) (t : Tally) : Type 0 where
  ends_long : length t.ends ≡ statuses
  entry_long : length t.entry ≡ statuses
  accepted : t.accepted ≤ n
  ends : (i : ℕ) → get_or t.ends i 0 ≤ n
  entry : (i : ℕ) → get_or t.entry i 0 ≤ n
  largest : t.largest ≤ places
  left : t.left ≤ n

each_most : (f : ℕ → ℕ) (n : ℕ) → ((s : ℕ) → f s ≤ n) → (i : ℕ) → get_or (by_status f) i 0 ≤ n
each_most f n h i =
    split (ltb i statuses) (λ y. rw (get_d_each statuses 0 f i (ltb-true i statuses y)) (h (0 + i)))
    (λ y. rw (get_or-eq_default (by_status f) 0 {n = i} (omega (arith, length_each statuses 0 f, ltb-false i statuses y))) (omega arith))

tally_within : (p : Policy) (es : List Event) (n : ℕ) → length es ≤ n → Within n (tally_over p es)
tally_within p es n h =
    let start = begin (fresh p) in
    let roll = roll_most start es in
    let even = recorded p es in
    record {
      ends_long = length_each statuses 0 _;
      entry_long = length_each statuses 0 _;
      accepted = omega (arith, roll);
      ends = each_most _ n (λ s. omega (arith, roll, even, count_both (has_status s) (after p es).log));
      entry = each_most _ n (λ s. omega (arith, entries_most s start es));
      largest = largest_most start es (tested_fresh p);
      left = omega (arith, roll, even);
    }

plus_within : (n m : ℕ) (a b : Tally) → Within n a → Within m b → Within (n + m) (plus a b)
plus_within n m a b v w =
    let ends = v.ends_long ∙ sym w.ends_long in
    let entry = v.entry_long ∙ sym w.entry_long in
    record {
      ends_long = length_sums a.ends b.ends ends ∙ v.ends_long;
      entry_long = length_sums a.entry b.entry entry ∙ v.entry_long;
      accepted = omega (arith, v.accepted, w.accepted);
      ends = λ i. omega (arith, get_d_sums a.ends b.ends i ends, v.ends i, w.ends i);
      entry = λ i. omega (arith, get_d_sums a.entry b.entry i entry, v.entry i, w.entry i);
      largest = omega (arith, v.largest, w.largest);
      left = omega (arith, v.left, w.left);
    }

uncapped_list : (l : List ℕ) (n : ℕ) → n < 2 ^ 64 → ((i : ℕ) → get_or l i 0 ≤ n) → map capped l ≡ l
uncapped_list l n h f =
    ext_get_or 0 (map capped l) l (length-map l capped) (λ i k. get_d_capped l i ∙ capped_small (get_or l i 0) (omega (arith, f i)))

within_uncapped : (n : ℕ) (t : Tally) → n < 2 ^ 64 → Within n t → capped_tally t ≡ t
within_uncapped n t h w =
    let accepted = capped_small t.accepted (omega (arith, w.accepted)) in
    let ends = uncapped_list t.ends n h w.ends in
    let entry = uncapped_list t.entry n h w.entry in
    let largest = capped_small t.largest (omega (arith, w.largest)) in
    let left = capped_small t.left (omega (arith, w.left)) in
    λ i. record { accepted = accepted i; ends = ends i; entry = entry i; largest = largest i; left = left i }

log_within : (l : List ℕ) → Within (pieces (length l)) (tally_of l)
log_within l = tally_within (policy_from 0) (events_of l) (pieces (length l)) (events_most (pieces (length l)) l)

-- of one log
pub uncapped : (l : List ℕ) → pieces (length l) < 2 ^ 64 → capped_tally (tally_of l) ≡ tally_of l
uncapped l h = within_uncapped (pieces (length l)) (tally_of l) h (log_within l)

onward_within : (n : ℕ) (a : Tally) (ls : List (List ℕ)) → Within n a → Within (n + sum (map (λ l. pieces (length l)) ls)) (onward a (map tally_of ls))
onward_within n a [] w = let z : n + 0 ≡ n = omega arith in rw z w
onward_within n a (l ∷ ls) w =
    let k = pieces (length l) in
    let z : n + (k + sum (map (λ l. pieces (length l)) ls)) ≡ n + k + sum (map (λ l. pieces (length l)) ls) = omega arith in
    rw z (onward_within (n + k) (plus a (tally_of l)) ls (plus_within n k a (tally_of l) w (log_within l)))

none_within : Within 0 no_tally
none_within =
    record {
      ends_long = length-replicate {A = ℕ} statuses 0;
      entry_long = length-replicate {A = ℕ} statuses 0;
      accepted = omega arith;
      ends = λ i. omega (arith, zero_at statuses i);
      entry = λ i. omega (arith, zero_at statuses i);
      largest = omega arith;
      left = omega arith;
    }

-- of all logs together
pub all_uncapped : (ls : List (List ℕ)) → sum (map (λ l. pieces (length l)) ls) < 2 ^ 64 → capped_tally (together (map tally_of ls)) ≡ together (map tally_of ls)
all_uncapped ls h = within_uncapped _ (together (map tally_of ls)) (omega arith) (onward_within 0 no_tally ls none_within)
