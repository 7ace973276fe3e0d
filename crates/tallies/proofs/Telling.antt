-- What the counters tell, one by one, and what an event adds to it.
use Prim.Native.Nat.{ℕ, ◌+◌, ◌^◌, ◌<◌, ◌≤◌, max}
use native.Mathlib.Omega.{arith}
use mathlib.Core.Path.{◌≡◌, refl, ◌∙◌, ap, sym}
use mathlib.Core.Logic.{◌≢◌}
use mathlib.Core.Bool.{Bool, true, false, ◌&&◌}
use mathlib.Core.List.{List, [], ◌∷◌, ◌++◌, map}
use lib.Dec.{eqb}
use lib.ListN.{length, get_or, take, drop, set, length-set, length-take, length-drop, length-map}
use lib.Seq.{get_or-set_same, get_or-set_other, get_or-take, get_or-drop, ext_get_or}
use borrow.Author.Tests.{eqb-true, eqb-false, ltb-true}
use Rattle.laws.specs.Lists.{one_if, count}
use Rattle.laws.specs.RecordsInLists.{joined}
use Rattle.laws.proofs.Bools.{split, not_both}
use Rattle.laws.proofs.Lists.{count_both}
use Rattle.rules.specs.Types.{Ended}
use Rattle.rules.proofs.EndStatuses.{byte_end}
use Rattle.records.specs.Records.{ended_bytes}
use Rattle.numbers.specs.declared.Answered.{Answered}
use Rattle.tallies.specs.Tally.{statuses, Tally, has_status, capped, capped_tally}
use Rattle.tallies.specs.Counters.{entry_at, accepted_at, largest_at, left_at, counters, tally_in, once_more, count_ends, count_entry, count_accepted, count_left, count_largest, count_event}
use Rattle.tallies.proofs.Counting.{length_once_more}
use Rattle.tallies.proofs.Numbered.{capped_again, capped_larger, capped_small, get_d_capped}

-- e and x are the ends and the ends at entry by status, a, m and l accepted, largest and left
pub record Tells (e x : ℕ → ℕ) (a m l : ℕ) (c : List ℕ) : Type 0 where
  pub long : length c ≡ counters
  pub ends : (s : ℕ) → s < statuses → get_or c s 0 ≡ capped (e s)
  pub entry : (s : ℕ) → s < statuses → get_or c (entry_at + s) 0 ≡ capped (x s)
  pub accepted : get_or c accepted_at 0 ≡ capped a
  pub largest : get_or c largest_at 0 ≡ capped m
  pub left : get_or c left_at 0 ≡ capped l

pub tells_same : {e f x y : ℕ → ℕ} {a b m n l k : ℕ} {c : List ℕ} → ((s : ℕ) → s < statuses → e s ≡ f s) → ((s : ℕ) → s < statuses → x s ≡ y s) → a ≡ b → m ≡ n
    → l ≡ k → Tells e x a m l c → Tells f y b n k c
tells_same p q r s u t =
    record {
      long = t.long;
      ends = λ i h. t.ends i h ∙ ap capped (p i h);
      entry = λ i h. t.entry i h ∙ ap capped (q i h);
      accepted = t.accepted ∙ ap capped r;
      largest = t.largest ∙ ap capped s;
      left = t.left ∙ ap capped u;
    }

-- Counters and tallies ---------------------------------------------------------------------------------------------------------------------

pub record Shows (c : List ℕ) (t : Tally) : Type 0 where
  pub long : length c ≡ counters
  pub shown : tally_in c ≡ capped_tally t

abbrev pub TellsOf : Tally → List ℕ → Type 0
TellsOf t c = Tells (λ s. get_or t.ends s 0) (λ s. get_or t.entry s 0) t.accepted t.largest t.left c

pub shows_tells : (c : List ℕ) (t : Tally) → Shows c t → TellsOf t c
shows_tells c t w =
    record {
      long = w.long;
      ends = λ s h. sym (get_or-take statuses c s 0 h) ∙ ap (λ (u : Tally). get_or u.ends s 0) w.shown ∙ get_d_capped t.ends s;
      entry =
          λ s h.
          sym (get_or-take statuses (drop entry_at c) s 0 h ∙ get_or-drop entry_at c s 0)
          ∙ ap (λ (u : Tally). get_or u.entry s 0) w.shown
          ∙ get_d_capped t.entry s;
      accepted = ap (λ (u : Tally). u.accepted) w.shown;
      largest = ap (λ (u : Tally). u.largest) w.shown;
      left = ap (λ (u : Tally). u.left) w.shown;
    }

-- a list with a number for each status is what its numbers say
by_numbers : (l b : List ℕ) → statuses ≤ length l → length b ≡ statuses → ((s : ℕ) → s < statuses → get_or l s 0 ≡ capped (get_or b s 0))
    → take statuses l ≡ map capped b
by_numbers l b h k f =
    let n : length (take statuses l) ≡ statuses = length-take statuses l ∙ omega arith in
    ext_get_or 0 (take statuses l) (map capped b) (n ∙ sym (length-map b capped ∙ k))
    (λ i j. get_or-take statuses l i 0 (omega (arith, n)) ∙ f i (omega (arith, n)) ∙ sym (get_d_capped b i))

pub tells_shows : (c : List ℕ) (t : Tally) → length t.ends ≡ statuses → length t.entry ≡ statuses → TellsOf t c → Shows c t
tells_shows c t n m w =
    let ends = by_numbers c t.ends (omega (arith, w.long)) n w.ends in
    let entry = by_numbers (drop entry_at c) t.entry (omega (arith, w.long, length-drop entry_at c)) m (λ s h. get_or-drop entry_at c s 0 ∙ w.entry s h) in
    record {
      long = w.long;
      shown = λ i. record { accepted = w.accepted i; ends = ends i; entry = entry i; largest = w.largest i; left = w.left i };
    }

-- One counter ------------------------------------------------------------------------------------------------------------------------------

more_here : (k : ℕ) (c : List ℕ) → k < length c → get_or (once_more k c) k 0 ≡ capped (get_or c k 0 + 1)
unfolding once_more
more_here k c h = get_or-set_same c k _ 0 h

more_elsewhere : (k j : ℕ) (c : List ℕ) → j ≢ k → get_or (once_more k c) j 0 ≡ get_or c j 0
unfolding once_more
more_elsewhere k j c n = get_or-set_other c k j _ 0 n

-- the counter at j, where the one at k has one more: it is the same one where b holds
more_of : (b : Bool) (k j n : ℕ) (c : List ℕ) → k < length c → (b ≡ true → k ≡ j) → (b ≡ false → j ≢ k) → get_or c j 0 ≡ capped n
    → get_or (once_more k c) j 0 ≡ capped (n + one_if b)
more_of true k j n c h same other e =
    rw (← same refl) (more_here k c h ∙ ap (λ z. capped (z + 1)) (rw (← same refl) at e) ∙ capped_again n 1)
more_of false k j n c h same other e = let z : n + 0 ≡ n = omega arith in rw z (more_elsewhere k j c (other refl) ∙ e)

-- An event ---------------------------------------------------------------------------------------------------------------------------------

module _ {e x : ℕ → ℕ} {a m l : ℕ} {c : List ℕ} where
  one_end : (st : ℕ) → st < statuses → Tells e x a m l c → Tells (λ s. e s + one_if (eqb st s)) x a m l (once_more st c)
  one_end st h t =
      record {
        long = length_once_more st c ∙ t.long;
        ends = λ s k. more_of (eqb st s) st s (e s) c (omega (arith, t.long)) (eqb-true st s) (λ y q. eqb-false st s y (sym q)) (t.ends s k);
        entry = λ s k. more_elsewhere st (entry_at + s) c (λ q. omega arith) ∙ t.entry s k;
        accepted = more_elsewhere st accepted_at c (λ q. omega arith) ∙ t.accepted;
        largest = more_elsewhere st largest_at c (λ q. omega arith) ∙ t.largest;
        left = more_elsewhere st left_at c (λ q. omega arith) ∙ t.left;
      }

  entry_step : (n st : ℕ) → st < statuses → Tells e x a m l c → Tells e (λ s. x s + one_if (eqb n 7 && eqb st s)) a m l (count_entry n st c)
  unfolding count_entry
  entry_step n st h t =
      split (eqb n 7)
      (λ y.
      rw y
      (record {
        long = length_once_more (entry_at + st) c ∙ t.long;
        ends = λ s k. more_elsewhere (entry_at + st) s c (λ q. omega arith) ∙ t.ends s k;
        entry =
            λ s k.
            more_of (eqb st s) (entry_at + st) (entry_at + s) (x s) c (omega (arith, t.long)) (λ q. ap (λ i. entry_at + i) (eqb-true st s q))
            (λ q z. eqb-false st s q (omega arith)) (t.entry s k);
        accepted = more_elsewhere (entry_at + st) accepted_at c (λ q. omega arith) ∙ t.accepted;
        largest = more_elsewhere (entry_at + st) largest_at c (λ q. omega arith) ∙ t.largest;
        left = more_elsewhere (entry_at + st) left_at c (λ q. omega arith) ∙ t.left;
      }))
      (λ y. rw y (tells_same (λ s k. refl) (λ s k. omega arith) refl refl refl t))

  accepted_step : (k n : ℕ) → Tells e x a m l c → Tells e x (a + one_if (eqb k 1 && eqb n 0)) m l (count_accepted k n c)
  unfolding count_accepted
  accepted_step k n t =
      split (eqb k 1 && eqb n 0)
      (λ y.
      rw y
      (record {
        long = length_once_more accepted_at c ∙ t.long;
        ends = λ s h. more_elsewhere accepted_at s c (λ q. omega arith) ∙ t.ends s h;
        entry = λ s h. more_elsewhere accepted_at (entry_at + s) c (λ q. omega arith) ∙ t.entry s h;
        accepted = more_of true accepted_at accepted_at a c (omega (arith, t.long)) (λ q. refl) (λ q z. not_both refl q) t.accepted;
        largest = more_elsewhere accepted_at largest_at c (λ q. omega arith) ∙ t.largest;
        left = more_elsewhere accepted_at left_at c (λ q. omega arith) ∙ t.left;
      }))
      (λ y. rw y (tells_same (λ s h. refl) (λ s h. refl) (omega arith) refl refl t))

  left_step : (n : ℕ) → n < 2 ^ 64 → Tells e x a m l c → Tells e x a m n (count_left n c)
  unfolding count_left
  left_step n h t =
      let off : (j : ℕ) → j ≢ left_at → get_or (set c left_at n) j 0 ≡ get_or c j 0 = λ j p. get_or-set_other c left_at j n 0 p in
      record {
        long = length-set c left_at n ∙ t.long;
        ends = λ s k. off s (λ q. omega arith) ∙ t.ends s k;
        entry = λ s k. off (entry_at + s) (λ q. omega arith) ∙ t.entry s k;
        accepted = off accepted_at (λ q. omega arith) ∙ t.accepted;
        largest = off largest_at (λ q. omega arith) ∙ t.largest;
        left = get_or-set_same c left_at n 0 (omega (arith, t.long)) ∙ sym (capped_small n h);
      }

  largest_step : Tells e x a m l c → Tells e x a (max m l) l (count_largest c)
  unfolding count_largest
  largest_step t =
      let high = max (get_or c largest_at 0) (get_or c left_at 0) in
      let off : (j : ℕ) → j ≢ largest_at → get_or (set c largest_at high) j 0 ≡ get_or c j 0 = λ j p. get_or-set_other c largest_at j high 0 p in
      record {
        long = length-set c largest_at high ∙ t.long;
        ends = λ s k. off s (λ q. omega arith) ∙ t.ends s k;
        entry = λ s k. off (entry_at + s) (λ q. omega arith) ∙ t.entry s k;
        accepted = off accepted_at (λ q. omega arith) ∙ t.accepted;
        largest = get_or-set_same c largest_at high 0 (omega (arith, t.long)) ∙ rw (t.largest, t.left) (capped_larger m l);
        left = off left_at (λ q. omega arith) ∙ t.left;
      }

-- the records of a report
pub ends_step : (e x : ℕ → ℕ) (a m l : ℕ) (c : List ℕ) (ds : List Ended) (rest : List ℕ) → count byte_end ds ≡ length ds → Tells e x a m l c
    → Tells (λ s. e s + count (has_status s) ds) x a m l (count_ends (length ds) (joined ended_bytes ds ++ rest) c)
unfolding count_ends
ends_step e x a m l c [] rest b t = tells_same (λ s k. omega arith) (λ s k. refl) refl refl refl t
ends_step e x a m l c (d ∷ ds) rest b t =
    let fit : byte_end d ≡ true = split (byte_end d) (λ y. y) (λ y. absurd (omega (arith, b, ap one_if y, count_both byte_end ds))) in
    tells_same (λ s k. omega arith) (λ s k. refl) refl refl refl
    (ends_step (λ s. e s + one_if (has_status s d)) x a m l (once_more d.status c) ds rest (omega (arith, b, ap one_if fit))
    (one_end d.status (ltb-true d.status statuses fit) t))

pub event_step : (e x : ℕ → ℕ) (a m l : ℕ) (c : List ℕ) (w : Answered) (kind n : ℕ) (r : List ℕ) (ds : List Ended) (rest : List ℕ)
    → count byte_end ds ≡ length ds → w.ended ≡ length ds → r ≡ joined ended_bytes ds ++ rest → w.status < statuses → n < 2 ^ 64 → Tells e x a m l c
    → Tells (λ s. e s + count (has_status s) ds) (λ s. x s + one_if (eqb w.answer 7 && eqb w.status s)) (a + one_if (eqb kind 1 && eqb w.answer 0)) (max m n) n (count_event w kind r n c)
unfolding count_event
event_step e x a m l c w kind n r ds rest b k q st h t =
    rw (k, q) (largest_step (left_step n h (accepted_step kind w.answer (entry_step w.answer w.status st (ends_step e x a m l c ds rest b t)))))
