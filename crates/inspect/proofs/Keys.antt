-- The keys in their array: noted, held against each other four by four, and spare behind the last.
use Prim.Native.Nat.{ℕ, zero, suc, ◌+◌, ◌-◌, ◌≤◌, ◌<◌}
use mathlib.Core.Bool.{Bool, or_assoc, ◌||◌}
use mathlib.Core.Path.{◌≡◌, refl, ap, ◌∙◌}
use mathlib.Core.List.{List, [], ◌∷◌, ◌++◌, append_assoc}
use native.Mathlib.Nat.{add-zero}
use native.Mathlib.Numerals.{add-one}
use native.Mathlib.Omega.{arith}
use borrow.Author.Tests.{ne_eqb, ltb-true, ltb-false}
use lib.Dec.{eqb, ltb}
use lib.ListN.{length, get_or, take, drop, set, replicate, get_or-replicate, length-take, drop_of_length-le, get_or-append}
use lib.Seq.{drop-set-lt, take-suc-set, slice, slice-cons, get_or-drop, get_or-append-add}
use Rattle.std.specs.List.{list_any}
use Rattle.laws.specs.Lists.{any}
use Rattle.laws.proofs.Bools.{split, eqb_sym}
use Rattle.octets.specs.Sizes.{nexus_offset}
use Rattle.octets.proofs.Tags.{tag_low}
use Rattle.octets.proofs.Widths.{record_bytes}
use Rattle.rules.specs.Tasks.{places}
use Rattle.records.specs.Records.{task_size}
use Rattle.records.specs.Tables.{Bytes}
use Rattle.records.proofs.Good.{bytes_drop, bytes_take}
use Rattle.inspect.specs.TableTest.{keys_from, spare_key, Spared}

pub keys_long : (n : ℕ) (l : List ℕ) → length (keys_from n l) ≡ n
unfolding keys_from
keys_long zero l = refl
keys_long (suc n) l = ap suc (keys_long n (drop task_size l))

-- one more stored, of the first n: it joins those before it, and those behind the n stay
pub store_next :
    (l rest : List ℕ) (n i v : ℕ) → i < n → i < length l
    → take (i + 1) (set l i v) ++ (rest ++ drop n (set l i v)) ≡ take i l ++ (v ∷ rest ++ drop n l)
store_next l rest n i v h room = rw (drop-set-lt n l i v h, add-one, take-suc-set l i v room, append_assoc)

-- Spare ones -------------------------------------------------------------------------------------------------------------------------------

keys_low : (n : ℕ) (l : List ℕ) → Bytes l → (i : ℕ) → i < n → get_or (keys_from n l) i 0 < spare_key
unfolding keys_from
keys_low zero l b i h = absurd (omega arith)
keys_low (suc n) l b zero h =
    omega (arith, bytes_take l task_size b nexus_offset, tag_low (take task_size l) (bytes_take l task_size b))
keys_low (suc n) l b (suc i) h = keys_low n (drop task_size l) (bytes_drop l task_size b) i (omega arith)

pub noted_spared :
    (n : ℕ) (l : List ℕ) → Bytes l → (ks : List ℕ) → ks ≡ keys_from n l ++ drop n (replicate 68 spare_key) → Spared ks n
noted_spared n l b ks e =
    record {
      low = λ i h. rw (e, get_or-append (keys_from n l) (drop n (replicate 68 spare_key)) 0 i (omega (arith, keys_long n l))) (keys_low n l b i h);
      spare = λ i h m.
          let at : i ≡ length (keys_from n l) + (i - n) = omega (arith, keys_long n l) in
          let back : n + (i - n) ≡ i = omega arith in
          ap (λ (z : ℕ). get_or ks z 0) at
          ∙ (rw (e, get_or-append-add (keys_from n l) (drop n (replicate 68 spare_key)) (i - n) 0, get_or-drop, back) (get_or-replicate 68 i spare_key 0 m));
    }

-- Four by four -----------------------------------------------------------------------------------------------------------------------------

-- of the first n from the i-th on: that one, and those behind it
pub slice_next : (l : List ℕ) (i n : ℕ) → i < n → n ≤ length l → slice i n l ≡ get_or l i 0 ∷ slice (i + 1) n l
slice_next l i n h room = rw (add-one, ← slice-cons i n l 0 h room)

pub slice_past : (l : List ℕ) (i n : ℕ) → n ≤ i → slice i n l ≡ []
slice_past l i n h = drop_of_length-le (take n l) {i = i} (simp length-take (omega arith))

module _ (ks : List ℕ) (n k : ℕ) (long : length ks ≡ 68) (few : n ≤ places) (s : Spared ks n) (low : k < spare_key) where
  one : (j : ℕ) → j < 68 → any (eqb k) (slice j n ks) ≡ eqb k (get_or ks j 0) || any (eqb k) (slice (j + 1) n ks)
  one j h =
      split (ltb j n)
      (λ e. ap (any (eqb k)) (slice_next ks j n (ltb-true j n e) (omega arith)))
      (λ e.
      let past = ltb-false j n e in
      rw (slice_past ks j n past, slice_past ks (j + 1) n (omega arith), ne_eqb k (get_or ks j 0) (λ q. omega (arith, s.spare j past h))))

  listed : (j : ℕ) → j + 4 ≤ 68 → take 4 (drop j ks) ≡ get_or ks j 0 ∷ get_or ks (j + 1) 0 ∷ get_or ks (j + 2) 0 ∷ get_or ks (j + 3) 0 ∷ []
  listed j h = rw add-zero at (record_bytes 4 ks j (omega arith))

  four :
      (j : ℕ) → j < n
      → any (eqb k) (slice j n ks) ≡ list_any (λ (y : ℕ). eqb y k) (take (j + 4 - j) (drop j ks)) || any (eqb k) (slice (j + 4) n ks)
  four j h =
      let w : j + 4 - j ≡ 4 = omega arith in
      let p : j + 1 + 1 ≡ j + 2 = omega arith in
      let q : j + 2 + 1 ≡ j + 3 = omega arith in
      let r : j + 3 + 1 ≡ j + 4 = omega arith in
      rw (
        w,
        listed j (omega arith),
        one j (omega arith),
        one (j + 1) (omega arith),
        p,
        one (j + 2) (omega arith),
        q,
        one (j + 3) (omega arith),
        r,
        eqb_sym k (get_or ks j 0),
        eqb_sym k (get_or ks (j + 1) 0),
        eqb_sym k (get_or ks (j + 2) 0),
        eqb_sym k (get_or ks (j + 3) 0),
      )
      (simp or_assoc)

-- where b says whether k is among the four at j
pub four_held :
    (ks : List ℕ) (n k : ℕ) (b : Bool) → length ks ≡ 68 → n ≤ places → Spared ks n → k < spare_key
    → (j : ℕ) → j < n → b ≡ list_any (λ (y : ℕ). eqb y k) (take (j + 4 - j) (drop j ks))
    → any (eqb k) (slice j n ks) ≡ b || any (eqb k) (slice (j + 4) n ks)
four_held ks n k b long few s low j h e = rw e (four ks n k long few s low j h)
