-- Records read and written byte by byte, over their width.
use Prim.Native.Nat.{ℕ, zero, suc, ◌+◌, ◌≤◌, ◌<◌}
use mathlib.Core.Path.{◌≡◌, refl, ap, sym, ◌∙◌}
use mathlib.Core.List.{List, [], ◌∷◌, append_assoc}
use native.Mathlib.Nat.{add-zero}
use native.Mathlib.Numerals.{add-one}
use native.Mathlib.Omega.{arith}
use lib.ListN.{length, get_or, take, drop, set, length-set, length-drop}
use lib.Seq.{get_or-drop, take_all, take-suc, take-suc-set, paste, paste-zero, paste-suc}
use Rattle.laws.specs.RecordsInLists.{record_at, put_at}

abbrev pub tabled : ℕ → (ℕ → ℕ) → List ℕ
tabled zero f = []
tabled (suc n) f = f 0 ∷ tabled n (λ i. f (suc i))

pub take_bytes : (n : ℕ) (l : List ℕ) → n ≤ length l → take n l ≡ tabled n (λ i. get_or l i 0)
take_bytes zero l h = refl
take_bytes (suc n) [] h = absurd (omega arith)
take_bytes (suc n) (x ∷ l) h = ap (λ (z : List ℕ). x ∷ z) (take_bytes n l (omega arith))

pub record_bytes : (w : ℕ) (l : List ℕ) (at : ℕ) → at + w ≤ length l → record_at w l at ≡ tabled w (λ i. get_or l (at + i) 0)
record_bytes w l at h = take_bytes w (drop at l) (simp length-drop (omega arith)) ∙ simp get_or-drop

-- the bytes of a record, as code lists them
abbrev pub one_by_one : ℕ → List ℕ → ℕ → List ℕ
one_by_one zero l at = []
one_by_one (suc w) l at = get_or l at 0 ∷ tabled w (λ i. get_or l (at + suc i) 0)

pub one_by_one_lem : (w : ℕ) (l : List ℕ) (at : ℕ) → at + w ≤ length l → one_by_one w l at ≡ record_at w l at
one_by_one_lem zero l at h = refl
one_by_one_lem (suc w) l at h = sym (rw add-zero at (record_bytes (suc w) l at h))

-- of the record of b at a place the first k bytes are read into r
pub record Loading (w : ℕ) (b : List ℕ) (at : ℕ) (r : List ℕ) (k : ℕ) : Type 0 where
  pub same : take k r ≡ take k (drop at b)
  pub wide : length r ≡ w
  pub passed : k ≤ w

module _ {w : ℕ} {b : List ℕ} {at : ℕ} where
  pub load_on :
      {r : List ℕ} {k : ℕ} → Loading w b at r k → k < w → at + w ≤ length b → Loading w b at (set r k (get_or b (at + k) 0)) (k + 1)
  load_on {r} {k} l h fits =
      record {
        same = rw (
          add-one,
          take-suc-set r k _ (omega (arith, l.wide)),
          l.same,
          take-suc (drop at b) k 0 (rw (length-drop at b) (omega arith)),
          get_or-drop,
        );
        wide = simp length-set l.wide;
        passed = omega arith;
      }

  pub load_ends : {r : List ℕ} {k : ℕ} → Loading w b at r k → w ≤ k → r ≡ record_at w b at
  load_ends {r} {k} l h =
      let all : k ≡ w = omega (arith, l.passed) in
      sym (take_all w r (omega (arith, l.wide))) ∙ (rw all at l.same)

-- of the record r the first k bytes are written to b₀ at a place, which gave b
pub record Putting (w : ℕ) (b₀ : List ℕ) (at : ℕ) (r b : List ℕ) (k : ℕ) : Type 0 where
  pub pasted : b ≡ paste b₀ at r k
  pub wide : length r ≡ w
  pub room : at + w ≤ length b₀
  pub long : length b ≡ length b₀
  pub passed : k ≤ w

module _ {w : ℕ} {b₀ : List ℕ} {at : ℕ} {r : List ℕ} where
  pub put_begins : length r ≡ w → at + w ≤ length b₀ → Putting w b₀ at r b₀ 0
  put_begins wide h = record { pasted = paste-zero b₀ at r; wide = wide; room = h; long = refl; passed = omega arith }

  pub put_on : {b : List ℕ} {k : ℕ} → Putting w b₀ at r b k → k < w → Putting w b₀ at r (set b (at + k) (get_or r k 0)) (k + 1)
  put_on {b} {k} p h =
      record {
        pasted = rw (p.pasted, add-one) (paste-suc b₀ at r k 0 (omega (arith, p.wide)) (omega (arith, p.room)));
        wide = p.wide;
        room = p.room;
        long = simp length-set p.long;
        passed = omega arith;
      }

  pub put_ends : {b : List ℕ} {k : ℕ} → Putting w b₀ at r b k → w ≤ k → b ≡ put_at w b₀ at r
  put_ends {b} {k} p h =
      let all : k ≡ w = omega (arith, p.passed) in
      (rw all at p.pasted) ∙ rw (take_all w r (omega (arith, p.wide))) (append_assoc (take at b₀) r (drop (at + w) b₀))
