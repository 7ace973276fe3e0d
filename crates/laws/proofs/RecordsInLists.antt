-- Laws of records in a list of bytes, over their width.
use Prim.Native.Nat.{ℕ, zero, suc, ◌+◌, ◌*◌, ◌≤◌, ◌<◌}
use mathlib.Core.Bool.{Bool, true, false}
use mathlib.Core.Path.{◌≡◌, refl, ap, sym, ◌∙◌}
use mathlib.Core.List.{List, [], ◌∷◌, ◌++◌, append_assoc}
use native.Mathlib.Omega.{arith}
use lib.ListN.{length, get_or, take, drop, set, length-append, length-take, length-drop, take-append-drop}
use lib.Seq.{drop-drop, drop-append-add, drop_at, take_at, set-append_left, drop-set-add, take-set-le, get_or-drop, get_or-take}
use Rattle.laws.specs.RecordsInLists.{record_at, put_at, joined, each_record, keep_unless, kept_records, advanced}

-- a record is as long as its width
pub record_long : (w : ℕ) (l : List ℕ) (at : ℕ) → at + w ≤ length l → length (record_at w l at) ≡ w
record_long w l at h = simp (length-take, length-drop) (omega arith)

-- a list from a place on: the record there, and what follows
pub record_rest : (w : ℕ) (l : List ℕ) (at : ℕ) → drop at l ≡ record_at w l at ++ drop (at + w) l
record_rest w l at = sym (take-append-drop w (drop at l)) ∙ ap (λ (z : List ℕ). take w (drop at l) ++ z) (drop-drop w at l)

-- a byte of a record
pub record_byte : (w : ℕ) (l : List ℕ) (at i d : ℕ) → i < w → get_or (record_at w l at) i d ≡ get_or l (at + i) d
record_byte w l at i d h = rw (get_or-take, get_or-drop)

-- a walk that reads every record, at one of its places
module _ {A : Type 0} (w : ℕ) (g : List ℕ → A) (walk : ℕ → List ℕ → List A)
    (one : (n : ℕ) (l : List ℕ) → walk (suc n) l ≡ g (take w l) ∷ walk n (drop w l)) where
  pub walked_at : (n i : ℕ) (b : List ℕ) (at : ℕ) (d : A) → i < n → get_or (walk n (drop at b)) i d ≡ g (record_at w b (at + w * i))
  walked_at zero i b at d h = absurd (omega arith)
  walked_at (suc n) zero b at d h = rw (one n (drop at b), (let z : at + w * 0 ≡ at = omega arith in z))
  walked_at (suc n) (suc i) b at d h =
      rw (one n (drop at b), drop-drop w at b, (let z : at + w * suc i ≡ at + w + w * i = omega arith in z))
      (walked_at n i b (at + w) d (omega arith))

-- A record put ---------------------------------------------------------------------------------------------------------------------------

module _ (w : ℕ) (b r : List ℕ) (at : ℕ) (fits : at + w ≤ length b) (wide : length r ≡ w) where
  head_long : length (take at b ++ r) ≡ at + w
  head_long = simp (length-append, length-take, wide) (omega arith)

  put_assoc : put_at w b at r ≡ (take at b ++ r) ++ drop (at + w) b
  put_assoc = sym (append_assoc (take at b) r (drop (at + w) b))

  pub put_long : length (put_at w b at r) ≡ length b
  put_long = simp (length-append, length-take, length-drop, wide) (omega arith)

  -- what stands up to its end, before it, and behind it
  pub put_taken : take (at + w) (put_at w b at r) ≡ take at b ++ r
  put_taken = rw put_assoc (take_at (take at b ++ r) (drop (at + w) b) (at + w) head_long)

  pub put_before : take at (put_at w b at r) ≡ take at b
  put_before = take_at (take at b) (r ++ drop (at + w) b) at (simp length-take (omega arith))

  pub put_behind : (m : ℕ) → drop (at + w + m) (put_at w b at r) ≡ drop (at + w + m) b
  put_behind m =
      rw put_assoc
      (ap (λ (z : ℕ). drop (z + m) ((take at b ++ r) ++ drop (at + w) b)) (sym head_long)
      ∙ drop-append-add (take at b ++ r) (drop (at + w) b) m
      ∙ drop-drop m (at + w) b)

  pub put_after : drop (at + w) (put_at w b at r) ≡ drop (at + w) b
  put_after = let z : at + w + 0 ≡ at + w = omega arith in rw z at (put_behind 0)

-- Records changed one by one ---------------------------------------------------------------------------------------------------------------

module _ {S : Type 0} (w : ℕ) (f : S → List ℕ → List ℕ) (g : S → List ℕ → S) where
  -- one turn of a loop: the record at a place is put, and the rest is still to come
  pub each_step :
      (s : S) (k : ℕ) (b : List ℕ) (at : ℕ) → at + w ≤ length b → length (f s (record_at w b at)) ≡ w
      → take (at + w) (put_at w b at (f s (record_at w b at)))
      ++ each_record w f g (g s (record_at w b at)) k (drop (at + w) (put_at w b at (f s (record_at w b at))))
      ≡ take at b ++ each_record w f g s (suc k) (drop at b)
  unfolding each_record
  each_step s k b at h e =
      rw (put_taken w b (f s (record_at w b at)) at h e, put_after w b (f s (record_at w b at)) at h e, append_assoc, drop-drop)

  -- no record is left
  pub each_end : (s : S) (b : List ℕ) (at : ℕ) → take at b ++ each_record w f g s 0 (drop at b) ≡ b
  unfolding each_record
  each_end s b at = take-append-drop at b

  -- over the writings of values it is the walk over the values
  pub each_written :
      {A : Type 0} (W : A → List ℕ) (F : S → A → A) (G : S → A → S) (walk : S → List A → List A) → ((x : A) → length (W x) ≡ w)
      → ((s : S) (x : A) → f s (W x) ≡ W (F s x)) → ((s : S) (x : A) → g s (W x) ≡ G s x) → ((s : S) → walk s [] ≡ [])
      → ((s : S) (x : A) (xs : List A) → walk s (x ∷ xs) ≡ F s x ∷ walk (G s x) xs)
      → (s : S) (xs : List A) (rest : List ℕ)
      → each_record w f g s (length xs) (joined W xs ++ rest) ≡ joined W (walk s xs) ++ rest
  unfolding each_record
  each_written W F G walk wide p q none one s [] rest = rw (none s)
  each_written W F G walk wide p q none one s (x ∷ xs) rest =
      let t : take w ((W x ++ joined W xs) ++ rest) ≡ W x = rw append_assoc (take_at (W x) (joined W xs ++ rest) w (wide x)) in
      let d : drop w ((W x ++ joined W xs) ++ rest) ≡ joined W xs ++ rest = rw append_assoc (drop_at (W x) (joined W xs ++ rest) w (wide x)) in
      rw (t, d, p s x, q s x, one s x xs, append_assoc)
      (ap (λ (z : List ℕ). W (F s x) ++ z) (each_written W F G walk wide p q none one (G s x) xs rest))

-- Records kept ---------------------------------------------------------------------------------------------------------------------------

-- one turn: the record at `from` is put at `to`, and counts if it is not gone
put_one :
    (g : Bool) (w : ℕ) (b r rest : List ℕ) (to : ℕ) → to + w ≤ length b → length r ≡ w
    → take (advanced g to w) (put_at w b to r) ++ rest ≡ take to b ++ keep_unless g r rest
put_one true w b r rest to fits wide = rw (put_before w b r to fits wide)
put_one false w b r rest to fits wide = rw (put_taken w b r to fits wide, append_assoc)

pub kept_step :
    (w : ℕ) (gone : List ℕ → Bool) (k m : ℕ) (b : List ℕ) (to : ℕ) → to + m + w ≤ length b
    → take (advanced (gone (record_at w b (to + m))) to w) (put_at w b to (record_at w b (to + m)))
    ++ kept_records w gone k (drop (to + m + w) (put_at w b to (record_at w b (to + m))))
    ≡ take to b ++ kept_records w gone (suc k) (drop (to + m) b)
unfolding kept_records
kept_step w gone k m b to fits =
    let r = record_at w b (to + m) in
    let wide : length r ≡ w = record_long w b (to + m) fits in
    let room : to + w ≤ length b = omega arith in
    let q : to + m + w ≡ to + w + m = omega arith in
    let same : drop (to + m + w) (put_at w b to r) ≡ drop (to + m + w) b = rw q (put_behind w b r to room wide m) in
    rw (same, put_one (gone r) w b r (kept_records w gone k (drop (to + m + w) b)) to room wide, drop-drop)

pub kept_end : (w : ℕ) (gone : List ℕ → Bool) (l : List ℕ) → kept_records w gone 0 l ≡ []
unfolding kept_records
kept_end w gone l = refl

-- a byte stored in a record is the record put
pub store_byte :
    (w : ℕ) (b : List ℕ) (at i v : ℕ) → i < w → at + w ≤ length b → set b (at + i) v ≡ put_at w b at (set (record_at w b at) i v)
store_byte w b at i v h fits =
    sym (take-append-drop at (set b (at + i) v))
    ∙ rw (take-set-le at b (at + i) v (omega arith), drop-set-add at b i v)
    (ap (λ (z : List ℕ). take at b ++ z)
    (ap (λ (z : List ℕ). set z i v) (record_rest w b at)
    ∙ set-append_left (record_at w b at) (drop (at + w) b) i v (omega (arith, record_long w b at fits))))
