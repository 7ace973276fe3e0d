-- Loops that put every record anew, in place.
use Prim.Native.Nat.{ℕ, zero, suc, ◌+◌, ◌-◌, ◌*◌, ◌≤◌, ◌<◌}
use mathlib.Core.Path.{◌≡◌, refl, ap, sym, ◌∙◌}
use mathlib.Core.List.{List, [], ◌++◌, append_assoc}
use native.Mathlib.Nat.{mul-suc, mul-zero, mul-le-mul_left}
use native.Mathlib.Numerals.{add-one}
use native.Mathlib.Omega.{arith}
use lib.Seq.{drop-drop}
use lib.ListN.{length, get_or, take, drop, set, length-set}
use Rattle.laws.specs.RecordsInLists.{record_at, put_at, each_record}
use Rattle.laws.proofs.RecordsInLists.{record_long, record_byte, put_long, each_step, each_end, store_byte}
use Rattle.steps.specs.Steps.{next_place}

-- a byte of the record at a place, read by its own place
pub byte_of : (w : ℕ) (b : List ℕ) (at k p : ℕ) → p ≡ at + k → k < w → get_or b p 0 ≡ get_or (record_at w b at) k 0
byte_of w b at k p e h = rw e (sym (record_byte w b at k 0 h))

-- of n records from `at` on i are put anew, and the rest is still to come; at the end the bytes are `done`
pub record Walking {S : Type 0} (w : ℕ) (f : S → List ℕ → List ℕ) (g : S → List ℕ → S) (at n : ℕ) (b₀ done b : List ℕ) (s : S) (i : ℕ) : Type 0 where
  pub room : at + w * n ≤ length b
  pub long : length b ≡ length b₀
  pub passed : i ≤ n
  pub rest : take (at + w * i) b ++ each_record w f g s (n - i) (drop (at + w * i) b) ≡ done

module _ {S : Type 0} {w : ℕ} {f : S → List ℕ → List ℕ} {g : S → List ℕ → S} {at n : ℕ} where
  pub walk_begins :
      (s : S) (b : List ℕ) → at + w * n ≤ length b → Walking w f g at n b (take at b ++ each_record w f g s n (drop at b)) b s 0
  walk_begins s b h =
      let all : n - 0 ≡ n = omega arith in
      let first : at + w * 0 ≡ at = rw mul-zero (omega arith) in
      record { room = h; long = refl; passed = omega arith; rest = rw (all, first) }

  pub walk_on :
      {b₀ done b : List ℕ} {s : S} {i : ℕ} → Walking w f g at n b₀ done b s i → i < n
      → length (f s (record_at w b (at + w * i))) ≡ w → {b' : List ℕ} {s' : S}
      → b' ≡ put_at w b (at + w * i) (f s (record_at w b (at + w * i))) → s' ≡ g s (record_at w b (at + w * i))
      → Walking w f g at n b₀ done b' s' (i + 1)
  walk_on {b₀} {done} {b} {s} {i} inv h wide {b'} {s'} p q =
      let fewer : n - i ≡ suc (n - (i + 1)) = omega arith in
      let next : at + w * (i + 1) ≡ at + w * i + w = rw (add-one, mul-suc) (omega arith) in
      let within : w * (i + 1) ≤ w * n = mul-le-mul_left w (omega arith) in
      let fits : at + w * i + w ≤ length b = omega arith in
      let same : length b' ≡ length b = rw p (put_long w b (f s (record_at w b (at + w * i))) (at + w * i) fits wide) in
      record {
        room = rw same inv.room;
        long = same ∙ inv.long;
        passed = omega arith;
        rest = rw (next, p, q) (each_step w f g s (n - (i + 1)) b (at + w * i) fits wide ∙ (rw fewer at inv.rest));
      }

  -- one byte of the record, the k-th, is stored at its own place p
  pub walk_store :
      {b₀ done b : List ℕ} {s : S} {i : ℕ} → Walking w f g at n b₀ done b s i → i < n → (k v p : ℕ) → k < w → p ≡ at + w * i + k
      → f s (record_at w b (at + w * i)) ≡ set (record_at w b (at + w * i)) k v → {b' : List ℕ} {s' : S} → b' ≡ set b p v
      → s' ≡ g s (record_at w b (at + w * i)) → Walking w f g at n b₀ done b' s' (i + 1)
  walk_store {b₀} {done} {b} {s} {i} inv h k v p small here set_by {b'} e q =
      let next : at + w * (i + 1) ≡ at + w * i + w = rw (add-one, mul-suc) (omega arith) in
      let within : w * (i + 1) ≤ w * n = mul-le-mul_left w (omega arith) in
      let fits : at + w * i + w ≤ length b = omega (arith, inv.room) in
      walk_on inv h (rw set_by (length-set (record_at w b (at + w * i)) k v ∙ record_long w b (at + w * i) fits))
      (e ∙ rw (here, set_by) (store_byte w b (at + w * i) k v small fits))
      q

  pub walk_ends : {b₀ done b : List ℕ} {s : S} {i : ℕ} → Walking w f g at n b₀ done b s i → n ≤ i → b ≡ done
  walk_ends {b₀} {done} {b} {s} {i} inv h =
      let none_left : n - i ≡ 0 = omega arith in
      sym (each_end w f g s b (at + w * i)) ∙ (rw none_left at inv.rest)

-- records that are written anew, whatever stood there: all of them, and what is behind them
pub each_new :
    (w : ℕ) (new : ℕ → List ℕ) (all : ℕ → ℕ → List ℕ) → ((i : ℕ) → all 0 i ≡ []) → ((m i : ℕ) → all (suc m) i ≡ new i ++ all m (i + 1))
    → (m i : ℕ) (l : List ℕ) → each_record w (λ j r. new j) next_place i m l ≡ all m i ++ drop (w * m) l
unfolding each_record
each_new w new all none one zero i l = rw (none i, mul-zero w)
each_new w new all none one (suc m) i l =
    let e : w * suc m ≡ w + w * m = rw mul-suc (omega arith) in
    let rest : drop (w + w * m) l ≡ drop (w * m) (drop w l) = sym (drop-drop (w * m) w l) in
    rw (one m i, e, rest, append_assoc) (ap (λ (z : List ℕ). new i ++ z) (each_new w new all none one m (i + 1) (drop w l)))
