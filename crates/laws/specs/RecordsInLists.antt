-- Records of bytes in a list of bytes, over their width w. No clause of docs/RULES.md is about them: clauses are said with the first and the third.
--
--   record_at w l at         := the record of l at a place
--   put_at w l at r          := l with the record r at that place
--   joined W xs             := the writings of the values xs, one behind the other
--   each_record w f g s n l  := l with its first n records changed one by one, by f, with a state that g carries on; the rest as it is
--   advanced gone to w      := where the next kept record goes, past one at `to`
--   kept_records w gone n l  := of the first n records of l those that are not gone, one behind the other
use Rattle.std.specs.Prelude.{ℕ, zero, suc, ◌+◌, Bool, true, false, List, [], ◌∷◌, ◌++◌, take, drop}

abbrev pub record_at : ℕ → List ℕ → ℕ → List ℕ
record_at w l at = take w (drop at l)

abbrev pub put_at : ℕ → List ℕ → ℕ → List ℕ → List ℕ
put_at w l at r = take at l ++ (r ++ drop (at + w) l)

abbrev pub joined : {A : Type 0} → (A → List ℕ) → List A → List ℕ
joined W [] = []
joined W (x ∷ xs) = W x ++ joined W xs

unfoldable pub each_record : {S : Type 0} → ℕ → (S → List ℕ → List ℕ) → (S → List ℕ → S) → S → ℕ → List ℕ → List ℕ
each_record w f g s zero l = l
each_record w f g s (suc n) l = f s (take w l) ++ each_record w f g (g s (take w l)) n (drop w l)

abbrev pub keep_unless : Bool → List ℕ → List ℕ → List ℕ
keep_unless true r rest = rest
keep_unless false r rest = r ++ rest

unfoldable pub kept_records : ℕ → (List ℕ → Bool) → ℕ → List ℕ → List ℕ
kept_records w gone zero l = []
kept_records w gone (suc n) l = keep_unless (gone (take w l)) (take w l) (kept_records w gone n (drop w l))

-- where the next kept record goes
abbrev pub advanced : Bool → ℕ → ℕ → ℕ
advanced true to w = to
advanced false to w = to + w
