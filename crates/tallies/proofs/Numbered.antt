-- Lists with a number for each status, and numbers that a counter caps.
use Prim.Native.Nat.{ℕ, zero, suc, ◌+◌, ◌^◌, ◌<◌, max}
use native.Mathlib.Omega.{arith}
use mathlib.Core.Path.{◌≡◌, refl, ◌∙◌, ap}
use mathlib.Core.List.{List, [], ◌∷◌, map}
use lib.ListN.{length, get_or, replicate, get_or-map}
use Rattle.tallies.specs.Tally.{each_from, sums, sum, capped}

pub length_each : (n s : ℕ) (f : ℕ → ℕ) → length (each_from n s f) ≡ n
unfolding each_from
length_each zero s f = refl
length_each (suc n) s f = ap suc (length_each n (suc s) f)

pub get_d_each : (n s : ℕ) (f : ℕ → ℕ) (i : ℕ) → i < n → get_or (each_from n s f) i 0 ≡ f (s + i)
unfolding each_from
get_d_each zero s f i h = absurd (omega arith)
get_d_each (suc n) s f zero h = ap f (omega arith)
get_d_each (suc n) s f (suc i) h = get_d_each n (suc s) f i (omega arith) ∙ ap f (omega arith)

pub sum_each_none : (n s : ℕ) → sum (each_from n s (λ k. 0)) ≡ 0
unfolding each_from
sum_each_none zero s = refl
sum_each_none (suc n) s = omega (arith, sum_each_none n (suc s))

pub sum_each_both : (n s : ℕ) (f g : ℕ → ℕ) → sum (each_from n s (λ k. f k + g k)) ≡ sum (each_from n s f) + sum (each_from n s g)
unfolding each_from
sum_each_both zero s f g = refl
sum_each_both (suc n) s f g = omega (arith, sum_each_both n (suc s) f g)

pub length_sums : (a b : List ℕ) → length a ≡ length b → length (sums a b) ≡ length a
unfolding sums
length_sums [] b e = refl
length_sums (x ∷ a) [] e = absurd (omega arith)
length_sums (x ∷ a) (y ∷ b) e = ap suc (length_sums a b (omega arith))

pub get_d_sums : (a b : List ℕ) (i : ℕ) → length a ≡ length b → get_or (sums a b) i 0 ≡ get_or a i 0 + get_or b i 0
unfolding sums
get_d_sums [] [] i e = refl
get_d_sums [] (y ∷ b) i e = absurd (omega arith)
get_d_sums (x ∷ a) [] i e = absurd (omega arith)
get_d_sums (x ∷ a) (y ∷ b) zero e = refl
get_d_sums (x ∷ a) (y ∷ b) (suc i) e = get_d_sums a b i (omega arith)

pub sum_sums : (a b : List ℕ) → length a ≡ length b → sum (sums a b) ≡ sum a + sum b
unfolding sums
sum_sums [] [] e = refl
sum_sums [] (y ∷ b) e = absurd (omega arith)
sum_sums (x ∷ a) [] e = absurd (omega arith)
sum_sums (x ∷ a) (y ∷ b) e = omega (arith, sum_sums a b (omega arith))

pub zero_at : (n i : ℕ) → get_or {A = ℕ} (replicate n 0) i 0 ≡ 0
zero_at zero i = refl
zero_at (suc n) zero = refl
zero_at (suc n) (suc i) = zero_at n i

-- Caps -------------------------------------------------------------------------------------------------------------------------------------

pub capped_again : (m n : ℕ) → capped (capped m + n) ≡ capped (m + n)
capped_again m n = omega arith

pub capped_both : (m n : ℕ) → capped (capped m + capped n) ≡ capped (m + n)
capped_both m n = omega arith

pub capped_larger : (m n : ℕ) → max (capped m) (capped n) ≡ capped (max m n)
capped_larger m n = omega arith

pub capped_small : (n : ℕ) → n < 2 ^ 64 → capped n ≡ n
capped_small n h = omega arith

pub get_d_capped : (l : List ℕ) (i : ℕ) → get_or (map capped l) i 0 ≡ capped (get_or l i 0)
get_d_capped l i = get_or-map capped l i 0
