-- A tag in bytes, and back, over how many there are.
use Prim.Native.Nat.{ℕ, zero, suc, ◌+◌, ◌*◌, ◌^◌, ◌<◌, ◌/◌, ◌%◌}
use mathlib.Core.Path.{◌≡◌, refl, ap, sym, ◌∙◌}
use mathlib.Core.List.{List, [], ◌∷◌, ◌++◌}
use native.Mathlib.Omega.{arith}
use lib.ListN.{get_or, replicate}
use Rattle.octets.specs.Bytes.{big_endian, bytes_of, tag_in, tag_bytes}
use Rattle.octets.specs.Sizes.{tag_offset, tag_size, tag_bound}
use Rattle.octets.proofs.Widths.{tabled}

-- Of n bytes -------------------------------------------------------------------------------------------------------------------------------

tabled_last : (n : ℕ) (f : ℕ → ℕ) (rest : List ℕ) → tabled n f ++ (f n ∷ rest) ≡ tabled (suc n) f ++ rest
tabled_last zero f rest = refl
tabled_last (suc n) f rest = ap (λ (z : List ℕ). f 0 ∷ z) (tabled_last n (λ i. f (suc i)) rest)

bytes_of_number : (n : ℕ) (f : ℕ → ℕ) → ((i : ℕ) → f i < 256) → (rest : List ℕ) → bytes_of n (big_endian n f) rest ≡ tabled n f ++ rest
bytes_of_number zero f b rest = refl
bytes_of_number (suc zero) f b rest = refl
bytes_of_number (suc (suc n)) f b rest =
    let high : (big_endian (suc n) f * 256 + f (suc n)) / 256 ≡ big_endian (suc n) f = omega (arith, b (suc n)) in
    let low : (big_endian (suc n) f * 256 + f (suc n)) % 256 ≡ f (suc n) = omega (arith, b (suc n)) in
    ap (λ (z : ℕ). bytes_of (suc n) z ((big_endian (suc n) f * 256 + f (suc n)) % 256 ∷ rest)) high
    ∙ ap (λ (z : ℕ). bytes_of (suc n) (big_endian (suc n) f) (z ∷ rest)) low
    ∙ bytes_of_number (suc n) f b (f (suc n) ∷ rest)
    ∙ tabled_last (suc n) f rest

number_none : (n : ℕ) (f : ℕ → ℕ) → big_endian n f ≡ 0 → (rest : List ℕ) → replicate n 0 ++ rest ≡ tabled n f ++ rest
number_none zero f e rest = refl
number_none (suc zero) f e rest = ap (λ (z : ℕ). z ∷ rest) (sym e)
number_none (suc (suc n)) f e rest =
    let last : 0 ≡ f (suc n) = omega arith in
    sym (zeros_last (suc n) rest)
    ∙ number_none (suc n) f (omega arith) (0 ∷ rest)
    ∙ ap (λ (z : ℕ). tabled (suc n) f ++ (z ∷ rest)) last
    ∙ tabled_last (suc n) f rest
  where
    zeros_last : (n : ℕ) (rest : List ℕ) → replicate n 0 ++ (0 ∷ rest) ≡ 0 ∷ replicate n 0 ++ rest
    zeros_last zero rest = refl
    zeros_last (suc n) rest = ap (λ (z : List ℕ). 0 ∷ z) (zeros_last n rest)

number_low : (n : ℕ) (f : ℕ → ℕ) → ((i : ℕ) → f i < 256) → big_endian n f < 256 ^ n
number_low zero f b = omega arith
number_low (suc zero) f b = omega (arith, b 0)
number_low (suc (suc n)) f b = omega (arith, number_low (suc n) f b, b (suc n))

-- Of a tag ---------------------------------------------------------------------------------------------------------------------------------

-- the tag of a record is written as the bytes that end it
pub tag_good : (f : ℕ → ℕ) → ((i : ℕ) → f i < 256) → tag_bytes (tag_in (tabled (tag_offset + tag_size) f)) ≡ tabled tag_size (λ i. f (tag_offset + i))
tag_good f b = bytes_of_number tag_size (λ i. f (tag_offset + i)) (λ i. b (tag_offset + i)) []

-- a tag that is 0 is zeros
pub tag_none : (f : ℕ → ℕ) → tag_in (tabled (tag_offset + tag_size) f) ≡ 0 → tag_bytes 0 ≡ tabled tag_size (λ i. f (tag_offset + i))
tag_none f e = number_none tag_size (λ i. f (tag_offset + i)) e []

-- whatever stands before it, zeros here: no other byte is looked at
pub tag_back : (g : ℕ) → tag_in (replicate tag_offset 0 ++ tag_bytes g) ≡ g
tag_back g = omega arith

pub tag_low : (l : List ℕ) → ((i : ℕ) → get_or l i 0 < 256) → tag_in l < tag_bound
tag_low l b = number_low tag_size (λ i. get_or l (tag_offset + i) 0) (λ i. b (tag_offset + i))
