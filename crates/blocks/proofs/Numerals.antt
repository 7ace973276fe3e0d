-- RULES 24.9: the fewest digits that hold a number are its numeral.
use Prim.Native.Nat.{ℕ, zero, suc, ◌-◌, ◌/◌, ◌%◌, ◌^◌, ◌<◌, ◌≤◌}
use native.Mathlib.Nat.{pow-suc, one-le-pow, pow-le-pow_right, lt_of_not-le}
use native.Mathlib.Omega.{arith}
use mathlib.Core.Path.{◌≡◌}
use borrow.Author.Tests.{lt-ltb, le-ltb}
use Rattle.io.specs.Digits.{hex_digit_ascii, last_digits, IsDigitCount}
use Rattle.lines.specs.Lines.{digit}
use Rattle.blocks.specs.Block.{numeral_in, numeral}

-- io's hex letters are small: below ten there are none
glyph_digit : (d : ℕ) → d < 10 → hex_digit_ascii d ≡ digit d
unfolding digit
glyph_digit d h = rw (lt-ltb d 10 h)

-- k is enough
digits_numeral : (r k n : ℕ) → r < k → n < 10 ^ suc r → (0 < r → 10 ^ r ≤ n) → last_digits 10 (suc r) n ≡ numeral_in k n
unfolding numeral_in
digits_numeral r zero n more below least = absurd (omega arith)
digits_numeral zero (suc k) n more below least = rw (lt-ltb n 10 (omega arith), glyph_digit (n % 10) (omega arith))
digits_numeral (suc r) (suc k) n more below least =
    let few : 10 ^ suc r ≤ n = least (omega arith) in
    let some : 1 ≤ 10 ^ r = one-le-pow r 10 (omega arith) in
    rw (
      le-ltb n 10 (omega (arith, pow-suc 10 r)),
      glyph_digit (n % 10) (omega arith),
      digits_numeral r k (n / 10) (omega arith) (omega (arith, pow-suc 10 (suc r))) (λ _. omega (arith, pow-suc 10 r)),
    )

-- a number of 64 bits has twenty digits at most
pub fewest_short : (n r : ℕ) → n < 2 ^ 64 → IsDigitCount 10 1 n r → r < 21
fewest_short n r fits few =
    lt_of_not-le
    (λ long.
    let many : 10 ^ 20 ≤ 10 ^ (r - 1) = pow-le-pow_right {n = 10} (omega arith) {i = 20} {j = r - 1} (omega arith) in
    let least : 10 ^ (r - 1) ≤ n = few.2 (omega arith) in
    omega arith)

pub fewest_numeral : (n r : ℕ) → n < 2 ^ 64 → IsDigitCount 10 1 n r → last_digits 10 r n ≡ numeral n
fewest_numeral n zero fits few = absurd (omega (arith, few.0))
fewest_numeral n (suc r) fits few =
    let short : r < 20 = omega (arith, fewest_short n (suc r) fits few) in
    let sub : suc r - 1 ≡ r = omega arith in
    digits_numeral r 20 n short few.1 (λ h. rw sub at (few.2 (omega arith)))
