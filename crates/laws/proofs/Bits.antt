-- Bits that are all 0.
use Prim.Native.Nat.{ℕ}
use mathlib.Core.Bool.{◌&&◌}
use mathlib.Core.Path.{◌≡◌, refl}
use native.Mathlib.Omega.{arith}
use lib.Bits.{bit_or, bit_xor, or_add_and, xor_add_and, xor_self, and_le_l, and_le_r}
use lib.Dec.{eqb}
use borrow.Author.Tests.{eqb-true, eq-eqb}
use Rattle.laws.proofs.Bools.{and-true, same_truth}

-- two numbers have none, taken together, where neither has one
pub no_bit_of_two : (a b : ℕ) → eqb (bit_or a b) 0 ≡ eqb a 0 && eqb b 0
no_bit_of_two a b =
    same_truth _ _
    (λ e.
    let none = eqb-true (bit_or a b) 0 e in
    rw (
      eq-eqb a 0 (omega (arith, or_add_and a b, and_le_r a b)),
      eq-eqb b 0 (omega (arith, or_add_and a b, and_le_l a b)),
    )
    refl)
    (λ e. let o = and-true (eqb a 0) (eqb b 0) e in rw (eqb-true a 0 o.0, eqb-true b 0 o.1) refl)

-- two numbers differ in none where they are the same
pub no_bit_between : (a b : ℕ) → eqb (bit_xor a b) 0 ≡ eqb a b
no_bit_between a b =
    same_truth _ _
    (λ e.
    let none = eqb-true (bit_xor a b) 0 e in
    eq-eqb a b (omega (arith, xor_add_and a b, and_le_l a b, and_le_r a b)))
    (λ e. rw (eqb-true a b e, xor_self b) refl)
