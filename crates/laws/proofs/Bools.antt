-- Laws of tests.
use Rattle.std.specs.Prelude.{Some, None, Option}
use Prim.Native.Nat.{ℕ, suc, ◌+◌}
use mathlib.Core.Bool.{Bool, true, false, cond, ◌||◌, ◌&&◌, not, false≢true}
use mathlib.Core.Path.{◌≡◌, refl, sym, ◌∙◌}
use native.Mathlib.Omega.{arith}
use lib.Dec.{eqb, ltb}
use borrow.Author.Tests.{eqb-true, eqb-false, eq-eqb, ne_eqb, ltb-true, ltb-false}
use Rattle.laws.specs.Lists.{one_if}

pub and-true : (a b : Bool) → a && b ≡ true → (a ≡ true) × (b ≡ true)
and-true true b e = (refl, e)
and-true false b e = (e, cc)

pub and-false : (a b : Bool) → a && b ≡ false → a ≡ true → b ≡ false
and-false true b e h = e
and-false false b e h = cc

pub or-false : (a b : Bool) → a || b ≡ false → (a ≡ false) × (b ≡ false)
or-false true b e = (e, cc)
or-false false b e = (refl, e)

pub or-true : (a b : Bool) → a || b ≡ true → a ≡ false → b ≡ true
or-true true b e h = cc
or-true false b e h = e

pub not_both : {A : Type 0} {b : Bool} → b ≡ true → b ≡ false → A
not_both p q = absurd (false≢true (sym q ∙ p))

-- by cases on a test, with what it says
pub cases {ℓ} : {A : Type 0} (P : A → Type ℓ) (b : Bool) {x y : A} → (b ≡ true → P x) → (b ≡ false → P y) → P (cond b x y)
cases P true f g = f refl
cases P false f g = g refl

pub split {ℓ} : {P : Type ℓ} (b : Bool) → (b ≡ true → P) → (b ≡ false → P) → P
split true f g = f refl
split false f g = g refl

pub same_truth : (a b : Bool) → (a ≡ true → b ≡ true) → (b ≡ true → a ≡ true) → a ≡ b
same_truth true b f g = sym (f refl)
same_truth false true f g = g refl
same_truth false false f g = refl

pub one_both : (b : Bool) → one_if b + one_if (not b) ≡ 1
one_both true = refl
one_both false = refl

-- Options --------------------------------------------------------------------------------------------------------------------------------

pub none_some : {A : Type 0} {P : Type 0} (q : A) → ◌≡◌ {A = Option A} None (Some q) → P
none_some q e = absurd (let z : ◌≡◌ {A = ℕ} 0 1 = cc in omega arith)

pub some_is : {A : Type 0} (P : A → Type 0) (r q : A) → Some r ≡ Some q → P r → P q
some_is P r q e p = let z : r ≡ q = cc in rw z at p

-- Numbers --------------------------------------------------------------------------------------------------------------------------------

pub eqb_sym : (a b : ℕ) → eqb a b ≡ eqb b a
eqb_sym a b =
    split (eqb a b) (λ e. e ∙ sym (eq-eqb b a (sym (eqb-true a b e))))
    (λ e. e ∙ sym (ne_eqb b a (λ q. eqb-false a b e (sym q))))

below_suc : (b c d : Bool) (k n : ℕ) → eqb k n ≡ b → ltb k n ≡ c → ltb k (suc n) ≡ d → one_if b + one_if c ≡ one_if d
below_suc true true d k n p q r = absurd (omega (arith, eqb-true, ltb-true))
below_suc true false true k n p q r = refl
below_suc true false false k n p q r = absurd (omega (arith, eqb-true, ltb-false))
below_suc false true true k n p q r = refl
below_suc false true false k n p q r = absurd (omega (arith, ltb-true, ltb-false))
below_suc false false true k n p q r = absurd (omega (arith, eqb-false k n p, ltb-true k (suc n) r, ltb-false k n q))
below_suc false false false k n p q r = refl

pub one_below_suc : (k n : ℕ) → one_if (eqb k n) + one_if (ltb k n) ≡ one_if (ltb k (suc n))
one_below_suc k n = below_suc (eqb k n) (ltb k n) (ltb k (suc n)) k n refl refl refl
