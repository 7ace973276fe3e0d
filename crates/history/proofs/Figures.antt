-- The three figures for a wait, each at most the next; and how many newcomers can go at first.
use Prim.Native.Nat.{ℕ, ◌+◌, ◌-◌, ◌*◌, ◌/◌, ◌≤◌, ◌<◌, min}
use mathlib.Core.Bool.{Bool, true, false}
use mathlib.Core.Path.{◌≡◌, refl}
use native.Mathlib.Omega.{arith}
use lib.Dec.{ltb}
use borrow.Author.Tests.{ltb-true, ltb-false, lt-ltb, le-ltb}
use Rattle.laws.proofs.Bools.{split}
use Rattle.rules.specs.Tasks.{places}
use Rattle.history.specs.Waits.{requested, first_overtakers, longest}

pub four_with_room : (b : ℕ) → b + 1 < places → first_overtakers b ≡ 4
four_with_room b l = rw (lt-ltb (b + 1) places l)

pub none_in_full : (b : ℕ) → places ≤ b + 1 → first_overtakers b ≡ 0
none_in_full b l = rw (le-ltb (b + 1) places l)

-- there is room, or there is none
pub by_room : {P : Type 0} (b : ℕ) → (b + 1 < places → first_overtakers b ≡ 4 → P) → (places ≤ b + 1 → first_overtakers b ≡ 0 → P) → P
by_room b f g =
    split (ltb (b + 1) places) (λ e. let l = ltb-true (b + 1) places e in f l (four_with_room b l))
    (λ e. let l = ltb-false (b + 1) places e in g l (none_in_full b l))

pub four_first : (b : ℕ) → first_overtakers b ≤ 4
four_first b = by_room b (λ l e. omega arith) (λ l e. omega arith)

-- with fewer others more can overtake at first, and fewer later
pub first_falls : (b b' : ℕ) → b' ≤ b → first_overtakers b' + 4 * b' ≤ first_overtakers b + 4 * b
first_falls b b' q = by_room b (λ l e. omega (arith, four_first b')) (λ l e. by_room b' (λ k d. omega arith) (λ k d. omega arith))

-- the customer's figure follows from it, and the mission's from that one
pub longest_requested : (head : Bool) (a b : ℕ) → longest head a b ≤ requested head a b
longest_requested false a b = omega (arith, four_first b)
longest_requested true a b = omega arith

-- it is above that by the others that do not go before a HEAD OF QUEUE task, and for any other by those of the first four who are no newcomers
pub requested_exceeds :
    (a b : ℕ)
    → (requested true a b ≡ longest true a b + (b - (1 + a / 4)))
    × (b + 1 < places → requested false a b ≡ longest false a b + min a 4)
    × (places ≤ b + 1 → requested false a b ≡ longest false a b + 4)
requested_exceeds a b = (omega arith, λ l. omega (arith, four_with_room b l), λ l. omega (arith, none_in_full b l))

pub requested_mission : (head : Bool) (a b : ℕ) → requested head a b ≤ 5 * (a + b + 1)
requested_mission false a b = omega arith
requested_mission true a b = omega arith

-- for contracts: more older tasks make no figure smaller, and in a table there is room for no larger ones than these
pub longest_grows : (head : Bool) (a b a' b' : ℕ) → a ≤ a' → b ≤ b' → longest head a b ≤ longest head a' b'
longest_grows false a b a' b' p q = omega (arith, first_falls b' b q)
longest_grows true a b a' b' p q = omega arith

pub longest_most : (a b : ℕ) → a + b < places → (longest false a b ≤ 316) × (longest true a b ≤ 64)
longest_most a b l = (by_room b (λ r e. omega arith) (λ r e. omega arith), omega arith)

-- computed, as contracts quote them
pub figures_computed :
    (requested false 8 2 ≡ 23) × (requested true 8 2 ≡ 11) × (requested true 0 8 ≡ 9) × (longest false 8 2 ≡ 19) × (longest false 2 8 ≡ 45)
    × (longest false 0 62 ≡ 315)
    × (longest false 0 63 ≡ 316)
    × (longest true 8 2 ≡ 11)
    × (longest true 16 16 ≡ 22)
    × (longest true 63 0 ≡ 64)
figures_computed = (refl, refl, refl, refl, refl, refl, refl, refl, refl, refl)
