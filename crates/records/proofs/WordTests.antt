-- Tests of a record as one number.
use Prim.Native.Nat.{ℕ, ◌+◌, ◌*◌, ◌%◌, ◌<◌}
use mathlib.Core.Bool.{true, ◌&&◌}
use mathlib.Core.Path.{◌≡◌, refl, ap}
use mathlib.Core.List.{List}
use native.Mathlib.Omega.{arith}
use lib.Dec.{eqb, ltb}
use lib.ListN.{length, get_or, take}
use lib.Seq.{take_all}
use borrow.Author.Tests.{eqb-true, eq-eqb, ltb-true, lt-ltb}
use Rattle.laws.proofs.Bools.{and-true, same_truth}
use Rattle.records.specs.Numbers.{tag_in, pending_number}
use Rattle.records.specs.Records.{nexus_size, task_size, nexus_bytes, pending_in, nexus_fits, unused_bytes, unused_fits}
use Rattle.octets.specs.Words.{IsWord}
use Rattle.records.proofs.Values.{pending_fits_lem}
use Rattle.records.proofs.Good.{nexus_good, unused_good}

module _ (r : List ℕ) (w : ℕ) (i : IsWord r w) where
  whole : (n : ℕ) → length r ≡ n → take n r ≡ r
  whole n e = take_all n r (omega (arith, e))

  unused_alone : eqb w 0x5454 ≡ true → unused_fits r ≡ true
  unused_alone e =
      let same = eqb-true w 0x5454 e in
      rw (
        eq-eqb (get_or r 0 0) 0x54 (omega arith),
        eq-eqb (get_or r 1 0) 0x54 (omega arith),
        eq-eqb (get_or r 2 0) 0 (omega arith),
        eq-eqb (get_or r 3 0) 0 (omega arith),
        eq-eqb (get_or r 4 0) 0 (omega arith),
        eq-eqb (get_or r 5 0) 0 (omega arith),
        eq-eqb (tag_in r) 0 (omega arith),
      )
      refl

  pub unused_word : eqb w 0x5454 ≡ unused_fits r
  unused_word =
      same_truth _ (unused_fits r) unused_alone
      (λ e.
      let written : unused_bytes ≡ r = (rw (whole task_size i.eight) at (unused_good r (omega (arith, i.eight)))) e in
      eq-eqb w 0x5454 (rw (← written) at i).value)

  module _ (n : ℕ) (small : n < 256) where
    nexus_alone : ltb w 0x20000000 && eqb (w % 0x1000000) (0x4E54 + 0x10000 * n) ≡ true → nexus_fits n r ≡ true
    nexus_alone e =
        let o = and-true (ltb w 0x20000000) (eqb (w % 0x1000000) (0x4E54 + 0x10000 * n)) e in
        let below = ltb-true w 0x20000000 o.0 in
        let rest = eqb-true (w % 0x1000000) (0x4E54 + 0x10000 * n) o.1 in
        rw (
          lt-ltb (get_or r 3 0) 32 (omega arith),
          eq-eqb (get_or r 0 0) 0x54 (omega arith),
          eq-eqb (get_or r 1 0) 0x4E (omega arith),
          eq-eqb (get_or r 2 0) n (omega arith),
          eq-eqb (get_or r 4 0) 0 (omega arith),
          eq-eqb (get_or r 5 0) 0 (omega arith),
          eq-eqb (get_or r 6 0) 0 (omega arith),
          eq-eqb (get_or r 7 0) 0 (omega arith),
        )
        refl

    pub nexus_word : ltb w 0x20000000 && eqb (w % 0x1000000) (0x4E54 + 0x10000 * n) ≡ nexus_fits n r
    nexus_word =
        same_truth _ (nexus_fits n r) nexus_alone
        (λ e.
        let written : nexus_bytes n (pending_in r) 0 ≡ r = (rw (whole nexus_size i.eight) at (nexus_good r (omega (arith, i.eight)) n)) e in
        let byte : (k : ℕ) → get_or (nexus_bytes n (pending_in r) 0) k 0 ≡ get_or r k 0 = λ k. ap (λ (z : List ℕ). get_or z k 0) written in
        let five = ltb-true (pending_number (pending_in r)) 32 (pending_fits_lem (pending_in r)) in
        let is : w ≡ 0x4E54 + 0x10000 * n + pending_number (pending_in r) * 0x1000000 = omega (arith, i.value, byte 0, byte 1, byte 2, byte 3, byte 4, byte 5, byte 6, byte 7) in
        rw (lt-ltb w 0x20000000 (omega arith), eq-eqb (w % 0x1000000) (0x4E54 + 0x10000 * n) (omega arith)) refl)
