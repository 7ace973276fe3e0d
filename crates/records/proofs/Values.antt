-- A value's number gives the value back, and a good number its value's number.
use Rattle.std.specs.Prelude.{Some, None}
use Prim.Native.Nat.{ℕ, zero, suc, ◌+◌, ◌-◌, ◌%◌, ◌<◌, ◌≤◌}
use mathlib.Core.Bool.{Bool, true, false, ◌||◌, ◌&&◌, not}
use mathlib.Core.Path.{◌≡◌, refl, sym}
use native.Mathlib.Omega.{arith}
use lib.Dec.{eqb, ltb}
use borrow.Author.Tests.{eqb-true, eqb-false, ne_eqb, ltb-true}
use Rattle.laws.proofs.Bools.{and-true, or-true, not_both, split}
use Rattle.rules.specs.Types.{Attribute, Simple, HeadOfQueue, Ordered, Aca, TaskState, Dormant, Enabled, Blocked, Qerr, EndNone, EndAll, EndNexus, Policy, Allegiance, Pending}
use Rattle.records.specs.Numbers.{flag, attribute_number, attribute_fits, attribute_from, state_number, state_fits, state_from, aca_number, aca_from, policy_number, policy_fits, policy_from, pending_number, pending_fits, pending_from}

-- Tests that are computed once -------------------------------------------------------------------------------------------------------------

-- the test holds of every number below k
abbrev below : ℕ → (ℕ → Bool) → Bool
below zero p = true
below (suc k) p = p k && below k p

below_at : (k : ℕ) (p : ℕ → Bool) → below k p ≡ true → (n : ℕ) → n < k → p n ≡ true
below_at zero p e n h = absurd (omega arith)
below_at (suc k) p e n h =
    let o = and-true (p k) (below k p) e in
    split (eqb n k) (λ q. rw (eqb-true n k q) o.0) (λ q. below_at k p o.1 n (omega (arith, eqb-false n k q)))

-- the test holds of both truth values
abbrev both : (Bool → Bool) → Bool
both p = p true && p false

both_at_lem : (p : Bool → Bool) → both p ≡ true → (b : Bool) → p b ≡ true
both_at_lem p e true = (and-true (p true) (p false) e).0
both_at_lem p e false = (and-true (p true) (p false) e).1

abbrev same_bool : Bool → Bool → Bool
same_bool true b = b
same_bool false b = not b

same_bool_lem : (a b : Bool) → same_bool a b ≡ true → a ≡ b
same_bool_lem true b e = sym e
same_bool_lem false true e = not_both e refl
same_bool_lem false false e = refl

-- Values to numbers and back ---------------------------------------------------------------------------------------------------------------

pub attribute_back : (a : Attribute) → attribute_from (attribute_number a) ≡ a
attribute_back Simple = refl
attribute_back HeadOfQueue = refl
attribute_back Ordered = refl
attribute_back Aca = refl

pub attribute_fits_lem : (a : Attribute) → attribute_fits (attribute_number a) ≡ true
attribute_fits_lem Simple = refl
attribute_fits_lem HeadOfQueue = refl
attribute_fits_lem Ordered = refl
attribute_fits_lem Aca = refl

pub state_back : (st : TaskState) → state_from (state_number st) ≡ st
state_back Dormant = refl
state_back Enabled = refl
state_back Blocked = refl

pub flag_back : (b : Bool) → eqb (flag b) 1 ≡ b
flag_back true = refl
flag_back false = refl

pub aca_back : (a : Allegiance) → aca_from (aca_number a) ≡ a
aca_back None = refl
aca_back (Some f) =
    rw (ne_eqb (f + 1) 0 (λ e. omega arith), (let z : f + 1 - 1 ≡ f = omega arith in z))

pub policy_back : (p : Policy) → policy_from (policy_number p) ≡ p
policy_back p = go p.qerr p.tas
  where
    go : (q : Qerr) (t : Bool) → policy_from (policy_number (record { qerr = q; tas = t })) ≡ record { qerr = q; tas = t }
    go EndNone true = refl
    go EndNone false = refl
    go EndAll true = refl
    go EndAll false = refl
    go EndNexus true = refl
    go EndNexus false = refl

abbrev bits : Bool → Bool → Bool → Bool → Bool → Pending
bits a b c d e = record { power = a; hard = b; unit = c; loss = d; cleared = e }

abbrev same_pending : Pending → Pending → Bool
same_pending p q =
    same_bool p.power q.power && (same_bool p.hard q.hard && (same_bool p.unit q.unit && (same_bool p.loss q.loss && same_bool p.cleared q.cleared)))

same_pending_lem : (p q : Pending) → same_pending p q ≡ true → p ≡ q
same_pending_lem p q e =
    let o1 = and-true (same_bool p.power q.power) _ e in
    let o2 = and-true (same_bool p.hard q.hard) _ o1.1 in
    let o3 = and-true (same_bool p.unit q.unit) _ o2.1 in
    let o4 = and-true (same_bool p.loss q.loss) _ o3.1 in
    λ i.
    record {
      power = same_bool_lem p.power q.power o1.0 i;
      hard = same_bool_lem p.hard q.hard o2.0 i;
      unit = same_bool_lem p.unit q.unit o3.0 i;
      loss = same_bool_lem p.loss q.loss o4.0 i;
      cleared = same_bool_lem p.cleared q.cleared o4.1 i;
    }

abbrev pending_test : Bool → Bool → Bool → Bool → Bool → Bool
pending_test a b c d e = same_pending (pending_from (pending_number (bits a b c d e))) (bits a b c d e)

abbrev fits_test : Bool → Bool → Bool → Bool → Bool → Bool
fits_test a b c d e = pending_fits (pending_number (bits a b c d e))

-- a test of five bits that holds of all of them
five_bits : (t : Bool → Bool → Bool → Bool → Bool → Bool)
    → both (λ a. both (λ b. both (λ c. both (λ d. both (λ e. t a b c d e))))) ≡ true → (a b c d e : Bool) → t a b c d e ≡ true
five_bits t h a b c d e =
    both_at_lem (λ e. t a b c d e)
    (both_at_lem (λ d. both (λ e. t a b c d e))
    (both_at_lem (λ c. both (λ d. both (λ e. t a b c d e)))
    (both_at_lem (λ b. both (λ c. both (λ d. both (λ e. t a b c d e))))
    (both_at_lem (λ a. both (λ b. both (λ c. both (λ d. both (λ e. t a b c d e))))) h a)
    b)
    c)
    d)
    e

pub pending_back : (p : Pending) → pending_from (pending_number p) ≡ p
pending_back p =
    same_pending_lem (pending_from (pending_number p)) p
    (five_bits pending_test refl p.power p.hard p.unit p.loss p.cleared)

pub pending_fits_lem : (p : Pending) → pending_fits (pending_number p) ≡ true
pending_fits_lem p = five_bits fits_test refl p.power p.hard p.unit p.loss p.cleared

-- Good numbers to values and back ----------------------------------------------------------------------------------------------------------

or4 :
    {P : Type 0} (a b c d : Bool) → a || b || c || d ≡ true → (a ≡ true → P) → (b ≡ true → P) → (c ≡ true → P) → (d ≡ true → P) → P
or4 true b c d e f g h k = f refl
or4 false true c d e f g h k = g refl
or4 false false true d e f g h k = h refl
or4 false false false d e f g h k = k e

pub attribute_good : (n : ℕ) → attribute_fits n ≡ true → attribute_number (attribute_from n) ≡ n
attribute_good n e =
    or4 (eqb n 0) (eqb n 1) (eqb n 2) (eqb n 4) e (λ q. rw (eqb-true n 0 q)) (λ q. rw (eqb-true n 1 q)) (λ q. rw (eqb-true n 2 q))
    (λ q. rw (eqb-true n 4 q))

pub state_good : (n : ℕ) → state_fits n ≡ true → state_number (state_from n) ≡ n
state_good n e =
    or4 (eqb n 1) (eqb n 2) (eqb n 3) false (or_none _ e) (λ q. rw (eqb-true n 1 q)) (λ q. rw (eqb-true n 2 q)) (λ q. rw (eqb-true n 3 q))
    (λ q. not_both q refl)
  where
    or_none : (b : Bool) → b ≡ true → b || false ≡ true
    or_none true h = refl
    or_none false h = h

pub flag_good : (n : ℕ) → n < 2 → flag (eqb n 1) ≡ n
flag_good n h =
    split (eqb n 1) (λ q. rw q (sym (eqb-true n 1 q))) (λ q. rw q (omega (arith, eqb-false n 1 q)))

pub aca_good : (n : ℕ) → aca_number (aca_from n) ≡ n
aca_good n =
    split (eqb n 0) (λ q. rw q (sym (eqb-true n 0 q)))
    (λ q. let h : 1 ≤ n = omega (arith, eqb-false n 0 q) in rw q (omega arith))

pub policy_good : (n : ℕ) → policy_fits n ≡ true → policy_number (policy_from n) ≡ n
policy_good n e =
    eqb-true (policy_number (policy_from n)) n
    (or-true (not (policy_fits n)) (eqb (policy_number (policy_from n)) n)
    (below_at 8 (λ m. not (policy_fits m) || eqb (policy_number (policy_from m)) m) refl n
    (ltb-true n 8 (and-true (ltb n 8) (not (eqb (n % 4) 2)) e).0))
    (rw e))

pub pending_good : (n : ℕ) → pending_fits n ≡ true → pending_number (pending_from n) ≡ n
pending_good n e =
    eqb-true (pending_number (pending_from n)) n
    (below_at 32 (λ m. eqb (pending_number (pending_from m)) m) refl n (ltb-true n 32 e))
