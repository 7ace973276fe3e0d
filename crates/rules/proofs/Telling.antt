-- What an attention does to each bit, by its rank, and what a notice brings to each nexus: who is told.
use Rattle.std.specs.Prelude.{Option, Some, None}
use Prim.Native.Nat.{ℕ, zero, suc, ◌+◌, ◌<◌}
use mathlib.Core.Bool.{Bool, true, false, cond, ◌&&◌, not}
use mathlib.Core.Path.{◌≡◌, refl, ap, ◌∙◌}
use mathlib.Core.List.{List, [], ◌∷◌, map}
use native.Mathlib.Omega.{arith}
use lib.Dec.{eqb}
use lib.ListN.{length, get_or, set, length-set}
use lib.Seq.{get_or-set_same, get_or-set_other}
use borrow.Author.Tests.{eqb-true, eqb-false}
use Rattle.laws.specs.Lists.{any}
use Rattle.laws.proofs.Bools.{cases, split}
use Rattle.rules.specs.Types.{Task, Qerr, EndNone, EndAll, EndNexus, Pending, Bit, PowerBit, HardBit, UnitBit, LossBit, ClearedBit, Sweep}
use Rattle.rules.specs.Tasks.{of_nexus}
use Rattle.rules.specs.Bits.{no_pending, without, after_power_on, after_hard_reset, after_unit_reset, after_nexus_loss, after_cleared}
use Rattle.rules.specs.Rulings.{State, pending_of, lost, fate_of, tell_losers_from, noted}
use Rattle.rules.specs.Rules.{tells_others, telling}
use Rattle.rules.specs.Attentions.{rank, ranks, is_set, Attention, Unmoved, Gets, Reports, bit_after, cleared_by, ends_others}
use Rattle.rules.proofs.Fates.{is_ends, all_end}

-- By rank ----------------------------------------------------------------------------------------------------------------------------------

pub every_bit : (P : Bit → Type 0) → P PowerBit → P HardBit → P UnitBit → P LossBit → P ClearedBit → (b : Bit) → P b
every_bit P p0 p1 p2 p3 p4 PowerBit = p0
every_bit P p0 p1 p2 p3 p4 HardBit = p1
every_bit P p0 p1 p2 p3 p4 UnitBit = p2
every_bit P p0 p1 p2 p3 p4 LossBit = p3
every_bit P p0 p1 p2 p3 p4 ClearedBit = p4

-- the bits of a nexus after an attention, as the rules write them
abbrev pub changed : Attention → Pending → Pending
changed Unmoved p = p
changed (Gets PowerBit) p = after_power_on p
changed (Gets HardBit) p = after_hard_reset p
changed (Gets UnitBit) p = after_unit_reset p
changed (Gets LossBit) p = after_nexus_loss p
changed (Gets ClearedBit) p = after_cleared p
changed (Reports b) p = without b p

abbrev ByRank : Attention → Pending → Bit → Type 0
ByRank a p b = is_set (changed a p) b ≡ bit_after a b (is_set p b)

pub changed_bits : (a : Attention) (p : Pending) (b : Bit) → ByRank a p b
changed_bits Unmoved p = λ b. refl
changed_bits (Gets PowerBit) p = every_bit (ByRank (Gets PowerBit) p) refl refl refl refl refl
changed_bits (Gets HardBit) p = every_bit (ByRank (Gets HardBit) p) refl refl refl refl refl
changed_bits (Gets UnitBit) p = every_bit (ByRank (Gets UnitBit) p) refl refl refl refl refl
changed_bits (Gets LossBit) p = every_bit (ByRank (Gets LossBit) p) refl refl refl refl refl
changed_bits (Gets ClearedBit) p = every_bit (ByRank (Gets ClearedBit) p) refl refl refl refl refl
changed_bits (Reports PowerBit) p = every_bit (ByRank (Reports PowerBit) p) refl refl refl refl refl
changed_bits (Reports HardBit) p = every_bit (ByRank (Reports HardBit) p) refl refl refl refl refl
changed_bits (Reports UnitBit) p = every_bit (ByRank (Reports UnitBit) p) refl refl refl refl refl
changed_bits (Reports LossBit) p = every_bit (ByRank (Reports LossBit) p) refl refl refl refl refl
changed_bits (Reports ClearedBit) p = every_bit (ByRank (Reports ClearedBit) p) refl refl refl refl refl

-- the two ways to say the rank agree
pub rank_place : (b : Bit) → get_or ranks (rank b) PowerBit ≡ b
rank_place = every_bit (λ b. get_or ranks (rank b) PowerBit ≡ b) refl refl refl refl refl

-- By notice -------------------------------------------------------------------------------------------------------------------------------

-- what check 3 says to a nexus
abbrev pub tells : Option Bit → Attention
tells None = Unmoved
tells (Some b) = Reports b

module _ (i n : ℕ) (ls : List Task) where
  told_losers :
      (j k : ℕ) (ps : List Pending) → j + k ≡ i → k < length ps
      → get_or (tell_losers_from j n ls ps) k no_pending
      ≡ changed (cond (not (eqb i n) && any (of_nexus i) ls) (Gets ClearedBit) Unmoved) (get_or ps k no_pending)
  told_losers j k [] e l = absurd (omega arith)
  told_losers j zero (p ∷ ps) e l = let z : j ≡ i = omega arith in rw z (go (not (eqb i n) && any (of_nexus i) ls))
    where
      go : (b : Bool) → cond b (after_cleared p) p ≡ changed (cond b (Gets ClearedBit) Unmoved) p
      go true = refl
      go false = refl
  told_losers j (suc k) (p ∷ ps) e l = told_losers (suc j) k ps (omega arith) (omega arith)

  -- the bit reported to nexus n, if there is one, and bit 4 of another that lost a task, if others are told
  abbrev pub told_to : Option Bit → Bool → Attention
  told_to o others = cond (eqb i n) (tells o) (cond (others && any (of_nexus i) ls) (Gets ClearedBit) Unmoved)

  module _ (ps : List Pending) (low : i < length ps) where
    losers_told : get_or (tell_losers_from 0 n ls ps) i no_pending ≡ changed (told_to None true) (get_or ps i no_pending)
    losers_told = told_losers 0 i ps (omega arith) low ∙ ap (λ a. changed a (get_or ps i no_pending)) (go (eqb i n))
      where
        go : (b : Bool) → cond (not b && any (of_nexus i) ls) (Gets ClearedBit) Unmoved ≡ cond b Unmoved (cond (any (of_nexus i) ls) (Gets ClearedBit) Unmoved)
        go true = refl
        go false = refl

    bit_told : (b : Bit) → get_or (set ps n (without b (get_or ps n no_pending))) i no_pending ≡ changed (told_to (Some b) false) (get_or ps i no_pending)
    bit_told b =
        split (eqb i n) (λ k. let z : i ≡ n = eqb-true i n k in rw (k, ← z) (get_or-set_same ps i _ no_pending low))
        (λ k. rw k (get_or-set_other ps n i _ no_pending (eqb-false i n k)))

  pub told_bits :
      (o : Option Bit) (others : Bool) (ps : List Pending) → i < length ps
      → get_or (noted (telling n o others) ls ps) i no_pending ≡ changed (told_to o others) (get_or ps i no_pending)
  told_bits None false ps low = cases (λ a. get_or ps i no_pending ≡ changed a (get_or ps i no_pending)) (eqb i n) (λ k. refl) (λ k. refl)
  told_bits None true ps low = losers_told ps low
  told_bits (Some b) false ps low = bit_told ps low b
  told_bits (Some b) true ps low =
      losers_told (set ps n (without b (get_or ps n no_pending))) (omega (arith, length-set ps n (without b (get_or ps n no_pending))))
      ∙ ap (changed (told_to None true)) (bit_told ps low b)
      ∙ go (eqb i n) (cond (any (of_nexus i) ls) (Gets ClearedBit) Unmoved) (get_or ps i no_pending)
    where
      go : (own : Bool) (a : Attention) (p : Pending) → changed (cond own Unmoved a) (changed (cond own (Reports b) Unmoved) p) ≡ changed (cond own (Reports b) a) p
      go true a p = refl
      go false a p = refl

module _ (s : State) (i : ℕ) (here : i < length s.pending) where
  -- all tasks end by the sweep w, for nexus n
  pub cleared_after :
      (n : ℕ) (o : Option Bit) (w : Sweep) → ((t : Task) → is_ends (fate_of w t) ≡ true)
      → get_or (noted (telling n o (not s.header.policy.tas)) (lost (map (fate_of w) s.tasks) s.tasks) s.pending) i no_pending
      ≡ changed (cond (eqb i n) (tells o) (cleared_by s n i)) (pending_of s i)
  cleared_after n o w all =
      rw (all_end (fate_of w) s.tasks all).1
      (told_bits i n s.tasks o (not s.header.policy.tas) s.pending here
      ∙ ap (λ a. changed a (pending_of s i)) (go s.header.policy.tas (eqb i n)))
    where
      go :
          (tas b : Bool)
          → cond b (tells o) (cond (not tas && any (of_nexus i) s.tasks) (Gets ClearedBit) Unmoved)
          ≡ cond b (tells o) (cond (not tas && not b && any (of_nexus i) s.tasks) (Gets ClearedBit) Unmoved)
      go tas true = refl
      go true false = refl
      go false false = refl

  -- the causing nexus is not among those told
  pub untold : (n : ℕ) (others : Bool) → cond (eqb i n) Unmoved (cond others (cleared_by s n i) Unmoved) ≡ cond others (cleared_by s n i) Unmoved
  untold n = go (eqb i n) s.header.policy.tas
    where
      go :
          (own tas others : Bool)
          → cond own Unmoved (cond others (cond (not tas && not own && any (of_nexus i) s.tasks) (Gets ClearedBit) Unmoved) Unmoved)
          ≡ cond others (cond (not tas && not own && any (of_nexus i) s.tasks) (Gets ClearedBit) Unmoved) Unmoved
      go false tas others = refl
      go true tas false = refl
      go true true true = refl
      go true false true = refl

  -- QERR, by whether it is applied
  pub by_qerr :
      (n : ℕ) (o : Option Bit) (w : Sweep) (q : Qerr) → (q ≡ EndAll → (t : Task) → is_ends (fate_of w t) ≡ true)
      → get_or (noted (telling n o (tells_others q s.header.policy.tas)) (lost (map (fate_of w) s.tasks) s.tasks) s.pending) i no_pending
      ≡ changed (cond (eqb i n) (tells o) (cond (ends_others q) (cleared_by s n i) Unmoved)) (pending_of s i)
  by_qerr n o w EndNone all = told_bits i n (lost (map (fate_of w) s.tasks) s.tasks) o false s.pending here
  by_qerr n o w EndAll all = cleared_after n o w (all refl)
  by_qerr n o w EndNexus all = told_bits i n (lost (map (fate_of w) s.tasks) s.tasks) o false s.pending here
