-- What each event does to each pending bit of each nexus: the rules agree with specs/Attentions.
use Rattle.std.specs.Prelude.{Some, None, Option}
use Prim.Native.Nat.{ℕ, zero, suc, ◌<◌}
use mathlib.Core.Bool.{Bool, true, false, cond, ◌&&◌, not, and-true as and_on, and-false as and_off, or-false as or_off}
use mathlib.Core.Path.{◌≡◌, refl, ap, ◌∙◌}
use mathlib.Core.List.{List, [], ◌∷◌, map}
use native.Mathlib.Omega.{arith}
use lib.Dec.{eqb, ltb}
use lib.ListN.{length, get_or}
use lib.Seq.{get_or-set_same, get_or-set_other}
use borrow.Author.Tests.{not-true, ltb-true, lt-ltb, eqb-true, eqb-false, eq-eqb}
use Rattle.laws.specs.Lists.{any, first}
use Rattle.laws.proofs.Bools.{and-true, cases, split}
use Rattle.laws.proofs.Lists.{any_less, first_passes, first_any, first_none}
use Rattle.rules.specs.Types.{Task, Entry, Finish, CheckCondition, Function, AbortTask, AbortTaskSet, ClearTaskSet, ClearAca, LogicalUnitReset, Unknown, Happening, PowerOn, HardReset, NexusLoss, Event, Command, Completion, Management, Condition, Allegiance, Pending, Bit, ClearedBit, EndedAtEntry, Sense, Sweep, ClearedBy, FailedTask, Done, Ruling, Changes}
use Rattle.rules.specs.Tasks.{nexuses, aca_task, of_nexus, same, is_enabled, enabled_task, is_named}
use Rattle.rules.specs.Bits.{no_pending, top, sense_for, after_power_on, after_hard_reset, after_unit_reset}
use Rattle.rules.specs.Rulings.{State, is_clear, pending_of, turn, lost, also_by_qerr, fate_of, answer_of, ruled}
use Rattle.rules.specs.Rules.{check_condition, check2, bit_to_report, status_of, finish, complete, clearing, manage, happen, nexus_of, rule_for, ruling, step}
use Rattle.rules.specs.Well.{WellFormed, distinct}
use Rattle.rules.specs.Attentions.{ranks, is_set, highest, Attention, Unmoved, Gets, Reports, bit_after, passes_aca, reports_bit, reported_by, cleared_by, fails_at_entry, completes, ends_others, by_function, by_happening, caused, attention}
use Rattle.rules.proofs.Distinct.{same_parts}
use Rattle.rules.proofs.Cases.{stop, check_cases, failing_cases, check2_none, finish_cases}
use Rattle.rules.proofs.WellKept.{Tested}
use Rattle.rules.proofs.WellSays.{says_tested}
use Rattle.rules.proofs.FieldErrors.{top_first, qerr_all_ends}
use Rattle.rules.proofs.Telling.{changed, changed_bits, tells, told_bits, cleared_after, untold, by_qerr}

-- By cause ---------------------------------------------------------------------------------------------------------------------------------

-- Entry

-- what is due to a nexus at a ruling: its bits change so, and what is reported is the answer
pub record Due (s : State) (i : ℕ) (r : Ruling) (a : Attention) : Type 0 where
  pub bits : pending_of (ruled s r) i ≡ changed a (pending_of s i)
  pub told : (b : Bit) → a ≡ Reports b → answer_of r ≡ EndedAtEntry 0x02 (sense_for b)

none_given : {P : Type 0} {a b : Bit} → Gets a ≡ Reports b → P
none_given e = absurd (let z : ◌≡◌ {A = ℕ} 0 1 = cc in omega arith)

pub none_reported : {P : Type 0} {b : Bit} → Unmoved ≡ Reports b → P
none_reported e = absurd (let z : ◌≡◌ {A = ℕ} 0 1 = cc in omega arith)

unmoved_due : (s : State) (i : ℕ) (r : Ruling) → pending_of (ruled s r) i ≡ pending_of s i → Due s i r Unmoved
unmoved_due s i r e = record { bits = e; told = λ b u. none_reported u }

-- another way to say the attention
due_as : {s : State} {i : ℕ} {r : Ruling} {a b : Attention} → a ≡ b → Due s i r b → Due s i r a
due_as e d = rw e d

no_bit : {P : Type 0} {b : Bit} → None ≡ Some b → P
no_bit e = absurd (let z : ◌≡◌ {A = ℕ} 0 1 = cc in omega arith)

is_bit_lem : (o : Option Bit) (b : Bit) → tells o ≡ Reports b → o ≡ Some b
is_bit_lem None b e = none_reported e
is_bit_lem (Some x) b e = let z : x ≡ b = cc in ap (λ y. Some y) z

abbrev is_bit : Option Bit → Bool
is_bit None = false
is_bit (Some b) = true

any_bit : (p : Pending) → any (is_set p) ranks ≡ is_bit (top p)
any_bit p = rw (top_first p) (go (first (is_set p) ranks) refl)
  where
    go : (o : Option Bit) → first (is_set p) ranks ≡ o → any (is_set p) ranks ≡ is_bit o
    go None e = first_none (is_set p) ranks e
    go (Some b) e = first_any (is_set p) (is_set p) ranks b e (first_passes (is_set p) ranks b e)

told_is : (exempt : Bool) (o : Option Bit) → cond (not exempt) (reports_bit o) Unmoved ≡ tells (cond exempt None o)
told_is true o = refl
told_is false None = refl
told_is false (Some b) = refl

passes : (a : Allegiance) (c : Entry) (aca : Bool) → check2 a c aca ≡ None → passes_aca a c aca ≡ true
passes None c aca e = refl
passes (Some f) c aca e = let k = check2_none f c aca e in rw (k.0, k.1, k.2)

-- A command

module _ (s : State) (i : ℕ) (here : i < length s.pending) where
  -- a CHECK CONDITION at entry: the nexus of the command, another one
  abbrev failed_to : Entry → Option Bit → Attention
  failed_to c o =
      cond (eqb i c.nexus) (tells o)
      (cond (is_clear s.header.aca && ends_others s.header.policy.qerr) (cleared_by s c.nexus i) Unmoved)

  failed_bits :
      (c : Entry) (se : Sense) (w : Sweep) (o : Option Bit)
      → pending_of (ruled s (check_condition s.header c se w o)) i ≡ changed (failed_to c o) (pending_of s i)
  failed_bits c se w o =
      failing_cases (λ d. pending_of (ruled s (Changes (EndedAtEntry 0x02 se) d)) i ≡ changed (failed_to c o) (pending_of s i)) s.header c w o
      (λ a. rw a (by_qerr s i here c.nexus o (also_by_qerr s.header.policy.qerr s.header.policy c.nexus w) s.header.policy.qerr (λ q t. rw q)))
      (λ f a. rw a (told_bits i c.nexus (lost (map (fate_of w) s.tasks) s.tasks) o false s.pending here))

module _ (s : State) (c : Entry) where
  -- checks 1 and 2 let the command pass
  past_aca :
      any (same c.nexus c.tag) s.tasks ≡ false → check2 s.header.aca c (any aca_task s.tasks) ≡ None
      → reported_by s c ≡ tells (bit_to_report c (pending_of s c.nexus))
  past_aca n1 n2 =
      rw (n1, passes s.header.aca c (any aca_task s.tasks) n2, top_first (pending_of s c.nexus))
      (told_is c.exempt (highest (pending_of s c.nexus)))

  pub bit_waits : not c.exempt && any (is_set (pending_of s c.nexus)) ranks ≡ is_bit (bit_to_report c (pending_of s c.nexus))
  bit_waits = go c.exempt
    where
      go : (x : Bool) → not x && any (is_set (pending_of s c.nexus)) ranks ≡ is_bit (cond x None (top (pending_of s c.nexus)))
      go true = refl
      go false = any_bit (pending_of s c.nexus)

  -- another nexus may be given a bit, and has none reported
  pub others_unreported : (i : ℕ) (b : Bit) → eqb i c.nexus ≡ false → caused s (Command c) i ≡ Reports b → ⊥
  others_unreported i b k =
      rw k (go (fails_at_entry s c && ends_others s.header.policy.qerr) (not s.header.policy.tas && true && any (of_nexus i) s.tasks))
    where
      go : (fails lost : Bool) → cond fails (cond lost (Gets ClearedBit) Unmoved) Unmoved ≡ Reports b → ⊥
      go true true e = none_given e
      go true false e = none_reported e
      go false lost e = none_reported e

  module _ (i : ℕ) (low : i < length s.pending) where
    -- the command ends with 02h
    failed_due :
        (se : Sense) (w : Sweep) (o : Option Bit) → reported_by s c ≡ tells o → fails_at_entry s c ≡ is_clear s.header.aca
        → ((b : Bit) → o ≡ Some b → se ≡ sense_for b)
        → Due s i (check_condition s.header c se w o) (caused s (Command c) i)
    failed_due se w o r f sensed =
        record {
          bits = rw (r, f) (failed_bits s i low c se w o);
          told =
              λ b e.
              ap (EndedAtEntry 0x02)
              (sensed b
              (split (eqb i c.nexus) (λ k. is_bit_lem o b (rw (k, r) at e)) (λ k. absurd (others_unreported i b k e))));
        }

    -- any other end, or none
    still_due : (r : Ruling) → reported_by s c ≡ Unmoved → fails_at_entry s c ≡ false → pending_of (ruled s r) i ≡ pending_of s i
        → Due s i r (caused s (Command c) i)
    still_due r u f e =
        due_as (rw (u, f) (cases (λ a. a ≡ Unmoved) (eqb i c.nexus) (λ k. refl) (λ k. refl))) (unmoved_due s i r e)

    pub command_due : Due s i (rule_for s (Command c)) (caused s (Command c) i)
    unfolding rule_for
    command_due =
        check_cases (λ r. Due s i r (caused s (Command c) i)) s.header c (any (same c.nexus c.tag) s.tasks) (any aca_task s.tasks)
        (pending_of s c.nexus)
        (stop (λ y. failed_due _ _ None (rw y) (rw y (and_on (is_clear s.header.aca))) (λ b e. no_bit e)) λ n1.
        stop (λ f a e k. still_due _ (rw (n1, a, e, k)) (rw a) refl, λ f a e. still_due _ (rw (n1, a, e)) (rw a) refl) λ n2.
        stop (λ b e.
        failed_due _ _ (Some b) (past_aca n1 n2 ∙ ap tells e) (rw (n1, bit_waits, e) (and_on (is_clear s.header.aca)))
        (λ b' e'. let z : b ≡ b' = cc in ap sense_for z)) λ n3.
        let quiet : reported_by s c ≡ Unmoved = past_aca n1 n2 ∙ ap tells n3 in
        stop (λ e. failed_due _ _ None quiet (rw (n1, bit_waits, n3, e) (and_on (is_clear s.header.aca))) (λ b e'. no_bit e')) λ n4.
        let lets : fails_at_entry s c ≡ false = rw (n1, bit_waits, n3, n4) (and_off (is_clear s.header.aca)) in
        stop (λ e. still_due _ quiet lets refl) λ n5.
        still_due _ quiet lets refl)

abbrev enabled_of : Option Task → Bool
enabled_of None = false
enabled_of (Some t) = enabled_task t

-- RULES 10.5: an enabled one is the one found
enabled_found :
    (n g : ℕ) (ts : List Task) → distinct ts ≡ true
    → any (λ (t : Task). same n g t && enabled_task t) ts ≡ enabled_of (first (same n g) ts)
enabled_found n g [] d = refl
enabled_found n g (t ∷ ts) d =
    let o = and-true (not (any (same t.nexus t.tag) ts)) (distinct ts) d in
    let alone : any (same t.nexus t.tag) ts ≡ false = not-true _ o.0 in
    split (same n g t)
    (λ k.
    let q = same_parts n g t k in
    rw (k, any_less (same n g) (λ u. same n g u && enabled_task u) ts (λ u e. rw e) (rw (q.0, q.1) at alone))
    (or_off (enabled_task t)))
    (λ k. rw k (enabled_found n g ts o.1))

map_at : (f : Pending → Pending) (ps : List Pending) (i : ℕ) → i < length ps → get_or (map f ps) i no_pending ≡ f (get_or ps i no_pending)
map_at f [] i l = absurd (omega arith)
map_at f (p ∷ ps) zero l = refl
map_at f (p ∷ ps) (suc i) l = map_at f ps i (omega arith)

-- Each event

module _ (s : State) (i : ℕ) (w : Tested s) (low : i < nexuses) where
  here : i < length s.pending
  here = omega (arith, w.eight)

  manage_bits : (n : ℕ) (f : Function) → pending_of (ruled s (manage s.header n f)) i ≡ changed (by_function s n f i) (pending_of s i)
  unfolding manage
  manage_bits n (AbortTask g) = refl
  manage_bits n AbortTaskSet = refl
  manage_bits n ClearTaskSet = cleared_after s i here n None (ClearedBy n s.header.policy) (λ t. refl) ∙ ap (λ a. changed a (pending_of s i)) (untold s i here n true)
  manage_bits n ClearAca = go s.header.aca
    where
      go : (a : Allegiance) → pending_of (ruled s (clearing s.header n a)) i ≡ pending_of s i
      go None = refl
      go (Some f) = cases (λ r. pending_of (ruled s r) i ≡ pending_of s i) (eqb n f) (λ e. refl) (λ e. refl)
  manage_bits n LogicalUnitReset = map_at after_unit_reset s.pending i here
  manage_bits n Unknown = refl

  happen_bits :
      (c : Happening) → nexus_of (Condition c) < nexuses
      → pending_of (ruled s (happen s.header c)) i ≡ changed (by_happening c i) (pending_of s i)
  unfolding happen
  happen_bits PowerOn l = map_at after_power_on s.pending i here
  happen_bits HardReset l = map_at after_hard_reset s.pending i here
  happen_bits (NexusLoss n) l =
      split (eqb i n)
      (λ k. let z : i ≡ n = eqb-true i n k in rw (k, z) (get_or-set_same s.pending n _ no_pending (omega (arith, w.eight))))
      (λ k. rw k (get_or-set_other s.pending n i _ no_pending (eqb-false i n k)))

  complete_bits :
      (n g : ℕ) (f : Finish) (named : Bool)
      → pending_of (ruled s (complete s.header (first (same n g) s.tasks) f named)) i
      ≡ changed (caused s (Completion n g f) i) (pending_of s i)
  unfolding complete
  complete_bits n g f named = rw (enabled_found n g s.tasks w.apart) (go (first (same n g) s.tasks) refl)
    where
      failed :
          (t : Task)
          → pending_of (ruled s (Changes Done (finish s.header CheckCondition t named))) i
          ≡ changed (cond (ends_others s.header.policy.qerr) (cleared_by s t.nexus i) Unmoved) (pending_of s i)
      failed t =
          by_qerr s i here t.nexus None (FailedTask t.nexus t.tag s.header.policy) s.header.policy.qerr
          (λ q u. qerr_all_ends t.nexus t.tag s.header.policy u q)
          ∙ ap (λ a. changed a (pending_of s i)) (untold s i here t.nexus (ends_others s.header.policy.qerr))

      go :
          (o : Option Task) → first (same n g) s.tasks ≡ o
          → pending_of (ruled s (complete s.header o f named)) i
          ≡ changed (cond (enabled_of o && eqb (status_of f) 0x02 && ends_others s.header.policy.qerr) (cleared_by s n i) Unmoved) (pending_of s i)
      go None e = refl
      go (Some t) e =
          split (is_enabled t.state)
          (λ k.
          rw k
          (finish_cases (λ c. pending_of (ruled s (Changes Done c)) i ≡ changed (by (eqb (status_of f) 0x02)) (pending_of s i)) s.header f t named
          (λ q. rw q)
          (λ q. rw (q, ← (same_parts n g t (first_passes (same n g) s.tasks t e)).0) (failed t))))
          (λ k. rw k)
        where
          by : Bool → Attention
          by b = cond (b && ends_others s.header.policy.qerr) (cleared_by s n i) Unmoved

  pending_after : (e : Event) → pending_of (step s e) i ≡ changed (attention s e i) (pending_of s i)
  unfolding step ruling rule_for attention
  pending_after e = split (ltb (nexus_of e) nexuses) (λ k. rw k (go e (ltb-true (nexus_of e) nexuses k))) (λ k. rw k)
    where
      go : (e : Event) → nexus_of e < nexuses → pending_of (ruled s (rule_for s e)) i ≡ changed (caused s e i) (pending_of s i)
      go (Command c) l = (command_due s c i here).bits
      go (Completion n g f) l = complete_bits n g f (is_named n g (turn s))
      go (Management n f) l = manage_bits n f
      go (Condition c) l = happen_bits c l

-- The law ----------------------------------------------------------------------------------------------------------------------------------

-- each pending bit of each nexus, after every event in every well-formed state: what the cause brings to that nexus, by the bit's rank
pub bits_after :
    (s : State) (e : Event) (i : ℕ) (b : Bit) → WellFormed s → i < nexuses
    → is_set (pending_of (step s e) i) b ≡ bit_after (attention s e i) b (is_set (pending_of s i) b)
bits_after s e i b w l =
    rw (pending_after s i (says_tested s w) l e) (changed_bits (attention s e i) (pending_of s i) b)

-- the causing nexus is not told of its own aborts: at its CLEAR TASK SET and at the end of its task, whatever the status, each of its bits is as before
pub causing_nexus_never_told :
    (s : State) (n g : ℕ) (f : Finish) (b : Bit) → WellFormed s → n < nexuses
    → (is_set (pending_of (step s (Management n ClearTaskSet)) n) b ≡ is_set (pending_of s n) b)
    × (is_set (pending_of (step s (Completion n g f)) n) b ≡ is_set (pending_of s n) b)
unfolding attention
causing_nexus_never_told s n g f b w l = (
  rw (lt-ltb n nexuses l, cleared) at (bits_after s (Management n ClearTaskSet) n b w l),
  rw (lt-ltb n nexuses l, ended) at (bits_after s (Completion n g f) n b w l),
)
  where
    cleared : cleared_by s n n ≡ Unmoved
    cleared = rw (eq-eqb n n refl, and_off (not s.header.policy.tas))

    ended : caused s (Completion n g f) n ≡ Unmoved
    ended =
        cases (λ a. a ≡ Unmoved) (completes s n g && eqb (status_of f) 0x02 && ends_others s.header.policy.qerr) (λ e. cleared) (λ e. refl)
