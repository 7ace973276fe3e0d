-- Which pending bits a command changes: the one that it is told of, and bit 4 of others that lose tasks to it (RULES 5.8, 5.9 and 11.3).
use Rattle.std.specs.Prelude.{Some, None, Option}
use Prim.Native.Nat.{ℕ, ◌<◌}
use mathlib.Core.Bool.{Bool, true, false, cond, ◌&&◌, not}
use mathlib.Core.Path.{◌≡◌, refl, ap, sym, ◌∙◌}
use mathlib.Core.Logic.{◌⊎◌, inl, inr}
use native.Mathlib.Omega.{arith}
use lib.Dec.{eqb, ltb}
use lib.ListN.{get_or}
use borrow.Author.Tests.{not-true, ltb-true, lt-ltb, eqb-true, eqb-false, eq-eqb}
use Rattle.laws.specs.Lists.{any}
use Rattle.laws.proofs.Bools.{and-true, not_both, cases, split}
use Rattle.rules.specs.Types.{Entry, Command, Bit, PowerBit, ClearedBit, Answer, Done, BadTable, BadReport, BadEvent, NexusAboveSeven, NoSuchTask, NotEnabled, EndedAtEntry, Rejected, BadPolicy}
use Rattle.rules.specs.Tasks.{nexuses, aca_task, of_nexus, same}
use Rattle.rules.specs.Bits.{sense_for}
use Rattle.rules.specs.Rulings.{State, pending_of, answer_of}
use Rattle.rules.specs.Rules.{rule_for, ruling, step, answer}
use Rattle.rules.specs.Well.{WellFormed}
use Rattle.rules.specs.Attentions.{rank, ranks, is_set, highest, Attention, Unmoved, Gets, Reports, bit_after, reaches3, reports_bit, fails_at_entry, ends_others, attention}
use Rattle.rules.proofs.Cases.{stop, check_cases}
use Rattle.rules.proofs.Telling.{every_bit, rank_place}
use Rattle.rules.proofs.Attentions.{none_reported, bit_waits, others_unreported, command_due, bits_after}

-- RULES 5.8: the bit that a command is told of is the answer's
pub reported_is_answered :
    (s : State) (c : Entry) (i : ℕ) (b : Bit) → WellFormed s → attention s (Command c) i ≡ Reports b
    → answer s (Command c) ≡ EndedAtEntry 0x02 (sense_for b)
unfolding answer ruling attention
reported_is_answered s c i b w e =
    split (ltb c.nexus nexuses)
    (λ k.
    let low : c.nexus < nexuses = ltb-true c.nexus nexuses k in
    split (eqb i c.nexus)
    (λ q. rw k ((command_due s c i (omega (arith, eqb-true i c.nexus q, low, w.eight))).told b (rw k at e)))
    (λ q. absurd (others_unreported s c i b q (rw k at e))))
    (λ k. none_reported (rw k at e))

-- RULES 4.7: a command, however it ends, sets no bit of its own nexus
pub command_tells_others_alone :
    (s : State) (c : Entry) (b : Bit) → WellFormed s → c.nexus < nexuses → is_set (pending_of (step s (Command c)) c.nexus) b ≡ true
    → is_set (pending_of s c.nexus) b ≡ true
unfolding attention
command_tells_others_alone s c b w l e =
    sets_none (reaches3 s c && not c.exempt) (highest (pending_of s c.nexus)) (is_set (pending_of s c.nexus) b)
    (sym (rw (lt-ltb c.nexus nexuses l, eq-eqb c.nexus c.nexus refl) at (bits_after s (Command c) c.nexus b w l)) ∙ e)
  where
    goes : (same old : Bool) → cond same false old ≡ true → old ≡ true
    goes true old e = not_both e refl
    goes false old e = e

    sets_none : (tells : Bool) (o : Option Bit) (old : Bool) → bit_after (cond tells (reports_bit o) Unmoved) b old ≡ true → old ≡ true
    sets_none false o old e = e
    sets_none true None old e = e
    sets_none true (Some a) old e = goes (eqb (rank b) (rank a)) old e

-- answer 7 with 02h
abbrev pub ends_with02 : Answer → Bool
ends_with02 Done = false
ends_with02 BadTable = false
ends_with02 BadReport = false
ends_with02 BadEvent = false
ends_with02 NexusAboveSeven = false
ends_with02 NoSuchTask = false
ends_with02 NotEnabled = false
ends_with02 (EndedAtEntry st se) = eqb st 0x02
ends_with02 Rejected = false
ends_with02 BadPolicy = false

-- RULES 11.3: without an ACA a command is answered 02h exactly if it fails at entry
pub fails_as_answered : (s : State) (c : Entry) → c.nexus < nexuses → s.header.aca ≡ None → ends_with02 (answer s (Command c)) ≡ fails_at_entry s c
unfolding answer ruling rule_for
fails_as_answered s c l a =
    rw (lt-ltb c.nexus nexuses l)
    (check_cases (λ r. ends_with02 (answer_of r) ≡ fails_at_entry s c) s.header c (any (same c.nexus c.tag) s.tasks) (any aca_task s.tasks)
    (pending_of s c.nexus)
    (stop (λ y. rw (y, a)) λ n1.
    stop (λ f k e x. absurd (let z : ◌≡◌ {A = ℕ} 0 1 = cc in omega arith), λ f k e. absurd (let z : ◌≡◌ {A = ℕ} 0 1 = cc in omega arith)) λ n2.
    stop (λ b e. rw (n1, bit_waits s c, e, a)) λ n3.
    stop (λ e. rw (n1, bit_waits s c, n3, e, a)) λ n4.
    stop (λ e. rw (n1, bit_waits s c, n3, n4, a)) λ n5.
    rw (n1, bit_waits s c, n3, n4, a)))

-- RULES 11.3: a nexus other than the command's, which ended with 02h while no ACA was in effect, gets bit 4, since QERR 01b ended its tasks and TAS is 0
pub record ToldOfLoss (s : State) (c : Entry) (i : ℕ) (b : Bit) : Type 0 where
  pub another : i ≡ c.nexus → ⊥
  pub bit_four : b ≡ ClearedBit
  pub refused : fails_at_entry s c ≡ true
  pub all_end : ends_others s.header.policy.qerr ≡ true
  pub no_status : s.header.policy.tas ≡ false
  pub had_tasks : any (of_nexus i) s.tasks ≡ true

-- RULES 5.8 and 5.9: the highest bit of the command's own nexus, which the answer tells
pub record ToldAtEntry (s : State) (c : Entry) (i : ℕ) (b : Bit) : Type 0 where
  pub own : i ≡ c.nexus
  pub first_in_rank : highest (pending_of s i) ≡ Some b
  pub answered : answer s (Command c) ≡ EndedAtEntry 0x02 (sense_for b)

-- what a command can bring
abbrev Brought : State → Entry → ℕ → Attention → Type 0
Brought s c i Unmoved = Unit {0}
Brought s c i (Gets b) = ToldOfLoss s c i b
Brought s c i (Reports b) = (i ≡ c.nexus) × (highest (pending_of s i) ≡ Some b)

brought : (s : State) (c : Entry) (i : ℕ) → Brought s c i (attention s (Command c) i)
unfolding attention
brought s c i =
    cases (Brought s c i) (ltb c.nexus nexuses)
    (λ k.
    cases (Brought s c i) (eqb i c.nexus)
    (λ q.
    let z : i ≡ c.nexus = eqb-true i c.nexus q in
    cases (Brought s c i) (reaches3 s c && not c.exempt)
    (λ r. go (highest (pending_of s c.nexus)) z (ap (λ n. highest (pending_of s n)) z))
    (λ r. tt))
    (λ q.
    cases (Brought s c i) (fails_at_entry s c && ends_others s.header.policy.qerr)
    (λ f.
    cases (Brought s c i) (not s.header.policy.tas && not (eqb i c.nexus) && any (of_nexus i) s.tasks)
    (λ l.
    let both = and-true (fails_at_entry s c) (ends_others s.header.policy.qerr) f in
    let told = and-true (not s.header.policy.tas && not (eqb i c.nexus)) (any (of_nexus i) s.tasks) l in
    record {
      another = eqb-false i c.nexus q;
      bit_four = refl;
      refused = both.0;
      all_end = both.1;
      no_status = not-true _ (and-true (not s.header.policy.tas) (not (eqb i c.nexus)) told.0).0;
      had_tasks = told.1;
    })
    (λ l. tt))
    (λ f. tt)))
    (λ k. tt)
  where
    go : (o : Option Bit) → i ≡ c.nexus → highest (pending_of s i) ≡ o → Brought s c i (reports_bit o)
    go None q e = tt
    go (Some b) q e = (q, e)

-- bit 4 has the lowest rank: who gets it keeps the others
only_four : (b : Bit) (old : Bool) → (bit_after (Gets ClearedBit) b old ≡ old → ⊥) → b ≡ ClearedBit
only_four b old =
    every_bit (λ b. (bit_after (Gets ClearedBit) b old ≡ old → ⊥) → b ≡ ClearedBit) (λ n. absurd (n refl)) (λ n. absurd (n refl))
    (λ n. absurd (n refl))
    (λ n. absurd (n refl))
    (λ n. refl)
    b

-- a bit that a command changes is the highest of the command's own nexus, and the answer tells it, or bit 4 of another nexus that lost tasks to it; no other
-- bit of any nexus changes
pub only_one_reported :
    (s : State) (c : Entry) (i : ℕ) (b : Bit) → WellFormed s → i < nexuses
    → (is_set (pending_of (step s (Command c)) i) b ≡ is_set (pending_of s i) b → ⊥)
    → ToldAtEntry s c i b ⊎ ToldOfLoss s c i b
only_one_reported s c i b w l moved = go (attention s (Command c) i) refl (brought s c i)
  where
    go : (a : Attention) → attention s (Command c) i ≡ a → Brought s c i a → ToldAtEntry s c i b ⊎ ToldOfLoss s c i b
    go Unmoved e t = absurd (moved (rw e at (bits_after s (Command c) i b w l)))
    go (Gets x) e t =
        let four : b ≡ ClearedBit = only_four b (is_set (pending_of s i) b) (λ same. moved (rw (e, t.bit_four) at (bits_after s (Command c) i b w l) ∙ same)) in
        inr (rw (t.bit_four ∙ sym four) at t)
    go (Reports x) e t =
        split (eqb (rank b) (rank x))
        (λ k.
        let z : x ≡ b = sym (rank_place x) ∙ ap (λ n. get_or ranks n PowerBit) (sym (eqb-true (rank b) (rank x) k)) ∙ rank_place b in
        inl (record { own = t.0; first_in_rank = t.1 ∙ ap (λ y. Some y) z; answered = rw z at (reported_is_answered s c i x w e) }))
        (λ k. absurd (moved (rw (e, k) at (bits_after s (Command c) i b w l))))
