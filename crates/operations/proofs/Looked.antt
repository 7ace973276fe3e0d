-- The looks that come before an event is ruled on.
use Rattle.std.specs.Prelude.{Option, Some, None}
use Prim.Native.Nat.{ℕ, ◌≤◌, ◌<◌}
use mathlib.Core.Bool.{true, false, cond}
use mathlib.Core.Path.{◌≡◌, refl, ap, ◌∙◌}
use mathlib.Core.List.{List, []}
use lib.ListN.{length, replicate}
use lib.Dec.{eqb, ltb}
use borrow.Author.Tests.{eqb-true, eqb-false, eq-eqb, ne_eqb, ltb-true, ltb-false}
use Rattle.laws.proofs.Bools.{cases, split, not_both}
use Rattle.rules.specs.Tasks.{nexuses}
use Rattle.rules.specs.Rulings.{State}
use Rattle.rules.specs.Rules.{nexus_of, ruling}
use Rattle.rules.proofs.Cases.{ruling_high}
use Rattle.records.specs.Tables.{report_size, state_of, GoodTable, report_bytes, good_table}
use Rattle.records.specs.Events.{event_of}
use Rattle.records.proofs.GoodSays.{good_table_says}
use Rattle.rules.specs.Types.{Event, Answer, BadTable, BadReport, BadEvent, NexusAboveSeven, Rejected, Keeps}
use Rattle.operations.specs.Types.{Applied}
use Rattle.operations.specs.AnswerNumbers.{writes_report}
use Rattle.operations.specs.Operations.{Outcome, refused, carried, on_event, outcome, AppliedAs}

pub refused_as : {o : Outcome} {a : Answer} (x : Applied) (t r : List ℕ) → o ≡ refused a t r → (x.answer ≡ a) × (x.ended ≡ 0) → AppliedAs o x t r
refused_as x t r e f = rw e (record { answer = f.0; ended = f.1; table = refl; report = refl })

pub zeroed :
    (a : Answer) (r : List ℕ) → length r ≡ report_size → cond (writes_report a) (replicate (length r) 0) r ≡ cond (writes_report a) (report_bytes []) r
unfolding report_bytes
zeroed a r l = ap (λ (n : ℕ). cond (writes_report a) (replicate n 0) r) l

-- an event that is rejected empties the report
pub rejected_empties : (t r : List ℕ) (s : State) → (carried t r s (Keeps Rejected)).report ≡ report_bytes []
rejected_empties t r s = refl

module _ (t r e : List ℕ) where
  pub no_table_lem : good_table t ≡ false → outcome t r e ≡ refused BadTable t r
  unfolding outcome
  no_table_lem h = rw h

  pub no_report : good_table t ≡ true → (length r ≡ report_size → ⊥) → outcome t r e ≡ refused BadReport t r
  unfolding outcome
  no_report h l = rw (h, ne_eqb (length r) report_size l)

  module _ (h : good_table t ≡ true) (l : length r ≡ report_size) where
    pub looked : (o : Option Event) → event_of e ≡ o → outcome t r e ≡ on_event t r o
    unfolding outcome
    looked o f = rw (h, eq-eqb (length r) report_size l, f)

    pub no_event : event_of e ≡ None → outcome t r e ≡ refused BadEvent t r
    no_event f = looked None f

    pub ruled_on : (v : Event) → event_of e ≡ Some v → outcome t r e ≡ carried t r (state_of t) (ruling (state_of t) v)
    ruled_on v f = looked (Some v) f

    pub no_nexus : (v : Event) → event_of e ≡ Some v → nexuses ≤ nexus_of v → outcome t r e ≡ refused NexusAboveSeven t r
    no_nexus v f g = ruled_on v f ∙ rw (ruling_high (state_of t) v g)

-- where each answer comes from
pub outcome_cases : (P : Outcome → Type 0) (t r e : List ℕ)
    → ((GoodTable t → ⊥) → P (refused BadTable t r))
    → (GoodTable t → (length r ≡ report_size → ⊥) → P (refused BadReport t r))
    → (GoodTable t → length r ≡ report_size → event_of e ≡ None → P (refused BadEvent t r))
    → (GoodTable t → length r ≡ report_size → (v : Event) → event_of e ≡ Some v → nexuses ≤ nexus_of v → P (refused NexusAboveSeven t r))
    → (GoodTable t → length r ≡ report_size → (v : Event) → event_of e ≡ Some v → nexus_of v < nexuses
    → P (carried t r (state_of t) (ruling (state_of t) v)))
    → P (outcome t r e)
unfolding outcome
outcome_cases P t r e table report event nexus rule =
    cases P (good_table t)
    (λ g.
    cases P (eqb (length r) report_size) (λ l. go ((good_table_says t).0 g) (eqb-true (length r) report_size l) (event_of e) refl)
    (λ l. report ((good_table_says t).0 g) (eqb-false (length r) report_size l)))
    (λ g. table (λ w. not_both ((good_table_says t).1 w) g))
  where
    go : GoodTable t → length r ≡ report_size → (o : Option Event) → event_of e ≡ o → P (on_event t r o)
    go w l None q = event w l q
    go w l (Some v) q =
        split (ltb (nexus_of v) nexuses) (λ h. rule w l v q (ltb-true (nexus_of v) nexuses h))
        (λ h. let n = ltb-false (nexus_of v) nexuses h in rw (ruling_high (state_of t) v n) (nexus w l v q n))
