-- Status, sense and ended count of an answer: what apply's fields are under each number.
use Prim.Native.Nat.{ℕ, zero, suc, ◌+◌, ◌-◌, ◌*◌, ◌≤◌}
use mathlib.Core.Path.{◌≡◌, refl, ap, sym, ◌∙◌}
use mathlib.Core.List.{List, [], ◌∷◌, ◌++◌}
use mathlib.Core.Logic.{◌⊎◌, inl, inr}
use native.Mathlib.Omega.{arith}
use lib.ListN.{length, get_or, drop, replicate}
use lib.Seq.{get_or-take, get_or-drop}
use Rattle.laws.specs.RecordsInLists.{joined}
use Rattle.rules.specs.Tasks.{places}
use Rattle.rules.specs.Rulings.{State, answer_of, report_of}
use Rattle.rules.specs.Rules.{ruling, answer}
use Rattle.rules.proofs.Ruled.{answer_ruled, report_short}
use Rattle.rules.proofs.RulingCases.{ruling_cases}
use Rattle.rules.proofs.Refusals.{sense_with_check, status_of_entry}
use Rattle.records.specs.Records.{task_size, ended_bytes}
use Rattle.records.specs.Tables.{report_size, report_bytes}
use Rattle.operations.specs.AnswerNumbers.{only, said}
use Rattle.operations.specs.Operations.{refused, carried}
use Rattle.operations.proofs.Answered.{number_of, said_no_status, number_at_entry, writes_report_ended}
use Rattle.rules.specs.Types.{Event, Ended, Answer, Done, BadTable, BadReport, BadEvent, NexusAboveSeven, NoSuchTask, NotEnabled, EndedAtEntry, Rejected, BadPolicy, Ruling, Keeps, Changes}
use Rattle.demands.specs.Seen.{ended_among, ended_in}
use Rattle.demands.specs.Demands.{Fields}

-- Ended records ------------------------------------------------------------------------------------------------------------------------------

no_records : (n : ℕ) (l : List ℕ) → ((i : ℕ) → get_or l i 0 ≡ 0) → ended_among n l ≡ 0
no_records zero l z = refl
no_records (suc n) l z =
    rw (get_or-take task_size l 0 0 (omega arith), z 0)
    (omega (arith, no_records n (drop task_size l) (λ i. get_or-drop task_size l i 0 ∙ z (task_size + i))))

zeros : (m i : ℕ) → ◌≡◌ {A = ℕ} (get_or (replicate m 0) i 0) 0
zeros zero i = refl
zeros (suc m) zero = refl
zeros (suc m) (suc i) = zeros m i

records_counted : (n m : ℕ) (es : List Ended) → length es ≤ n → ended_among n (joined ended_bytes es ++ replicate m 0) ≡ length es
records_counted n m [] l = no_records n (replicate m 0) (zeros m)
records_counted zero m (e ∷ es) l = absurd (omega arith)
records_counted (suc n) m (e ∷ es) l = rw (records_counted n m es (omega arith)) (omega arith)

report_counted : (es : List Ended) → length es ≤ 64 → ended_in (report_bytes es) ≡ length es
unfolding report_bytes
report_counted es l = records_counted places (report_size - task_size * length es) es l

-- The fields ---------------------------------------------------------------------------------------------------------------------------------

pub refused_fields : (a : Answer) (n : ℕ) (t r : List ℕ) → said a ≡ only n → 1 ≤ n → n ≤ 6 → Fields (refused a t r)
refused_fields a n t r e low high =
    record {
      no_status = λ q. ap (λ z. z.status) e;
      status = λ q. absurd (omega (arith, ap (λ z. z.number) e));
      sense_zero = λ q. (ap (λ z. z.sense.key) e, ap (λ z. z.sense.code) e, ap (λ z. z.sense.qualifier) e);
      ended = λ q. absurd (neither q);
      none_ended = λ p q. refl;
    }
  where
    neither : (number_of a ≡ 0) ⊎ (number_of a ≡ 7) → ⊥
    neither (inl q) = omega (arith, ap (λ z. z.number) e)
    neither (inr q) = omega (arith, ap (λ z. z.number) e)

module _ (s : State) (v : Event) (t r : List ℕ) (few : length s.tasks ≤ 64) where
  sense_zero :
      (a : Answer) → answer s v ≡ a → ((said a).status ≡ 0x02 → ⊥)
      → ((said a).sense.key ≡ 0) × ((said a).sense.code ≡ 0) × ((said a).sense.qualifier ≡ 0)
  sense_zero Done q n = (refl, refl, refl)
  sense_zero BadTable q n = (refl, refl, refl)
  sense_zero BadReport q n = (refl, refl, refl)
  sense_zero BadEvent q n = (refl, refl, refl)
  sense_zero NexusAboveSeven q n = (refl, refl, refl)
  sense_zero NoSuchTask q n = (refl, refl, refl)
  sense_zero NotEnabled q n = (refl, refl, refl)
  sense_zero (EndedAtEntry st se) q n =
      let z = sense_with_check s v st se q n in (ap (λ x. x.key) z, ap (λ x. x.code) z, ap (λ x. x.qualifier) z)
  sense_zero Rejected q n = (refl, refl, refl)
  sense_zero BadPolicy q n = (refl, refl, refl)

  counted :
      (l : Ruling) → (number_of (answer_of l) ≡ 0) ⊎ (number_of (answer_of l) ≡ 7)
      → length (report_of s l) ≡ ended_in (carried t r s l).report
  counted (Keeps a) q = rw (writes_report_ended a q) (sym (report_counted [] (omega arith)))
  counted (Changes a c) q =
      sym (report_counted (report_of s (Changes a c)) (omega (arith, report_short s (Changes a c))))

  none_counted :
      (number_of (answer_of (ruling s v)) ≡ 0 → ⊥) → (number_of (answer_of (ruling s v)) ≡ 7 → ⊥) → length (report_of s (ruling s v)) ≡ 0
  none_counted =
      ruling_cases (λ l. (number_of (answer_of l) ≡ 0 → ⊥) → (number_of (answer_of l) ≡ 7 → ⊥) → length (report_of s l) ≡ 0) s v (λ a p q. refl)
      (λ c p q. absurd (p refl))
      (λ st se c p q. absurd (q refl))

  pub ruled_fields : Fields (carried t r s (ruling s v))
  ruled_fields =
      record {
        no_status = said_no_status (answer_of (ruling s v));
        status = λ q. number_at_entry (answer_of (ruling s v)) q (λ st se e. rw e (status_of_entry s v st se (answer_ruled s v ∙ e)));
        sense_zero = sense_zero (answer_of (ruling s v)) (answer_ruled s v);
        ended = counted (ruling s v);
        none_ended = none_counted;
      }
