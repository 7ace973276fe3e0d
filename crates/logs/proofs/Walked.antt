-- Records played one behind the other.
use Prim.Native.Nat.{ℕ, zero, suc, ◌+◌, ◌*◌, ◌/◌, ◌<◌, ◌≤◌}
use native.Mathlib.Omega.{arith}
use mathlib.Core.Path.{◌≡◌, refl, ◌∙◌, ap, sym}
use mathlib.Core.List.{List, ◌++◌}
use mathlib.Core.Bool.{Bool, true, false}
use lib.Dec.{eqb}
use lib.ListN.{length, get_or, take, drop, length-append}
use lib.Seq.{take_at, drop_at}
use borrow.Author.Tests.{eqb-true, eqb-false}
use Rattle.laws.specs.Lists.{one_if}
use Rattle.laws.proofs.Bools.{split}
use Rattle.octets.specs.Sizes.{kind_offset}
use Rattle.rules.specs.Tasks.{places}
use Rattle.records.specs.Records.{event_size, task_size, ended_size, marked}
use Rattle.records.specs.Tables.{report_size, count_in}
use Rattle.operations.specs.Operations.{outcome}
use Rattle.numbers.specs.Boundary.{answered, AppliesAs}
use Rattle.numbers.specs.declared.Answered.{Answered}
use Rattle.demands.specs.Seen.{ended_among}
use Rattle.demands.proofs.Refused.{demand1}
use mathlib.Core.Logic.{inl, inr}
use Rattle.tallies.specs.Counters.{count_event}
use Rattle.logs.specs.declared.play.Standing.{Standing}
use Rattle.logs.specs.Walking.{standing, count_piece, walk_over}

few_among : (n : ℕ) (l : List ℕ) → ended_among n l ≤ n
few_among zero l = omega arith
few_among (suc n) l = go (marked (take task_size l) 0x45) (few_among n (drop task_size l))
  where
    go : (b : Bool) → ended_among n (drop task_size l) ≤ n → one_if b + ended_among n (drop task_size l) ≤ suc n
    go true h = omega arith
    go false h = omega arith

-- a report has room for as many as ended
few_ended : (t r e : List ℕ) → (answered (outcome t r e)).ended ≤ places
few_ended t r e =
    let f = demand1.fields t r e in
    let a = (answered (outcome t r e)).answer in
    split (eqb a 0) (λ y. rw (f.ended (inl (eqb-true a 0 y))) (few_among places (outcome t r e).report))
    (λ y. split (eqb a 7) (λ z. rw (f.ended (inr (eqb-true a 7 z))) (few_among places (outcome t r e).report))
    (λ z. rw (f.none_ended (eqb-false a 0 y) (eqb-false a 7 z)) (omega arith)))

pub ended_fit : {t r e t' r' : List ℕ} {a : Answered} → AppliesAs t r e a t' r' → length r' ≡ report_size → ended_size * a.ended ≤ length r'
ended_fit {t} {r} {e} w h = omega (arith, ap (λ (x : Answered). x.ended) w.answer, few_ended t r e)

pub piece_counted : (w : Standing) (e t' r' c' : List ℕ) (a : Answered) → AppliesAs w.table w.report e a t' r'
    → c' ≡ count_event a (get_or e kind_offset 0) r' (count_in t') w.counts → standing t' r' c' ≡ count_piece w e
unfolding count_piece
piece_counted w e t' r' c' a s k =
    let counts = k ∙ λ i. count_event (s.answer i) (get_or e kind_offset 0) (s.report i) (count_in (s.table i)) w.counts in
    λ i. record { table = s.table i; report = s.report i; counts = counts i }

-- a loop's turn: the next record, and the bytes behind it
pub walk_step : (l e l' : List ℕ) (w w' : Standing) → l ≡ e ++ l' → length e ≡ event_size → w' ≡ count_piece w e
    → walk_over (length l' / event_size) w' l' ≡ walk_over (length l / event_size) w l
unfolding walk_over
walk_step l e l' w w' parts h counted =
    let k : length l / event_size ≡ suc (length l' / event_size) = omega (arith, ap length parts ∙ length-append e l', h) in
    let first = sym (take_at e l' event_size h) in
    let behind = sym (drop_at e l' event_size h) in
    rw (counted, k, parts) (λ i. walk_over (length l' / event_size) (count_piece w (first i)) (behind i))

pub walk_done : (l : List ℕ) (w : Standing) → length l < event_size → walk_over (length l / event_size) w l ≡ w
unfolding walk_over
walk_done l w h = let k : length l / event_size ≡ 0 = omega arith in rw k refl
