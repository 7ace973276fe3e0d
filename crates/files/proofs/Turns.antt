-- A log read stretch by stretch.
use Prim.Native.Nat.{ℕ, ◌+◌, ◌*◌, ◌≤◌}
use native.Mathlib.Omega.{arith}
use mathlib.Core.Path.{◌≡◌, refl, ◌∙◌, ap}
use mathlib.Core.List.{List, [], ◌++◌}
use lib.ListN.{length, take, drop, replicate, length-take, length-drop}
use lib.Seq.{take-add}
use Rattle.logs.specs.declared.play.Standing.{Standing}
use Rattle.logs.specs.SoFar.{wholes, SoFar}
use Rattle.logs.specs.Walking.{Ready, TakenAs}
use Rattle.logs.proofs.Onward.{goes_on, ready_on, begins}
use Rattle.records.specs.Records.{event_size}
use Rattle.records.specs.Tables.{table_size}
use Rattle.numbers.specs.Boundary.{start_number, StartsAs}
use Rattle.demands.proofs.Refused.{demand1}
use Rattle.demands.proofs.Followed.{demand2}
use Rattle.tallies.specs.Counters.{counters, tally_in}

-- between two reads
pub record Turn (stretch₀ : List ℕ) (standing : Standing) (stretch : List ℕ) (kept : ℕ) : Type 0 where
  pub stretch_long : length stretch ≡ length stretch₀
  pub ready : Ready stretch kept standing
  -- what the log has been so far
  pub log : List ℕ
  pub so_far : SoFar log standing.table standing.counts (take kept stretch)

-- a read that keeps what is carried, and the records that it brings taken in
pub read_on : {stretch₀ b₀ : List ℕ} {kept : ℕ} (w w' : Standing) (b b' : List ℕ) (more n : ℕ) → Turn stretch₀ w b₀ kept → length b ≡ length b₀
    → kept + more ≤ length b → take kept b ≡ take kept b₀ → length b' ≡ length b → TakenAs b (kept + more) w w' b' n → Turn stretch₀ w' b' n
read_on {stretch₀} {b₀} {kept} w w' b b' more n turn long few same lb taken =
    let y : Ready b (kept + more) w = record { table = turn.ready.table; report = turn.ready.report; counts = turn.ready.counts; within = few } in
    let bytes = take-add kept more b ∙ ap (λ (z : List ℕ). z ++ take more (drop kept b)) same in
    let fits : n ≤ length b' = omega (arith, taken.count, length-drop (event_size * wholes (take (kept + more) b)) (take (kept + more) b), length-take (kept + more) b) in
    record {
      stretch_long = lb ∙ long ∙ turn.stretch_long;
      ready = ready_on turn.log (take more (drop kept b)) (take kept b₀) b (kept + more) w w' b' n y taken turn.so_far bytes b' n fits;
      log = turn.log ++ take more (drop kept b);
      so_far = goes_on turn.log (take more (drop kept b)) (take kept b₀) b (kept + more) w w' b' n y taken turn.so_far bytes;
    }

-- before the first read: a table just started, and counters at zero
pub so_far_at_first : (t₀ t c : List ℕ) (a : ℕ) → length t₀ ≡ table_size → StartsAs t₀ 0 a t → c ≡ replicate counters 0 → SoFar [] t c []
so_far_at_first t₀ t c a l s e =
    let done : start_number t₀ 0 ≡ 0 = (demand1.start_done t₀ 0).1 (l, refl) in
    let table = s.table ∙ demand2.begins t₀ 0 done in
    let f = begins in
    record { table = table ∙ f.table; counts = ap tally_in e ∙ f.counts; carried = refl }
