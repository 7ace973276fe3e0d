-- RULES 24.12: a log goes on, wherever it was cut.
use Prim.Native.Nat.{ℕ, ◌+◌, ◌<◌, ◌≤◌, max}
use native.Mathlib.Omega.{arith}
use mathlib.Core.Path.{◌≡◌, refl, ◌∙◌, ap, sym, subst}
use mathlib.Core.List.{List, [], ◌∷◌, ◌++◌}
use lib.ListN.{length, get_or, take, replicate, length-replicate}
use lib.Seq.{take_all, take-paste, paste}
use Rattle.rules.specs.Types.{Event}
use Rattle.rules.specs.Rulings.{State, fresh}
use Rattle.rules.proofs.FreshSet.{fresh_tasks}
use Rattle.rules.proofs.WellKept.{Tested, tested_fresh}
use Rattle.records.specs.Numbers.{policy_from}
use Rattle.records.specs.Tables.{table_size, report_size, counts_of, table_bytes}
use Rattle.records.proofs.ReadBack.{length_table}
use Rattle.history.specs.History.{Past, begin, advance, play, after}
use Rattle.history.proofs.Advanced.{play_append}
use Rattle.history.proofs.Reached.{tested_after}
use Rattle.demands.specs.Calls.{opened}
use Rattle.tallies.specs.Tally.{statuses, events_from, events_of, by_status, entries_with, largest_over, tally_of}
use Rattle.tallies.specs.Counters.{entry_at, accepted_at, largest_at, left_at, counters}
use Rattle.tallies.proofs.Numbered.{length_each, get_d_each, zero_at}
use Rattle.tallies.proofs.Telling.{tells_same, shows_tells, tells_shows}
use Rattle.logs.specs.SoFar.{wholes, rest, SoFar}
use Rattle.logs.specs.declared.play.Standing.{Standing}
use Rattle.logs.specs.Walking.{standing, walk_over, Ready, TakenAs}
use Rattle.logs.proofs.Events.{events_onward, rest_onward}
use Rattle.logs.proofs.Stands.{Stands, stands_same, entries_append, largest_append, walk_stands}

abbrev start : Past
start = begin (fresh (policy_from 0))

abbrev past_of : List ℕ → Past
past_of l = after (policy_from 0) (events_of l)

-- what has to stand where the log has been l so far
abbrev StandsFor : List ℕ → Standing → Type 0
StandsFor l w = Stands (past_of l) (λ s. entries_with s start (events_of l)) (largest_over start (events_of l)) w

each_status : (f : ℕ → ℕ) (s : ℕ) → s < statuses → get_or (by_status f) s 0 ≡ f s
each_status f s h = let z : 0 + s ≡ s = omega arith in get_d_each statuses 0 f s h ∙ rw z refl

highest : (h : Past) (es : List Event) → length (play h es).state.tasks ≤ max (length h.state.tasks) (largest_over h es)
highest h [] = omega arith
highest h (e ∷ es) = omega (arith, highest (advance h e) es)

so_far_stands : (l k : List ℕ) (w : Standing) (b : List ℕ) (end : ℕ) → Ready b end w → SoFar l w.table w.counts k → StandsFor l w
so_far_stands l k w b end y f =
    record {
      tested = tested_after (policy_from 0) (events_of l);
      table = f.table;
      report = y.report;
      above = omega (arith, highest start (events_of l), ap length (fresh_tasks (policy_from 0)));
      tells =
          tells_same (λ s h. each_status _ s h) (λ s h. each_status _ s h) refl refl refl
          (shows_tells w.counts (tally_of l) (record { long = y.counts; shown = f.counts }));
    }

stands_so_far : (l k : List ℕ) (w : Standing) → StandsFor l w → k ≡ rest l → SoFar l w.table w.counts k
stands_so_far l k w s e =
    record {
      table = s.table;
      counts =
          (tells_shows w.counts (tally_of l) (length_each statuses 0 _) (length_each statuses 0 _)
          (tells_same (λ i h. sym (each_status _ i h)) (λ i h. sym (each_status _ i h)) refl refl refl s.tells)
          ).shown;
      carried = e;
    }

goes : (l s : List ℕ) (w : Standing) → StandsFor l w → StandsFor (l ++ s) (walk_over (wholes (rest l ++ s)) w (rest l ++ s))
goes l s w st =
    let es = events_of l in
    let fs = events_from (wholes (rest l ++ s)) (rest l ++ s) in
    rw (events_onward l s, play_append start es fs)
    (stands_same (λ i. sym (entries_append i start es fs)) (sym (largest_append start es fs))
    (walk_stands (wholes (rest l ++ s)) (past_of l) _ _ w (rest l ++ s) st))

pasted_front : (b s : List ℕ) (n : ℕ) → n ≡ length s → take n (paste b 0 s n) ≡ s
pasted_front b s n e =
    let z : n ≡ 0 + n = omega arith in
    ap (λ k. take k (paste b 0 s n)) z ∙ take-paste b 0 s n (omega arith) (omega arith) ∙ take_all n s (omega arith)

length_table_bytes : (s : State) → Tested s → length (table_bytes s) ≡ table_size
unfolding table_bytes
length_table_bytes s w = length_table (counts_of s) s w.eight w.few

-- where the log has been l, and the stretch s is read behind what was carried
module _ (l s k b : List ℕ) (end : ℕ) (w w' : Standing) (b' : List ℕ) (n : ℕ) (y : Ready b end w) (a : TakenAs b end w w' b' n) (f : SoFar l w.table w.counts k) (e : take end b ≡ k ++ s) where
  bytes : take end b ≡ rest l ++ s
  bytes = e ∙ ap (λ (z : List ℕ). z ++ s) f.carried

  stands : StandsFor (l ++ s) w'
  stands = subst (StandsFor (l ++ s)) (sym (rw bytes at a.stood)) (goes l s w (so_far_stands l k w b end y f))

  -- it has been l and s
  pub goes_on : SoFar (l ++ s) w'.table w'.counts (take n b')
  goes_on = stands_so_far (l ++ s) (take n b') w' stands (ap (take n) a.carried ∙ pasted_front b (rest (take end b)) n a.count ∙ ap rest bytes ∙ sym (rest_onward l s))

  -- and can go on
  pub ready_on : (d : List ℕ) (at : ℕ) → at ≤ length d → Ready d at w'
  ready_on d at h =
      record {
        table = ap length stands.table ∙ length_table_bytes (past_of (l ++ s)).state stands.tested;
        report = stands.report;
        counts = stands.tells.long;
        within = h;
      }

-- before its first byte
pub begins : SoFar [] (opened (policy_from 0)) (replicate counters 0) []
unfolding opened events_from
begins =
    stands_so_far [] [] (standing (opened (policy_from 0)) (replicate report_size 0) (replicate counters 0))
    (record {
      tested = tested_fresh (policy_from 0);
      table = refl;
      report = length-replicate {A = ℕ} report_size 0;
      above = omega (arith, ap length (fresh_tasks (policy_from 0)));
      tells =
          record {
            long = length-replicate {A = ℕ} counters 0;
            ends = λ s h. zero_at counters s;
            entry = λ s h. zero_at counters (entry_at + s);
            accepted = zero_at counters accepted_at;
            largest = zero_at counters largest_at;
            left = rw (fresh_tasks (policy_from 0)) (zero_at counters left_at);
          };
    })
    refl
