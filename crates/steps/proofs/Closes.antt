-- Closing up: records kept in place, and what is left behind them cleared.
use Rattle.std.specs.Prelude.{Some, None}
use Prim.Native.Nat.{ℕ, suc, ◌+◌, ◌-◌, ◌*◌, ◌≤◌, ◌<◌}
use mathlib.Core.Bool.{Bool, true, false}
use mathlib.Core.Path.{◌≡◌, refl, sym, ◌∙◌}
use mathlib.Core.List.{List, ◌∷◌, ◌++◌, map, append_assoc, append-nil}
use native.Mathlib.Omega.{arith}
use lib.ListN.{length, take, drop}
use lib.Seq.{drop-drop}
use Rattle.laws.specs.RecordsInLists.{record_at, put_at, each_record, kept_records, advanced}
use Rattle.laws.proofs.RecordsInLists.{record_long, put_long, put_behind, kept_step, kept_end}
use Rattle.rules.specs.Rulings.{kept, fate_of}
use Rattle.records.specs.Records.{task_size, task_from, unused_bytes}
use Rattle.records.specs.Tables.{tasks_at, tasks_from, unused_records}
use Rattle.steps.proofs.InPlace.{each_new}
use Rattle.rules.specs.Types.{Task, Fate, Sweep}
use Rattle.steps.specs.Steps.{cleared_record, next_place, vacated_bytes, ends_fate, gone_by, kept_count, closed_bytes}
use Rattle.steps.specs.Closing.{one_unless, KeptAs}

-- How many stay ----------------------------------------------------------------------------------------------------------------------------

count_one :
    (f : Fate) (fs : List Fate) (t : Task) (ts : List Task)
    → length (kept (f ∷ fs) (t ∷ ts)) ≡ one_unless (ends_fate f) + length (kept fs ts)
count_one None fs t ts = omega arith
count_one (Some st) fs t ts = omega arith

count_next :
    (w : Sweep) (m : ℕ) (b : List ℕ) (at : ℕ)
    → kept_count w (suc m) (drop at b) ≡ one_unless (gone_by w (record_at task_size b at)) + kept_count w m (drop (at + task_size) b)
unfolding tasks_from
count_next w m b at =
    rw (sym (drop-drop task_size at b))
    (count_one (fate_of w (task_from (record_at task_size b at)))
    (map (fate_of w) (tasks_from m (drop task_size (drop at b))))
    (task_from (record_at task_size b at))
    (tasks_from m (drop task_size (drop at b))))

count_none : (w : Sweep) (l : List ℕ) → kept_count w 0 l ≡ 0
unfolding tasks_from
count_none w l = refl

-- Keeping ----------------------------------------------------------------------------------------------------------------------------------

-- where the i-th task record stands
abbrev pub place : ℕ → ℕ
place i = tasks_at + task_size * i

-- of n records i are passed, and k of them stay
pub record Keeping (w : Sweep) (n : ℕ) (b₀ b : List ℕ) (k i : ℕ) : Type 0 where
  pub room : place n ≤ length b
  pub long : length b ≡ length b₀
  pub passed : i ≤ n
  pub few : k ≤ i
  pub counted : k + kept_count w (n - i) (drop (place i) b) ≡ kept_count w n (drop tasks_at b₀)
  pub rest :
      take (place k) b ++ kept_records task_size (gone_by w) (n - i) (drop (place i) b)
      ≡ take tasks_at b₀ ++ kept_records task_size (gone_by w) n (drop tasks_at b₀)
  pub beyond : drop (place n) b ≡ drop (place n) b₀

next_place_lem : (g : Bool) (k : ℕ) → advanced g (place k) task_size ≡ place (k + one_unless g)
next_place_lem true k = omega arith
next_place_lem false k = omega arith

one_at_most : (g : Bool) → one_unless g ≤ 1
one_at_most true = omega arith
one_at_most false = omega arith

pub keep_on :
    {w : Sweep} {n : ℕ} {b₀ b : List ℕ} {k i : ℕ} → Keeping w n b₀ b k i → i < n → {b' : List ℕ} {k' : ℕ}
    → b' ≡ put_at task_size b (place k) (record_at task_size b (place i))
    → k' ≡ k + one_unless (gone_by w (record_at task_size b (place i))) → Keeping w n b₀ b' k' (i + 1)
keep_on {w} {n} {b₀} {b} {k} {i} inv h {b'} {k'} p q =
    let r = record_at task_size b (place i) in
    let one_less : n - i ≡ suc (n - (i + 1)) = omega arith in
    let next : place (i + 1) ≡ place i + task_size = omega arith in
    let fits : place i + task_size ≤ length b = omega arith in
    let free : place k + task_size ≤ length b = omega arith in
    let wide : length r ≡ task_size = record_long task_size b (place i) fits in
    let same : length b' ≡ length b = rw p (put_long task_size b r (place k) free wide) in
    let behind : (m : ℕ) → drop (place k + task_size + m) b' ≡ drop (place k + task_size + m) b = λ m. rw p (put_behind task_size b r (place k) free wide m) in
    let ahead : place k + task_size + task_size * (i - k) ≡ place i + task_size = omega arith in
    let past : place k + task_size + task_size * (n - (k + 1)) ≡ place n = omega arith in
    let here : place k + task_size * (i - k) ≡ place i = omega arith in
    record {
      room = rw same inv.room;
      long = same ∙ inv.long;
      passed = omega arith;
      few = omega (arith, one_at_most (gone_by w r));
      counted =
          rw (next, (rw ahead at (behind (task_size * (i - k)))))
          (omega (arith, (rw one_less at inv.counted), count_next w (n - (i + 1)) b (place i)));
      rest =
          rw (next, q, ← next_place_lem (gone_by w r) k, p)
          ((rw here at (kept_step task_size (gone_by w) (n - (i + 1)) (task_size * (i - k)) b (place k) (omega arith))) ∙ (rw one_less at inv.rest));
      beyond = (rw past at (behind (task_size * (n - (k + 1))))) ∙ inv.beyond;
    }

pub keep_ends : {w : Sweep} {n : ℕ} {b₀ b : List ℕ} {k i : ℕ} → Keeping w n b₀ b k i → n ≤ i → KeptAs w n b₀ b k
keep_ends {w} {n} {b₀} {b} {k} {i} inv h =
    let e : n - i ≡ 0 = omega arith in
    record {
      counted = omega (arith, (rw e at inv.counted), count_none w (drop (place i) b));
      few = omega arith;
      long = inv.long;
      kept = sym (append-nil (take (place k) b)) ∙ (rw (e, kept_end) at inv.rest);
      beyond = inv.beyond;
    }

-- Clearing ---------------------------------------------------------------------------------------------------------------------------------

pub cleared : (m i : ℕ) (l : List ℕ) → each_record task_size cleared_record next_place i m l ≡ unused_records m ++ drop (task_size * m) l
unfolding unused_records
cleared m i l = each_new task_size (λ k. unused_bytes) (λ k j. unused_records k) (λ j. refl) (λ k j. refl) m i l

pub kept_cleared :
    {w : Sweep} {n : ℕ} {b after : List ℕ} {k : ℕ} → KeptAs w n b after k → vacated_bytes k (n - k) after ≡ closed_bytes w n b
unfolding vacated_bytes closed_bytes
kept_cleared {w} {n} {b} {after} {k} s =
    let e : place k + task_size * (n - k) ≡ place n = omega arith in
    rw (cleared (n - k) k (drop (place k) after), drop-drop, e, s.kept, s.beyond, ← s.counted)
    (append_assoc (take tasks_at b) (kept_records task_size (gone_by w) n (drop tasks_at b)) (unused_records (n - k) ++ drop (place n) b))
