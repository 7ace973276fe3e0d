-- Laws of listing the ended tasks one by one.
use Rattle.std.specs.Prelude.{Some, None}
use Prim.Native.Nat.{ℕ, ◌+◌, ◌-◌, ◌*◌, ◌≤◌, ◌<◌}
use mathlib.Core.Path.{◌≡◌, refl, sym, ap, ◌∙◌}
use mathlib.Core.List.{List, [], ◌∷◌, ◌++◌, map, append_assoc, append-nil}
use native.Mathlib.Omega.{arith}
use lib.ListN.{length, take, drop, replicate, length-append, length-take, length-drop, drop_of_length-le}
use Rattle.laws.specs.RecordsInLists.{record_at, joined}
use Rattle.octets.specs.Sizes.{task_size, ended_size, tasks_at, report_size}
use Rattle.rules.specs.Tasks.{places}
use Rattle.rules.specs.Rulings.{fate_of, ended_from}
use Rattle.records.specs.Records.{task_from, ended_bytes}
use Rattle.records.specs.Tables.{tasks_from, report_bytes}
use Rattle.rules.specs.Types.{Task, Ended, Fate, Sweep}
use Rattle.steps.specs.Steps.{ends_of}
use Rattle.steps.specs.Reports.{ended_as, Listed, ListedAs}
use Rattle.records.proofs.TaskRecords.{tasks_next, tasks_end}

pub joined_append : {A : Type 0} (W : A → List ℕ) (xs ys : List A) → joined W (xs ++ ys) ≡ joined W xs ++ joined W ys
joined_append W [] ys = refl
joined_append W (x ∷ xs) ys = rw (append_assoc, joined_append W xs ys)

-- One task ---------------------------------------------------------------------------------------------------------------------------------

few_ended : (f : Fate) (x : Task) → length (ended_as f x) ≤ 1
few_ended None x = omega arith
few_ended (Some st) x = omega arith

-- All of them ------------------------------------------------------------------------------------------------------------------------------

ended_next : (f : Fate) (x : Task) (fs : List Fate) (xs : List Task) → ended_from (f ∷ fs) (x ∷ xs) ≡ ended_as f x ++ ended_from fs xs
ended_next None x fs xs = refl
ended_next (Some st) x fs xs = refl

abbrev ended_at : Sweep → List ℕ → ℕ → List Ended
ended_at w t i = let x = task_from (record_at task_size t (tasks_at + task_size * i)) in ended_as (fate_of w x) x

abbrev left_at : Sweep → ℕ → List ℕ → ℕ → List Ended
left_at w n t i = ends_of w (n - i) (drop (tasks_at + task_size * i) t)

ends_next : (w : Sweep) (n : ℕ) (t : List ℕ) (i : ℕ) → i < n → left_at w n t i ≡ ended_at w t i ++ left_at w n t (i + 1)
ends_next w n t i h =
    let x = task_from (record_at task_size t (tasks_at + task_size * i)) in
    let xs = tasks_from (n - (i + 1)) (drop (tasks_at + task_size * (i + 1)) t) in
    rw (tasks_next n i t h) (ended_next (fate_of w x) x (map (fate_of w) xs) xs)

-- i of the n tasks passed, and m of them listed
pub record Listing (w : Sweep) (n : ℕ) (t before after : List ℕ) (m i : ℕ) : Type 0 where
  pub long : length after ≡ length before
  pub passed : i ≤ n
  pub few : m ≤ i
  pub counted : m + length (ends_of w (n - i) (drop (tasks_at + task_size * i) t)) ≡ length (ends_of w n (drop tasks_at t))
  pub listed : take (ended_size * m) after ++ joined ended_bytes (ends_of w (n - i) (drop (tasks_at + task_size * i) t)) ≡ joined ended_bytes (ends_of w n (drop tasks_at t))

pub listing_more :
    (w : Sweep) (n : ℕ) (t b₀ b b₁ : List ℕ) (m i k : ℕ) → i < n → Listing w n t b₀ b m i → Listed w m (record_at task_size t (tasks_at + task_size * i)) b b₁ k
    → Listing w n t b₀ b₁ k (i + 1)
listing_more w n t b₀ b b₁ m i k h g l =
    let x = task_from (record_at task_size t (tasks_at + task_size * i)) in
    let next = ends_next w n t i h in
    record {
      long = l.long ∙ g.long;
      passed = omega arith;
      few = omega (arith, l.counted, g.few, few_ended (fate_of w x) x);
      counted = omega (arith, l.counted, g.counted, simp length-append at (ap length next));
      listed =
          rw (l.listed, append_assoc)
          (ap (λ (z : List ℕ). take (ended_size * m) b ++ z)
          (sym (joined_append ended_bytes (ended_at w t i) (left_at w n t (i + 1))) ∙ ap (joined ended_bytes) (sym next))
          ∙ g.listed);
    }

pub listing_all :
    (w : Sweep) (n : ℕ) (t b₀ b : List ℕ) (m i : ℕ) → n ≤ places → n ≤ i → Listing w n t b₀ b m i
    → ListedAs (ends_of w n (drop tasks_at t)) b₀ b m
listing_all w n t b₀ b m i s h g =
    let none = tasks_end n i (drop (tasks_at + task_size * i) t) h in
    record {
      counted = (let q : m + 0 ≡ m = omega arith in rw (none, q) at g.counted);
      few = omega (arith, g.few, g.passed);
      long = g.long;
      listed = rw (none, append-nil) at g.listed;
    }

-- the rest, lent as a part, is back as zeros
pub report_whole :
    (es : List Ended) (b₀ b z : List ℕ) (m : ℕ) → length b₀ ≡ report_size → ListedAs es b₀ b m
    → z ≡ replicate (length (take (report_size - ended_size * m) (drop (ended_size * m) b))) 0
    → take (ended_size * m) b ++ (z ++ drop (report_size - ended_size * m) (drop (ended_size * m) b)) ≡ report_bytes es
unfolding report_bytes
report_whole es b₀ b z m l g q =
    let all : length b ≡ report_size = g.long ∙ l in
    let rest : length (drop (ended_size * m) b) ≡ report_size - ended_size * m = rw (length-drop, all) in
    let part : length (take (report_size - ended_size * m) (drop (ended_size * m) b)) ≡ report_size - ended_size * m = simp (length-take, rest) (omega arith) in
    let none : drop (report_size - ended_size * m) (drop (ended_size * m) b) ≡ [] = drop_of_length-le (drop (ended_size * m) b) {i = report_size - ended_size * m} (omega (arith, rest)) in
    rw (none, q, part, append-nil, g.listed, ← g.counted)
