-- Laws of asking who loses a task.
use Rattle.std.specs.Prelude.{Some, None}
use Prim.Native.Nat.{ℕ, ◌+◌, ◌-◌, ◌*◌, ◌≤◌, ◌<◌}
use mathlib.Core.Path.{◌≡◌, refl, sym, ap, ◌∙◌}
use mathlib.Core.Bool.{Bool, ◌&&◌, ◌||◌, or_assoc, or-false}
use mathlib.Core.List.{List, ◌∷◌, map}
use lib.ListN.{drop}
use Rattle.laws.specs.Lists.{any}
use Rattle.laws.specs.RecordsInLists.{record_at}
use Rattle.octets.specs.Sizes.{task_size, tasks_at}
use Rattle.rules.specs.Rulings.{fate_of, lost}
use Rattle.records.specs.Records.{task_from}
use Rattle.records.specs.Tables.{tasks_from}
use Rattle.rules.specs.Types.{Task, Fate, Sweep}
use Rattle.steps.specs.Steps.{ends_fate, losers}
use Rattle.records.proofs.TaskRecords.{tasks_next, tasks_end}

lost_next :
    (p : Task → Bool) (f : Fate) (x : Task) (fs : List Fate) (xs : List Task)
    → any p (lost (f ∷ fs) (x ∷ xs)) ≡ (ends_fate f && p x) || any p (lost fs xs)
lost_next p None x fs xs = refl
lost_next p (Some st) x fs xs = refl

module _ (p : Task → Bool) (w : Sweep) (n : ℕ) (t : List ℕ) where
  pub losing_next :
      (b : Bool) (i : ℕ) → i < n
      → (b || (ends_fate (fate_of w (task_from (record_at task_size t (tasks_at + task_size * i)))) && p (task_from (record_at task_size t (tasks_at + task_size * i)))))
      || any p (losers w (n - (i + 1)) (drop (tasks_at + task_size * (i + 1)) t))
      ≡ b || any p (losers w (n - i) (drop (tasks_at + task_size * i) t))
  losing_next b i h =
      let x = task_from (record_at task_size t (tasks_at + task_size * i)) in
      let xs = tasks_from (n - (i + 1)) (drop (tasks_at + task_size * (i + 1)) t) in
      or_assoc b (ends_fate (fate_of w x) && p x) (any p (lost (map (fate_of w) xs) xs))
      ∙ ap (λ (z : Bool). b || z) (sym (lost_next p (fate_of w x) x (map (fate_of w) xs) xs))
      ∙ ap (λ (z : List Task). b || any p (lost (map (fate_of w) z) z)) (sym (tasks_next n i t h))

  pub losing_all : (b : Bool) (i : ℕ) → n ≤ i → b || any p (losers w (n - i) (drop (tasks_at + task_size * i) t)) ≡ b
  losing_all b i h = rw (tasks_end n i (drop (tasks_at + task_size * i) t) h) (or-false b)
