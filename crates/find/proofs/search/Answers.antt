use Rattle.std.proofs.Common.{arith, ap, ◌≡◌, ◌∙◌, ℕ, ◌+◌, ◌-◌, ◌*◌, ◌<◌, Bool, true, false, cond, List, drop}
use Rattle.std.specs.Prelude.{Option, Some}
use Rattle.laws.specs.Lists.{first}
use Rattle.laws.specs.RecordsInLists.{record_at}
use Rattle.octets.specs.Sizes.{task_size, tasks_at}
use Rattle.rules.specs.Types.{Task}
use Rattle.records.specs.Records.{task_from}
use Rattle.records.specs.Tables.{tasks_from}
use Rattle.records.proofs.TaskRecords.{tasks_next}
use Rattle.find.proofs.search.Goals as goal

-- at a task, whose record stands at the place j, the first is that one, where it passes, and else one behind it
at_task :
    (p : Task → Bool) (n i : ℕ) {j : ℕ} (t : List ℕ) (k : Task) (b : Bool) {o : Option Task}
    → k ≡ task_from (record_at task_size t j) → j ≡ tasks_at + task_size * i → i < n → b ≡ p k
    → first p (tasks_from (n - i) (drop (tasks_at + task_size * i) t)) ≡ o
    → cond b (Some k) (first p (tasks_from (n - (i + 1)) (drop (tasks_at + task_size * (i + 1)) t))) ≡ o
unfolding tasks_from
at_task p n i t k b e place l says f = rw (tasks_next n i t l, ← (e ∙ ap (λ (h : ℕ). task_from (record_at task_size t h)) place), ← says) at f

pub returns-then-wants : goal.returns-then-wants
returns-then-wants g c p says =
    at_task p c.args.n c.loop-i.i c.args.t.now c.task_from-k.result true (rw c.get_tagged.ensures at c.task_from-k.ensures) (omega (arith, c.loop-i-test.true))
    c.loop-i-test.true (says.answers c.task_from-k.result true c.if-wants.ensures) (c.loop-i.invariant p says)

pub loop-i-preserved : goal.loop-i-preserved
loop-i-preserved g c p says =
    at_task p c.args.n c.loop-i.i c.args.t.now c.task_from-k.result false (rw c.get_tagged.ensures at c.task_from-k.ensures) (omega (arith, c.loop-i-test.true))
    c.loop-i-test.true (says.answers c.task_from-k.result false c.if-wants.ensures) (c.loop-i.invariant p says)

pub returns : goal.returns
unfolding tasks_from
returns g c p says =
    let none : c.args.n - c.loop-i.i ≡ 0 = omega arith in
    (rw none at (c.loop-i.invariant p says))
