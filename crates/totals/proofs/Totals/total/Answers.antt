use Rattle.std.proofs.Common.{arith, rules, sym, subst}
use Rattle.logs.specs.SoFar.{OfSomeLogs}
use Rattle.totals.specs.declared.Totals.{Totals}
use Rattle.totals.proofs.Together.{log_added}
use Rattle.totals.proofs.Totals.total.Goals.{in-Ok, in-Err}
use Rattle.totals.proofs.Totals.total.Goals as goal

pub returns : goal.returns
returns g c =
    elim c.match-tallied.branch [
      | in-Ok w ↦
          subst (λ (t : Totals). OfSomeLogs t.all) (sym w.self-is)
          (log_added _ _ _ (omega arith) (omega arith) c.requires (search rules) w.add_log.ensures)
      | in-Err w ↦ subst (λ (t : Totals). OfSomeLogs t.all) (sym w.self-is) c.requires
    ]
