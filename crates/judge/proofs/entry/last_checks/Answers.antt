use Rattle.judge.specs.LastChecks.{last_checks}
use Rattle.judge.proofs.entry.last_checks.Goals as goal

-- the check finds this alone; it stands so that TASK SET FULL with another effect is refused for what no longer holds, and not because a search gave up
pub returns-then-is_full : goal.returns-then-is_full
unfolding last_checks
returns-then-is_full c =
    simp (c.ended_with.ensures, c.if-is_full.true, ← c.is_full.ensures, c.if-bad_attribute.false, ← c.bad_attribute.ensures)
