use Rattle.files.proofs.Turns.{Turn}
use Rattle.files.proofs.tally_log.Given as goal

abbrev pub invariant-loop : goal.invariant-loop
invariant-loop g l = Turn l.fn.stretch l.standing l.stretch l.kept
