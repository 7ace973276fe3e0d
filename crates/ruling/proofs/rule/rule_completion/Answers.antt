use Rattle.std.proofs.Common.{rules}
use Rattle.rules.specs.Tasks.{same}
use Rattle.ruling.specs.Deciding.{searched_ruling}
use Rattle.ruling.proofs.rule.rule_completion.Goals as goal

pub returns : goal.returns
unfolding searched_ruling
returns c =
    rw (
      c.complete.ensures,
      c.search-found.ensures (same c.args.nexus c.args.g) (record { answers = λ t b e. search rules }),
      c.is_named-named.ensures,
      c.turn_in.ensures,
    )
