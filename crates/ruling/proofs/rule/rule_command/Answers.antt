use Rattle.std.proofs.Common.{rules, drop}
use Rattle.octets.specs.Sizes.{tasks_at}
use Rattle.rules.specs.Tasks.{same}
use Rattle.records.specs.Tables.{tasks_from}
use Rattle.decide.proofs.Chosen.{here_any}
use Rattle.ruling.specs.Deciding.{searched_ruling}
use Rattle.ruling.proofs.rule.rule_command.Goals as goal

pub returns : goal.returns
unfolding searched_ruling
returns c =
    let a = c.args in
    rw (
      c.enter.ensures,
      c.pending_at.ensures,
      c.is_some-here.ensures,
      c.search.ensures (same a.c.nexus a.c.tag) (record { answers = λ t b e. search rules }),
      c.has_aca-aca_here.ensures,
      here_any (same a.c.nexus a.c.tag) (tasks_from a.h.count (drop tasks_at a.t.now)),
    )
