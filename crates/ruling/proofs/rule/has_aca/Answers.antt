use Rattle.std.proofs.Common.{rules, drop}
use Rattle.octets.specs.Sizes.{tasks_at}
use Rattle.rules.specs.Tasks.{aca_task}
use Rattle.records.specs.Tables.{tasks_from}
use Rattle.decide.proofs.Chosen.{here_any}
use Rattle.ruling.proofs.rule.has_aca.Goals as goal

pub returns-in-Some : goal.returns-in-Some
returns-in-Some c =
    rw (c.in-Some.is, c.is_some.ensures, c.search.ensures aca_task (record { answers = λ t b e. search rules }))
    (here_any aca_task (tasks_from c.args.n (drop tasks_at c.args.t.now)))
