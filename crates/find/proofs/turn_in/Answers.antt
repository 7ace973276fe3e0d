use Rattle.std.proofs.Common.{rules}
use Rattle.rules.specs.Tasks.{aca_task, enabled_head, enabled_plain}
use Rattle.find.proofs.turn_in.Goals as goal

pub returns-in-Some : goal.returns-in-Some
returns-in-Some c =
    rw (c.turn_of.ensures, c.in-Some.is, c.search.ensures aca_task (record { answers = λ t b e. search rules }))

pub returns-in-None : goal.returns-in-None
returns-in-None c =
    rw (
      c.turn_of-in-None.ensures,
      c.in-None.is,
      c.choose.ensures,
      c.search-in-None.ensures enabled_head (record { answers = λ t b e. search rules }),
      c.search-in-None-2.ensures enabled_plain (record { answers = λ t b e. search rules }),
    )
