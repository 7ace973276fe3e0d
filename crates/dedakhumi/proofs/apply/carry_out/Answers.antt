use Rattle.std.proofs.Common.{rules, refl, ◌∙◌}
use Rattle.records.proofs.Good.{table_tested}
use Rattle.operations.proofs.Looked.{zeroed}
use Rattle.dedakhumi.proofs.apply.carry_out.Goals as goal

pub returns-in-Keeps : goal.returns-in-Keeps
returns-in-Keeps c =
    rw c.in-Keeps.is
    (record {
      answer = refl;
      ended = refl;
      table = refl;
      report = (rw c.writes_report.ensures at c.zero_if.ensures) ∙ zeroed c.in-Keeps.a c.args.report.now (search rules);
    })

pub unreachable-requires : goal.unreachable-requires
unreachable-requires c = c.in_default.ensures.cases (table_tested c.args.t.now c.requires.0).long

pub change-ended-requires : goal.change-ended-requires
change-ended-requires c =
    rw c.in-Some.ensures.cases.same
    (record {
      good = c.requires.0;
      counted = rw c.requires.1;
      aca = rw c.requires.1;
      lasts = rw c.in-Changes.is at c.requires.3;
      well = rw c.in-Changes.is at c.requires.2;
    })

pub returns-in-Some : goal.returns-in-Some
returns-in-Some c =
    let change = rw c.in-Some.ensures.cases.same at c.change-ended.ensures in
    rw c.in-Changes.is (record { answer = refl; ended = change.ended; table = change.table; report = change.report })
