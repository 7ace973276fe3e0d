use Rattle.std.proofs.Common.{rules, drop}
use Rattle.octets.specs.Sizes.{tasks_at}
use Rattle.steps.specs.Steps.{ends_of}
use Rattle.steps.proofs.ListedEnds.{report_whole}
use Rattle.report.proofs.write_report.Goals as goal

pub returns : goal.returns
returns c =
    let a = c.args in
    let listed = c.list_ends-m in (
      listed.ensures.counted,
      report_whole (ends_of a.w a.n (drop tasks_at a.t.now)) a.report.now _ _ listed.result
          (search rules) listed.ensures c.zero_rest.ensures,
      listed.ensures.few,
    )
