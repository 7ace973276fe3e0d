use Rattle.std.proofs.Common.{sym, ◌∙◌, arith}
use Rattle.operations.proofs.Looked.{refused_as, no_table_lem, no_report, no_event, no_nexus, ruled_on}
use Rattle.dedakhumi.proofs.apply.apply.Goals as goal

pub returns-then-not-table_fits : goal.returns-then-not-table_fits
returns-then-not-table_fits c =
    let a = c.args in
    refused_as c.refuse.result a.t.now a.report.now
    (no_table_lem a.t.now a.report.now a.event.now (sym c.table_fits.ensures ∙ c.if-not-table_fits.true))
    c.refuse.ensures

pub returns-then-report-ne-REPORT_SIZE : goal.returns-then-report-ne-REPORT_SIZE
returns-then-report-ne-REPORT_SIZE c =
    let a = c.args in
    let refuse = c.refuse-then-report-ne-REPORT_SIZE in
    let good = sym c.table_fits.ensures ∙ c.if-not-table_fits.false in
    refused_as refuse.result a.t.now a.report.now
    (no_report a.t.now a.report.now a.event.now good c.if-report-ne-REPORT_SIZE.true)
    refuse.ensures

pub returns-in_default : goal.returns-in_default
returns-in_default c =
    let a = c.args in
    let refuse = c.refuse-in_default in
    let good = sym c.table_fits.ensures ∙ c.if-not-table_fits.false in
    refused_as refuse.result a.t.now a.report.now
    (no_event a.t.now a.report.now a.event.now good c.if-report-ne-REPORT_SIZE.false (sym c.event_of.ensures ∙ c.in_default.is))
    refuse.ensures

pub returns-then-nexus_of-ge-NEXUS_BOUND : goal.returns-then-nexus_of-ge-NEXUS_BOUND
returns-then-nexus_of-ge-NEXUS_BOUND c =
    let a = c.args in
    let refuse = c.refuse-then-nexus_of-ge-NEXUS_BOUND in
    let good = sym c.table_fits.ensures ∙ c.if-not-table_fits.false in
    refused_as refuse.result a.t.now a.report.now
    (no_nexus a.t.now a.report.now a.event.now good c.if-report-ne-REPORT_SIZE.false c.in-Some.e (sym c.event_of.ensures ∙ c.in-Some.is)
    (rw c.nexus_of.ensures at c.if-nexus_of-ge-NEXUS_BOUND.true))
    refuse.ensures

pub on_event-requires : goal.on_event-requires
on_event-requires c = (
  sym c.table_fits.ensures ∙ c.if-not-table_fits.false,
  omega (arith, c.nexus_of.ensures, c.if-nexus_of-ge-NEXUS_BOUND.false),
)

pub returns : goal.returns
returns c =
    let a = c.args in
    let good = sym c.table_fits.ensures ∙ c.if-not-table_fits.false in
    rw (ruled_on a.t.now a.report.now a.event.now good c.if-report-ne-REPORT_SIZE.false c.in-Some.e (sym c.event_of.ensures ∙ c.in-Some.is))
    (rw c.in-Some-as_mut_array.ensures.cases.same at c.on_event.ensures)
