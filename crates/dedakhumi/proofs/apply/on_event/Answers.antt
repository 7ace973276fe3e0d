use Rattle.std.proofs.Common.{arith}
use Rattle.rules.specs.Rules.{ruling}
use Rattle.rules.specs.Rulings.{ruled}
use Rattle.rules.proofs.Policies.{what_lasts}
use Rattle.rules.proofs.WellKept.{from_tested}
use Rattle.rules.proofs.FairRulings.{tested_ruling}
use Rattle.records.specs.Tables.{state_of}
use Rattle.records.proofs.Good.{table_tested, good_tested}
use Rattle.ruling.proofs.Decided.{good_few, header_read, ruling_read}
use Rattle.dedakhumi.proofs.apply.on_event.Goals as goal

pub header_in-h-requires : goal.header_in-h-requires
header_in-h-requires c = omega (arith, (table_tested c.args.t.now c.requires.0).long)

pub unreachable-requires : goal.unreachable-requires
unreachable-requires c = c.in_default.ensures.cases (table_tested c.args.t.now c.requires.0).long

pub rule-r-requires : goal.rule-r-requires
rule-r-requires c =
    let t = c.args.t.now in (
      rw (header_read t c.header_in-h.result c.header_in-h.ensures) (good_few t c.requires.0),
      c.requires.1,
    )

pub carry_out-requires : goal.carry_out-requires
carry_out-requires c =
    let t = c.args.t.now in
    let e = c.args.e in
    let same = c.in-Some.ensures.cases.same in
    let h = header_read t c.header_in-h.result c.header_in-h.ensures in (
      c.requires.0,
      h,
      rw (c.rule-r.ensures, same, ruling_read t c.header_in-h.result c.requires.0 h e c.requires.1)
          (from_tested (ruled (state_of t) (ruling (state_of t) e)) (tested_ruling (state_of t) e (good_tested t c.requires.0))),
      rw (c.rule-r.ensures, same, ruling_read t c.header_in-h.result c.requires.0 h e c.requires.1) (what_lasts (state_of t) e),
    )

pub returns : goal.returns
returns c =
    let t = c.args.t.now in
    let same = c.in-Some.ensures.cases.same in
    let h = header_read t c.header_in-h.result c.header_in-h.ensures in
    rw (c.rule-r.ensures, same, ruling_read t c.header_in-h.result c.requires.0 h c.args.e c.requires.1) at c.carry_out.ensures
