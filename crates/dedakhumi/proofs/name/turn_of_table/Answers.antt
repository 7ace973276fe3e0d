use Rattle.std.proofs.Common.{◌∙◌, arith}
use Rattle.records.proofs.Good.{table_tested}
use Rattle.ruling.proofs.Decided.{good_few, header_read, turn_read}
use Rattle.dedakhumi.proofs.name.turn_of_table.Goals as goal

pub header_in-h-requires : goal.header_in-h-requires
header_in-h-requires c = omega (arith, (table_tested c.args.t.now c.requires).long)

pub turn_in-requires-clause-long : goal.turn_in-requires-clause-long
turn_in-requires-clause-long c = (table_tested c.args.t.now c.requires).long

pub turn_in-requires-clause-within : goal.turn_in-requires-clause-within
turn_in-requires-clause-within c =
    let t = c.args.t.now in
    rw (header_read t c.header_in-h.result c.header_in-h.ensures) (good_few t c.requires)

pub returns : goal.returns
returns c =
    let t = c.args.t.now in
    let h = c.header_in-h.result in
    c.turn_in.ensures ∙ turn_read t h c.requires (header_read t h c.header_in-h.ensures)
