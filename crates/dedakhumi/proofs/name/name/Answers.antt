use Rattle.std.proofs.Common.{sym, ◌∙◌}
use Rattle.operations.proofs.Names.{named_bad, named_good}
use Rattle.dedakhumi.proofs.name.name.Goals as goal

pub returns-then-not-table_fits : goal.returns-then-not-table_fits
returns-then-not-table_fits c = rw (named_bad c.args.t.now (sym c.table_fits.ensures ∙ c.if-not-table_fits.true))

pub turn_of_table-requires : goal.turn_of_table-requires
turn_of_table-requires c = sym c.table_fits.ensures ∙ c.if-not-table_fits.false

pub returns : goal.returns
returns c =
    rw (named_good c.args.t.now (sym c.table_fits.ensures ∙ c.if-not-table_fits.false), c.turn_of_table.ensures)
