use Rattle.std.proofs.Common.{◌∙◌}
use Rattle.blocks.proofs.Numerals.{fewest_numeral}
use Rattle.blocks.proofs.put_number.Goals as goal

pub returns-clause-puts : goal.returns-clause-puts
returns-clause-puts c =
    let decimal = c.decimal-k in
    rw (decimal.ensures.digits ∙ fewest_numeral c.args.n decimal.result c.ranges.n.fits decimal.ensures.len) at c.put_bytes.ensures
