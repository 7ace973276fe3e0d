use Rattle.std.proofs.Common.{rules}
use Rattle.records.specs.Numbers.{policy_from}
use Rattle.dedakhumi.proofs.FreshTable.{fresh_bytes}
use Rattle.dedakhumi.proofs.start.write_fresh.Goals as goal

pub returns : goal.returns
returns c =
    rw (
      c.vacate.ensures,
      c.write_nexuses.ensures,
      c.put_record.ensures,
      c.header_bytes.ensures,
      c.fresh-h.ensures,
      c.policy_from.ensures,
    )
    (fresh_bytes (policy_from c.args.policy) c.args.t.now (search rules))
