use Rattle.std.proofs.Common.{rules, drop, arith}
use lib.Seq.{take_at}
use Rattle.octets.specs.Sizes.{tasks_at}
use Rattle.records.proofs.Good.{bytes_drop}
use Rattle.inspect.specs.TableTest.{keys_from}
use Rattle.inspect.proofs.Keys.{keys_long, noted_spared}
use Rattle.inspect.proofs.fits.names_fit.Goals as goal

pub distinct-requires : goal.distinct-requires
distinct-requires c =
    let l = drop tasks_at c.args.t.now in (
      omega arith,
      noted_spared c.args.n l (bytes_drop c.args.t.now tasks_at (λ i. search rules)) _ c.note_keys.ensures,
    )

pub returns : goal.returns
returns c =
    let l = drop tasks_at c.args.t.now in
    rw (c.distinct.ensures, c.note_keys.ensures, take_at (keys_from c.args.n l) _ c.args.n (keys_long c.args.n l))
