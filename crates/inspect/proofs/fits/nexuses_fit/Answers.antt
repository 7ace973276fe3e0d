use Rattle.std.proofs.Common.{◌≡◌, ◌-◌, arith}
use Rattle.rules.specs.Tasks.{nexuses}
use Rattle.inspect.proofs.Loops.{nexuses_next, nexuses_end}
use Rattle.inspect.proofs.fits.nexuses_fit.Goals as goal

pub returns-then-not-nexus_fits : goal.returns-then-not-nexus_fits
returns-then-not-nexus_fits c =
    (rw (
      nexuses_next c.args.t.now c.loop-n.n c.loop-n-test.true,
      ← c.load_record.ensures,
      ← c.nexus_fits.ensures,
      c.if-not-nexus_fits.true,
    )
    at c.loop-n.invariant)

pub loop-n-preserved : goal.loop-n-preserved
loop-n-preserved c =
    (rw (
      nexuses_next c.args.t.now c.loop-n.n c.loop-n-test.true,
      ← c.load_record.ensures,
      ← c.nexus_fits.ensures,
      c.if-not-nexus_fits.false,
    )
    at c.loop-n.invariant)

pub returns : goal.returns
returns c =
    let all : nexuses - c.loop-n.n ≡ 0 = omega arith in
    (rw (all, nexuses_end) at c.loop-n.invariant)
