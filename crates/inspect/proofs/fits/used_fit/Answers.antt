use Rattle.std.proofs.Common.{◌≡◌, ◌-◌, arith}
use mathlib.Core.Bool.{and-false as and_off}
use Rattle.inspect.specs.TableTest.{used_fit}
use Rattle.inspect.proofs.Loops.{used_next}
use Rattle.inspect.proofs.fits.used_fit.Goals as goal

pub loop-i-init : goal.loop-i-init
unfolding used_fit
loop-i-init c =
    let n = c.args.n in let all : n - 0 ≡ n = omega arith in rw (all, c.no_older-o.ensures)

pub returns-then-not-fits : goal.returns-then-not-fits
unfolding used_fit
returns-then-not-fits c =
    (rw (
      used_next c.args.t.now c.args.n c.loop-i.i c.loop-i-test.true c.args.aca c.loop-i.o,
      ← c.load_record-r.ensures,
      ← c.task_from-k.ensures,
      ← c.fits.ensures,
      c.if-not-fits.true,
      and_off,
    )
    at c.loop-i.invariant)

pub returns-then-not-task_fits : goal.returns-then-not-task_fits
unfolding used_fit
returns-then-not-task_fits c =
    (rw (
      used_next c.args.t.now c.args.n c.loop-i.i c.loop-i-test.true c.args.aca c.loop-i.o,
      ← c.load_record-r.ensures,
      ← c.task_fits.ensures,
      c.if-not-task_fits.true,
    )
    at c.loop-i.invariant)

pub loop-i-preserved : goal.loop-i-preserved
unfolding used_fit
loop-i-preserved c =
    rw (c.behind-o.ensures, c.task_from-k.ensures)
    (rw (
      used_next c.args.t.now c.args.n c.loop-i.i c.loop-i-test.true c.args.aca c.loop-i.o,
      ← c.load_record-r.ensures,
      ← c.task_fits.ensures,
      c.if-not-task_fits.false,
      ← c.task_from-k.ensures,
      ← c.fits.ensures,
      c.if-not-fits.false,
    )
    at c.loop-i.invariant)

pub returns : goal.returns
unfolding used_fit
returns c =
    let none : c.args.n - c.loop-i.i ≡ 0 = omega arith in
    (rw none at c.loop-i.invariant)
