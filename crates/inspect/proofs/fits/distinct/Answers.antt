use Rattle.std.proofs.Common.{◌≡◌, ◌∙◌, arith}
use lib.Seq.{slice_empty}
use Rattle.inspect.specs.TableTest.{keys_apart}
use Rattle.inspect.proofs.Keys.{slice_next, slice_past, four_held}
use Rattle.inspect.proofs.fits.distinct.Goals as goal

pub loop-j-init : goal.loop-j-init
unfolding keys_apart
loop-j-init c =
    let h = c.pairs-test.true in
    record {
      here = h;
      low = c.requires.1.low c.pairs.i h;
      clear = c.pairs.invariant.clear;
      rest = rw (slice_next c.args.keys.now c.pairs.i c.args.n h (omega arith)) at c.pairs.invariant.rest;
    }

pub loop-j-preserved : goal.loop-j-preserved
unfolding keys_apart
loop-j-preserved c =
    let turn = c.loop-j in
    record {
      here = turn.invariant.here;
      low = turn.invariant.low;
      clear = turn.invariant.clear;
      rest =
          rw (four_held c.args.keys.now c.args.n _ _ (omega arith) c.requires.0 c.requires.1 turn.invariant.low turn.j c.loop-j-test.true c.contains.ensures.value, c.if-contains.false)
          at turn.invariant.rest;
    }

pub pairs-preserved : goal.pairs-preserved
unfolding keys_apart
pairs-preserved c =
    let turn = c.loop-j in
    record {
      passed = omega arith;
      clear = turn.invariant.clear;
      rest = rw (slice_past c.args.keys.now turn.j c.args.n c.loop-j-test.false) at turn.invariant.rest;
    }

pub returns-after-pairs : goal.returns-after-pairs
unfolding keys_apart
returns-after-pairs c =
    let turn = c.pairs in
    let all : turn.i ≡ c.args.n = omega arith in
    turn.invariant.clear ∙ (rw (all, slice_empty) at turn.invariant.rest)

pub returns-then-contains : goal.returns-then-contains
unfolding keys_apart
returns-then-contains c =
    let turn = c.loop-j in
    (rw (four_held c.args.keys.now c.args.n _ _ (omega arith) c.requires.0 c.requires.1 turn.invariant.low turn.j c.loop-j-test.true c.contains.ensures.value, c.if-contains.true)
    at turn.invariant.rest)
