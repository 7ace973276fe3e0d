use Rattle.std.proofs.Common.{◌≡◌, ◌-◌, ◌+◌, ◌*◌, sym, ◌∙◌, drop, arith}
use lib.ListN.{length-set, take-append-drop}
use Rattle.octets.specs.Sizes.{task_size, tasks_at}
use Rattle.inspect.specs.TableTest.{keys_from}
use Rattle.inspect.proofs.Loops.{keys_next}
use Rattle.inspect.proofs.Keys.{store_next}
use Rattle.inspect.proofs.fits.note_keys.Goals as goal

pub loop-i-init : goal.loop-i-init
unfolding keys_from
loop-i-init c =
    let n = c.args.n in
    let all : n - 0 ≡ n = omega arith in
    record { long = omega arith; passed = omega arith; rest = rw all }

pub loop-i-preserved : goal.loop-i-preserved
unfolding keys_from
loop-i-preserved c =
    let n = c.args.n in
    let i = c.loop-i.i in
    let h = c.loop-i-test.true in
    let rest = keys_from (n - (i + 1)) (drop (tasks_at + task_size * (i + 1)) c.args.t.now) in
    record {
      long = simp length-set c.loop-i.invariant.long;
      passed = omega arith;
      rest =
          rw (
            store_next c.loop-i.keys rest n i c.key_of.result h (omega (arith, c.loop-i.invariant.long)),
            c.key_of.ensures,
            c.task_from-k.ensures,
            c.get_tagged.ensures,
          )
          (rw (keys_next c.args.t.now n i h) at c.loop-i.invariant.rest);
    }

pub returns : goal.returns
unfolding keys_from
returns c =
    let n = c.args.n in
    let all : c.loop-i.i ≡ n = omega (arith, c.loop-i.invariant.passed) in
    let none : n - n ≡ 0 = omega arith in
    sym (take-append-drop n c.loop-i.keys) ∙ (rw (all, none) at c.loop-i.invariant.rest)
