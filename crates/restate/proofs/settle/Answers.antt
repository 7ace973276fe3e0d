use Rattle.std.proofs.Common.{◌+◌, ◌*◌, refl, arith}
use Rattle.octets.specs.Sizes.{task_size, tasks_at, attribute_offset, state_offset, attributes_at, states_at}
use Rattle.steps.specs.Steps.{settled_bytes}
use Rattle.steps.proofs.InPlace.{byte_of, walk_begins, walk_store, walk_ends}
use Rattle.restate.proofs.settle.Goals as goal

pub loop-i-init : goal.loop-i-init
unfolding settled_bytes
loop-i-init c = rw c.no_older-o.ensures (walk_begins _ _ (omega arith))

pub loop-i-preserved : goal.loop-i-preserved
loop-i-preserved c =
    let now = c.loop-i in
    let byte = byte_of task_size now.t (tasks_at + task_size * now.i) attribute_offset (attributes_at + task_size * now.i) (omega arith) (omega arith) in
    walk_store now.invariant c.loop-i-test.true state_offset _ (states_at + task_size * now.i) (omega arith) (omega arith) refl
    (rw (c.state_number.ensures, c.settled_state.ensures, c.attribute_from-a.ensures, byte))
    (rw (c.behind-o.ensures, c.attribute_from-a.ensures, byte))

pub returns : goal.returns
returns c = walk_ends c.loop-i.invariant (omega arith)
