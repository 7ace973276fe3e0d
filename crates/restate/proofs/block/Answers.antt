use Rattle.std.proofs.Common.{◌+◌, ◌*◌, refl, arith}
use Rattle.octets.specs.Sizes.{task_size, tasks_at, state_offset, states_at}
use Rattle.steps.specs.Steps.{blocked_bytes}
use Rattle.steps.proofs.InPlace.{byte_of, walk_begins, walk_store, walk_ends}
use Rattle.restate.proofs.block.Goals as goal

pub loop-i-init : goal.loop-i-init
unfolding blocked_bytes
loop-i-init c = walk_begins _ _ (omega arith)

pub loop-i-preserved : goal.loop-i-preserved
loop-i-preserved c =
    let now = c.loop-i in
    let byte = byte_of task_size now.t (tasks_at + task_size * now.i) state_offset (states_at + task_size * now.i) (omega arith) (omega arith) in
    walk_store now.invariant c.loop-i-test.true state_offset _ (states_at + task_size * now.i) (omega arith) (omega arith) refl
    (rw (c.state_number.ensures, c.blocked_state.ensures, c.state_from-s.ensures, byte))
    refl

pub returns : goal.returns
returns c = walk_ends c.loop-i.invariant (omega arith)
