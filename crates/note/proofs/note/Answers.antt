use Rattle.std.proofs.Common.{◌+◌, ◌*◌, refl, ◌∙◌, arith}
use lib.Seq.{drop-set-lt}
use Rattle.octets.specs.Sizes.{nexus_size, nexuses_at, tasks_at, pending_offset, pendings_at}
use Rattle.steps.specs.Steps.{noted_bytes}
use Rattle.steps.proofs.InPlace.{byte_of, walk_begins, walk_store, walk_ends}
use Rattle.note.proofs.note.Goals as goal

pub loop-i-init : goal.loop-i-init
unfolding noted_bytes
loop-i-init c = (walk_begins _ _ (omega arith), refl)

pub loop-i-preserved : goal.loop-i-preserved
loop-i-preserved c =
    let now = c.loop-i in
    let inv = now.invariant in
    let at = pendings_at + nexus_size * now.i in
    let byte = byte_of nexus_size now.t (nexuses_at + nexus_size * now.i) pending_offset at (omega arith) (omega arith) in (
      walk_store inv.0 c.loop-i-test.true pending_offset _ at (omega arith) (omega arith) refl
          (rw (c.pending_number.ensures, c.noted_one.ensures, c.pending_from-p.ensures, c.loses-lost.ensures, byte, inv.1))
          refl,
      drop-set-lt tasks_at now.t at _ (omega arith) ∙ inv.1,
    )

pub returns : goal.returns
returns c = walk_ends c.loop-i.invariant.0 (omega arith)
