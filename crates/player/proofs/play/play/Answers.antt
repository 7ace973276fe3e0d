use Rattle.std.proofs.Common.{◌≡◌, ◌∙◌, ap, arith, rules}
use Rattle.std.specs.Slice.Iter.{chunks_rest}
use Rattle.std.proofs.Math.Seq.{take-length}
use Rattle.player.proofs.Pieces.{begun, one_less, onward, ended}
use Rattle.player.proofs.play.play.Goals as goal

-- what the pieces are of is written out, so that a piece left out is refused for that: a part of the events is not the events
pub loop-event-init : goal.loop-event-init
loop-event-init c =
    let of_all : chunks_rest c.into_iter-event-iterator.result ≡ c.args.events.now =
    ap chunks_rest c.into_iter-event-iterator.ensures.into_iter_gives ∙ c.chunks-event-items.ensures.rest ∙ search (rules, take-length) in
    record {
      can = search rules;
      finite = tt;
      size = search rules;
      same = search rules;
      long = search rules;
      room = search rules;
      played_on = begun c.args.events.now _ _ of_all;
    }

pub loop-event-preserved : goal.loop-event-preserved
loop-event-preserved c =
    let loop = c.loop-event.invariant in
    let step = c.in-Some.ensures.steps in
    let one = c.play_one.ensures.one in
    let size = rw loop.size at step.1.1 in
    record {
      can = search rules;
      finite = tt;
      size = step.0 ∙ loop.size;
      same = c.play_one.ensures.same ∙ loop.same;
      long = one.text.long ∙ loop.long;
      room = omega (arith, one.short, loop.room, one_less _ _ _ step.1.0 size step.1.2);
      played_on = onward _ _ _ step.1.0 size step.1.2 _ _ one loop.played_on;
    }

pub returns : goal.returns
returns c =
    let loop = c.loop-event.invariant in
    ended _ loop.played_on c.in-None.ensures.steps.1.0 (omega (arith, loop.long, loop.room)) (search rules)
