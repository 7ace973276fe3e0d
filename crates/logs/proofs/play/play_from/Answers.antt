use Rattle.std.proofs.Common.{◌∙◌, sym, arith, rules}
use Rattle.logs.proofs.Walked.{walk_step, walk_done}
use Rattle.logs.proofs.play.play_from.Goals as goal

pub loop-event-preserved : goal.loop-event-preserved
loop-event-preserved c =
    let loop = c.loop-event.invariant in
    let step = c.in-Some.ensures.steps in
    record {
      can = search rules;
      finite = tt;
      size = step.0 ∙ loop.size;
      walked = walk_step _ _ _ _ _ step.1.0 (step.1.1 ∙ loop.size) c.play_one.ensures ∙ loop.walked;
    }

pub returns : goal.returns
returns c =
    let loop = c.loop-event.invariant in
    record {
      stood = sym (walk_done _ _ (omega (arith, c.in-None.ensures.steps.1.0, loop.size))) ∙ loop.walked;
      place = omega (arith, c.requires);
    }
