use Rattle.std.proofs.Common.{◌<◌, ◌≡◌, sym, ◌∙◌, arith, rules, length, length-append, ap}
use Rattle.std.specs.Iterator.Adapters.{take_source, take_count}
use Rattle.std.specs.Slice.Iter.{chunks_exact_rest, chunks_exact_size}
use Rattle.tallies.proofs.Counting.{count_ends_step, count_ends_done}
use Rattle.tallies.proofs.count.count_ends.Goals as goal

pub loop-ended-preserved : goal.loop-ended-preserved
loop-ended-preserved c =
    let loop = c.loop-ended.invariant in
    let step = c.in-Some.ensures.steps in
    let parts = ap length step.0.1.0 ∙ length-append c.in-Some.ended.now (chunks_exact_rest (take_source c.next.new.self)) in
    record {
      can = search rules;
      finite = tt;
      long = search rules;
      whole = step.0.0 ∙ loop.whole;
      within = omega (arith, step.1, loop.within, parts, step.0.1.1 ∙ loop.whole);
      counted = count_ends_step _ _ _ _ _ _ _ step.1 step.0.1.0 (step.0.1.1 ∙ loop.whole) c.once_more.ensures ∙ loop.counted;
    }

pub returns : goal.returns
returns c =
    let loop = c.loop-ended.invariant in
    let left = c.loop-ended.ended-iterator in
    let short : 0 < take_count left → length (chunks_exact_rest (take_source left)) < chunks_exact_size (take_source left)
    = λ some. (c.in-None.ensures.steps some).1.0 in
    let none : take_count left ≡ 0 = grind (arith, short, loop.whole, loop.within) in
    sym (count_ends_done (take_count left) _ _ none) ∙ loop.counted
