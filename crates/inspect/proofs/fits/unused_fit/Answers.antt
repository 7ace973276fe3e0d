use Rattle.std.proofs.Common.{◌≡◌, ◌-◌, eqb, sym, ◌∙◌, arith}
use mathlib.Core.Bool.{and_assoc, and-true}
use Rattle.laws.proofs.Bits.{no_bit_of_two}
use Rattle.rules.specs.Tasks.{places}
use Rattle.inspect.proofs.Loops.{unused_next, unused_end}
use Rattle.inspect.proofs.fits.unused_fit.Goals as goal

pub loop-i-preserved : goal.loop-i-preserved
loop-i-preserved c =
    (rw (
      unused_next c.args.t.now c.loop-i.i (omega arith),
      ← c.load_record.ensures,
      ← c.unlike_unused-unlike.ensures,
      ← and_assoc,
      ← no_bit_of_two c.loop-i.unlike c.unlike_unused-unlike.result,
    )
    at c.loop-i.invariant)

pub returns : goal.returns
returns c =
    let all : places - c.loop-i.i ≡ 0 = omega arith in
    sym (and-true (eqb c.loop-i.unlike 0)) ∙ (rw (all, unused_end) at c.loop-i.invariant)
