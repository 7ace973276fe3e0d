use mathlib.Core.Path.{◌∙◌}
use Rattle.laws.proofs.Bits.{no_bit_between}
use Rattle.records.proofs.WordTests.{unused_word}
use Rattle.records.proofs.tasks.unlike_unused.Goals as goal

pub returns : goal.returns
returns c = no_bit_between c.word_of.result 0x5454 ∙ unused_word c.args.r c.word_of.result c.word_of.ensures
