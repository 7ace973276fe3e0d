use Rattle.std.proofs.Common.{sym, inl, inr}
use Rattle.lines.proofs.PutBytes.{put_digit, put_digits}
use Rattle.lines.proofs.Writer.put_decimal.Goals.{then-n-ge100, else-n-ge100}
use Rattle.lines.proofs.Writer.put_decimal.Goals as goal

pub returns-then-n-lt10-clause-puts : goal.returns-then-n-lt10-clause-puts
returns-then-n-lt10-clause-puts c = put_digit c.args.n c.if-n-lt10.true (rw c.digit.ensures at c.put.ensures)

pub returns-clause-puts : goal.returns-clause-puts
returns-clause-puts c =
    let n = c.args.n in
    put_digits n c.if-n-lt10.false
    (elim c.if-n-ge100.branch [
      | then-n-ge100 w ↦ inl (w.if-n-ge100.true, rw w.self-is (rw w.digit-then-n-ge100.ensures at w.put-then-n-ge100.ensures))
      | else-n-ge100 w ↦ inr (w.if-n-ge100.false, sym w.self-is)
    ])
    (rw c.digit-2.ensures at c.put-2.ensures) (rw c.digit-3.ensures at c.put-3.ensures)
