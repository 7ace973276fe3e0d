use Rattle.lines.proofs.PutBytes.{put_all}
use Rattle.lines.proofs.Writer.put_line.Goals as goal

pub returns-clause-puts : goal.returns-clause-puts
returns-clause-puts c = search put_all
