use Rattle.std.proofs.Common.{◌∙◌}
use Rattle.steps.proofs.Closes.{kept_cleared}
use Rattle.close.proofs.close_up.Goals as goal

pub returns : goal.returns
returns c =
    let kept = c.keep-k.ensures in
    (kept.counted, c.vacate.ensures ∙ kept_cleared kept, kept.few)
