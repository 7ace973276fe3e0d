use Rattle.std.proofs.Common.{refl, rules}
use Rattle.blocks.proofs.PutBlocks.{put_whole}
use Rattle.blocks.proofs.put_unreadable.Goals as goal

-- so that another word is refused for its bytes, and not because a search gave up
pub returns : goal.returns
returns c = put_whole c.put_name.ensures refl (search rules)
