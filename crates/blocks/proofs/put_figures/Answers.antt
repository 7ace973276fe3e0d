use Rattle.tallies.specs.Counters.{tally_in}
use Rattle.blocks.proofs.PutBlocks.{put_figures}
use Rattle.blocks.proofs.put_figures.Goals as goal

pub returns : goal.returns
returns c =
    put_figures (tally_in c.args.counts.now) c.put_line.ensures.puts c.put_statuses.ensures.puts c.put_statuses-2.ensures.puts
    c.put_line-2.ensures.puts c.put_line-3.ensures.puts
