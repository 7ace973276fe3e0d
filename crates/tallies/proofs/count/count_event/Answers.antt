use Rattle.tallies.proofs.Counting.{event_counted}
use Rattle.tallies.proofs.count.count_event.Goals as goal

-- by search, so that calls in another order are refused for what they leave, and not for where they stand
pub returns : goal.returns
returns c = search event_counted
