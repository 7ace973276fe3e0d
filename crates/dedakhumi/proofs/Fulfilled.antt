-- The mission's three demands are met, and the waits of growers' contracts.
use Rattle.demands.proofs.Refused.{demand1}
use Rattle.demands.proofs.Followed.{demand2}
use Rattle.demands.proofs.Waited.{requested_in_bytes, demand3}
use Rattle.demands.proofs.WorstCalls.{exact_in_bytes}
use Rattle.demands.proofs.TurnsToHave.{turns_to_have}
use Rattle.dedakhumi.specs.Demands.{Mission, Contracts}

pub mission : Mission
mission = record { one = demand1; two = demand2; three = demand3 }

pub contracts : Contracts
contracts = record { requested = requested_in_bytes; longest = exact_in_bytes; turns = turns_to_have }
