use Rattle.std.proofs.Common.{◌≡◌, ◌-◌, ◌+◌, ◌*◌, drop}
use Rattle.octets.specs.Sizes.{nexus_size, nexuses_at}
use Rattle.rules.specs.Tasks.{nexuses}
use Rattle.records.specs.Tables.{nexuses_fit}
use Rattle.inspect.proofs.fits.nexuses_fit.Given as goal

abbrev pub invariant-loop-n : goal.invariant-loop-n
invariant-loop-n l =
    nexuses_fit l.n (nexuses - l.n) (drop (nexuses_at + nexus_size * l.n) l.t) ≡ nexuses_fit 0 nexuses (drop nexuses_at l.t)
