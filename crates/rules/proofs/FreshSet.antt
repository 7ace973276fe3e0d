-- A fresh set, part by part.
use mathlib.Core.Path.{◌≡◌, refl}
use mathlib.Core.List.{[]}
use lib.ListN.{replicate}
use Rattle.values.specs.Headers.{fresh_header}
use Rattle.rules.specs.Types.{Policy}
use Rattle.rules.specs.Tasks.{nexuses}
use Rattle.rules.specs.Bits.{no_pending, after_power_on}
use Rattle.rules.specs.Rulings.{fresh}

module _ (p : Policy) where
  pub fresh_header_lem : (fresh p).header ≡ fresh_header p
  unfolding fresh
  fresh_header_lem = refl

  pub fresh_pending : (fresh p).pending ≡ replicate nexuses (after_power_on no_pending)
  unfolding fresh
  fresh_pending = refl

  pub fresh_tasks : (fresh p).tasks ≡ []
  unfolding fresh
  fresh_tasks = refl
