-- Every state that is reached is well formed.
use mathlib.Core.List.{List, [], ◌∷◌}
use Rattle.rules.specs.Types.{Event, Policy}
use Rattle.rules.specs.Rulings.{fresh}
use Rattle.rules.specs.Well.{WellFormed}
use Rattle.rules.proofs.WellKept.{Tested, tested_fresh}
use Rattle.rules.proofs.FairRulings.{tested_ruling}
use Rattle.rules.proofs.WellSays.{tested_says}
use Rattle.history.specs.History.{Past, begin, advance, play, after}

pub tested_advance : (h : Past) (e : Event) → Tested h.state → Tested (advance h e).state
unfolding advance
tested_advance h e w = tested_ruling h.state e w

pub tested_play : (h : Past) (es : List Event) → Tested h.state → Tested (play h es).state
tested_play h [] w = w
tested_play h (e ∷ es) w = tested_play (advance h e) es (tested_advance h e w)

pub tested_after : (p : Policy) (es : List Event) → Tested (after p es).state
tested_after p es = tested_play (begin (fresh p)) es (tested_fresh p)

-- from a fresh table of any policy, after any events: so run is at most 4, and there are at most 64 tasks
pub reached_well_formed : (p : Policy) (es : List Event) → WellFormed (after p es).state
reached_well_formed p es = tested_says (after p es).state (tested_after p es)
