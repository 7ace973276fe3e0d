-- One event more, part by part, as the rules say it; and more events behind others.
use mathlib.Core.Path.{◌≡◌, sym, refl, ap}
use mathlib.Core.List.{List, [], ◌∷◌, ◌++◌}
use Rattle.rules.specs.Types.{Event, Ended}
use Rattle.rules.specs.Rules.{step, report}
use Rattle.rules.proofs.Ruled.{step_ruled, report_ruled}
use Rattle.history.specs.History.{Past, advance, play, accepted}

module _ (h : Past) (e : Event) where
  pub advance_state : (advance h e).state ≡ step h.state e
  unfolding advance
  advance_state = sym (step_ruled h.state e)

  pub advance_roll : (advance h e).roll ≡ h.roll ++ accepted h.state e
  unfolding advance
  advance_roll = refl

  pub advance_log : (advance h e).log ≡ h.log ++ report h.state e
  unfolding advance
  advance_log = ap (λ (l : List Ended). h.log ++ l) (sym (report_ruled h.state e))

pub play_append : (h : Past) (xs ys : List Event) → play h (xs ++ ys) ≡ play (play h xs) ys
play_append h [] ys = refl
play_append h (x ∷ xs) ys = play_append (advance h x) xs ys
