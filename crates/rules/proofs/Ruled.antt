-- What an event comes to is what the ruling on it comes to; and what every ruling comes to.
use Prim.Native.Nat.{◌≤◌}
use mathlib.Core.Path.{◌≡◌, refl, sym, ◌∙◌}
use mathlib.Core.List.{◌++◌, map, append-nil, map-append}
use native.Mathlib.Omega.{arith}
use lib.ListN.{length}
use Rattle.rules.specs.Types.{Event, Ruling, Keeps, Changes}
use Rattle.rules.specs.Rulings.{State, kept, fates_of, joins_of, ruled, answer_of, report_of, task_name}
use Rattle.rules.specs.Rules.{ruling, step, answer, report}
use Rattle.rules.proofs.Fates.{length_split, length_ended}
use Rattle.rules.proofs.Distinct.{map_restate}

module _ (s : State) (e : Event) where
  pub step_ruled : step s e ≡ ruled s (ruling s e)
  unfolding step
  step_ruled = refl

  pub answer_ruled : answer s e ≡ answer_of (ruling s e)
  unfolding answer
  answer_ruled = refl

  pub report_ruled : report s e ≡ report_of s (ruling s e)
  unfolding report
  report_ruled = refl

module _ (s : State) where
  -- those that stay are in their order, and who joins is the youngest
  pub ruled_names :
      (l : Ruling) → map task_name (ruled s l).tasks ≡ map task_name (kept (fates_of s l) s.tasks) ++ map task_name (joins_of l)
  ruled_names (Keeps a) = sym (append-nil (map task_name s.tasks))
  ruled_names (Changes a c) =
      map_restate task_name (λ t st. refl) s.header.aca c.header.aca _
      ∙ map-append task_name (kept (fates_of s (Changes a c)) s.tasks) (joins_of (Changes a c))

  pub report_short : (l : Ruling) → length (report_of s l) ≤ length s.tasks
  report_short l = omega (arith, length_split (fates_of s l) s.tasks, length_ended (fates_of s l) s.tasks)
