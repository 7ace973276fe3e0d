-- A command is accepted exactly where it is answered Done.
use mathlib.Core.Bool.{cond}
use mathlib.Core.Path.{◌≡◌, refl, ap}
use mathlib.Core.List.{[], ◌∷◌}
use Rattle.rules.specs.Types.{Entry, Command}
use Rattle.rules.specs.Rulings.{State, newcomers, joins_of, answer_of}
use Rattle.rules.specs.Rules.{new_task, answer}
use Rattle.rules.proofs.Ruled.{answer_ruled}
use Rattle.rules.proofs.RulingCases.{command_cases}
use Rattle.history.specs.History.{accepted, is_done}

pub accepted_if_done : (s : State) (c : Entry) → accepted s (Command c) ≡ cond (is_done (answer s (Command c))) (new_task c ∷ []) []
accepted_if_done s c =
    rw (answer_ruled s (Command c))
    (command_cases (λ l. joins_of l ≡ cond (is_done (answer_of l)) (new_task c ∷ []) []) s c refl (λ st se. refl) (λ st se d n. ap newcomers n)
    refl)
