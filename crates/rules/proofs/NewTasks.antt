-- An accepted command as a task: whose it is, and what it asked for.
use mathlib.Core.Path.{◌≡◌, refl}
use Rattle.rules.specs.Types.{Entry}
use Rattle.rules.specs.Rulings.{task_name}
use Rattle.rules.specs.Rules.{attribute_of, new_task}

module _ (c : Entry) where
  pub new_task_name : task_name (new_task c) ≡ record { nexus = c.nexus; tag = c.tag }
  unfolding new_task
  new_task_name = refl

  pub new_task_attribute : (new_task c).attribute ≡ attribute_of c.asked
  unfolding new_task
  new_task_attribute = refl
