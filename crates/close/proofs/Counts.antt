-- A flag as a number, where a record that stays counts one.
use mathlib.Core.Bool.{Bool, true, false, not}
use mathlib.Core.Path.{◌≡◌, refl}
use Rattle.std.specs.Int.{from_bool}
use Rattle.steps.specs.Closing.{one_unless}

pub counts : (gone : Bool) → from_bool (not gone) ≡ one_unless gone
counts true = refl
counts false = refl
