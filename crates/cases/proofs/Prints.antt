-- The makers make the bytes that RULES 26.2 and 13 to 15 give, by computation.
use mathlib.Core.Bool.{true}
use mathlib.Core.Path.{◌≡◌, refl}
use Rattle.cases.specs.Play.{same_bytes, all}
use Rattle.cases.specs.Printed.{agrees, printed}

pub as_printed : all agrees printed ≡ true
unfolding same_bytes
as_printed = refl
