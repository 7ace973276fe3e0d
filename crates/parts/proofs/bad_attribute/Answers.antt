-- The check finds this alone. It stands so that parts/impostor_refuses_all is refused by a fact that no longer holds.
use Rattle.std.proofs.Common.{◌≡◌, Bool, true, false, not, refl}
use Rattle.parts.proofs.bad_attribute.Goals as goal

twice : (b : Bool) → not (not b) ≡ b
twice true = refl
twice false = refl

pub returns-in-Some : goal.returns-in-Some
returns-in-Some c = simp (c.is_none.ensures, c.is_aca.ensures, c.in-Some.is, twice)
