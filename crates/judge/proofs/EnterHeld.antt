-- Check 2 at entry, as code asks it.
use Rattle.std.specs.Prelude.{Some, None}
use mathlib.Core.Bool.{Bool, true, false, cond, ◌||◌, ◌&&◌, not}
use mathlib.Core.Path.{◌≡◌, refl}
use lib.Dec.{eqb}
use Rattle.rules.specs.Rules.{only_if, ended_with, asks_aca, check2, enter}
use Rattle.rules.specs.Types.{Entry, Allegiance, Header, Pending, Keeps}
use Rattle.parts.specs.CheckTwo.{held_off, held_status}
use Rattle.judge.specs.LastChecks.{checks_past_aca}

check2_is :
    (aca : Allegiance) (c : Entry) (has : Bool)
    → check2 aca c has ≡ only_if (held_off aca c.nexus (asks_aca c.asked) has) (Keeps (ended_with (held_status aca c.nexus c.naca)))
check2_is None c has = refl
check2_is (Some f) c has = go (eqb c.nexus f) (asks_aca c.asked) c.naca
  where
    go :
        (own asks naca : Bool)
        → cond own (only_if (not (asks && not has)) (Keeps (ended_with 0x30))) (Some (Keeps (ended_with (cond naca 0x30 0x08))))
        ≡ only_if (not (own && asks && not has)) (Keeps (ended_with (cond (own || naca) 0x30 0x08)))
    go true true naca = refl
    go true false naca = refl
    go false asks naca = refl

module _ (h : Header) (c : Entry) (has : Bool) (p : Pending) where
  -- check 2 stops the command
  pub enter_held :
      held_off h.aca c.nexus (asks_aca c.asked) has ≡ true
      → Keeps (ended_with (held_status h.aca c.nexus c.naca)) ≡ enter h c false has p
  unfolding enter
  enter_held e = rw (check2_is h.aca c has, e)

  -- it does not
  pub enter_past : held_off h.aca c.nexus (asks_aca c.asked) has ≡ false → checks_past_aca h c p ≡ enter h c false has p
  unfolding enter checks_past_aca
  enter_past e = rw (check2_is h.aca c has, e)
