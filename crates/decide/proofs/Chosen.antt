-- What two searches find, and the turn rule.
use Rattle.std.specs.Prelude.{Some, None, is_some}
use Prim.Native.Nat.{ℕ}
use mathlib.Core.Bool.{Bool, true, false, cond, ◌||◌, ◌&&◌, not}
use mathlib.Core.Path.{◌≡◌, refl, ap, sym}
use mathlib.Core.List.{List, [], ◌∷◌}
use lib.Dec.{ltb}
use Rattle.laws.specs.Lists.{any, first}
use Rattle.rules.specs.Tasks.{enabled_task, enabled_head, enabled_plain, whose_turn, turn_of}
use Rattle.rules.specs.Well.{settled}
use Rattle.rules.proofs.Settled.{oldest_enabled}
use Rattle.rules.proofs.TurnRule.{oldest_plain, else_not_head}
use Rattle.rules.specs.Types.{Task}
use Rattle.decide.specs.Searches.{chosen}

pub here_any : (p : Task → Bool) (ts : List Task) → is_some (first p ts) ≡ any p ts
here_any p [] = refl
here_any p (t ∷ ts) = go (p t) (here_any p ts)
  where
    go : (b : Bool) → is_some (first p ts) ≡ any p ts → is_some (cond b (Some t) (first p ts)) ≡ b || any p ts
    go true e = refl
    go false e = e

-- where no HEAD OF QUEUE task is due, the oldest enabled task is the oldest enabled SIMPLE or ORDERED one
else_found :
    (run : ℕ) (ts : List Task) → settled [] ts ≡ true → any enabled_head ts && (ltb run 4 || not (any enabled_plain ts)) ≡ false
    → first enabled_task ts ≡ first enabled_plain ts
else_found run [] e b = refl
else_found run (u ∷ us) e b =
    rw (oldest_plain u us e (else_not_head run u us e b), oldest_enabled u us e)

-- the choice of two searches is the turn rule's
pub chosen_named :
    (run : ℕ) (ts : List Task) → settled [] ts ≡ true
    → turn_of (chosen (first enabled_head ts) (first enabled_plain ts) run) ≡ turn_of (whose_turn None run ts)
unfolding whose_turn
chosen_named run ts e =
    rw (here_any enabled_head ts, here_any enabled_plain ts)
    (go (any enabled_head ts && (ltb run 4 || not (any enabled_plain ts))) refl)
  where
    go :
        (b : Bool) → any enabled_head ts && (ltb run 4 || not (any enabled_plain ts)) ≡ b
        → turn_of (cond b (first enabled_head ts) (first enabled_plain ts))
        ≡ turn_of (cond b (first enabled_head ts) (first enabled_task ts))
    go true q = refl
    go false q = ap turn_of (sym (else_found run ts e q))
