-- Believed by nobody: code's own way of walking, proved equal to what the rules say (docs/TRUST.md).
-- What a search finds, and the turn rule's choice.
--
--   Tests P p            := what P may answer of a task is what p says of it
--   chosen head plain run  := the turn rule's choice, of the oldest enabled HEAD OF QUEUE task and the oldest enabled SIMPLE or ORDERED one
--   searched_turn aca run ts  := whose turn it is, by two searches
use Rattle.std.specs.Prelude.{ℕ, ◌≡◌, Bool, cond, ◌||◌, ◌&&◌, not, List, ltb, Option, Some, None, is_some}
use Rattle.laws.specs.Lists.{first}
use Rattle.rules.specs.Tasks.{aca_task, enabled_head, enabled_plain, turn_of}
use Rattle.rules.specs.Types.{Task, Allegiance, Named}

-- a test that code makes, by what a call of it may answer
pub record Tests (P : Task → Bool → Type 0) (p : Task → Bool) : Type 0 where
  pub answers : (t : Task) (b : Bool) → P t b → b ≡ p t

abbrev pub chosen : Option Task → Option Task → ℕ → Option Task
chosen head plain run = cond (is_some head && (ltb run 4 || not (is_some plain))) head plain

abbrev pub searched_turn : Allegiance → ℕ → List Task → Option Named
searched_turn (Some f) run ts = turn_of (first aca_task ts)
searched_turn None run ts = turn_of (chosen (first enabled_head ts) (first enabled_plain ts) run)
