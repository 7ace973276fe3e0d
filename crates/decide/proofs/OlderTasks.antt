-- What code computes task by task is what the rules say of the whole list.
use Rattle.std.specs.Prelude.{Some, None}
use Prim.Native.Nat.{ℕ}
use mathlib.Core.Bool.{Bool, false, ◌&&◌, not}
use mathlib.Core.Path.{◌≡◌, refl, ap, sym}
use mathlib.Core.List.{List, [], ◌∷◌}
use lib.Dec.{eqb}
use Rattle.laws.specs.Lists.{any, is_nil}
use Rattle.rules.specs.Tasks.{holds_back, eligible, enabled_if, with_state, settle_from}
use Rattle.rules.specs.Well.{settled_task, held_task, settled, held, states_fit}
use Rattle.rules.specs.Types.{Attribute, Simple, HeadOfQueue, Ordered, Aca, Task, Allegiance}
use Rattle.decide.specs.Types.{Older}
use Rattle.decide.specs.OlderTasks.{no_older, behind_by, eligible_by, settled_by, fit_by}

-- Older tasks in two bits ------------------------------------------------------------------------------------------------------------------

abbrev pub older_of : List Attribute → Older
older_of [] = no_older
older_of (a ∷ older) = behind_by a (older_of older)

any_bit : (older : List Attribute) → (older_of older).any ≡ any (holds_back Ordered) older
any_bit [] = refl
any_bit (Simple ∷ older) = refl
any_bit (HeadOfQueue ∷ older) = refl
any_bit (Ordered ∷ older) = refl
any_bit (Aca ∷ older) = refl

barrier_bit : (older : List Attribute) → (older_of older).barrier ≡ any (holds_back Simple) older
barrier_bit [] = refl
barrier_bit (Simple ∷ older) = barrier_bit older
barrier_bit (HeadOfQueue ∷ older) = refl
barrier_bit (Ordered ∷ older) = refl
barrier_bit (Aca ∷ older) = barrier_bit older

never_back : (a : Attribute) (older : List Attribute) → ((o : Attribute) → holds_back a o ≡ false) → any (holds_back a) older ≡ false
never_back a [] h = refl
never_back a (o ∷ older) h = rw (h o) (never_back a older h)

pub eligible_bits : (older : List Attribute) (a : Attribute) → eligible_by (older_of older) a ≡ eligible older a
eligible_bits older Simple = ap not (barrier_bit older)
eligible_bits older HeadOfQueue = sym (ap not (never_back HeadOfQueue older (λ o. refl)))
eligible_bits older Ordered = ap not (any_bit older)
eligible_bits older Aca = sym (ap not (never_back Aca older (λ o. refl)))

settled_bits : (older : List Attribute) (ts : List Task) → settled_by (older_of older) ts ≡ settle_from older ts
settled_bits older [] = refl
settled_bits older (t ∷ ts) =
    rw (eligible_bits older t.attribute)
    (ap (λ (l : List Task). with_state t (enabled_if (eligible older t.attribute)) ∷ l) (settled_bits (t.attribute ∷ older) ts))

-- settling
pub settled_walk : (ts : List Task) → settled_by no_older ts ≡ settle_from [] ts
settled_walk ts = settled_bits [] ts

fit_settled : (older : List Attribute) (ts : List Task) → fit_by None (older_of older) ts ≡ settled older ts
fit_settled older [] = refl
fit_settled older (t ∷ ts) =
    rw (eligible_bits older t.attribute)
    (ap (λ (b : Bool). settled_task (eligible older t.attribute) t.attribute t.state && b)
    (fit_settled (t.attribute ∷ older) ts))

fit_held : (f : ℕ) (older : List Attribute) (ts : List Task) → fit_by (Some f) (older_of older) ts ≡ held f older ts
fit_held f older [] = refl
fit_held f older (t ∷ ts) =
    rw (eligible_bits older t.attribute)
    (ap (λ (b : Bool).
    held_task (is_nil ts) (eligible older t.attribute) (eqb t.nexus f) t.attribute t.state && b)
    (fit_held f (t.attribute ∷ older) ts))

-- the states fit
pub fit_walk : (aca : Allegiance) (ts : List Task) → fit_by aca no_older ts ≡ states_fit aca ts
fit_walk None ts = fit_settled [] ts
fit_walk (Some f) ts = fit_held f [] ts
