-- Laws of eligibility and of tables without ACA.
use mathlib.Core.Bool.{Bool, true, false, ◌&&◌, not, or-true as or_on}
use mathlib.Core.Path.{◌≡◌, refl}
use mathlib.Core.List.{List, [], ◌∷◌}
use borrow.Author.Tests.{not-true}
use Rattle.laws.specs.Lists.{any}
use Rattle.laws.proofs.Bools.{and-true, or-false, not_both}
use Rattle.rules.specs.Types.{Attribute, Simple, HeadOfQueue, Ordered, Aca, TaskState, Dormant, Enabled, Blocked, Task}
use Rattle.rules.specs.Tasks.{is_head, is_plain, is_aca, is_enabled, aca_task, holds_back, eligible, enabled_if, settle_from, enabled_task, enabled_head, enabled_plain}
use Rattle.rules.specs.Well.{same_state, settled}

abbrev pub head_task : Task → Bool
head_task t = is_head t.attribute

pub is_aca_lem : (a : Attribute) → is_aca a ≡ true → a ≡ Aca
is_aca_lem Simple e = not_both e refl
is_aca_lem HeadOfQueue e = not_both e refl
is_aca_lem Ordered e = not_both e refl
is_aca_lem Aca e = refl

-- Eligible -------------------------------------------------------------------------------------------------------------------------------

-- whatever nothing in the second list holds back, nothing in the first does
abbrev pub Within : List Attribute → List Attribute → Type 0
Within fewer older = (a : Attribute) → any (holds_back a) older ≡ false → any (holds_back a) fewer ≡ false

pub within_refl : (older : List Attribute) → Within older older
within_refl older a e = e

pub within_cons : (x : Attribute) (fewer older : List Attribute) → Within fewer older → Within (x ∷ fewer) (x ∷ older)
within_cons x fewer older w a e =
    let o : (holds_back a x ≡ false) × (any (holds_back a) older ≡ false) = or-false _ _ e in
    rw o.0 (w a o.1)

pub within_drop : (x : Attribute) (fewer older : List Attribute) → Within fewer older → Within fewer (x ∷ older)
within_drop x fewer older w a e = w a (or-false (holds_back a x) _ e).1

-- fewer older tasks leave a task eligible
pub eligible_within :
    (fewer older : List Attribute) (a : Attribute) → Within fewer older → eligible older a ≡ true → eligible fewer a ≡ true
eligible_within fewer older a w e = rw (w a (not-true _ e))

-- RULES 2.2
pub head_free : (older : List Attribute) → any (holds_back HeadOfQueue) older ≡ false
head_free [] = refl
head_free (o ∷ older) = head_free older

-- States ---------------------------------------------------------------------------------------------------------------------------------

pub same_state_lem : (a b : TaskState) → same_state a b ≡ true → a ≡ b
same_state_lem Dormant Dormant e = refl
same_state_lem Dormant Enabled e = not_both e refl
same_state_lem Dormant Blocked e = not_both e refl
same_state_lem Enabled Dormant e = not_both e refl
same_state_lem Enabled Enabled e = refl
same_state_lem Enabled Blocked e = not_both e refl
same_state_lem Blocked Dormant e = not_both e refl
same_state_lem Blocked Enabled e = not_both e refl
same_state_lem Blocked Blocked e = refl

pub state_same : (a : TaskState) → same_state a a ≡ true
state_same Dormant = refl
state_same Enabled = refl
state_same Blocked = refl

-- Settled tables -------------------------------------------------------------------------------------------------------------------------

pub record SettledHead (older : List Attribute) (t : Task) (ts : List Task) : Type 0 where
  pub ordinary : is_aca t.attribute ≡ false
  pub state : t.state ≡ enabled_if (eligible older t.attribute)
  pub rest : settled (t.attribute ∷ older) ts ≡ true

pub settled_cons : (older : List Attribute) (t : Task) (ts : List Task) → settled older (t ∷ ts) ≡ true → SettledHead older t ts
settled_cons older t ts e =
    let o =
    and-true (not (is_aca t.attribute) && same_state t.state (enabled_if (eligible older t.attribute)))
    (settled (t.attribute ∷ older) ts)
    e
    in
    let q = and-true (not (is_aca t.attribute)) (same_state t.state (enabled_if (eligible older t.attribute))) o.0 in
    record { ordinary = not-true _ q.0; state = same_state_lem _ _ q.1; rest = o.1 }

pub settled_settle :
    (older : List Attribute) (ts : List Task) → any aca_task ts ≡ false → settled older (settle_from older ts) ≡ true
settled_settle older [] e = refl
settled_settle older (t ∷ ts) e =
    let o = or-false (is_aca t.attribute) (any aca_task ts) e in
    rw (o.0, state_same (enabled_if (eligible older t.attribute))) (settled_settle (t.attribute ∷ older) ts o.1)

-- and a settled table stays as it is
pub settle_settled : (older : List Attribute) (ts : List Task) → settled older ts ≡ true → settle_from older ts ≡ ts
settle_settled older [] e = refl
settle_settled older (t ∷ ts) e =
    let o = settled_cons older t ts e in
    rw (← o.state, settle_settled (t.attribute ∷ older) ts o.rest)

pub settled_ordinary : (older : List Attribute) (ts : List Task) → settled older ts ≡ true → any aca_task ts ≡ false
settled_ordinary older [] e = refl
settled_ordinary older (t ∷ ts) e =
    let o = settled_cons older t ts e in
    rw o.ordinary (settled_ordinary (t.attribute ∷ older) ts o.rest)

-- Who is enabled in them -------------------------------------------------------------------------------------------------------------------

head_enabled : (a : Attribute) (older : List Attribute) → is_head a ≡ true → enabled_if (eligible older a) ≡ Enabled
head_enabled Simple older e = not_both e refl
head_enabled HeadOfQueue older e = rw (head_free older)
head_enabled Ordered older e = not_both e refl
head_enabled Aca older e = not_both e refl

-- a HEAD OF QUEUE task is enabled
pub enabled_head_lem : (older : List Attribute) (t : Task) (ts : List Task) → SettledHead older t ts → head_task t ≡ true → enabled_head t ≡ true
enabled_head_lem older t ts o e = rw (e, o.state, head_enabled t.attribute older e)

plain_held :
    (a : Attribute) (older : List Attribute) → any (holds_back Simple) older ≡ true → any (holds_back Ordered) older ≡ true
    → is_plain a && is_enabled (enabled_if (eligible older a)) ≡ false
plain_held Simple older p q = rw p
plain_held HeadOfQueue older p q = refl
plain_held Ordered older p q = rw q
plain_held Aca older p q = refl

-- behind tasks that hold SIMPLE and ORDERED ones back none of those is enabled
pub held_back :
    (older : List Attribute) (ts : List Task) → any (holds_back Simple) older ≡ true → any (holds_back Ordered) older ≡ true
    → settled older ts ≡ true → any enabled_plain ts ≡ false
held_back older [] p q e = refl
held_back older (t ∷ ts) p q e =
    let o = settled_cons older t ts e in
    rw (o.state, plain_held t.attribute older p q)
    (held_back (t.attribute ∷ older) ts (rw (p, or_on (holds_back Simple t.attribute))) refl o.rest)

-- the oldest is enabled
pub oldest_enabled : (u : Task) (us : List Task) → settled [] (u ∷ us) ≡ true → enabled_task u ≡ true
oldest_enabled u us e = rw (settled_cons [] u us e).state
