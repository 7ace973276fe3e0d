-- Laws of tables in an ACA.
use Rattle.std.specs.Prelude.{Some, None}
use Prim.Native.Nat.{ℕ}
use mathlib.Core.Bool.{Bool, true, false, ◌&&◌, not, and-false as and_off}
use mathlib.Core.Path.{◌≡◌, refl}
use mathlib.Core.List.{List, [], ◌∷◌, ◌++◌, map}
use lib.Dec.{eqb}
use Rattle.laws.specs.Lists.{any, first, is_nil}
use Rattle.laws.proofs.Bools.{and-true, or-false, not_both, none_some, split}
use Rattle.laws.proofs.Lists.{first_cases}
use Rattle.rules.specs.Types.{Attribute, Simple, HeadOfQueue, Ordered, Aca, TaskState, Dormant, Enabled, Blocked, Task, Fate}
use Rattle.rules.specs.Tasks.{is_aca, is_enabled, is_plain, aca_task, of_nexus, eligible, enabled_if, blocked_if_enabled, enabled_plain}
use Rattle.rules.specs.Rulings.{kept}
use Rattle.rules.specs.Well.{settled, held, held_task}
use Rattle.rules.proofs.Distinct.{blocked_task}
use Rattle.rules.proofs.Settled.{Within, within_cons, within_drop, eligible_within, head_free, settled_cons}

-- One task -------------------------------------------------------------------------------------------------------------------------------

held_more :
    (l l' m m' f : Bool) (a : Attribute) (st : TaskState) → (l ≡ true → l' ≡ true) → (m ≡ true → m' ≡ true)
    → held_task l m f a st ≡ true → held_task l' m' f a st ≡ true
held_more l l' m m' f Aca Dormant p q e = e
held_more l l' m m' f Aca Enabled p q e = rw (p (and-true l f e).0) (and-true l f e).1
held_more l l' m m' f Aca Blocked p q e = e
held_more l l' m m' f HeadOfQueue Dormant p q e = e
held_more l l' m m' f HeadOfQueue Enabled p q e = e
held_more l l' m m' f HeadOfQueue Blocked p q e = q e
held_more l l' m m' f Simple Dormant p q e = e
held_more l l' m m' f Simple Enabled p q e = e
held_more l l' m m' f Simple Blocked p q e = q e
held_more l l' m m' f Ordered Dormant p q e = e
held_more l l' m m' f Ordered Enabled p q e = e
held_more l l' m m' f Ordered Blocked p q e = q e

-- whether it is the youngest matters to the ACA task alone
held_any_place :
    (l l' m f : Bool) (a : Attribute) (st : TaskState) → is_aca a ≡ false → held_task l m f a st ≡ true → held_task l' m f a st ≡ true
held_any_place l l' m f Aca st n e = not_both refl n
held_any_place l l' m f HeadOfQueue st n e = e
held_any_place l l' m f Simple st n e = e
held_any_place l l' m f Ordered st n e = e

pub held_aca : (l m f : Bool) (a : Attribute) (st : TaskState) → is_aca a ≡ true → held_task l m f a st ≡ true → (l ≡ true) × (f ≡ true)
held_aca l m f Aca Dormant n e = not_both e refl
held_aca l m f Aca Enabled n e = and-true l f e
held_aca l m f Aca Blocked n e = not_both e refl
held_aca l m f HeadOfQueue st n e = not_both n refl
held_aca l m f Simple st n e = not_both n refl
held_aca l m f Ordered st n e = not_both n refl

pub held_enabled : (l m f : Bool) (a : Attribute) (st : TaskState) → is_enabled st ≡ true → held_task l m f a st ≡ true → is_aca a ≡ true
held_enabled l m f a Dormant n e = not_both n refl
held_enabled l m f a Blocked n e = not_both n refl
held_enabled l m f Aca Enabled n e = refl
held_enabled l m f HeadOfQueue Enabled n e = not_both e refl
held_enabled l m f Simple Enabled n e = not_both e refl
held_enabled l m f Ordered Enabled n e = not_both e refl

plain_quiet : (l m f : Bool) (a : Attribute) (st : TaskState) → held_task l m f a st ≡ true → is_plain a && is_enabled st ≡ false
plain_quiet l m f Simple Dormant e = refl
plain_quiet l m f Simple Enabled e = not_both e refl
plain_quiet l m f Simple Blocked e = refl
plain_quiet l m f HeadOfQueue st e = refl
plain_quiet l m f Ordered Dormant e = refl
plain_quiet l m f Ordered Enabled e = not_both e refl
plain_quiet l m f Ordered Blocked e = refl
plain_quiet l m f Aca st e = refl

-- The list ---------------------------------------------------------------------------------------------------------------------------------

pub held_cons :
    (f : ℕ) (older : List Attribute) (t : Task) (ts : List Task) → held f older (t ∷ ts) ≡ true
    → (held_task (is_nil ts) (eligible older t.attribute) (eqb t.nexus f) t.attribute t.state ≡ true)
    × (held f (t.attribute ∷ older) ts ≡ true)
held_cons f older t ts e = and-true _ _ e

nil_kept : {A : Type 0} (fs : List Fate) (xs : List A) → is_nil xs ≡ true → is_nil (kept fs xs) ≡ true
nil_kept [] xs e = e
nil_kept (f ∷ fs) [] e = refl
nil_kept (f ∷ fs) (x ∷ xs) e = not_both e refl

-- a task stays, with fewer tasks older and younger than it
held_stays :
    (f : ℕ) (fewer older : List Attribute) (t : Task) (ts rest : List Task) → Within fewer older
    → (is_nil ts ≡ true → is_nil rest ≡ true) → held f older (t ∷ ts) ≡ true → held f (t.attribute ∷ fewer) rest ≡ true
    → held f fewer (t ∷ rest) ≡ true
held_stays f fewer older t ts rest w l e r =
    rw (held_more (is_nil ts) (is_nil rest) _ (eligible fewer t.attribute) _ t.attribute t.state l
    (eligible_within fewer older t.attribute w)
    (held_cons f older t ts e).0)
    r

-- losing tasks
pub held_kept :
    (f : ℕ) (fs : List Fate) (fewer older : List Attribute) (ts : List Task) → Within fewer older → held f older ts ≡ true
    → held f fewer (kept fs ts) ≡ true
held_kept f [] fewer older [] w e = refl
held_kept f [] fewer older (t ∷ ts) w e =
    held_stays f fewer older t ts ts w (λ l. l) e
    (held_kept f [] (t.attribute ∷ fewer) (t.attribute ∷ older) ts (within_cons t.attribute fewer older w)
    (held_cons f older t ts e).1)
held_kept f (x ∷ fs) fewer older [] w e = refl
held_kept f (None ∷ fs) fewer older (t ∷ ts) w e =
    held_stays f fewer older t ts (kept fs ts) w (nil_kept fs ts) e
    (held_kept f fs (t.attribute ∷ fewer) (t.attribute ∷ older) ts (within_cons t.attribute fewer older w)
    (held_cons f older t ts e).1)
held_kept f (Some st ∷ fs) fewer older (t ∷ ts) w e =
    held_kept f fs fewer (t.attribute ∷ older) ts (within_drop t.attribute fewer older w) (held_cons f older t ts e).1

-- an ACA begins: what was enabled is blocked
held_block :
    (a : Attribute) (l m f : Bool) (older : List Attribute) → is_aca a ≡ false → (eligible older a ≡ true → m ≡ true)
    → held_task l m f a (blocked_if_enabled (enabled_if (eligible older a))) ≡ true
held_block Aca l m f older n q = not_both refl n
held_block HeadOfQueue l m f older n q = rw (head_free older) (q (rw (head_free older)))
held_block Simple l m f older n q = go (eligible older Simple) q
  where
    go : (b : Bool) → (b ≡ true → m ≡ true) → held_task l m f Simple (blocked_if_enabled (enabled_if b)) ≡ true
    go true k = k refl
    go false k = refl
held_block Ordered l m f older n q = go (eligible older Ordered) q
  where
    go : (b : Bool) → (b ≡ true → m ≡ true) → held_task l m f Ordered (blocked_if_enabled (enabled_if b)) ≡ true
    go true k = k refl
    go false k = refl

blocked_stays :
    (f : ℕ) (fewer older : List Attribute) (t : Task) (ts rest : List Task) → Within fewer older → settled older (t ∷ ts) ≡ true
    → held f (t.attribute ∷ fewer) rest ≡ true → held f fewer (blocked_task t ∷ rest) ≡ true
blocked_stays f fewer older t ts rest w e r =
    let o = settled_cons older t ts e in
    rw (
      o.state,
      held_block t.attribute (is_nil rest) (eligible fewer t.attribute) (eqb t.nexus f) older o.ordinary
          (eligible_within fewer older t.attribute w),
    )
    r

pub held_blocked :
    (f : ℕ) (fs : List Fate) (fewer older : List Attribute) (ts : List Task) → Within fewer older → settled older ts ≡ true
    → held f fewer (map blocked_task (kept fs ts)) ≡ true
held_blocked f [] fewer older [] w e = refl
held_blocked f [] fewer older (t ∷ ts) w e =
    blocked_stays f fewer older t ts (map blocked_task ts) w e
    (held_blocked f [] (t.attribute ∷ fewer) (t.attribute ∷ older) ts (within_cons t.attribute fewer older w)
    (settled_cons older t ts e).rest)
held_blocked f (x ∷ fs) fewer older [] w e = refl
held_blocked f (None ∷ fs) fewer older (t ∷ ts) w e =
    blocked_stays f fewer older t ts (map blocked_task (kept fs ts)) w e
    (held_blocked f fs (t.attribute ∷ fewer) (t.attribute ∷ older) ts (within_cons t.attribute fewer older w)
    (settled_cons older t ts e).rest)
held_blocked f (Some st ∷ fs) fewer older (t ∷ ts) w e =
    held_blocked f fs fewer (t.attribute ∷ older) ts (within_drop t.attribute fewer older w) (settled_cons older t ts e).rest

-- an ACA task joins
pub held_join :
    (f : ℕ) (older : List Attribute) (ts : List Task) (u : Task) → held f older ts ≡ true → any aca_task ts ≡ false
    → u.attribute ≡ Aca → u.state ≡ Enabled → eqb u.nexus f ≡ true → held f older (ts ++ (u ∷ [])) ≡ true
held_join f older [] u e n p q r = rw (p, q, r)
held_join f older (t ∷ ts) u e n p q r =
    let o = held_cons f older t ts e in
    let k = or-false (is_aca t.attribute) (any aca_task ts) n in
    rw (held_any_place (is_nil ts) (is_nil (ts ++ (u ∷ []))) (eligible older t.attribute) (eqb t.nexus f) t.attribute
    t.state
    k.0
    o.0)
    (held_join f (t.attribute ∷ older) ts u o.1 k.1 p q r)

-- only the ACA task is enabled, and it is of the faulted nexus
pub held_found :
    (f : ℕ) (older : List Attribute) (p : Task → Bool) (ts : List Task) (t : Task) → held f older ts ≡ true
    → first p ts ≡ Some t → is_enabled t.state ≡ true → (is_aca t.attribute ≡ true) × (eqb t.nexus f ≡ true)
held_found f older p [] t e h n = (none_some t h, none_some t h)
held_found f older p (u ∷ us) t e h n =
    let o = held_cons f older u us e in
    first_cases p u us t h
    (λ k q.
    let o' : held_task (is_nil us) (eligible older t.attribute) (eqb t.nexus f) t.attribute t.state ≡ true =
    rw q at o.0
    in
    let a : is_aca t.attribute ≡ true = held_enabled _ _ _ t.attribute t.state n o' in
    (a, (held_aca _ _ _ t.attribute t.state a o').1))
    (λ k q. held_found f (u.attribute ∷ older) p us t o.1 q n)

-- there is one ACA task: where the first that passes is one, each passes
pub held_one :
    (f : ℕ) (older : List Attribute) (p : Task → Bool) (ts : List Task) (t : Task) → held f older ts ≡ true
    → first p ts ≡ Some t → is_aca t.attribute ≡ true → any (λ u. aca_task u && not (p u)) ts ≡ false
held_one f older p [] t e h n = refl
held_one f older p (u ∷ []) t e h n =
    first_cases p u [] t h (λ k q. rw (k, and_off (aca_task u))) (λ k q. none_some t q)
held_one f older p (u ∷ v ∷ vs) t e h n =
    let o = held_cons f older u (v ∷ vs) e in
    first_cases p u (v ∷ vs) t h
    (λ k q. not_both (held_aca false _ _ u.attribute u.state (rw (← q) at n) o.0).0 refl)
    (λ k q.
    split (is_aca u.attribute) (λ a. not_both (held_aca false _ _ u.attribute u.state a o.0).0 refl)
    (λ a. rw a (held_one f (u.attribute ∷ older) p (v ∷ vs) t o.1 q n)))

-- each ACA task is of the faulted nexus
pub held_faulted :
    (f : ℕ) (older : List Attribute) (ts : List Task) → held f older ts ≡ true
    → any (λ u. aca_task u && not (of_nexus f u)) ts ≡ false
held_faulted f older [] e = refl
held_faulted f older (u ∷ us) e =
    let o = held_cons f older u us e in
    split (is_aca u.attribute)
    (λ a. rw (a, (held_aca _ _ _ u.attribute u.state a o.0).1) (held_faulted f (u.attribute ∷ older) us o.1))
    (λ a. rw a (held_faulted f (u.attribute ∷ older) us o.1))

-- no SIMPLE or ORDERED task is enabled
pub held_plain : (f : ℕ) (older : List Attribute) (ts : List Task) → held f older ts ≡ true → any enabled_plain ts ≡ false
held_plain f older [] e = refl
held_plain f older (t ∷ ts) e =
    let o = held_cons f older t ts e in
    rw (plain_quiet (is_nil ts) (eligible older t.attribute) (eqb t.nexus f) t.attribute t.state o.0)
    (held_plain f (t.attribute ∷ older) ts o.1)
