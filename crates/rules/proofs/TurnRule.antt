-- Laws of the turn rule, most of them in a table without ACA.
use Rattle.std.specs.Prelude.{Some, None, Option}
use Prim.Native.Nat.{ℕ, ◌≤◌, ◌<◌}
use mathlib.Core.Bool.{Bool, true, false, ◌||◌, ◌&&◌, not, or-true as or_on}
use mathlib.Core.Path.{◌≡◌, refl, ap}
use mathlib.Core.List.{List, [], ◌∷◌, ◌++◌}
use native.Mathlib.Omega.{arith}
use lib.Dec.{ltb}
use borrow.Author.Tests.{ltb-true, ltb-false, lt-ltb, not-true}
use Rattle.laws.specs.Lists.{one_if, any, count, first}
use Rattle.laws.proofs.Bools.{and-true, and-false, or-false, or-true, not_both, none_some, cases, split}
use Rattle.laws.proofs.Lists.{first_cases, first_passes, first_none, first_stands, first_append}
use Rattle.rules.specs.Types.{Attribute, Simple, HeadOfQueue, Ordered, Aca, Task, Allegiance, Finish, Completion, Done}
use Rattle.rules.specs.Tasks.{nexuses, is_head, is_plain, is_aca, is_enabled, aca_task, enabled_task, enabled_head, enabled_plain, same, whose_turn, turn_of, is_named}
use Rattle.rules.specs.Rulings.{State, turn}
use Rattle.rules.specs.Rules.{complete, rule_for, ruling, answer}
use Rattle.rules.specs.Well.{Stands, WellFormed, settled, distinct}
use Rattle.rules.proofs.Distinct.{same_parts, distinct_first}
use Rattle.rules.proofs.Settled.{head_task, is_aca_lem, settled_cons, enabled_head_lem, held_back, oldest_enabled}
use Rattle.rules.proofs.WellSays.{says_tested, clear_settled}

-- RULES 2.10
pub named_in_aca : (f run : ℕ) (ts : List Task) → whose_turn (Some f) run ts ≡ first aca_task ts
unfolding whose_turn
named_in_aca f run ts = refl

abbrev pub other_task : Task → Bool
other_task t = not (head_task t)

-- no enabled HEAD OF QUEUE task: none at all
no_heads :
    (older : List Attribute) (pre rest : List Task) → settled older (pre ++ rest) ≡ true → any enabled_head pre ≡ false
    → count head_task pre ≡ 0
no_heads older [] rest e n = refl
no_heads older (t ∷ ts) rest e n =
    let o = settled_cons older t (ts ++ rest) e in
    let k = or-false (enabled_head t) (any enabled_head ts) n in
    split (head_task t) (λ h. not_both (enabled_head_lem older t (ts ++ rest) o h) k.0)
    (λ h. omega (arith, ap one_if h, no_heads (t.attribute ∷ older) ts rest o.rest k.1))

pub head_or_plain : (a : Attribute) → is_aca a ≡ false → is_head a ≡ false → is_plain a ≡ true
head_or_plain Simple p q = refl
head_or_plain HeadOfQueue p q = not_both refl q
head_or_plain Ordered p q = refl
head_or_plain Aca p q = not_both refl p

pub head_is : (a : Attribute) → is_head a ≡ true → a ≡ HeadOfQueue
head_is Simple e = not_both e refl
head_is HeadOfQueue e = refl
head_is Ordered e = not_both e refl
head_is Aca e = not_both e refl

-- with the oldest a HEAD OF QUEUE task no SIMPLE or ORDERED one is enabled
none_plain : (u : Task) (us : List Task) → settled [] (u ∷ us) ≡ true → head_task u ≡ true → any enabled_plain (u ∷ us) ≡ false
none_plain u us e h =
    let o = settled_cons [] u us e in
    let a : u.attribute ≡ HeadOfQueue = head_is u.attribute h in
    rw a (held_back (HeadOfQueue ∷ []) us refl refl (rw a at o.rest))

pub oldest_plain : (u : Task) (us : List Task) → settled [] (u ∷ us) ≡ true → head_task u ≡ false → enabled_plain u ≡ true
oldest_plain u us e h = rw (head_or_plain u.attribute (settled_cons [] u us e).ordinary h, oldest_enabled u us e)

-- RULES 2.12: the rule's last choice with a HEAD OF QUEUE task as the oldest does not come up: that task is enabled, and no other is
pub else_not_head :
    (run : ℕ) (u : Task) (us : List Task) → settled [] (u ∷ us) ≡ true
    → any enabled_head (u ∷ us) && (ltb run 4 || not (any enabled_plain (u ∷ us))) ≡ false → head_task u ≡ false
else_not_head run u us e b =
    split (head_task u)
    (λ y.
    let k : any enabled_head (u ∷ us) ≡ true = rw (enabled_head_lem [] u us (settled_cons [] u us e) y) in
    not_both (rw (none_plain u us e y) (or_on (ltb run 4)))
    (and-false (any enabled_head (u ∷ us)) (ltb run 4 || not (any enabled_plain (u ∷ us))) b k))
    (λ y. y)

-- whom the turn rule names: the oldest HEAD OF QUEUE task, after fewer than four of them if the oldest task is none; or the oldest, after four
-- if there is one of them
named_cases :
    {P : Type 0} (run : ℕ) (u : Task) (us : List Task) (x : Task) → settled [] (u ∷ us) ≡ true → whose_turn None run (u ∷ us) ≡ Some x
    → (first enabled_head (u ∷ us) ≡ Some x → (head_task u ≡ false → run < 4) → P)
    → (u ≡ x → head_task u ≡ false → (any enabled_head (u ∷ us) ≡ true → 4 ≤ run) → P)
    → P
unfolding whose_turn
named_cases {P} run u us x e n f g =
    cases (λ o. o ≡ Some x → P) (any enabled_head (u ∷ us) && (ltb run 4 || not (any enabled_plain (u ∷ us))))
    (λ b h.
    f h
    (λ nh.
    ltb-true run 4
    (split (ltb run 4) (λ l. l)
    (λ l.
    let k = (and-true (any enabled_head (u ∷ us)) (ltb run 4 || not (any enabled_plain (u ∷ us))) b).1 in
    let q : any enabled_plain (u ∷ us) ≡ true = rw (oldest_plain u us e nh) in
    not_both q (not-true _ (or-true (ltb run 4) (not (any enabled_plain (u ∷ us))) k l))))))
    (λ b h.
    g (let h' : Some u ≡ Some x = rw (oldest_enabled u us e) at h in cc) (else_not_head run u us e b)
    (λ k. ltb-false run 4 (or-false (ltb run 4) _ (and-false (any enabled_head (u ∷ us)) _ b k)).0))
    n

enabled_at :
    (older : List Attribute) (pre : List Task) (t : Task) (post : List Task) → settled older (pre ++ t ∷ post) ≡ true
    → head_task t ≡ true → enabled_head t ≡ true
enabled_at older [] t post e h = enabled_head_lem older t post (settled_cons older t post e) h
enabled_at older (u ∷ us) t post e h =
    enabled_at (u.attribute ∷ older) us t post (settled_cons older u (us ++ t ∷ post) e).rest h

head_there :
    (older : List Attribute) (pre : List Task) (t : Task) (post : List Task) → settled older (pre ++ t ∷ post) ≡ true
    → head_task t ≡ true → any enabled_head (pre ++ t ∷ post) ≡ true
head_there older [] t post e h = rw (enabled_at older [] t post e h)
head_there older (u ∷ us) t post e h =
    rw (head_there (u.attribute ∷ older) us t post (settled_cons older u (us ++ t ∷ post) e).rest h) (or_on (enabled_head u))

-- how a turn comes out for a task that stands between the tasks pre and post: the named task is that task; or an older HEAD OF QUEUE one; or the
-- oldest, which is none, past a HEAD OF QUEUE task only after four of them; or, past a task that is none with no older HEAD OF QUEUE ones, a younger
-- HEAD OF QUEUE one after fewer than four
pub turn_cases :
    {P : Type 0} (run : ℕ) (pre : List Task) (t : Task) (post : List Task) (x : Task) → settled [] (pre ++ t ∷ post) ≡ true
    → whose_turn None run (pre ++ t ∷ post) ≡ Some x
    → (t ≡ x → P)
    → (first enabled_head pre ≡ Some x → P)
    → (first other_task pre ≡ Some x → is_plain x.attribute ≡ true → (head_task t ≡ true → 4 ≤ run) → P)
    → (head_task t ≡ false → count head_task pre ≡ 0 → run < 4 → first enabled_head post ≡ Some x → P)
    → P
turn_cases {P} run [] t post x e n hit older plain younger =
    named_cases run t post x e n
    (λ h l.
    first_cases enabled_head t post x h (λ a b. hit b)
    (λ a b.
    split (head_task t) (λ y. not_both (enabled_head_lem [] t post (settled_cons [] t post e) y) a)
    (λ y. younger y refl (l y) b)))
    (λ b y k. hit b)
turn_cases {P} run (u ∷ us) t post x e n hit older plain younger =
    named_cases run u (us ++ t ∷ post) x e n
    (λ h l.
    first_append enabled_head (u ∷ us) (t ∷ post) x h older
    (λ a b.
    first_cases enabled_head t post x b (λ c d. hit d)
    (λ c d.
    let z : count head_task (u ∷ us) ≡ 0 = no_heads [] (u ∷ us) (t ∷ post) e a in
    younger (split (head_task t) (λ y. not_both (enabled_at [] (u ∷ us) t post e y) c) (λ y. y)) z
    (l (split (head_task u) (λ y. absurd (omega (arith, ap one_if y))) (λ y. y)))
    d)))
    (λ b y k.
    plain (rw (y, b)) (rw b at (and-true (is_plain u.attribute) _ (oldest_plain u (us ++ t ∷ post) e y)).0)
    (λ z. k (head_there [] (u ∷ us) t post e z)))

-- whoever is named is the first that passes a test, ACA or not
named_first : (a : Allegiance) (run : ℕ) (ts : List Task) (x : Task) → whose_turn a run ts ≡ Some x → (p : Task → Bool) × (first p ts ≡ Some x)
unfolding whose_turn
named_first (Some f) run ts x e = (aca_task, e)
named_first None run ts x e =
    cases (λ o. o ≡ Some x → (p : Task → Bool) × (first p ts ≡ Some x))
    (any enabled_head ts && (ltb run 4 || not (any enabled_plain ts)))
    (λ b k. (enabled_head, k))
    (λ b k. (enabled_task, k))
    e

-- the named task is the one that its nexus and tag find
pub named_found :
    (a : Allegiance) (run n g : ℕ) (ts : List Task) (x : Task) → distinct ts ≡ true → whose_turn a run ts ≡ Some x → same n g x ≡ true
    → first (same n g) ts ≡ Some x
named_found a run n g ts x d e h = let o = named_first a run ts x e in distinct_first n g o.0 ts x d o.1 h

-- Over well-formed states ------------------------------------------------------------------------------------------------------------------

-- whoever is named is enabled
named_enabled :
    (s : State) (x : Task) → WellFormed s → whose_turn s.header.aca s.header.run s.tasks ≡ Some x → enabled_task x ≡ true
unfolding whose_turn
named_enabled s x w e = go s.header.aca refl e
  where
    go : (a : Allegiance) → s.header.aca ≡ a → whose_turn a s.header.run s.tasks ≡ Some x → enabled_task x ≡ true
    go (Some f) h k =
        let o = first_stands aca_task s.tasks x k in
        let a = is_aca_lem x.attribute (first_passes aca_task s.tasks x k) in
        ap is_enabled ((w.in_an_aca f h o.0 x o.1 o.2).aca_enabled a)
    go None h k =
        cases (λ o. o ≡ Some x → enabled_task x ≡ true)
        (any enabled_head s.tasks && (ltb s.header.run 4 || not (any enabled_plain s.tasks)))
        (λ b l. (and-true (head_task x) _ (first_passes enabled_head s.tasks x l)).1)
        (λ b l. first_passes enabled_task s.tasks x l)
        k

-- the named task can be completed, with any of the four statuses, ACA or not
pub named_completes :
    (s : State) (n g : ℕ) (f : Finish) → WellFormed s → is_named n g (turn s) ≡ true → answer s (Completion n g f) ≡ Done
unfolding answer ruling rule_for complete
named_completes s n g f w e = go (whose_turn s.header.aca s.header.run s.tasks) refl e
  where
    go :
        (o : Option Task) → whose_turn s.header.aca s.header.run s.tasks ≡ o → is_named n g (turn_of o) ≡ true
        → answer s (Completion n g f) ≡ Done
    go None q z = not_both z refl
    go (Some x) q z =
        let p = named_first s.header.aca s.header.run s.tasks x q in
        let o = first_stands p.0 s.tasks x p.1 in
        let l : n < nexuses = rw (same_parts n g x z).0 at (w.nexus o.0 x o.1 o.2) in
        let found = named_found s.header.aca s.header.run n g s.tasks x (says_tested s w).apart q z in
        rw (lt-ltb n nexuses l, found, named_enabled s x w q)

nothing_none : (o : Option Task) → turn_of o ≡ None → o ≡ None
nothing_none None e = refl
nothing_none (Some x) e = absurd (let z : ◌≡◌ {A = ℕ} 0 1 = cc in omega arith)

-- without ACA a table with tasks names somebody
pub somebody_named : (s : State) → WellFormed s → s.header.aca ≡ None → (s.tasks ≡ [] → ⊥) → turn s ≡ None → ⊥
unfolding whose_turn
somebody_named s w c some_task e =
    go s.tasks refl (rw c at (nothing_none (whose_turn s.header.aca s.header.run s.tasks) e))
  where
    go : (ts : List Task) → s.tasks ≡ ts → whose_turn None s.header.run ts ≡ None → ⊥
    go [] q z = some_task q
    go (u ∷ us) q z =
        cases (λ o. o ≡ None → ⊥) (any enabled_head (u ∷ us) && (ltb s.header.run 4 || not (any enabled_plain (u ∷ us))))
        (λ b k. not_both (and-true (any enabled_head (u ∷ us)) _ b).0 (first_none enabled_head (u ∷ us) k))
        (λ b k.
        not_both (oldest_enabled u us (rw q at (clear_settled s w c)))
        (or-false (enabled_task u) (any enabled_task us) (first_none enabled_task (u ∷ us) k)).0)
        z

-- an enabled SIMPLE or ORDERED task means that the oldest one is
pub plain_oldest :
    (s : State) (u : Task) (younger : List Task) → WellFormed s → s.header.aca ≡ None → Stands s.tasks [] u younger
    → any enabled_plain s.tasks ≡ true → enabled_plain u ≡ true
plain_oldest s u younger w c e h =
    let k : settled [] (u ∷ younger) ≡ true = rw e at (clear_settled s w c) in
    split (head_task u) (λ y. not_both (rw e at h) (none_plain u younger k y)) (λ y. oldest_plain u younger k y)

-- RULES 2.12: so the last choice is no HEAD OF QUEUE task while a SIMPLE or ORDERED one is enabled
pub else_plain :
    (s : State) (x : Task) → WellFormed s → s.header.aca ≡ None → any enabled_plain s.tasks ≡ true
    → first enabled_task s.tasks ≡ Some x → enabled_plain x ≡ true
else_plain s x w c h n = go s.tasks refl n
  where
    go : (ts : List Task) → s.tasks ≡ ts → first enabled_task ts ≡ Some x → enabled_plain x ≡ true
    go [] e k = none_some x k
    go (u ∷ us) e k =
        let p = plain_oldest s u us w c e h in
        first_cases enabled_task u us x k (λ a b. rw b at p)
        (λ a b. not_both (oldest_enabled u us (rw e at (clear_settled s w c))) a)

-- a HEAD OF QUEUE task that is named is the oldest enabled one of them
pub named_head_oldest :
    (s : State) (x : Task) → WellFormed s → s.header.aca ≡ None
    → whose_turn s.header.aca s.header.run s.tasks ≡ Some x → head_task x ≡ true → first enabled_head s.tasks ≡ Some x
unfolding whose_turn
named_head_oldest s x w c n h = go s.tasks (rw c at n) (clear_settled s w c)
  where
    go : (ts : List Task) → whose_turn None s.header.run ts ≡ Some x → settled [] ts ≡ true → first enabled_head ts ≡ Some x
    go [] k e = none_some x k
    go (u ∷ us) k e = named_cases s.header.run u us x e k (λ a b. a) (λ b y k. not_both h (rw b at y))
