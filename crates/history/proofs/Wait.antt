-- The waiting bound: demand 3 over the rules, by way of the longest waits there are.
use Rattle.std.specs.Prelude.{Some}
use Prim.Native.Nat.{ℕ, ◌+◌, ◌-◌, ◌*◌, ◌/◌, ◌≤◌, ◌<◌, min, max}
use mathlib.Core.Bool.{Bool, true, false, not}
use mathlib.Core.Path.{◌≡◌, refl, ap, ◌∙◌}
use mathlib.Core.List.{List, [], ◌∷◌, ◌++◌, map}
use mathlib.Core.Logic.{inl, inr}
use native.Mathlib.Omega.{arith}
use lib.ListN.{length, length-append}
use borrow.Author.Tests.{lt-ltb}
use Rattle.laws.specs.Lists.{one_if, count, first}
use Rattle.laws.proofs.Bools.{and-true, not_both, none_some, split}
use Rattle.laws.proofs.Lists.{count_append, count_both, first_passes}
use Rattle.rules.specs.Types.{Attribute, Simple, HeadOfQueue, Ordered, Aca, Task, Event, Policy, Change, Ruling, Keeps, Changes}
use Rattle.values.specs.Headers.{run_after}
use Rattle.rules.specs.Tasks.{places, is_head, is_plain, enabled_head}
use Rattle.rules.specs.Rulings.{State, kept, fate_of, joins_of, answer_of, ruled}
use Rattle.rules.specs.Rules.{ruling}
use Rattle.rules.specs.Well.{settled}
use Rattle.rules.proofs.Fates.{is_ends, count_kept_le, count_falls}
use Rattle.rules.proofs.Ruled.{answer_ruled}
use Rattle.rules.proofs.Settled.{head_task}
use Rattle.rules.proofs.TurnRule.{other_task, head_is, turn_cases}
use Rattle.rules.proofs.WellKept.{Tested}
use Rattle.history.specs.History.{Past, advance, play, after, accepted, has_ended, turn_by, is_turn, turns}
use Rattle.history.specs.Waits.{heads_among, others_among, requested, first_overtakers, longest}
use Rattle.history.proofs.Figures.{four_first, four_with_room, first_falls, longest_requested, requested_mission}
use Rattle.history.proofs.Reached.{tested_advance, tested_after}
use Rattle.history.proofs.Conserve.{conserved, conserved_advance, conserved_play, ended_grows}
use Rattle.history.proofs.Effects.{Quiet, TurnOf, EffectR, effect}
use Rattle.rules.proofs.WellSays.{attributes}
use Rattle.history.proofs.Places.{Place, place_split, stayers, ends_by, place_by, count_attributes, entered}

-- The potential ----------------------------------------------------------------------------------------------------------------------------

-- `longest`, by what run is: the turns that a task can still wait, for a task that is HEAD OF QUEUE or not
abbrev wait : Bool → ℕ → ℕ → ℕ → ℕ
wait false a b run = max a (first_overtakers b - run) + 5 * b + 1
wait true a b run = a + 1 + min b ((a + run) / 4)

-- how the numbers of older tasks, HEAD OF QUEUE (a) and others (b), and run go from one state to the next, over a turn or not; whoever passes a task
-- needs a place in the table besides it and the older ones
data Falls (head : Bool) (a b run a' b' run' : ℕ) : Bool → Type 0 where
  -- no turn: whoever ended, run stays
  quiet : a' ≤ a → b' ≤ b → run' ≡ run → Falls head a b run a' b' run' false
  -- the turn of an older HEAD OF QUEUE task
  older_head : a' < a → b' ≤ b → run' ≡ min (run + 1) 4 → Falls head a b run a' b' run' true
  -- of an older one that is not, past a HEAD OF QUEUE task only at run 4
  older_other : a' ≤ a → b' < b → run' ≡ 0 → (head ≡ true → 4 ≤ run) → Falls head a b run a' b' run' true
  -- of a younger one, which is HEAD OF QUEUE, past a task that is not
  passed : head ≡ false → a ≡ 0 → b + 1 < places → run < 4 → a' ≤ a → b' ≤ b → run' ≡ min (run + 1) 4 → Falls head a b run a' b' run' true

-- each turn takes one from the wait, and nothing adds to it
falls :
    (head : Bool) {a b run a' b' run' : ℕ} {turn : Bool} → Falls head a b run a' b' run' turn
    → one_if turn + wait head a' b' run' ≤ wait head a b run
falls false {b = b} {b' = b'} (quiet p q r) = omega (arith, first_falls b b' q)
falls false {b = b} {b' = b'} (older_head p q r) = omega (arith, four_first b', first_falls b b' q)
falls false {b' = b'} (older_other p q r f) = omega (arith, four_first b')
falls false {b = b} {b' = b'} (passed e z v l p q r) = omega (arith, four_first b', four_with_room b v)
falls true (quiet p q r) = omega arith
falls true (older_head p q r) = omega arith
falls true (older_other p q r f) = omega (arith, f refl)
falls true (passed e z v l p q r) = not_both refl e

some_wait : (head : Bool) (a b run : ℕ) → 1 ≤ wait head a b run
some_wait false a b run = omega arith
some_wait true a b run = omega arith

wait_longest : (head : Bool) (a b run a' b' : ℕ) → a' ≤ a → b' ≤ b → run ≤ 4 → wait head a' b' run ≤ longest head a b
wait_longest false a b run a' b' p q l = omega (arith, four_first b', first_falls b b' q)
wait_longest true a b run a' b' p q l = omega arith

heads : (ts us : List Task) → attributes ts ≡ attributes us → count head_task ts ≡ count head_task us
heads ts us e = count_attributes is_head ts us e

others : (ts us : List Task) → attributes ts ≡ attributes us → count other_task ts ≡ count other_task us
others ts us e = count_attributes (λ a. not (is_head a)) ts us e

-- One event --------------------------------------------------------------------------------------------------------------------------------

run_after_head : (a : Attribute) (run : ℕ) → is_head a ≡ true → run_after a run ≡ min (run + 1) 4
run_after_head a run e = rw (head_is a e)

run_after_plain : (a : Attribute) (run : ℕ) → is_plain a ≡ true → run_after a run ≡ 0
run_after_plain Simple run e = refl
run_after_plain HeadOfQueue run e = not_both e refl
run_after_plain Ordered run e = refl
run_after_plain Aca run e = not_both e refl

first_there : {A : Type 0} (p : A → Bool) (xs : List A) (y : A) → first p xs ≡ Some y → 1 ≤ length xs
first_there p [] y e = none_some y e
first_there p (x ∷ xs) y e = omega arith

-- a turn that the task outlives
falls_turn :
    (s : State) (c : Change) (k : ℕ) (t : Task) (ks : List ℕ) (pre : List Task) → Tested s → TurnOf s c → Place k t ks s.tasks pre
    → is_ends (fate_of c.sweep t) ≡ false
    → Falls (head_task t) (count head_task pre) (count other_task pre) s.header.run
    (count head_task (kept (map (fate_of c.sweep) pre) pre))
    (count other_task (kept (map (fate_of c.sweep) pre) pre))
    c.header.run
    true
falls_turn s c k t ks pre w o p n =
    let r = place_split p in
    let e : settled [] (pre ++ t ∷ r.0) ≡ true = rw (o.clear, r.1) at w.states in
    let fewer : (q : Task → Bool) → count q (kept (map (fate_of c.sweep) pre) pre) ≤ count q pre =
    λ q. count_kept_le q (map (fate_of c.sweep) pre) pre
    in
    turn_cases s.header.run pre t r.0 o.task e (rw (o.clear, r.1) at o.is_named_lem)
    (λ q. not_both (rw (← q) at o.ends) n)
    (λ q.
    let x = (and-true (head_task o.task) _ (first_passes enabled_head pre o.task q)).0 in
    older_head (count_falls enabled_head head_task (fate_of c.sweep) pre o.task q x o.ends) (fewer other_task)
    (o.run ∙ run_after_head o.task.attribute s.header.run x))
    (λ q x l.
    older_other (fewer head_task)
    (count_falls other_task other_task (fate_of c.sweep) pre o.task q (first_passes other_task pre o.task q) o.ends)
    (o.run ∙ run_after_plain o.task.attribute s.header.run x)
    l)
    (λ y z l q.
    let x = (and-true (head_task o.task) _ (first_passes enabled_head r.0 o.task q)).0 in
    let v : count other_task pre + 1 < places =
    omega (
      arith,
      count_both head_task pre,
      first_there enabled_head r.0 o.task q,
      ap length r.1,
      length-append pre (t ∷ r.0),
      w.few,
    )
    in
    passed y z v l (fewer head_task) (fewer other_task) (o.run ∙ run_after_head o.task.attribute s.header.run x))

-- any event that the task outlives
falls_by :
    (s : State) (e : Event) (r : Ruling) (k : ℕ) (t : Task) (ks : List ℕ) (pre before : List Task) → Tested s → EffectR s e r
    → Place k t ks s.tasks pre → ends_by r t ≡ false → attributes before ≡ stayers r pre
    → Falls (head_task t) (count head_task pre) (count other_task pre) s.header.run (count head_task before) (count other_task before)
    (ruled s r).header.run
    (turn_by s e (answer_of r))
falls_by s e (Keeps a) k t ks pre before w f p n m =
    rw (f, heads before pre m, others before pre m) (quiet (omega arith) (omega arith) refl)
falls_by s e (Changes a c) k t ks pre before w f p n m =
    let stay : List Task = kept (map (fate_of c.sweep) pre) pre in
    rw (heads before stay m, others before stay m)
    (split (turn_by s e a) (λ y. rw y (falls_turn s c k t ks pre w (f.turn y) p n)) (λ y. rw y (calm (f.quiet y))))
  where
    calm :
        Quiet s c
        → Falls (head_task t) (count head_task pre) (count other_task pre) s.header.run
        (count head_task (kept (map (fate_of c.sweep) pre) pre))
        (count other_task (kept (map (fate_of c.sweep) pre) pre))
        c.header.run
        false
    calm (inl r) =
        quiet (count_kept_le head_task (map (fate_of c.sweep) pre) pre) (count_kept_le other_task (map (fate_of c.sweep) pre) pre) r
    calm (inr all) = not_both (all t) n

-- after an event the task has ended, or has its place with fewer tasks before it
after_event :
    {P : Type 0} (h : Past) (e : Event) (k : ℕ) (t : Task) (pre : List Task) → Tested h.state
    → Place k t h.present h.state.tasks pre
    → (1 ≤ has_ended (advance h e) k → P)
    → ((t' : Task) (pre' : List Task) → Place k t' (advance h e).present (advance h e).state.tasks pre'
    → t'.attribute ≡ t.attribute
    → Falls (head_task t) (count head_task pre) (count other_task pre) h.state.header.run (count head_task pre') (count other_task pre')
    (advance h e).state.header.run
    (is_turn h.state e)
    → P)
    → P
unfolding advance
after_event h e k t pre w p gone stays =
    place_by h (ruling h.state e) k t pre p (λ n d. gone d)
    (λ n o.
    stays o.self o.before o.place o.attribute
    (rw (answer_ruled h.state e)
    (falls_by h.state e (ruling h.state e) k t h.present pre o.before w (effect h.state e w) p n o.same)))

-- Any events -------------------------------------------------------------------------------------------------------------------------------

pub still_ended : (h : Past) (es : List Event) (k : ℕ) → 1 ≤ has_ended h k → 1 ≤ has_ended (play h es) k
still_ended h es k l = let r = ended_grows h es in rw r.1 (simp count_append (omega arith))

waited :
    (es : List Event) (h : Past) (k : ℕ) (t : Task) (pre : List Task) → Tested h.state → Place k t h.present h.state.tasks pre
    → wait (head_task t) (count head_task pre) (count other_task pre) h.state.header.run ≤ turns h es → 1 ≤ has_ended (play h es) k
waited [] h k t pre w p l =
    absurd (omega (arith, some_wait (head_task t) (count head_task pre) (count other_task pre) h.state.header.run))
waited (e ∷ es) h k t pre w p l =
    after_event h e k t pre w p (λ d. still_ended (advance h e) es k d)
    (λ t' pre' p' a f. waited es (advance h e) k t' pre' (tested_advance h e w) p' (rw a (omega (arith, falls (head_task t) f))))

-- From acceptance --------------------------------------------------------------------------------------------------------------------------

pub roll_one : (h : Past) (e : Event) (t : Task) → accepted h.state e ≡ t ∷ [] → length (advance h e).roll ≡ length h.roll + 1
unfolding advance
roll_one h e t j = rw (j, length-append h.roll (t ∷ []))

pub roll_grows : (h : Past) (es : List Event) → length h.roll ≤ length (play h es).roll
unfolding advance
roll_grows h [] = omega arith
roll_grows h (e ∷ es) = omega (arith, roll_grows (advance h e) es, length-append h.roll (joins_of (ruling h.state e)))

-- From a fresh table, after any events es, let the event e be accepted as the task t; its serial number is the length of the roll.
module _ (p : Policy) (es : List Event) (e : Event) (t : Task) (later : List Event) where
  abbrev before : Past
  before = after p es

  once_ended :
      accepted before.state e ≡ t ∷ [] → 1 ≤ has_ended (play (advance before e) later) (length before.roll)
      → has_ended (play (advance before e) later) (length before.roll) ≡ 1
  once_ended j l =
      let c = conserved_play (advance before e) later (conserved_advance before e (conserved p es)) in
      omega (
        arith,
        c.once (length before.roll),
        ap one_if
            (lt-ltb (length before.roll) (length (play (advance before e) later).roll)
            (omega (arith, roll_grows (advance before e) later, roll_one before e t j))),
      )

  -- with a HEAD OF QUEUE tasks and b others in the table: ended, once, by turn longest (Least: and no earlier, in the worst case)
  pub waits_longest :
      accepted before.state e ≡ t ∷ []
      → longest (is_head t.attribute) (heads_among before.state.tasks) (others_among before.state.tasks) ≤ turns (advance before e) later
      → has_ended (play (advance before e) later) (length before.roll) ≡ 1
  waits_longest j l =
      let m = entered before e t (conserved p es) j in
      let w = tested_advance before e (tested_after p es) in
      let q =
      wait_longest (head_task t) (count head_task before.state.tasks) (count other_task before.state.tasks)
      (advance before e).state.header.run
      (count head_task m.older)
      (count other_task m.older)
      m.heads
      m.others
      w.run
      in
      once_ended j
      (waited later (advance before e) (length before.roll) m.self m.older w m.place (rw m.attribute (omega arith)))

  -- so by turn a + 5 (b + 1), or a + b + 1 if it is HEAD OF QUEUE
  pub waits_requested :
      accepted before.state e ≡ t ∷ []
      → requested (is_head t.attribute) (heads_among before.state.tasks) (others_among before.state.tasks) ≤ turns (advance before e) later
      → has_ended (play (advance before e) later) (length before.roll) ≡ 1
  waits_requested j l =
      waits_longest j
      (omega (arith, longest_requested (head_task t) (count head_task before.state.tasks) (count other_task before.state.tasks)))

  -- demand 3: attribute other than ACA, k older tasks not ended then; ended, once, when there were 5 (k + 1) turns since
  pub waits :
      accepted before.state e ≡ t ∷ [] → (t.attribute ≡ Aca → ⊥)
      → 5 * (length before.state.tasks + 1) ≤ turns (advance before e) later
      → has_ended (play (advance before e) later) (length before.roll) ≡ 1
  waits j a l =
      waits_requested j
      (omega (
        arith,
        requested_mission (head_task t) (count head_task before.state.tasks) (count other_task before.state.tasks),
        count_both head_task before.state.tasks,
      ))
