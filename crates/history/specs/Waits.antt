-- RULES 23.7 to 23.9: by which turn a task has ended at the latest, and events by which it is in the table until then.
--
--   heads_among ts, others_among ts  := how many of the tasks are HEAD OF QUEUE, and how many are not
--   requested head a b    := the customer's figure: the turn by which a task, HEAD OF QUEUE or not, has ended that was accepted with a HEAD OF QUEUE
--                            tasks and b others in the table
--   first_overtakers b     := how many newcomers can go before the first turn of the b others and the task, if no HEAD OF QUEUE task is older
--   longest head a b      := the least figure there is
--   EndsBy p x a b n      := under the policy p a task with the attribute x, accepted so, has ended when there were n turns since, whatever events
--                            came before it and come after it
--
--   itself                := the task of a worst case, 2.0
--   exempt_command n g x   := a command with the attribute x from nexus n with the tag g
--   commands_of n x k      := k of them, with the tags k - 1 to 0
--   completions_of n k     := their completions
--   overtakers k          := k times a HEAD OF QUEUE command of nexus 3, and its completion
--   rounds_of b            := b times the completion of one of the others, and then 4 overtakers
--   woven_turns r a b      := the completions of r of the a HEAD OF QUEUE tasks, of one of the b others, then of four and of one again and again, until the
--                            next is not there; if that is one of the others, those of all HEAD OF QUEUE tasks that are left
--   worst_before head a b  := the events of a worst case before the task itself: nexus 1 has a HEAD OF QUEUE tasks then, nexus 0 has b SIMPLE ones
--   worst_since head a b   := the events behind it
use Rattle.std.specs.Prelude.{ℕ, zero, suc, ◌+◌, ◌-◌, ◌*◌, ◌/◌, ◌≤◌, min, max, Bool, true, false, cond, not, ◌≡◌, List, [], ◌∷◌, ◌++◌, ltb, length, Some}
use Rattle.laws.specs.Lists.{count}
use Rattle.rules.specs.Types.{Attribute, Simple, HeadOfQueue, Task, Event, Command, Completion, Good, Policy, Named}
use Rattle.rules.specs.Tasks.{places, is_head}
use Rattle.history.specs.History.{advance, play, after, accepted, has_ended, turns}

-- The figure -------------------------------------------------------------------------------------------------------------------------------

-- RULES 23.7: a and b
abbrev pub heads_among : List Task → ℕ
heads_among ts = count (λ (t : Task). is_head t.attribute) ts

abbrev pub others_among : List Task → ℕ
others_among ts = count (λ (t : Task). not (is_head t.attribute)) ts

-- RULES 23.7
abbrev pub requested : Bool → ℕ → ℕ → ℕ
requested false a b = a + 5 * (b + 1)
requested true a b = a + b + 1

-- RULES 23.8: where the others and the task itself fill the table nobody has room to come in before one of the others has ended
abbrev pub first_overtakers : ℕ → ℕ
first_overtakers b = cond (ltb (b + 1) places) 4 0

-- RULES 23.8. Not HEAD OF QUEUE: its own turn, a turn of each other, and before each of these 4 HEAD OF QUEUE turns, or once all a if they are more.
-- HEAD OF QUEUE: its own turn, a turn of each older one, and of the others one at once, if run is 4 by then, and one after each 4 of those.
abbrev pub longest : Bool → ℕ → ℕ → ℕ
longest false a b = max a (first_overtakers b) + 5 * b + 1
longest true a b = a + 1 + min b (1 + a / 4)

-- RULES 23.8, over the rules
abbrev pub EndsBy : Policy → Attribute → ℕ → ℕ → ℕ → Type 0
EndsBy p x a b n =
    (es : List Event) (e : Event) (t : Task) (later : List Event) → accepted (after p es).state e ≡ t ∷ [] → t.attribute ≡ x
    → heads_among (after p es).state.tasks ≡ a → others_among (after p es).state.tasks ≡ b → n ≤ turns (advance (after p es) e) later
    → has_ended (play (advance (after p es) e) later) (length (after p es).roll) ≡ 1

-- The worst case ---------------------------------------------------------------------------------------------------------------------------

-- RULES 23.9: 2.0
abbrev pub itself : Named
itself = record { nexus = 2; tag = 0 }

-- RULES 23.9: exempt, so that no pending bit stands in its way
abbrev pub exempt_command : ℕ → ℕ → Attribute → Event
exempt_command n g x = Command (record { nexus = n; asked = Some x; naca = false; exempt = true; tag = g })

-- RULES 23.9: a row of tasks of one nexus
abbrev pub commands_of : ℕ → Attribute → ℕ → List Event
commands_of n x zero = []
commands_of n x (suc k) = exempt_command n k x ∷ commands_of n x k

abbrev pub completions_of : ℕ → ℕ → List Event
completions_of n zero = []
completions_of n (suc k) = Completion n k Good ∷ completions_of n k

-- RULES 23.9: newcomers that go at once
abbrev pub overtakers : ℕ → List Event
overtakers zero = []
overtakers (suc k) = exempt_command 3 0 HeadOfQueue ∷ Completion 3 0 Good ∷ overtakers k

-- RULES 23.9: past a task that is not HEAD OF QUEUE
abbrev pub rounds_of : ℕ → List Event
rounds_of zero = []
rounds_of (suc b) = Completion 0 b Good ∷ overtakers 4 ++ rounds_of b

-- RULES 23.9: before a HEAD OF QUEUE task
abbrev pub woven_turns : ℕ → ℕ → ℕ → List Event
woven_turns r a zero = completions_of 1 a
woven_turns zero a (suc b) = Completion 0 b Good ∷ woven_turns 4 a b
woven_turns (suc r) zero (suc b) = []
woven_turns (suc r) (suc a) (suc b) = Completion 1 a Good ∷ woven_turns r a (suc b)

-- RULES 23.9: the HEAD OF QUEUE tasks stand first, so that all of them go first; before one of their own kind they stand last, and run is 4
abbrev pub worst_before : Bool → ℕ → ℕ → List Event
worst_before false a b = commands_of 1 HeadOfQueue a ++ commands_of 0 Simple b
worst_before true a b = overtakers 4 ++ commands_of 0 Simple b ++ commands_of 1 HeadOfQueue a

abbrev pub worst_since : Bool → ℕ → ℕ → List Event
worst_since false a b = completions_of 1 a ++ overtakers (first_overtakers b - a) ++ rounds_of b
worst_since true a b = woven_turns 0 a b
