-- The longest waits are met: none of the figures of `longest` can be lowered.
use Prim.Native.Nat.{ℕ, ◌+◌, ◌-◌, ◌≤◌, ◌<◌}
use mathlib.Core.Bool.{Bool, true, false, not}
use mathlib.Core.Path.{◌≡◌, refl, ap}
use mathlib.Core.List.{List, [], ◌∷◌, ◌++◌, map}
use native.Mathlib.Omega.{arith}
use lib.Dec.{eqb, leb}
use lib.ListN.{length}
use borrow.Author.Tests.{eqb-true, eqb-false, leb-true, leb-false, lt-ltb}
use Rattle.laws.specs.Lists.{one_if, any}
use Rattle.laws.proofs.Bools.{not_both, split}
use Rattle.laws.proofs.Lists.{any_less}
use Rattle.rules.specs.Types.{Attribute, Task, Finish, Completion, Policy, Named}
use Rattle.rules.specs.Tasks.{places, is_head, is_aca}
use Rattle.rules.specs.Rulings.{ended_name, same_name}
use Rattle.rules.specs.Rules.{new_task}
use Rattle.history.specs.History.{Past, advance, play, after, accepted, in_table, has_ended, is_turn, turns}
use Rattle.history.specs.Waits.{heads_among, others_among, longest, EndsBy, itself, exempt_command, worst_before, worst_since}
use Rattle.history.proofs.Conserve.{conserved, conserved_advance, conserved_play}
use Rattle.history.proofs.Wait.{roll_one, roll_grows, waits_longest}
use Rattle.history.proofs.Listed.{end_is_listed}
use Rattle.history.proofs.Served.{task, comes_by}
use Rattle.history.proofs.Leads.{of_two, Leads, At, comes}
use Rattle.history.proofs.Rows.{standing, run_before, free_standing, length_standing, count_standing}
use Rattle.history.proofs.Worst.{TwoNext, filled, leads_since}

some_longest : (head : Bool) (a b : ℕ) → 1 ≤ longest head a b
some_longest false a b = omega arith
some_longest true a b = omega arith

-- From a fresh table, after the events `worst_before`, let a command with attribute x come in as 2.0, and then the events `worst_since`.
module _ (p : Policy) (x : Attribute) (head : Bool) (a b : ℕ) where
  abbrev before : Past
  before = after p (worst_before head a b)

  abbrev begun : Past
  begun = advance before (exempt_command 2 0 x)

  abbrev last : Past
  last = play begun (worst_since head a b)

  pub record Met : Type 0 where
    -- it is accepted, with a HEAD OF QUEUE tasks and b others in the table
    pub accepts : accepted before.state (exempt_command 2 0 x) ≡ task 2 0 x ∷ []
    pub heads : heads_among before.state.tasks ≡ a
    pub others : others_among before.state.tasks ≡ b
    -- one turn less than the longest wait, and it is still there; the next turn is its own
    pub waits : turns begun (worst_since head a b) + 1 ≡ longest head a b
    pub there : in_table last (length before.roll) ≡ 1
    pub not_ended : has_ended last (length before.roll) ≡ 0
    pub next : (f : Finish) → is_turn last.state (Completion itself.nexus itself.tag f) ≡ true
    -- whom the reports list meanwhile: nobody of its name
    pub ended : List Named
    pub listed : map ended_name begun.log ++ ended ≡ map ended_name last.log
    pub unlisted : any (same_name itself) ended ≡ false

  -- where the table has room for them besides 2.0
  module _ (ordinary : is_aca x ≡ false) (kind : is_head x ≡ head) (l : a + b < places) where
    abbrev tasks : List Task
    tasks = standing head a b

    at : At p (run_before head) tasks before
    at = filled p head a b l

    room : length tasks < places
    room = omega (arith, length_standing head a b)

    joined : accepted before.state (exempt_command 2 0 x) ≡ task 2 0 x ∷ []
    unfolding new_task
    joined = rw (at.state, comes_by p (run_before head) tasks 2 0 x refl ordinary (free_standing head a b) room)

    led : Leads (longest head a b - 1) TwoNext begun (worst_since head a b)
    led = leads_since p x head a b ordinary kind l (comes p 2 0 x refl ordinary (free_standing head a b) room at).reaches

    unlisted : any (same_name itself) led.ended ≡ false
    unlisted = any_less of_two (same_name itself) led.ended (λ k e. rw e) led.spared

    -- in the table or ended, and an end would be listed
    still : (in_table last (length before.roll) ≡ 1) × (has_ended last (length before.roll) ≡ 0)
    still =
        let k = length before.roll in
        let h = conserved p (worst_before head a b) in
        let once = (conserved_play begun (worst_since head a b) (conserved_advance before (exempt_command 2 0 x) h)).once k in
        let below = roll_grows begun (worst_since head a b) in
        let one = roll_one before (exempt_command 2 0 x) (task 2 0 x) joined in
        let given = ap one_if (lt-ltb k (length last.roll) (omega arith)) in
        split (eqb (has_ended last k) 1)
        (λ e.
        not_both
        (end_is_listed p (worst_before head a b) (exempt_command 2 0 x) (task 2 0 x) (worst_since head a b) led.ended joined
        (eqb-true (has_ended last k) 1 e)
        led.listed)
        unlisted)
        (λ e. let z = eqb-false (has_ended last k) 1 e in (omega arith, omega arith))

    pub met : Met
    met =
        record {
          accepts = joined;
          heads = rw at.state (omega (arith, count_standing is_head head a b));
          others = rw at.state (omega (arith, count_standing (λ a. not (is_head a)) head a b));
          waits = omega (arith, led.counted, some_longest head a b);
          there = still.0;
          not_ended = still.1;
          next = led.reaches;
          ended = led.ended;
          listed = led.listed;
          unlisted = unlisted;
        }

-- so no lower figure holds
pub longest_least :
    (p : Policy) (x : Attribute) (a b : ℕ) → is_aca x ≡ false → a + b < places → (k : ℕ) → EndsBy p x a b k → longest (is_head x) a b ≤ k
longest_least p x a b ordinary l k f =
    let head = is_head x in
    let m = met p x head a b ordinary refl l in
    split (leb (longest head a b) k) (λ e. leb-true (longest head a b) k e)
    (λ e.
    absurd
    (omega (
      arith,
      m.not_ended,
      f (worst_before head a b) (exempt_command 2 0 x) (task 2 0 x) (worst_since head a b) m.accepts refl m.heads m.others
          (omega (arith, leb-false (longest head a b) k e, m.waits)),
    )))

-- while this one does, with any a and b
pub longest_holds : (p : Policy) (x : Attribute) (a b : ℕ) → EndsBy p x a b (longest (is_head x) a b)
longest_holds p x a b es e t later j q g o l = waits_longest p es e t later j (rw (q, g, o) l)
