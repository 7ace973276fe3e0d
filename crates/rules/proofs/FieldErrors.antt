-- Laws that the plausible errors of RULES 26.13, and the faults found in the field, would break.
use Rattle.std.specs.Prelude.{Some, None, Option}
use Prim.Native.Nat.{ℕ, zero, suc, ◌+◌, ◌<◌}
use mathlib.Core.Bool.{Bool, true, false}
use mathlib.Core.Path.{◌≡◌, refl, ap, ◌∙◌}
use mathlib.Core.List.{List, [], ◌∷◌, ◌++◌, map, append-nil}
use native.Mathlib.Omega.{arith}
use lib.Dec.{ltb}
use lib.ListN.{length, get_or, replicate}
use borrow.Author.Tests.{lt-ltb, eq-eqb}
use Rattle.laws.specs.Lists.{any, first}
use Rattle.laws.proofs.Bools.{not_both, cases}
use Rattle.rules.specs.Types.{Attribute, Simple, HeadOfQueue, Ordered, Aca, Task, Finish, Management, Condition, AbortTask, AbortTaskSet, PowerOn, Allegiance, Header, Pending, Bit, AllTasks, FailedTask, Policy, EndAll}
use Rattle.values.specs.Headers.{lasting, lasting_with, fresh_header, run_after}
use Rattle.rules.specs.Tasks.{nexuses, is_plain, same, with_state, eligible, enabled_if, settle_from, restate}
use Rattle.rules.specs.Bits.{no_pending, top, after_power_on}
use Rattle.rules.specs.Rulings.{State, fresh, end_if, kept, aborted_by, or_else, fate_of, tell_losers_from, ruled}
use Rattle.rules.specs.Rules.{finish, manage, happen, rule_for, ruling, step}
use Rattle.rules.specs.Well.{WellFormed}
use Rattle.rules.specs.Attentions.{ranks, is_set}
use Rattle.rules.proofs.Cases.{finish_cases}
use Rattle.rules.proofs.Fates.{is_ends, all_end, ended_gone}
use Rattle.rules.proofs.Distinct.{any_restate}

settle_prefix :
    (older : List Attribute) (ts us : List Task) → (rest : List Task) × (settle_from older (ts ++ us) ≡ settle_from older ts ++ rest)
settle_prefix older [] us = (settle_from older us, refl)
settle_prefix older (t ∷ ts) us =
    let r = settle_prefix (t.attribute ∷ older) ts us in
    (r.0, ap {B = List Task} (λ l. with_state t (enabled_if (eligible older t.attribute)) ∷ l) r.1)

-- a younger task, HEAD OF QUEUE or not, changes no older one's state
pub younger_changes_none :
    (a : Allegiance) (ts us : List Task) → (rest : List Task) × (restate a None (ts ++ us) ≡ restate a None ts ++ rest)
younger_changes_none a ts us = settle_prefix [] ts us

-- RULES 7.7
pub abort_task_set_keeps_aca : (s : State) (n : ℕ) → (step s (Management n AbortTaskSet)).header.aca ≡ s.header.aca
unfolding step ruling rule_for manage
abort_task_set_keeps_aca s n = cases (λ r. (ruled s r).header.aca ≡ s.header.aca) (ltb n nexuses) (λ e. refl) (λ e. refl)

untold : (i k n : ℕ) (ls : List Task) (ps : List Pending) → i + k ≡ n → get_or (tell_losers_from i n ls ps) k no_pending ≡ get_or ps k no_pending
untold i k n ls [] e = refl
untold i zero n ls (p ∷ ps) e = rw (eq-eqb i n (omega arith))
untold i (suc k) n ls (p ∷ ps) e = untold (suc i) k n ls ps (omega arith)

-- the causing nexus is not told 2Fh/00h of its own aborts
pub causing_nexus_untold : (n : ℕ) (ls : List Task) (ps : List Pending) → get_or (tell_losers_from 0 n ls ps) n no_pending ≡ get_or ps n no_pending
causing_nexus_untold n ls ps = untold 0 n n ls ps (omega arith)

plain_resets : (a : Attribute) (run : ℕ) → is_plain a ≡ true → run_after a run ≡ 0
plain_resets Simple run e = refl
plain_resets HeadOfQueue run e = not_both e refl
plain_resets Ordered run e = refl
plain_resets Aca run e = not_both e refl

-- RULES 1.15: to 0 if SIMPLE or ORDERED
pub turn_resets_run : (h : Header) (f : Finish) (t : Task) → is_plain t.attribute ≡ true → (finish h f t true).header.run ≡ 0
turn_resets_run h f t e =
    finish_cases (λ c. c.header.run ≡ 0) h f t true (λ q. plain_resets t.attribute h.run e) (λ q. plain_resets t.attribute h.run e)

-- the bit reported is the first in rank that is set
pub top_first : (p : Pending) → top p ≡ first (is_set p) ranks
top_first p = go p.power p.hard p.unit p.loss p.cleared
  where
    bits : Bool → Bool → Bool → Bool → Bool → Pending
    bits a b c d e = record { power = a; hard = b; unit = c; loss = d; cleared = e }

    go : (a b c d e : Bool) → top (bits a b c d e) ≡ first (is_set (bits a b c d e)) ranks
    go true b c d e = refl
    go false true c d e = refl
    go false false true d e = refl
    go false false false true e = refl
    go false false false false true = refl
    go false false false false false = refl

-- an aborted task leaves the table, waiting or not
pub aborted_is_gone : (s : State) (n g : ℕ) → n < nexuses → any (same n g) (step s (Management n (AbortTask g))).tasks ≡ false
unfolding step ruling rule_for manage
aborted_is_gone s n g l =
    rw (lt-ltb n nexuses l, any_restate (same n g) (λ t st. refl) s.header.aca s.header.aca, append-nil)
    (ended_gone (same n g) 0xFF s.tasks)

pub qerr_all_ends : (n g : ℕ) (p : Policy) (t : Task) → p.qerr ≡ EndAll → is_ends (fate_of (FailedTask n g p) t) ≡ true
qerr_all_ends n g p t e = rw e (go (same n g t))
  where
    go : (b : Bool) → is_ends (or_else (end_if b 0x02) (aborted_by p n t)) ≡ true
    go true = refl
    go false = refl

-- RULES 4.5, 01b: every other task, of whichever nexus
pub qerr_all_empties : (n g : ℕ) (p : Policy) (ts : List Task) → p.qerr ≡ EndAll → kept (map (fate_of (FailedTask n g p)) ts) ts ≡ []
qerr_all_empties n g p ts e = (all_end (fate_of (FailedTask n g p)) ts (λ t. qerr_all_ends n g p t e)).0

all_power : (ps : List Pending) → map after_power_on ps ≡ replicate (length ps) (after_power_on no_pending)
all_power [] = refl
all_power (p ∷ ps) = ap (λ (l : List Pending). after_power_on no_pending ∷ l) (all_power ps)

-- RULES 4.2 and 8.2
pub power_on_fresh : (s : State) → WellFormed s → step s (Condition PowerOn) ≡ fresh (lasting s.header)
unfolding step ruling rule_for happen fresh
power_on_fresh s w = λ i. record { header = head i; pending = pend i; tasks = none_left i }
  where
    after : List Task
    after = settle_from [] (kept (map (fate_of AllTasks) s.tasks) s.tasks ++ [])

    none_left : after ≡ []
    none_left = rw (all_end (fate_of AllTasks) s.tasks (λ t. refl)).0

    head : lasting_with s.header (length after) None 0 ≡ fresh_header (lasting s.header)
    head = rw (all_end (fate_of AllTasks) s.tasks (λ t. refl)).0

    pend : map after_power_on s.pending ≡ replicate nexuses (after_power_on no_pending)
    pend = all_power s.pending ∙ ap (λ n. replicate n (after_power_on no_pending)) w.eight
