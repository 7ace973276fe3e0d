-- What code decides from searches over a good table is the ruling on the state that the table says.
use Rattle.std.specs.Prelude.{Option, Some, None}
use Prim.Native.Nat.{ℕ, zero, suc, ◌+◌, ◌*◌, ◌≤◌, ◌<◌}
use mathlib.Core.Bool.{Bool, true}
use mathlib.Core.Path.{◌≡◌, refl, ap, sym, ◌∙◌}
use mathlib.Core.List.{List, []}
use native.Mathlib.Omega.{arith}
use lib.ListN.{get_or, drop}
use lib.Seq.{get_or-drop, get_or-take}
use Rattle.laws.specs.Lists.{any, first}
use Rattle.laws.specs.RecordsInLists.{record_at}
use Rattle.octets.specs.Sizes.{head_size, nexus_size, tasks_at, pendings_at, nexuses_at, count_offset, pending_offset}
use Rattle.rules.specs.Tasks.{places, nexuses, aca_task, same, whose_turn, turn_of, is_named}
use Rattle.rules.specs.Bits.{no_pending}
use Rattle.rules.specs.Rulings.{pending_of, turn}
use Rattle.rules.specs.Rules.{enter, complete, nexus_of, rule_for, ruling}
use Rattle.rules.specs.Well.{states_fit}
use Rattle.rules.proofs.Cases.{ruling_low, rule_command, rule_completion, rule_management, rule_condition}
use Rattle.rules.proofs.Settled.{settled_ordinary}
use Rattle.rules.proofs.TurnRule.{named_in_aca}
use Rattle.rules.proofs.WellKept.{Tested}
use Rattle.records.specs.Numbers.{pending_from}
use Rattle.records.specs.Records.{header_from}
use Rattle.records.specs.Tables.{tasks_from, pendings_from, state_of, good_table}
use Rattle.records.proofs.Good.{good_tested}
use Rattle.decide.proofs.Chosen.{chosen_named}
use Rattle.decide.specs.Searches.{searched_turn}
use Rattle.rules.specs.Types.{Task, Event, Command, Completion, Management, Condition, Allegiance, Header, Pending, Named}
use Rattle.ruling.specs.Deciding.{has_aca, pending_at, searched_ruling}

has_aca_is : (a : Allegiance) (ts : List Task) → states_fit a ts ≡ true → has_aca a ts ≡ any aca_task ts
has_aca_is None ts e = sym (settled_ordinary [] ts e)
has_aca_is (Some f) ts e = refl

pub searched_turn_is : (a : Allegiance) (run : ℕ) (ts : List Task) → states_fit a ts ≡ true → searched_turn a run ts ≡ turn_of (whose_turn a run ts)
searched_turn_is None run ts e = chosen_named run ts e
searched_turn_is (Some f) run ts e = rw (named_in_aca f run ts)

pendings_at_lem : (k n : ℕ) (l : List ℕ) → n < k → get_or (pendings_from k l) n no_pending ≡ pending_from (get_or l (nexus_size * n + pending_offset) 0)
unfolding pendings_from
pendings_at_lem zero n l h = absurd (omega arith)
pendings_at_lem (suc k) zero l h = rw (get_or-take nexus_size l pending_offset 0 (omega arith))
pendings_at_lem (suc k) (suc n) l h =
    pendings_at_lem k n (drop nexus_size l) (omega arith)
    ∙ rw (get_or-drop)
    (ap (λ (i : ℕ). pending_from (get_or l i 0)) (let z : nexus_size + (nexus_size * n + pending_offset) ≡ nexus_size * suc n + pending_offset = omega arith in z))

pending_at_is : (b : List ℕ) (n : ℕ) → n < nexuses → pending_at b n ≡ get_or (pendings_from nexuses (drop nexuses_at b)) n no_pending
pending_at_is b n h =
    sym
    (pendings_at_lem nexuses n (drop nexuses_at b) h
    ∙ rw (get_or-drop) (ap (λ (i : ℕ). pending_from (get_or b i 0)) (let z : nexuses_at + (nexus_size * n + pending_offset) ≡ pendings_at + nexus_size * n = omega arith in z)))

at_nexus : (b : List ℕ) (n : ℕ) → n < nexuses → pending_at b n ≡ pending_of (state_of b) n
unfolding state_of
at_nexus b n h = pending_at_is b n h

rule_for_lem :
    (b : List ℕ) (e : Event) → Tested (state_of b) → nexus_of e < nexuses
    → searched_ruling b (state_of b).header e (state_of b).tasks ≡ rule_for (state_of b) e
unfolding searched_ruling
rule_for_lem b (Command c) w l =
    ap (λ (a : Bool). enter (state_of b).header c (any (same c.nexus c.tag) (state_of b).tasks) a (pending_at b c.nexus))
    (has_aca_is (state_of b).header.aca (state_of b).tasks w.states)
    ∙ ap (λ (p : Pending).
    enter (state_of b).header c (any (same c.nexus c.tag) (state_of b).tasks) (any aca_task (state_of b).tasks) p)
    (at_nexus b c.nexus l)
    ∙ sym (rule_command (state_of b) c)
rule_for_lem b (Completion n g f) w l =
    ap (λ (u : Option Named). complete (state_of b).header (first (same n g) (state_of b).tasks) f (is_named n g u))
    (searched_turn_is (state_of b).header.aca (state_of b).header.run (state_of b).tasks w.states)
    ∙ sym (rule_completion (state_of b) n g f)
rule_for_lem b (Management n f) w l = sym (rule_management (state_of b) n f)
rule_for_lem b (Condition c) w l = sym (rule_condition (state_of b) c)

pub searched_ruling_is :
    (b : List ℕ) (e : Event) → good_table b ≡ true → nexus_of e < nexuses
    → searched_ruling b (state_of b).header e (state_of b).tasks ≡ ruling (state_of b) e
searched_ruling_is b e g l = rule_for_lem b e (good_tested b g) l ∙ sym (ruling_low (state_of b) e l)

-- What code reads of a good table ------------------------------------------------------------------------------------------------------------

pub good_few : (b : List ℕ) → good_table b ≡ true → (state_of b).header.count ≤ places
good_few b e = omega (arith, (good_tested b e).counted, (good_tested b e).few)

pub header_read : (b : List ℕ) (h : Header) → h ≡ header_from (record_at head_size b 0) → h ≡ (state_of b).header
unfolding state_of
header_read b h e = e

tasks_counted : (b : List ℕ) → tasks_from (state_of b).header.count (drop tasks_at b) ≡ (state_of b).tasks
unfolding state_of
tasks_counted b = ap (λ (n : ℕ). tasks_from n (drop tasks_at b)) (get_or-take head_size b count_offset 0 (omega arith))

module _ (b : List ℕ) (h : Header) (good : good_table b ≡ true) (read : h ≡ (state_of b).header) where
  pub turn_read : searched_turn h.aca h.run (tasks_from h.count (drop tasks_at b)) ≡ turn (state_of b)
  turn_read =
      ap (λ (k : Header). searched_turn k.aca k.run (tasks_from k.count (drop tasks_at b))) read
      ∙ ap (searched_turn (state_of b).header.aca (state_of b).header.run) (tasks_counted b)
      ∙ searched_turn_is (state_of b).header.aca (state_of b).header.run (state_of b).tasks (good_tested b good).states

  pub ruling_read : (e : Event) → nexus_of e < nexuses → searched_ruling b h e (tasks_from h.count (drop tasks_at b)) ≡ ruling (state_of b) e
  ruling_read e l =
      ap (λ (k : Header). searched_ruling b k e (tasks_from k.count (drop tasks_at b))) read
      ∙ ap (searched_ruling b (state_of b).header e) (tasks_counted b)
      ∙ searched_ruling_is b e good l
