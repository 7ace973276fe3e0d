-- The wait by what the operations answer: the longest there is, the customer's figure, and the mission's demand 3, each by the one before.
use Rattle.std.specs.Prelude.{Some}
use Prim.Native.Nat.{ℕ, zero, suc, ◌+◌, ◌≤◌}
use mathlib.Core.Path.{◌≡◌, refl, ap, sym, ◌∙◌}
use mathlib.Core.Bool.{Bool, true}
use mathlib.Core.List.{List, [], ◌∷◌, ◌++◌, map}
use native.Mathlib.Omega.{arith}
use lib.Dec.{eqb}
use lib.ListN.{length, get_or, drop}
use Rattle.laws.specs.Lists.{any}
use Rattle.laws.proofs.Lists.{count_both}
use Rattle.octets.specs.Sizes.{first_offset}
use Rattle.rules.specs.Rulings.{task_name, ended_name, same_name}
use Rattle.rules.specs.Rules.{new_task}
use Rattle.rules.proofs.NewTasks.{new_task_name}
use Rattle.records.specs.Numbers.{policy_from}
use Rattle.records.specs.Records.{task_size}
use Rattle.records.specs.Tables.{tasks_at, count_in}
use Rattle.history.specs.History.{Past, advance, play, after, turns}
use Rattle.history.specs.Waits.{heads_among, others_among, requested, longest}
use Rattle.history.proofs.Reached.{tested_after}
use Rattle.history.proofs.Figures.{longest_requested, requested_mission}
use Rattle.history.proofs.Wait.{waits_longest}
use Rattle.history.proofs.Listed.{end_is_listed}
use Rattle.operations.specs.Operations.{started}
use Rattle.rules.specs.Types.{Event, Command, Policy, Named}
use Rattle.demands.specs.Calls.{Call, table_by, heard, events_in, opened}
use Rattle.demands.specs.Seen.{event_name, attributes_from, heads_in, others_in, is_accepted, listed_by, is_listed, turns_by}
use Rattle.demands.specs.Demands.{Demand3, Holds, WaitsRequested}
use Rattle.demands.proofs.Reading.{event_reads, head_asked, heads_in_lem, others_in_lem}
use Rattle.demands.proofs.Counted.{turns_run}
use Rattle.demands.proofs.Entered.{Entering, accepted_enters}
use Rattle.demands.proofs.Told.{listed_run}
use Rattle.demands.proofs.Followed.{started_opened, table_after_lem, after_append}

module _ (p : Policy) (ms : List Call) where
  -- a and b in the table's bytes
  pub heads_after : heads_in (table_by (opened p) ms) ≡ heads_among (after p (events_in ms)).state.tasks
  heads_after = rw (table_after_lem p ms) (heads_in_lem (after p (events_in ms)).state (tested_after p (events_in ms)))

  pub others_after : others_in (table_by (opened p) ms) ≡ others_among (after p (events_in ms)).state.tasks
  others_after = rw (table_after_lem p ms) (others_in_lem (after p (events_in ms)).state (tested_after p (events_in ms)))

  pub turns_after : (later : List Call) → turns_by (table_by (opened p) ms) later ≡ turns (after p (events_in ms)) (events_in later)
  turns_after later = rw (table_after_lem p ms) (turns_run later (after p (events_in ms)) (tested_after p (events_in ms)))

  pub listed_after :
      (later : List Call)
      → map ended_name (after p (events_in ms)).log ++ listed_by (table_by (opened p) ms) later
      ≡ map ended_name (play (after p (events_in ms)) (events_in later)).log
  listed_after later = rw (table_after_lem p ms) (listed_run later (after p (events_in ms)) (tested_after p (events_in ms)))

  pub after_one : (m : Call) (e : Event) → heard m ≡ e ∷ [] → after p (events_in (ms ++ (m ∷ []))) ≡ advance (after p (events_in ms)) e
  after_one m e q = after_append p ms (m ∷ []) ∙ ap (λ (l : List Event). play (after p (events_in ms)) (l ++ [])) q

new_name : (m : Call) (h : Past) (x : Entering h m) → event_name m.event ≡ task_name (new_task x.command)
new_name m h x = (event_reads m.event (Some (Command x.command)) x.read).1 ∙ sym (new_task_name x.command)

module _ (p : Policy) (ms : List Call) (m : Call) (later : List Call) where
  abbrev before : List ℕ
  before = table_by (opened p) ms

  abbrev begun : List ℕ
  begun = table_by (opened p) (ms ++ (m ∷ []))

  waited :
      is_accepted before m ≡ true → longest (eqb (get_or m.event first_offset 0) 1) (heads_in before) (others_in before) ≤ turns_by begun later
      → is_listed (event_name m.event) (listed_by begun later) ≡ true
  waited a l =
      let h = after p (events_in ms) in
      let w = tested_after p (events_in ms) in
      let x = accepted_enters h m w (rw (table_after_lem p ms) at a) in
      let e = Command x.command in
      let one = after_one p ms m e x.asked in
      let since : turns_by begun later ≡ turns (advance h e) (events_in later) =
      turns_after p (ms ++ (m ∷ [])) later ∙ ap (λ (g : Past). turns g (events_in later)) one
      in
      let ended =
      waits_longest p (events_in ms) e (new_task x.command) (events_in later) x.joins
      (rw (head_asked m.event x.command x.read, ← since, ← (heads_after p ms), ← (others_after p ms)) l)
      in
      ap (λ (k : Named). any (same_name k) (listed_by begun later)) (new_name m h x)
      ∙ end_is_listed p (events_in ms) e (new_task x.command) (events_in later) (listed_by begun later) x.joins ended
      (rw one at (listed_after p (ms ++ (m ∷ [])) later))

-- RULES 23.8
pub longest_in_bytes : Holds longest
longest_in_bytes c x a b n t ms m later q j e k o l =
    let fresh = started_opened t c q in
    let before = table_by (started t c).table ms in
    let wait :
    longest (eqb (get_or m.event first_offset 0) 1) (heads_in before) (others_in before)
    ≤ turns_by (table_by (started t c).table (ms ++ (m ∷ []))) later =
    rw (e, k, o) l
    in
    rw fresh (waited (policy_from c) ms m later (rw fresh at j) (rw fresh at wait))

-- a figure holds that is nowhere lower than one that does
holds_too : (f g : Bool → ℕ → ℕ → ℕ) → ((head : Bool) (a b : ℕ) → f head a b ≤ g head a b) → Holds f → Holds g
holds_too f g d h c x a b n t ms m later q j e k o l = h c x a b n t ms m later q j e k o (omega (arith, d (eqb x 1) a b))

-- RULES 23.7
pub requested_in_bytes : WaitsRequested
requested_in_bytes = holds_too longest requested longest_requested longest_in_bytes

both_in : (t : List ℕ) → heads_in t + others_in t ≡ count_in t
both_in t = count_both (λ x. eqb x 1) (attributes_from (count_in t) (drop tasks_at t)) ∙ go (count_in t) (drop tasks_at t)
  where
    go : (n : ℕ) (l : List ℕ) → length (attributes_from n l) ≡ n
    go zero l = refl
    go (suc n) l = ap suc (go n (drop task_size l))

-- RULES 23.5
pub demand3 : Demand3
demand3 t c ms m later q j n l =
    let before = table_by (started t c).table ms in
    let x = get_or m.event first_offset 0 in
    requested_in_bytes c x (heads_in before) (others_in before) n t ms m later q j refl refl refl
    (omega (arith, requested_mission (eqb x 1) (heads_in before) (others_in before), both_in before))
