-- The worst cases over bytes: one turn before the figure the task is still there, so no lower figure holds.
use Rattle.std.specs.Prelude.{Some}
use Prim.Native.Nat.{ℕ, zero, suc, ◌+◌, ◌≤◌, ◌<◌}
use mathlib.Core.Path.{◌≡◌, refl, ap, sym, ◌∙◌}
use mathlib.Core.Bool.{Bool, true, false}
use mathlib.Core.List.{List, [], ◌∷◌, ◌++◌, map, append-nil, append_assoc, append_cancel_left}
use native.Mathlib.Omega.{arith}
use lib.Dec.{eqb, leb}
use lib.ListN.{get_or, replicate, length-replicate}
use borrow.Author.Tests.{leb-true, leb-false}
use Rattle.laws.specs.Lists.{one_if, any}
use Rattle.laws.proofs.Bools.{not_both, split}
use Rattle.laws.proofs.Lists.{any_append}
use Rattle.octets.specs.Sizes.{first_offset}
use Rattle.rules.specs.Types.{Entry, Finish, Event, Command, Completion, Policy, Named}
use Rattle.rules.specs.Tasks.{places, is_aca}
use Rattle.rules.specs.Rulings.{State, ended_name, same_name}
use Rattle.rules.proofs.WellKept.{Tested}
use Rattle.records.specs.Numbers.{attribute_number, attribute_from, policy_from, policy_fits}
use Rattle.records.specs.Tables.{table_size}
use Rattle.records.specs.Events.{event_of, event_bytes}
use Rattle.records.proofs.EventsSay.{event_bytes_back}
use Rattle.history.specs.History.{advance, play, after}
use Rattle.history.specs.Waits.{longest, itself, worst_before, worst_since}
use Rattle.history.proofs.Reached.{tested_advance, tested_play, tested_after}
use Rattle.history.proofs.Listed.{present_is_listed}
use Rattle.history.proofs.Least.{Met, met}
use Rattle.operations.specs.Operations.{started}
use Rattle.numbers.specs.Boundary.{start_number}
use Rattle.demands.specs.Calls.{Call, applied, table_by, opened}
use Rattle.demands.specs.Seen.{event_name, listed, listed_by, is_listed, is_turn_by, turns_by}
use Rattle.demands.specs.WorstCalls.{call_itself, calls_before, calls_begun, calls_since, call_end, StillThere}
use Rattle.demands.specs.Demands.{EndedBy, Holds, WaitsLongest}
use Rattle.demands.proofs.Reading.{event_reads, known_asked, head_byte, present_is}
use Rattle.demands.proofs.Refused.{demand1}
use Rattle.demands.proofs.Followed.{started_opened}
use Rattle.demands.proofs.Waited.{longest_in_bytes}
use Rattle.demands.proofs.Sent.{turn_call, accepted_called, heads_called, others_called, turns_called, listed_called, table_called}

-- RULES 14.2: 0 SIMPLE, 1 HEAD OF QUEUE, 2 ORDERED
by_ordinary : (P : ℕ → Type 0) → P 0 → P 1 → P 2 → (x : ℕ) → x ≤ 2 → P x
by_ordinary P p q r zero l = p
by_ordinary P p q r (suc zero) l = q
by_ordinary P p q r (suc (suc zero)) l = r
by_ordinary P p q r (suc (suc (suc x))) l = absurd (omega arith)

ordinary_byte : (x : ℕ) → x ≤ 2 → is_aca (attribute_from x) ≡ false
ordinary_byte = by_ordinary (λ x. is_aca (attribute_from x) ≡ false) refl refl refl

ordinary_number : (x : ℕ) → x ≤ 2 → attribute_number (attribute_from x) ≡ x
ordinary_number = by_ordinary (λ x. attribute_number (attribute_from x) ≡ x) refl refl refl

module _ (x : ℕ) where
  abbrev entry : Entry
  entry = record { nexus = 2; asked = Some (attribute_from x); naca = false; exempt = true; tag = 0 }

  read_back : event_of (event_bytes (Command entry)) ≡ Some (Command entry)
  read_back = event_bytes_back (Command entry)

  -- the task itself comes in as 2.0, with the attribute byte x
  named_itself : event_name (call_itself x).event ≡ itself
  named_itself = (event_reads (event_bytes (Command entry)) (Some (Command entry)) read_back).1

  asked_byte : x ≤ 2 → get_or (call_itself x).event first_offset 0 ≡ x
  asked_byte few = known_asked (event_bytes (Command entry)) entry (attribute_from x) read_back refl ∙ ordinary_number x few

module _ (p : Policy) (x a b : ℕ) (few : x ≤ 2) (room : a + b < places) where
  abbrev es : List Event
  es = worst_before (eqb x 1) a b

  abbrev later : List Event
  later = worst_since (eqb x 1) a b

  m : Met p (attribute_from x) (eqb x 1) a b
  m = met p (attribute_from x) (eqb x 1) a b (ordinary_byte x few) (head_byte x) room

  abbrev last : State
  last = (play (advance (after p es) (Command (entry x))) later).state

  last_tested : Tested last
  last_tested = tested_play (advance (after p es) (Command (entry x))) later (tested_advance (after p es) (Command (entry x)) (tested_after p es))

  still_there : StillThere (opened p) x a b
  still_there =
      record {
        called = named_itself x;
        asked = asked_byte x few;
        accepted = accepted_called p es (entry x) later _ m.accepts;
        heads = heads_called p es (entry x) later ∙ m.heads;
        others = others_called p es (entry x) later ∙ m.others;
        turns = rw (turns_called p es (entry x) later) m.waits;
        unlisted =
            ap (any (same_name itself))
            (append_cancel_left (map ended_name (advance (after p es) (Command (entry x))).log) _ m.ended
            (listed_called p es (entry x) later ∙ sym m.listed))
            ∙ m.unlisted;
        present =
            rw (table_called p es (entry x) later, present_is last last_tested)
            (present_is_listed p es (Command (entry x)) _ later m.accepts m.there);
        next = λ f. rw (table_called p es (entry x) later) (turn_call last (Completion itself.nexus itself.tag f) last_tested ∙ m.next f);
      }

-- RULES 23.9
met_in_bytes : (t : List ℕ) (c x a b : ℕ) → start_number t c ≡ 0 → x ≤ 2 → a + b < places → StillThere (started t c).table x a b
met_in_bytes t c x a b q few room = rw (started_opened t c q) (still_there (policy_from c) x a b few room)

-- so no lower figure holds
least_in_bytes : (c x a b n : ℕ) → policy_fits c ≡ true → x ≤ 2 → a + b < places → EndedBy c x a b n → longest (eqb x 1) a b ≤ n
least_in_bytes c x a b n fits few room f =
    let t : List ℕ = replicate table_size 0 in
    let q = (demand1.start_done t c).1 (length-replicate {A = ℕ} table_size 0, fits) in
    let m = met_in_bytes t c x a b q few room in
    split (leb (longest (eqb x 1) a b) n) (λ e. leb-true (longest (eqb x 1) a b) n e)
    (λ e.
    not_both
    (f t (calls_before x a b) (call_itself x) (calls_since x a b) q m.accepted m.asked m.heads m.others
    (omega (arith, leb-false (longest (eqb x 1) a b) n e, m.turns)))
    (rw m.called m.unlisted))

table_then : (t : List ℕ) (xs ys : List Call) → table_by t (xs ++ ys) ≡ table_by (table_by t xs) ys
table_then t [] ys = refl
table_then t (m ∷ xs) ys = table_then (applied t m).table xs ys

turns_then : (t : List ℕ) (ms : List Call) (m : Call) → turns_by t (ms ++ (m ∷ [])) ≡ turns_by t ms + one_if (is_turn_by (table_by t ms) m)
turns_then t [] m = omega arith
turns_then t (n ∷ ms) m = omega (arith, turns_then (applied t n).table ms m)

listed_then : (t : List ℕ) (ms : List Call) (m : Call) → listed_by t (ms ++ (m ∷ [])) ≡ listed_by t ms ++ listed (table_by t ms) m
listed_then t [] m = append-nil (listed t m)
listed_then t (n ∷ ms) m =
    ap (λ (l : List Named). listed t n ++ l) (listed_then (applied t n).table ms m)
    ∙ sym (append_assoc (listed t n) (listed_by (applied t n).table ms) (listed (table_by (applied t n).table ms) m))

-- and its own completion is the turn of the figure, whose report lists it
pub ends_by_its_turn :
    (t : List ℕ) (c x a b : ℕ) (f : Finish) → start_number t c ≡ 0 → x ≤ 2 → a + b < places
    → (turns_by (table_by (started t c).table (calls_begun x a b)) (calls_since x a b ++ (call_end f ∷ [])) ≡ longest (eqb x 1) a b)
    × (is_listed itself (listed (table_by (started t c).table (calls_begun x a b ++ calls_since x a b)) (call_end f)) ≡ true)
ends_by_its_turn t c x a b f q few room =
    let begun = table_by (started t c).table (calls_begun x a b) in
    let m = met_in_bytes t c x a b q few room in
    let there = table_then (started t c).table (calls_begun x a b) (calls_since x a b) in
    let own : is_turn_by (table_by begun (calls_since x a b)) (call_end f) ≡ true = rw (← there) (m.next f) in
    let count : turns_by begun (calls_since x a b ++ (call_end f ∷ [])) ≡ longest (eqb x 1) a b =
    turns_then begun (calls_since x a b) (call_end f) ∙ omega (arith, ap one_if own, m.turns)
    in
    let ended : is_listed itself (listed_by begun (calls_since x a b ++ (call_end f ∷ []))) ≡ true =
    rw (← m.called)
    (longest_in_bytes c x a b (λ e. omega arith) t (calls_before x a b) (call_itself x) (calls_since x a b ++ (call_end f ∷ [])) q m.accepted
    m.asked
    m.heads
    m.others
    (omega (arith, count)))
    in (
      count,
      ap (λ (l : List ℕ). is_listed itself (listed l (call_end f))) there
          ∙ sym (any_append (same_name itself) (listed_by begun (calls_since x a b)) (listed (table_by begun (calls_since x a b)) (call_end f)) m.unlisted)
          ∙ ap (any (same_name itself)) (sym (listed_then begun (calls_since x a b) (call_end f)))
          ∙ ended,
    )

pub exact_in_bytes : WaitsLongest
exact_in_bytes = record { holds = longest_in_bytes; met = met_in_bytes; least = least_in_bytes }

-- of figures that hold, at the edges; so what `least` asks can be met there
pub least_at_edges : (f : Bool → ℕ → ℕ → ℕ) → Holds f → (316 ≤ f false 0 63) × (64 ≤ f true 63 0) × (5 ≤ f false 0 0)
least_at_edges f h = (
  least_in_bytes 7 2 0 63 (f false 0 63) refl (omega arith) (omega arith) (h 7 2 0 63 (λ e. omega arith)),
  least_in_bytes 0 1 63 0 (f true 63 0) refl (omega arith) (omega arith) (h 0 1 63 0 (λ e. omega arith)),
  least_in_bytes 3 0 0 0 (f false 0 0) refl (omega arith) (omega arith) (h 3 0 0 0 (λ e. omega arith)),
)
