-- The turns that a driver counts off bytes and answers are the turns of the rules.
use Rattle.std.specs.Prelude.{Option, Some, None}
use Prim.Native.Nat.{ℕ, ◌+◌}
use mathlib.Core.Bool.{Bool, true, false, ◌&&◌, and-true as and_on, and-false as and_off}
use mathlib.Core.Path.{◌≡◌, refl, ap, ◌∙◌}
use mathlib.Core.List.{List, [], ◌∷◌, ◌++◌}
use native.Mathlib.Omega.{arith}
use lib.Dec.{eqb}
use lib.ListN.{length}
use borrow.Author.Tests.{ne_eqb}
use Rattle.laws.specs.Lists.{one_if}
use Rattle.rules.specs.Tasks.{is_named}
use Rattle.rules.specs.Rulings.{State, is_clear, turn}
use Rattle.rules.proofs.WellKept.{Tested}
use Rattle.records.proofs.ReadBack.{written_aca}
use Rattle.records.specs.Numbers.{aca_number}
use Rattle.records.specs.Tables.{report_size, table_bytes}
use Rattle.records.specs.Events.{event_of}
use Rattle.history.specs.History.{Past, play, is_done, is_turn, turns}
use Rattle.history.proofs.Reached.{tested_play}
use Rattle.operations.specs.Operations.{naming}
use Rattle.operations.proofs.Answered.{number_of}
use Rattle.rules.specs.Types.{Event, Command, Completion, Management, Condition, Allegiance, Answer, Done, BadTable, BadReport, BadEvent, NexusAboveSeven, NoSuchTask, NotEnabled, EndedAtEntry, Rejected, BadPolicy, Named}
use Rattle.numbers.specs.Boundary.{turn_for}
use Rattle.demands.specs.Calls.{Call, heard_if, heard, events_in, expected_on, expected_if, expected}
use Rattle.demands.specs.Seen.{kind_of, event_name, is_named_by, is_turn_by, turns_by}
use Rattle.demands.proofs.Runs.{outcome_is, named_is, one_call}
use Rattle.demands.proofs.Reading.{Reads, event_reads}

pub done_number : (a : Answer) → eqb (number_of a) 0 ≡ is_done a
done_number Done = refl
done_number BadTable = refl
done_number BadReport = refl
done_number BadEvent = refl
done_number NexusAboveSeven = refl
done_number NoSuchTask = refl
done_number NotEnabled = refl
done_number (EndedAtEntry st se) = refl
done_number Rejected = refl
done_number BadPolicy = refl

clear_byte : (a : Allegiance) → eqb (aca_number a) 0 ≡ is_clear a
clear_byte None = refl
clear_byte (Some f) = ne_eqb (f + 1) 0 (λ e. omega arith)

pub named_by : (n g : ℕ) (u : Option Named) → is_named_by (turn_for (naming Done u)) (record { nexus = n; tag = g }) ≡ is_named n g u
named_by n g None = refl
named_by n g (Some x) = refl

abbrev pub turn_in : State → Option Event → Bool
turn_in s None = false
turn_in s (Some e) = is_turn s e

abbrev pub turn_if : Bool → State → Option Event → Bool
turn_if true s o = turn_in s o
turn_if false s o = false

module _ (s : State) (r e : List ℕ) where
  -- the four tests of a turn, by the kind, the name and whether the answer is 0
  abbrev tests : ℕ → Named → Bool → Bool
  tests k x d = is_clear s.header.aca && eqb k 2 && is_named_by (turn_for (naming Done (turn s))) x && d

  refused_none : (k : ℕ) (x : Named) → tests k x false ≡ false
  refused_none k x = and_off (is_clear s.header.aca && eqb k 2 && is_named_by (turn_for (naming Done (turn s))) x)

  other_kind : (k : ℕ) (x : Named) (d : Bool) → kind_of e ≡ k → eqb k 2 ≡ false → tests (kind_of e) x d ≡ false
  other_kind k x d q n = rw (q, n, and_off (is_clear s.header.aca))

  turn_parts : (o : Option Event) → Reads o e → tests (kind_of e) (event_name e) (is_done (expected_on s r o).answer) ≡ turn_in s o
  turn_parts None q = refused_none (kind_of e) (event_name e)
  turn_parts (Some (Command c)) q = other_kind 1 (event_name e) _ q.0 refl
  turn_parts (Some (Completion n g f)) q =
      ap (λ (k : ℕ). tests k (event_name e) (is_done (expected_on s r (Some (Completion n g f))).answer)) q.0
      ∙ ap (λ (x : Named). tests 2 x (is_done (expected_on s r (Some (Completion n g f))).answer)) q.1
      ∙ rw (named_by n g (turn s), and_on (is_clear s.header.aca))
  turn_parts (Some (Management n f)) q = other_kind 3 (event_name e) _ q refl
  turn_parts (Some (Condition c)) q = other_kind 4 (event_name e) _ q refl

  turn_if_lem : (b : Bool) (o : Option Event) → Reads o e → tests (kind_of e) (event_name e) (is_done (expected_if b s r o).answer) ≡ turn_if b s o
  turn_if_lem true o q = turn_parts o q
  turn_if_lem false o q = refused_none (kind_of e) (event_name e)

-- the report buffer is as long as it has to be
abbrev pub fits : Call → Bool
fits m = eqb (length m.report) report_size

pub turn_is : (s : State) (m : Call) → Tested s → is_turn_by (table_bytes s) m ≡ turn_if (fits m) s (event_of m.event)
unfolding is_turn_by
turn_is s m w =
    rw (written_aca s, clear_byte s.header.aca, named_is s w, outcome_is s m w, done_number (expected s m).answer)
    (turn_if_lem s m.report m.event (fits m) (event_of m.event) (event_reads m.event (event_of m.event) refl))

one_event :
    (b : Bool) (h : Past) (o : Option Event) (es : List Event)
    → one_if (turn_if b h.state o) + turns (play h (heard_if b o)) es ≡ turns h (heard_if b o ++ es)
one_event false h o es = omega arith
one_event true h None es = omega arith
one_event true h (Some e) es = refl

pub turns_run : (ms : List Call) (h : Past) → Tested h.state → turns_by (table_bytes h.state) ms ≡ turns h (events_in ms)
turns_run [] h w = refl
turns_run (m ∷ ms) h w =
    let h' = play h (heard m) in
    ap (λ (t : List ℕ). one_if (is_turn_by (table_bytes h.state) m) + turns_by t ms) (one_call h m w)
    ∙ ap (λ (b : Bool). one_if b + turns_by (table_bytes h'.state) ms) (turn_is h.state m w)
    ∙ ap (λ (n : ℕ). one_if (turn_if (fits m) h.state (event_of m.event)) + n) (turns_run ms h' (tested_play h (heard m) w))
    ∙ one_event (fits m) h (event_of m.event) (events_in ms)
