-- A run over bytes is the run of the rules over the events that they are asked.
use Rattle.std.specs.Prelude.{Option, Some, None}
use Prim.Native.Nat.{ℕ}
use mathlib.Core.Bool.{Bool, true, false}
use mathlib.Core.Path.{◌≡◌, refl, ap, sym, ◌∙◌}
use mathlib.Core.List.{List, [], ◌∷◌, ◌++◌, append_assoc}
use lib.Dec.{eqb}
use lib.ListN.{length}
use borrow.Author.Tests.{eqb-true, eqb-false}
use Rattle.laws.proofs.Bools.{split}
use Rattle.rules.specs.Rulings.{State, turn}
use Rattle.rules.specs.Rules.{ruling}
use Rattle.rules.proofs.WellKept.{Tested}
use Rattle.records.specs.Tables.{report_size, table_bytes}
use Rattle.records.specs.Events.{event_of}
use Rattle.records.proofs.ReadBack.{state_back_again}
use Rattle.records.proofs.GoodSays.{good_written}
use Rattle.history.specs.History.{Past, play}
use Rattle.history.proofs.Advanced.{advance_state, play_append}
use Rattle.history.proofs.Reached.{tested_play}
use Rattle.operations.proofs.Looked.{looked, no_report}
use Rattle.operations.proofs.Names.{named_good}
use Rattle.operations.proofs.Carried.{ruling_carried}
use Rattle.operations.specs.Operations.{Outcome, carried, on_event, outcome, naming, named}
use Rattle.rules.specs.Types.{Event, Done}
use Rattle.demands.specs.Calls.{Call, applied, table_by, heard_if, heard, events_in, expected_on, expected_if, expected}

-- One call -----------------------------------------------------------------------------------------------------------------------------------

outcome_on : (s : State) (r v : List ℕ) → Tested s → length r ≡ report_size → outcome (table_bytes s) r v ≡ expected_on s r (event_of v)
outcome_on s r v w l = looked (table_bytes s) r v (good_written s w) l (event_of v) refl ∙ go (event_of v)
  where
    go : (o : Option Event) → on_event (table_bytes s) r o ≡ expected_on s r o
    go None = refl
    go (Some e) =
        ap (λ (z : State). carried (table_bytes s) r z (ruling z e)) (state_back_again s w.counted w.eight) ∙ ruling_carried s r e

-- whatever is lent
pub outcome_is : (s : State) (m : Call) → Tested s → applied (table_bytes s) m ≡ expected s m
outcome_is s m w =
    split (eqb (length m.report) report_size)
    (λ y. rw y (outcome_on s m.report m.event w (eqb-true (length m.report) report_size y)))
    (λ y. rw y (no_report (table_bytes s) m.report m.event (good_written s w) (eqb-false (length m.report) report_size y)))

pub named_is : (s : State) → Tested s → named (table_bytes s) ≡ naming Done (turn s)
named_is s w =
    named_good (table_bytes s) (good_written s w)
    ∙ ap (λ (z : State). naming Done (turn z)) (state_back_again s w.counted w.eight)

-- Any calls ----------------------------------------------------------------------------------------------------------------------------------

pub events_append : (xs ys : List Call) → events_in (xs ++ ys) ≡ events_in xs ++ events_in ys
events_append [] ys = refl
events_append (m ∷ xs) ys =
    ap (λ (l : List Event). heard m ++ l) (events_append xs ys) ∙ sym (append_assoc (heard m) (events_in xs) (events_in ys))

table_step :
    (h : Past) (b : Bool) (r : List ℕ) (o : Option Event) → (expected_if b h.state r o).table ≡ table_bytes (play h (heard_if b o)).state
table_step h false r o = refl
table_step h true r None = refl
table_step h true r (Some e) = ap table_bytes (sym (advance_state h e))

pub one_call : (h : Past) (m : Call) → Tested h.state → (applied (table_bytes h.state) m).table ≡ table_bytes (play h (heard m)).state
one_call h m w =
    ap (λ (o : Outcome). o.table) (outcome_is h.state m w)
    ∙ table_step h (eqb (length m.report) report_size) m.report (event_of m.event)

pub table_runs : (ms : List Call) (h : Past) → Tested h.state → table_by (table_bytes h.state) ms ≡ table_bytes (play h (events_in ms)).state
table_runs [] h w = refl
table_runs (m ∷ ms) h w =
    let h' = play h (heard m) in
    ap (λ (t : List ℕ). table_by t ms) (one_call h m w)
    ∙ table_runs ms h' (tested_play h (heard m) w)
    ∙ ap (λ (g : Past). table_bytes g.state) (sym (play_append h (heard m) (events_in ms)))
