-- Calls made of events: the rules are asked those events, and what a driver sees is what the rules say of them.
use Rattle.std.specs.Prelude.{Some}
use Prim.Native.Nat.{ℕ}
use mathlib.Core.Path.{◌≡◌, refl, ap, sym, ◌∙◌}
use mathlib.Core.Bool.{Bool, true, false, cond}
use mathlib.Core.List.{List, [], ◌∷◌, ◌++◌, map}
use native.Mathlib.Omega.{arith}
use lib.Dec.{eqb}
use lib.ListN.{length, replicate, length-replicate}
use borrow.Author.Tests.{eq-eqb}
use Rattle.rules.specs.Types.{Task, Entry, Event, Command, Policy}
use Rattle.rules.specs.Rulings.{State, ended_name}
use Rattle.rules.specs.Rules.{new_task, answer}
use Rattle.rules.proofs.WellKept.{Tested}
use Rattle.records.specs.Tables.{report_size, table_bytes}
use Rattle.records.specs.Events.{event_of, event_bytes}
use Rattle.records.proofs.EventsSay.{event_bytes_back}
use Rattle.history.specs.History.{Past, advance, play, after, accepted, is_done, is_turn, turns}
use Rattle.history.specs.Waits.{heads_among, others_among}
use Rattle.history.proofs.Reached.{tested_after}
use Rattle.history.proofs.Accepted.{accepted_if_done}
use Rattle.demands.specs.Calls.{Call, table_by, heard_if, heard, events_in, opened, expected}
use Rattle.demands.specs.Seen.{heads_in, others_in, is_accepted, listed_by, is_turn_by, turns_by}
use Rattle.demands.specs.WorstCalls.{call_of}
use Rattle.demands.proofs.Runs.{outcome_is}
use Rattle.demands.proofs.Reading.{event_reads}
use Rattle.demands.proofs.Counted.{turn_in, turn_if, done_number, turn_is}
use Rattle.demands.proofs.Followed.{table_after_lem, after_append}
use Rattle.demands.proofs.Waited.{heads_after, others_after, turns_after, listed_after, after_one}

zeros_fit : eqb (length {A = ℕ} (replicate report_size 0)) report_size ≡ true
zeros_fit = eq-eqb (length {A = ℕ} (replicate report_size 0)) report_size (length-replicate {A = ℕ} report_size 0)

-- the rules are asked such a call's event
heard_call : (e : Event) → heard (call_of e) ≡ e ∷ []
heard_call e = ap (λ (b : Bool). heard_if b (event_of (event_bytes e))) zeros_fit ∙ ap (heard_if true) (event_bytes_back e)

events_called : (es : List Event) → events_in (map call_of es) ≡ es
events_called [] = refl
events_called (e ∷ es) = ap (λ (l : List Event). l ++ events_in (map call_of es)) (heard_call e) ∙ ap (λ (l : List Event). e ∷ l) (events_called es)

-- a command that the rules let in is answered 0
done_joins : (d : Bool) (t u : Task) → cond d (t ∷ []) [] ≡ u ∷ [] → d ≡ true
done_joins true t u e = refl
done_joins false t u e = absurd (let z : ◌≡◌ {A = ℕ} 0 1 = ap length e in omega arith)

accepted_call :
    (s : State) (c : Entry) (t : Task) → Tested s → accepted s (Command c) ≡ t ∷ [] → is_accepted (table_bytes s) (call_of (Command c)) ≡ true
accepted_call s c t w j =
    rw (outcome_is s (call_of (Command c)) w, done_number (expected s (call_of (Command c))).answer)
    (rw (zeros_fit, event_bytes_back (Command c), (event_reads (event_bytes (Command c)) (Some (Command c)) (event_bytes_back (Command c))).0)
    (done_joins (is_done (answer s (Command c))) (new_task c) t (sym (accepted_if_done s c) ∙ j)))

-- it is a turn where the event is one
pub turn_call : (s : State) (e : Event) → Tested s → is_turn_by (table_bytes s) (call_of e) ≡ is_turn s e
turn_call s e w =
    turn_is s (call_of e) w ∙ ap (λ (b : Bool). turn_if b s (event_of (event_bytes e))) zeros_fit ∙ ap (turn_in s) (event_bytes_back e)

-- after the calls of the events es, of a command, and of the events `later`
module _ (p : Policy) (es : List Event) (c : Entry) (later : List Event) where
  abbrev begun : List Call
  begun = map call_of es ++ (call_of (Command c) ∷ [])

  abbrev past : Past
  past = advance (after p es) (Command c)

  past_called : after p (events_in begun) ≡ past
  past_called =
      after_one p (map call_of es) (call_of (Command c)) (Command c) (heard_call (Command c))
      ∙ ap (λ (l : List Event). advance (after p l) (Command c)) (events_called es)

  pub accepted_called : (t : Task) → accepted (after p es).state (Command c) ≡ t ∷ [] → is_accepted (table_by (opened p) (map call_of es)) (call_of (Command c)) ≡ true
  accepted_called t j = rw (table_after_lem p (map call_of es), events_called es) (accepted_call (after p es).state c t (tested_after p es) j)

  pub heads_called : heads_in (table_by (opened p) (map call_of es)) ≡ heads_among (after p es).state.tasks
  heads_called = heads_after p (map call_of es) ∙ ap (λ (l : List Event). heads_among (after p l).state.tasks) (events_called es)

  pub others_called : others_in (table_by (opened p) (map call_of es)) ≡ others_among (after p es).state.tasks
  others_called = others_after p (map call_of es) ∙ ap (λ (l : List Event). others_among (after p l).state.tasks) (events_called es)

  pub turns_called : turns_by (table_by (opened p) begun) (map call_of later) ≡ turns past later
  turns_called =
      turns_after p begun (map call_of later)
      ∙ ap (λ (h : Past). turns h (events_in (map call_of later))) past_called
      ∙ ap (turns past) (events_called later)

  pub listed_called : map ended_name past.log ++ listed_by (table_by (opened p) begun) (map call_of later) ≡ map ended_name (play past later).log
  listed_called =
      ap (λ (h : Past). map ended_name h.log ++ listed_by (table_by (opened p) begun) (map call_of later)) (sym past_called)
      ∙ listed_after p begun (map call_of later)
      ∙ ap (λ (h : Past). map ended_name (play h (events_in (map call_of later))).log) past_called
      ∙ ap (λ (l : List Event). map ended_name (play past l).log) (events_called later)

  pub table_called : table_by (opened p) (begun ++ map call_of later) ≡ table_bytes (play past later).state
  table_called =
      table_after_lem p (begun ++ map call_of later)
      ∙ ap (λ (h : Past). table_bytes h.state) (after_append p begun (map call_of later))
      ∙ ap (λ (h : Past). table_bytes (play h (events_in (map call_of later))).state) past_called
      ∙ ap (λ (l : List Event). table_bytes (play past l).state) (events_called later)
