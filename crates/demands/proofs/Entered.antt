-- RULES 22.2, accepted, read off answers: a command enters exactly where a COMMAND is answered 0.
use Rattle.std.specs.Prelude.{Option, Some, None}
use Prim.Native.Nat.{ℕ}
use mathlib.Core.Bool.{Bool, true, false, cond, ◌&&◌, and-false as and_off}
use mathlib.Core.Path.{◌≡◌, refl, ap, sym, ◌∙◌}
use mathlib.Core.List.{List, [], ◌∷◌, ◌++◌, append-nil}
use lib.Dec.{eqb}
use Rattle.laws.proofs.Bools.{and-true, not_both}
use Rattle.rules.specs.Rulings.{State}
use Rattle.rules.specs.Rules.{new_task, answer}
use Rattle.rules.proofs.Ends.{is_command, only_commands_join}
use Rattle.rules.proofs.WellKept.{Tested}
use Rattle.records.specs.Tables.{table_bytes}
use Rattle.records.specs.Events.{event_of}
use Rattle.history.specs.History.{Past, play, accepted, is_done}
use Rattle.history.proofs.Advanced.{advance_roll}
use Rattle.history.proofs.Accepted.{accepted_if_done}
use Rattle.rules.specs.Types.{Task, Entry, Event, Command, Completion, Management, Condition}
use Rattle.demands.specs.Calls.{Call, heard_if, heard, command_task, expected_if, expected}
use Rattle.demands.specs.Seen.{kind_of, is_accepted}
use Rattle.demands.proofs.Runs.{outcome_is}
use Rattle.demands.proofs.Counted.{done_number, fits}
use Rattle.demands.proofs.Reading.{Reads, event_reads}

nothing : (b c : Bool) → ◌≡◌ {A = List Task} (cond b [] []) (cond c [] [])
nothing true true = refl
nothing true false = refl
nothing false true = refl
nothing false false = refl

none_enters : (s : State) (e : Event) → is_command e ≡ false → accepted s e ≡ cond (is_done (answer s e)) [] []
none_enters s e n = only_commands_join s e n ∙ nothing false (is_done (answer s e))

pub enters_rule : (s : State) (e : Event) → accepted s e ≡ cond (is_done (answer s e)) (command_task (Some e)) []
enters_rule s (Command c) = accepted_if_done s c
enters_rule s (Completion n g f) = none_enters s (Completion n g f) refl
enters_rule s (Management n f) = none_enters s (Management n f) refl
enters_rule s (Condition c) = none_enters s (Condition c) refl

-- by the kind and whether the answer is 0
abbrev entering : ℕ → Bool → Option Event → List Task
entering k d o = cond (eqb k 1 && d) (command_task o) []

refused_none : (k : ℕ) (o : Option Event) → [] ≡ entering k false o
refused_none k o = rw (and_off (eqb k 1))

entering_is :
    (e : List ℕ) (v : Event) (d : Bool) → Reads (Some v) e → cond d (command_task (Some v)) [] ≡ entering (kind_of e) d (Some v)
entering_is e (Command c) d q = ap (λ (k : ℕ). entering k d (Some (Command c))) (sym q.0)
entering_is e (Completion n g f) d q = nothing d (eqb (kind_of e) 1 && d)
entering_is e (Management n f) d q = nothing d (eqb (kind_of e) 1 && d)
entering_is e (Condition c) d q = nothing d (eqb (kind_of e) 1 && d)

lets_if :
    (h : Past) (b : Bool) (r e : List ℕ) (o : Option Event) → Reads o e
    → (play h (heard_if b o)).roll ≡ h.roll ++ entering (kind_of e) (is_done (expected_if b h.state r o).answer) o
lets_if h false r e o q = sym (append-nil h.roll) ∙ ap (λ (l : List Task). h.roll ++ l) (refused_none (kind_of e) o)
lets_if h true r e None q = sym (append-nil h.roll) ∙ ap (λ (l : List Task). h.roll ++ l) (refused_none (kind_of e) None)
lets_if h true r e (Some v) q =
    advance_roll h v
    ∙ ap (λ (l : List Task). h.roll ++ l) (enters_rule h.state v ∙ entering_is e v (is_done (answer h.state v)) q)

pub lets_one :
    (h : Past) (m : Call) → Tested h.state
    → (play h (heard m)).roll ≡ h.roll ++ cond (is_accepted (table_bytes h.state) m) (command_task (event_of m.event)) []
lets_one h m w =
    rw (outcome_is h.state m w, done_number (expected h.state m).answer)
    (lets_if h (fits m) m.report m.event (event_of m.event) (event_reads m.event (event_of m.event) refl))

-- what a call that is accepted brings
pub record Entering (h : Past) (m : Call) : Type 0 where
  pub command : Entry
  pub read : event_of m.event ≡ Some (Command command)
  pub asked : heard m ≡ Command command ∷ []
  pub joins : accepted h.state (Command command) ≡ new_task command ∷ []

pub accepted_enters : (h : Past) (m : Call) → Tested h.state → is_accepted (table_bytes h.state) m ≡ true → Entering h m
accepted_enters h m w a =
    go (fits m) (event_of m.event) refl refl (event_reads m.event (event_of m.event) refl)
    (rw (outcome_is h.state m w, done_number (expected h.state m).answer) at a)
  where
    entered : Bool → Option Event → Bool
    entered b o = eqb (kind_of m.event) 1 && is_done (expected_if b h.state m.report o).answer

    other : {P : Type 0} (k : ℕ) (d : Bool) → kind_of m.event ≡ k → eqb k 1 ≡ false → eqb (kind_of m.event) 1 && d ≡ true → P
    other k d q n e = not_both (rw q at (and-true (eqb (kind_of m.event) 1) d e).0) n

    go : (b : Bool) (o : Option Event) → fits m ≡ b → event_of m.event ≡ o → Reads o m.event → entered b o ≡ true → Entering h m
    go false o f r q e = not_both e (and_off (eqb (kind_of m.event) 1))
    go true None f r q e = not_both e (and_off (eqb (kind_of m.event) 1))
    go true (Some (Command c)) f r q e =
        record {
          command = c;
          read = r;
          asked = rw (f, r);
          joins = enters_rule h.state (Command c) ∙ rw (and-true (eqb (kind_of m.event) 1) _ e).1;
        }
    go true (Some (Completion n g x)) f r q e = other 2 _ q.0 refl e
    go true (Some (Management n x)) f r q e = other 3 _ q refl e
    go true (Some (Condition c)) f r q e = other 4 _ q refl e
