-- What an event does to run, and that a turn ends the named task.
use Rattle.std.specs.Prelude.{Some, None, Option}
use Prim.Native.Nat.{ℕ}
use mathlib.Core.Bool.{Bool, true, false, cond, ◌&&◌, and-true as and_on, and-false as and_off}
use mathlib.Core.Path.{◌≡◌, refl, sym, ◌∙◌}
use mathlib.Core.List.{List, []}
use mathlib.Core.Logic.{◌⊎◌, inl, inr}
use lib.Dec.{eqb}
use borrow.Author.Tests.{eq-eqb}
use Rattle.laws.specs.Lists.{first}
use Rattle.laws.proofs.Bools.{and-true, not_both, cases}
use Rattle.rules.specs.Types.{Task, Finish, Function, AbortTask, AbortTaskSet, ClearTaskSet, ClearAca, LogicalUnitReset, Unknown, Happening, PowerOn, HardReset, NexusLoss, Event, Command, Completion, Management, Condition, Allegiance, Header, Change, NexusAboveSeven, Ruling, Keeps, Changes}
use Rattle.values.specs.Headers.{run_after}
use Rattle.rules.specs.Tasks.{is_enabled, same, whose_turn, turn_of, is_named}
use Rattle.rules.specs.Rulings.{State, is_clear, turn, fate_of}
use Rattle.rules.specs.Rules.{finish, clearing, manage, happen, ruling}
use Rattle.rules.specs.Well.{states_fit}
use Rattle.rules.proofs.Fates.{is_ends}
use Rattle.rules.proofs.Settled.{is_aca_lem}
use Rattle.rules.proofs.Held.{held_found}
use Rattle.rules.proofs.TurnRule.{named_found}
use Rattle.rules.proofs.Cases.{failing_run, enter_cases, finish_cases, finish_run, completion_cases, other_cases}
use Rattle.rules.proofs.WellKept.{Tested}
use Rattle.history.specs.History.{turn_by}

-- run stays, or every task ends
abbrev pub Quiet : State → Change → Type 0
Quiet s c = (c.header.run ≡ s.header.run) ⊎ ((u : Task) → is_ends (fate_of c.sweep u) ≡ true)

pub record TurnOf (s : State) (c : Change) : Type 0 where
  pub clear : s.header.aca ≡ None
  pub task : Task
  pub is_named_lem : whose_turn s.header.aca s.header.run s.tasks ≡ Some task
  pub ends : is_ends (fate_of c.sweep task) ≡ true
  pub run : c.header.run ≡ run_after task.attribute s.header.run

-- b: whether it is a turn
pub record Effect (s : State) (b : Bool) (c : Change) : Type 0 where
  pub quiet : b ≡ false → Quiet s c
  pub turn : b ≡ true → TurnOf s c

abbrev pub EffectR : State → Event → Ruling → Type 0
EffectR s e (Keeps a) = turn_by s e a ≡ false
EffectR s e (Changes a c) = Effect s (turn_by s e a) c

no_turn : (s : State) (c : Change) → Quiet s c → Effect s false c
no_turn s c h = record { quiet = λ e. h; turn = λ e. not_both e refl }

clear_is : (a : Allegiance) → is_clear a ≡ true → a ≡ None
clear_is None e = refl
clear_is (Some f) e = not_both e refl

-- the completed task ends
finish_ends : (h : Header) (f : Finish) (t : Task) (b : Bool) → is_ends (fate_of (finish h f t b).sweep t) ≡ true
finish_ends h f t b =
    finish_cases (λ c. is_ends (fate_of c.sweep t) ≡ true) h f t b
    (λ q. rw (eq-eqb t.nexus t.nexus refl, eq-eqb t.tag t.tag refl))
    (λ q. rw (eq-eqb t.nexus t.nexus refl, eq-eqb t.tag t.tag refl))

-- in an ACA the completed task is the ACA task, which leaves run
aca_leaves_run :
    (a : Allegiance) (ts : List Task) (n g run : ℕ) (t : Task) → is_clear a ≡ false → states_fit a ts ≡ true → first (same n g) ts ≡ Some t
    → is_enabled t.state ≡ true → run_after t.attribute run ≡ run
aca_leaves_run None ts n g run t c w h k = not_both refl c
aca_leaves_run (Some f) ts n g run t c w h k = rw (is_aca_lem t.attribute (held_found f [] (same n g) ts t w h k).0)

named_is :
    (s : State) (n g : ℕ) (t : Task) → Tested s → is_named n g (turn s) ≡ true → first (same n g) s.tasks ≡ Some t
    → whose_turn s.header.aca s.header.run s.tasks ≡ Some t
named_is s n g t w e h = go (whose_turn s.header.aca s.header.run s.tasks) refl e
  where
    go :
        (o : Option Task) → whose_turn s.header.aca s.header.run s.tasks ≡ o → is_named n g (turn_of o) ≡ true
        → whose_turn s.header.aca s.header.run s.tasks ≡ Some t
    go None q z = not_both z refl
    go (Some x) q z = q ∙ sym (named_found s.header.aca s.header.run n g s.tasks x w.apart q z) ∙ h

effect_finish :
    (s : State) (n g : ℕ) (f : Finish) (t : Task) → Tested s → first (same n g) s.tasks ≡ Some t → is_enabled t.state ≡ true
    → Effect s (is_clear s.header.aca && is_named n g (turn s) && true) (finish s.header f t (is_named n g (turn s)))
effect_finish s n g f t w h k =
    record {
      quiet = λ e. inl (finish_run s.header f t (is_named n g (turn s)) ∙ still (sym (and_on _) ∙ e));
      turn =
          λ e.
          let q = and-true (is_clear s.header.aca) (is_named n g (turn s)) (sym (and_on _) ∙ e) in
          record {
            clear = clear_is s.header.aca q.0;
            task = t;
            is_named_lem = named_is s n g t w q.1 h;
            ends = finish_ends s.header f t (is_named n g (turn s));
            run = finish_run s.header f t (is_named n g (turn s)) ∙ rw q.1;
          };
    }
  where
    still :
        is_clear s.header.aca && is_named n g (turn s) ≡ false
        → cond (is_named n g (turn s)) (run_after t.attribute s.header.run) s.header.run ≡ s.header.run
    still e =
        cases (λ r. r ≡ s.header.run) (is_named n g (turn s))
        (λ y. aca_leaves_run s.header.aca s.tasks n g s.header.run t (sym (and_on _) ∙ rw y at e) w.states h k)
        (λ y. refl)

effect_manage : (s : State) (n : ℕ) (f : Function) → EffectR s (Management n f) (manage s.header n f)
unfolding manage
effect_manage s n (AbortTask g) = no_turn s _ (inl refl)
effect_manage s n AbortTaskSet = no_turn s _ (inl refl)
effect_manage s n ClearTaskSet = no_turn s _ (inl refl)
effect_manage s n ClearAca = go s.header.aca
  where
    go : (a : Allegiance) → EffectR s (Management n ClearAca) (clearing s.header n a)
    go None = refl
    go (Some f) = cases (EffectR s (Management n ClearAca)) (eqb n f) (λ e. no_turn s _ (inl refl)) (λ e. refl)
effect_manage s n LogicalUnitReset = no_turn s _ (inr (λ u. refl))
effect_manage s n Unknown = refl

effect_happen : (s : State) (c : Happening) → EffectR s (Condition c) (happen s.header c)
unfolding happen
effect_happen s PowerOn = no_turn s _ (inr (λ u. refl))
effect_happen s HardReset = no_turn s _ (inr (λ u. refl))
effect_happen s (NexusLoss n) = no_turn s _ (inl refl)

-- a completion that is not accepted is no turn
not_accepted : (s : State) (n g : ℕ) → is_clear s.header.aca && is_named n g (turn s) && false ≡ false
not_accepted s n g = and_off (is_clear s.header.aca && is_named n g (turn s))

refused_no_turn : (s : State) (e : Event) → EffectR s e (Keeps NexusAboveSeven)
refused_no_turn s (Command c) = refl
refused_no_turn s (Completion n g f) = not_accepted s n g
refused_no_turn s (Management n f) = refl
refused_no_turn s (Condition c) = refl

pub effect : (s : State) (e : Event) → Tested s → EffectR s e (ruling s e)
effect s e w =
    other_cases (EffectR s) s (refused_no_turn s)
    (λ n g f.
    completion_cases (EffectR s (Completion n g f)) s n g f (not_accepted s n g) (not_accepted s n g) (not_accepted s n g)
    (λ t l h k. effect_finish s n g f t w h k))
    (λ c l.
    enter_cases (EffectR s (Command c)) s.header c _ _ _ (λ se v o. no_turn s _ (inl (failing_run s.header c v o))) (λ st. refl) (λ p. no_turn s _ (inl refl)))
    (λ n f. effect_manage s n f)
    (λ c. effect_happen s c)
    e
