-- An enabled task never becomes ineligible, whatever comes.
use Rattle.std.specs.Prelude.{Some, None}
use Prim.Native.Nat.{ℕ, ◌≤◌}
use mathlib.Core.Bool.{false}
use mathlib.Core.Path.{◌≡◌, refl, ap}
use mathlib.Core.List.{List, [], ◌∷◌, map}
use mathlib.Core.Logic.{◌⊎◌, inl, inr, ⊎_elim}
use borrow.Author.Tests.{not-true}
use Rattle.laws.specs.Lists.{any}
use Rattle.laws.proofs.Bools.{not_both, split}
use Rattle.laws.proofs.Lists.{any_never}
use Rattle.rules.specs.Types.{Attribute, Aca, Enabled, Task, Event, Policy, Allegiance, Ruling, Keeps, Changes}
use Rattle.rules.specs.Tasks.{is_aca, holds_back}
use Rattle.rules.specs.Rulings.{State, fate_of}
use Rattle.rules.specs.Rules.{ruling}
use Rattle.rules.specs.Well.{Stands, Eligible, WellFormed}
use Rattle.rules.proofs.Fates.{any_kept, map_kept}
use Rattle.rules.proofs.Settled.{is_aca_lem}
use Rattle.history.specs.History.{Past, advance, play, after, has_ended}
use Rattle.history.proofs.Reached.{reached_well_formed}
use Rattle.rules.proofs.WellSays.{attributes}
use Rattle.history.proofs.Places.{Place, place_split, stayers, place_by}
use Rattle.history.proofs.Wait.{still_ended}

-- the command with serial number k is in the table, and eligible
pub record StillEligible (k : ℕ) (h : Past) : Type 0 where
  pub task : Task
  pub older : List Task
  pub place : Place k task h.present h.state.tasks older
  pub eligible : Eligible older task

stayers_free : (r : Ruling) (older : List Task) (a : Attribute) → any (holds_back a) (attributes older) ≡ false → any (holds_back a) (stayers r older) ≡ false
stayers_free (Keeps x) older a e = e
stayers_free (Changes x c) older a e =
    rw (map_kept (λ (u : Task). u.attribute) (map (fate_of c.sweep) older) older)
    (any_kept (holds_back a) (map (fate_of c.sweep) older) (attributes older) e)

lasts_one : (h : Past) (e : Event) (k : ℕ) → StillEligible k h → (1 ≤ has_ended (advance h e) k) ⊎ StillEligible k (advance h e)
unfolding advance
lasts_one h e k s =
    place_by h (ruling h.state e) k s.task s.older s.place (λ n d. inl d)
    (λ n o.
    inr
    (record {
      task = o.self;
      older = o.before;
      place = o.place;
      eligible =
          rw (o.attribute, o.same, stayers_free (ruling h.state e) s.older s.task.attribute (not-true _ s.eligible));
    }))

lasts : (es : List Event) (h : Past) (k : ℕ) → StillEligible k h → (1 ≤ has_ended (play h es) k) ⊎ StillEligible k (play h es)
lasts [] h k s = inr s
lasts (e ∷ es) h k s = ⊎_elim (λ d. inl (still_ended (advance h e) es k d)) (λ q. lasts es (advance h e) k q) (lasts_one h e k s)

enabled_eligible : (s : State) (older : List Task) (t : Task) (younger : List Task) → WellFormed s → Stands s.tasks older t younger → t.state ≡ Enabled → Eligible older t
enabled_eligible s older t younger w e n = go s.header.aca refl
  where
    go : (a : Allegiance) → s.header.aca ≡ a → Eligible older t
    go None q = (w.without_aca q older t younger e).enabled_only_if n
    go (Some f) q =
        split (is_aca t.attribute)
        (λ y. rw (is_aca_lem t.attribute y, any_never (holds_back Aca) (attributes older) (λ x. refl)))
        (λ y. absurd ((w.in_an_aca f q older t younger e).other_not_enabled (λ z. not_both (ap is_aca z) y) n))

-- a task that is enabled after some events has, after any more, ended or is still eligible
pub enabled_stays_eligible :
    (p : Policy) (es later : List Event) (k : ℕ) (t : Task) (older : List Task)
    → Place k t (after p es).present (after p es).state.tasks older → t.state ≡ Enabled
    → (1 ≤ has_ended (play (after p es) later) k) ⊎ StillEligible k (play (after p es) later)
enabled_stays_eligible p es later k t older q n =
    let r = place_split q in
    lasts later (after p es) k
    (record {
      task = t;
      older = older;
      place = q;
      eligible = enabled_eligible (after p es).state older t r.0 (reached_well_formed p es) r.1 n;
    })
