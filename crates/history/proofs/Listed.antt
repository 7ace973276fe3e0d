-- An end is told: the report of a later event lists the command that has ended. Until then the table does.
use Prim.Native.Nat.{ℕ, ◌≤◌}
use mathlib.Core.Bool.{true, or-true as or_on}
use mathlib.Core.Path.{◌≡◌, refl, ap, sym, ◌∙◌}
use mathlib.Core.List.{List, [], ◌∷◌, ◌++◌, map, append_assoc, append-nil, append_cancel_left, map-append}
use native.Mathlib.Omega.{arith}
use lib.Dec.{eqb}
use lib.ListN.{length}
use lib.Seq.{get_or_at}
use borrow.Author.Tests.{eqb-true, eq-eqb, lt-ltb}
use Rattle.laws.specs.Lists.{one_if, any, count}
use Rattle.laws.proofs.Bools.{split}
use Rattle.laws.proofs.Lists.{count_append}
use Rattle.rules.specs.Types.{Task, Event, Policy, Named}
use Rattle.rules.specs.Rulings.{joins_of, task_name, ended_name, same_name}
use Rattle.rules.specs.Rules.{ruling}
use Rattle.history.specs.History.{Past, advance, play, after, nobody, look, accepted, in_table, has_ended}
use Rattle.history.proofs.Conserve.{conserved, conserved_advance, ended_grows}
use Rattle.history.proofs.Identity.{Known, look_more, known_names, known_play, known}
use Rattle.history.proofs.Wait.{roll_one}

roll_more : (h : Past) (es : List Event) → (js : List Task) × ((play h es).roll ≡ h.roll ++ js)
unfolding advance
roll_more h [] = ([], sym (append-nil h.roll))
roll_more h (e ∷ es) =
    let r = roll_more (advance h e) es in
    (joins_of (ruling h.state e) ++ r.0, r.1 ∙ append_assoc h.roll (joins_of (ruling h.state e)) r.0)

-- the names that the reports of the events es list are those of the commands that ended in them, in order
named_since :
    (h : Past) (es : List Event) (names : List Named) → Known h → map ended_name h.log ++ names ≡ map ended_name (play h es).log
    → (more : List ℕ) × ((play h es).departed ≡ h.departed ++ more)
    × (names ≡ map (λ k. task_name (look (play h es).roll k)) more)
named_since h es names i e =
    let r = ended_grows h es in
    let j = roll_more h es in
    let name_of : ℕ → Named = λ k. task_name (look (play h es).roll k) in
    let old : map name_of h.departed ≡ map ended_name h.log =
    rw j.1 (look_more task_name h.roll j.0 h.departed i.ended_below) ∙ sym i.reports
    in
    let all : map ended_name h.log ++ names ≡ map ended_name h.log ++ map name_of r.0 =
    e
    ∙ (known_play h es i).reports
    ∙ ap (map name_of) r.1
    ∙ map-append name_of h.departed r.0
    ∙ ap (λ (l : List Named). l ++ map name_of r.0) old
    in
    (r.0, r.1, append_cancel_left (map ended_name h.log) names (map name_of r.0) all)

among : (k : ℕ) (f : ℕ → Named) (ks : List ℕ) → 1 ≤ count (eqb k) ks → any (same_name (f k)) (map f ks) ≡ true
among k f [] l = absurd (omega arith)
among k f (j ∷ js) l =
    split (eqb k j)
    (λ y. rw (eqb-true k j y, eq-eqb (f j).nexus (f j).nexus refl, eq-eqb (f j).tag (f j).tag refl))
    (λ y. rw (among k f js (omega (arith, ap one_if y))) (or_on (same_name (f k) (f j))))

module _ (h : Past) (e : Event) (t : Task) (joins : accepted h.state e ≡ t ∷ []) where
  -- the event that lets a command in puts it in the table
  comes_in : 1 ≤ in_table (advance h e) (length h.roll)
  unfolding advance
  comes_in = rw joins (simp count_append (omega (arith, ap one_if (eq-eqb (length h.roll) (length h.roll) refl))))

  comes_last : (advance h e).roll ≡ h.roll ++ (t ∷ [])
  unfolding advance
  comes_last = rw joins

  who_came : (later : List Event) → look (play (advance h e) later).roll (length h.roll) ≡ t
  who_came later =
      let r = roll_more (advance h e) later in
      let roll : (play (advance h e) later).roll ≡ h.roll ++ (t ∷ r.0) =
      r.1 ∙ ap (λ (l : List Task). l ++ r.0) comes_last ∙ append_assoc h.roll (t ∷ []) r.0
      in
      ap (λ (l : List Task). look l (length h.roll)) roll ∙ get_or_at h.roll t r.0 nobody (length h.roll) refl

-- From a fresh table, after any events es, let the event e be accepted as the task t. If that has ended after the events `later`, and `names` are
-- those that their reports list, then its name is among them.
pub end_is_listed :
    (p : Policy) (es : List Event) (e : Event) (t : Task) (later : List Event) (names : List Named)
    → accepted (after p es).state e ≡ t ∷ []
    → has_ended (play (advance (after p es) e) later) (length (after p es).roll) ≡ 1
    → map ended_name (advance (after p es) e).log ++ names ≡ map ended_name (play (advance (after p es) e) later).log
    → any (same_name (task_name t)) names ≡ true
end_is_listed p es e t later names j n l =
    let h = after p es in
    let k = length h.roll in
    let m = advance h e in
    let s = named_since m later names (known_play h (e ∷ []) (known p es)) l in
    let before : has_ended m k ≡ 0 =
    omega (
      arith,
      (conserved_advance h e (conserved p es)).once k,
      comes_in h e t j,
      ap one_if (lt-ltb k (length m.roll) (omega (arith, roll_one h e t j))),
    )
    in
    let inside : 1 ≤ count (eqb k) s.0 = omega (arith, simp count_append at (ap (count (eqb k)) s.1)) in
    rw (s.2, ap task_name (sym (who_came h e t j later)))
    (among k (λ i. task_name (look (play m later).roll i)) s.0 inside)

-- and if it is in the table then, its name is among those of the tasks there
pub present_is_listed :
    (p : Policy) (es : List Event) (e : Event) (t : Task) (later : List Event) → accepted (after p es).state e ≡ t ∷ []
    → in_table (play (advance (after p es) e) later) (length (after p es).roll) ≡ 1
    → any (same_name (task_name t)) (map task_name (play (advance (after p es) e) later).state.tasks) ≡ true
present_is_listed p es e t later j n =
    let h = after p es in
    let m = play (advance h e) later in
    rw (known_names m (known_play h (e ∷ later) (known p es)), ap task_name (sym (who_came h e t j later)))
    (among (length h.roll) (λ i. task_name (look m.roll i)) m.present (omega arith))
