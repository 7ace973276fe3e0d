-- Who is who: the tasks in the table and the ended records are those of the commands accepted.
use Prim.Native.Nat.{ℕ, suc, ◌+◌, ◌≤◌}
use mathlib.Core.Path.{◌≡◌, refl, ap, sym, subst, ◌∙◌}
use mathlib.Core.Bool.{false}
use mathlib.Core.List.{List, [], ◌∷◌, ◌++◌, map, append-nil, map-append, map-map}
use native.Mathlib.Omega.{arith}
use lib.Dec.{leb}
use lib.ListN.{length, length-append, get_or-append}
use lib.Seq.{get_or_at, append_snoc}
use borrow.Author.Tests.{leb-false, lt-leb}
use Rattle.laws.specs.Lists.{any}
use Rattle.laws.proofs.Bools.{or-false}
use Rattle.laws.proofs.Lists.{any_append, any_less}
use Rattle.rules.specs.Types.{Task, Event, Policy, Fate, Ruling, Keeps, Changes}
use Rattle.rules.specs.Rulings.{fresh, kept, lost, fate_of, newcomers, ended_from, task_name, ended_name}
use Rattle.rules.specs.Rules.{ruling}
use Rattle.rules.proofs.FreshSet.{fresh_tasks}
use Rattle.rules.proofs.Fates.{any_kept, any_lost, map_kept, map_lost, report_names}
use Rattle.rules.proofs.Distinct.{map_restate}
use Rattle.history.specs.History.{Past, begin, serials_from, advance_by, advance, play, after, nobody, look, unstated}

-- every serial number is below n
abbrev pub Below : ℕ → List ℕ → Type 0
Below n ks = any (leb n) ks ≡ false

below_more : (n m : ℕ) (ks : List ℕ) → n ≤ m → Below n ks → Below m ks
below_more n m ks l = any_less (leb n) (leb m) ks (λ k e. lt-leb m k (omega (arith, leb-false n k e)))

below_serials : (n : ℕ) (js : List Task) → Below (n + length js) (serials_from n js)
below_serials n [] = refl
below_serials n (j ∷ js) =
    let z : n + length (j ∷ js) ≡ suc n + length js = omega arith in
    subst (λ (m : ℕ). any (leb m) (serials_from n (j ∷ js)) ≡ false) (sym z)
    (rw (lt-leb (suc n + length js) n (omega arith)) (below_serials (suc n) js))

module _ {B : Type 0} (f : Task → B) where
  pub look_more :
      (roll js : List Task) (ks : List ℕ) → Below (length roll) ks
      → map (λ k. f (look (roll ++ js) k)) ks ≡ map (λ k. f (look roll k)) ks
  look_more roll js [] b = refl
  look_more roll js (k ∷ ks) b =
      let o = or-false (leb (length roll) k) (any (leb (length roll)) ks) b in
      rw (get_or-append roll js nobody k (leb-false (length roll) k o.0), look_more roll js ks o.1)

  look_serials :
      (roll js : List Task) (n : ℕ) → length roll ≡ n → map (λ k. f (look (roll ++ js) k)) (serials_from n js) ≡ map f js
  look_serials roll [] n e = refl
  look_serials roll (j ∷ js) n e =
      rw (get_or_at roll j js nobody n e)
      (subst (λ (r : List Task). f j ∷ map (λ k. f (look r k)) (serials_from (suc n) js) ≡ f j ∷ map f js) (append_snoc roll j js)
      (ap (λ l. f j ∷ l) (look_serials (roll ++ (j ∷ [])) js (suc n) (simp length-append (omega arith)))))

pub record Known (h : Past) : Type 0 where
  pub present_below : Below (length h.roll) h.present
  pub ended_below : Below (length h.roll) h.departed
  -- the table holds the tasks of the commands with the serial numbers `present`, in their order
  pub table : map unstated h.state.tasks ≡ map (λ k. unstated (look h.roll k)) h.present
  -- the reports name the commands with the serial numbers `ended`, in their order
  pub reports : map ended_name h.log ≡ map (λ k. task_name (look h.roll k)) h.departed

pub known_names : (h : Past) → Known h → map task_name h.state.tasks ≡ map (λ k. task_name (look h.roll k)) h.present
known_names h i =
    sym (map-map task_name unstated h.state.tasks)
    ∙ ap (map task_name) i.table
    ∙ map-map task_name (λ k. unstated (look h.roll k)) h.present

table_by_lem :
    (h : Past) (fs : List Fate) (js : List Task) → Known h
    → map unstated (kept fs h.state.tasks ++ js)
    ≡ map (λ k. unstated (look (h.roll ++ js) k)) (kept fs h.present ++ serials_from (length h.roll) js)
table_by_lem h fs js i =
    rw (
      map-append unstated (kept fs h.state.tasks) js,
      map_kept unstated fs h.state.tasks,
      i.table,
      map-append (λ k. unstated (look (h.roll ++ js) k)) (kept fs h.present) (serials_from (length h.roll) js),
      map_kept (λ k. unstated (look (h.roll ++ js) k)) fs h.present,
      look_more unstated h.roll js h.present i.present_below,
      look_serials unstated h.roll js (length h.roll) refl,
    )

reports_by :
    (h : Past) (fs : List Fate) (js : List Task) → Known h
    → map ended_name (h.log ++ ended_from fs h.state.tasks)
    ≡ map (λ k. task_name (look (h.roll ++ js) k)) (h.departed ++ lost fs h.present)
reports_by h fs js i =
    rw (
      map-append ended_name h.log (ended_from fs h.state.tasks),
      i.reports,
      report_names fs h.state.tasks,
      map_lost task_name fs h.state.tasks,
      known_names h i,
      map-append (λ k. task_name (look (h.roll ++ js) k)) h.departed (lost fs h.present),
      map_lost (λ k. task_name (look (h.roll ++ js) k)) fs h.present,
      look_more task_name h.roll js h.present i.present_below,
      look_more task_name h.roll js h.departed i.ended_below,
    )

more : (h : Past) (js : List Task) (ks : List ℕ) → Below (length h.roll) ks → Below (length (h.roll ++ js)) ks
more h js ks b = below_more (length h.roll) (length (h.roll ++ js)) ks (omega (arith, length-append h.roll js)) b

present_by :
    (h : Past) (fs : List Fate) (js : List Task) → Known h
    → Below (length (h.roll ++ js)) (kept fs h.present ++ serials_from (length h.roll) js)
present_by h fs js i =
    rw (
      any_append (leb (length (h.roll ++ js))) (kept fs h.present) (serials_from (length h.roll) js)
          (any_kept _ fs h.present (more h js h.present i.present_below)),
      length-append h.roll js,
    )
    (below_serials (length h.roll) js)

ended_by : (h : Past) (fs : List Fate) (js : List Task) → Known h → Below (length (h.roll ++ js)) (h.departed ++ lost fs h.present)
ended_by h fs js i =
    rw (any_append (leb (length (h.roll ++ js))) h.departed (lost fs h.present) (more h js h.departed i.ended_below))
    (any_lost _ fs h.present (more h js h.present i.present_below))

known_by : (h : Past) (r : Ruling) → Known h → Known (advance_by h r)
known_by h (Keeps a) i =
    record {
      present_below = present_by h [] [] i;
      ended_below = ended_by h [] [] i;
      table = rw (append-nil h.state.tasks) at (table_by_lem h [] [] i);
      reports = reports_by h [] [] i;
    }
known_by h (Changes a c) i =
    let fs : List Fate = map (fate_of c.sweep) h.state.tasks in
    let js : List Task = newcomers c.joins in
    record {
      present_below = present_by h fs js i;
      ended_below = ended_by h fs js i;
      table = rw (map_restate unstated (λ t st. refl)) (table_by_lem h fs js i);
      reports = reports_by h fs js i;
    }

pub known_play : (h : Past) (es : List Event) → Known h → Known (play h es)
unfolding advance
known_play h [] i = i
known_play h (e ∷ es) i = known_play (advance h e) es (known_by h (ruling h.state e) i)

-- after any sequence of events from a fresh table
pub known : (p : Policy) (es : List Event) → Known (after p es)
known p es =
    known_play (begin (fresh p)) es (record { present_below = refl; ended_below = refl; table = rw (fresh_tasks p); reports = refl })
