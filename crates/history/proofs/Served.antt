-- A table without ACA, as a list of tasks: a command comes in, and the named task ends.
use Rattle.std.specs.Prelude.{Some, None}
use Prim.Native.Nat.{ℕ, ◌<◌}
use mathlib.Core.Bool.{Bool, true, false, ◌&&◌, ◌||◌, not, and-false as and_off}
use mathlib.Core.Path.{◌≡◌, refl, sym, ◌∙◌}
use mathlib.Core.List.{List, [], ◌∷◌, ◌++◌, map, append-nil, map-append}
use native.Mathlib.Omega.{arith}
use lib.Dec.{ltb}
use lib.ListN.{length, replicate}
use borrow.Author.Tests.{lt-ltb, lt-leb, eq-eqb, not-true}
use Rattle.laws.specs.Lists.{any, first}
use Rattle.laws.proofs.Bools.{and-true, or-false, cases, eqb_sym}
use Rattle.laws.proofs.Lists.{any_suffix, first_any}
use Rattle.rules.specs.Types.{Attribute, HeadOfQueue, TaskState, Enabled, Task, Entry, Completion, Good, Policy, Done, Fate, Changes, OneTask, Nobody}
use Rattle.values.specs.Headers.{lasting_with, fresh_header, run_after}
use Rattle.rules.specs.Tasks.{places, nexuses, is_head, is_aca, same, with_state, settle_from, enabled_head, whose_turn}
use Rattle.rules.specs.Bits.{no_pending, after_power_on}
use Rattle.rules.specs.Rulings.{State, kept, fate_of, ruled}
use Rattle.rules.specs.Rules.{new_task, accepting, enter, finish, complete, rule_for, ruling}
use Rattle.rules.specs.Well.{distinct}
use Rattle.rules.proofs.Fates.{map_kept}
use Rattle.rules.proofs.Distinct.{length_restate, map_restate, any_restate, distinct_restate}
use Rattle.rules.proofs.Settled.{head_task, head_free}
use Rattle.rules.proofs.TurnRule.{head_or_plain, named_found}
use Rattle.history.specs.History.{unstated}
use Rattle.history.specs.Waits.{exempt_command}

-- the task that a command comes in as
abbrev pub task : ℕ → ℕ → Attribute → Task
task n g x = record { nexus = n; attribute = x; state = Enabled; naca = false; tag = g }

-- the state with these tasks, settled, where no pending bit of power on is reported yet
abbrev pub table : Policy → ℕ → List Task → State
table p run ts =
    record {
      header = lasting_with (fresh_header p) (length (settle_from [] ts)) None run;
      pending = replicate nexuses (after_power_on no_pending);
      tasks = settle_from [] ts;
    }

-- Who is named -----------------------------------------------------------------------------------------------------------------------------

-- the oldest, if it is HEAD OF QUEUE
pub names_head : (run n g : ℕ) (ts : List Task) → whose_turn None run (settle_from [] (task n g HeadOfQueue ∷ ts)) ≡ Some (task n g HeadOfQueue)
unfolding whose_turn
names_head run n g ts = cases (λ o. o ≡ Some (task n g HeadOfQueue)) (ltb run 4 || _) (λ e. refl) (λ e. refl)

none_enabled : (older : List Attribute) (ts : List Task) → any head_task ts ≡ false → any enabled_head (settle_from older ts) ≡ false
none_enabled older [] e = refl
none_enabled older (t ∷ ts) e =
    let o = or-false (head_task t) (any head_task ts) e in rw o.0 (none_enabled (t.attribute ∷ older) ts o.1)

-- or if it is none, after four that are, or where none of those is younger
pub names_other :
    (run n g : ℕ) (x : Attribute) (ts : List Task) → is_aca x ≡ false → is_head x ≡ false → ltb run 4 && any head_task ts ≡ false
    → whose_turn None run (settle_from [] (task n g x ∷ ts)) ≡ Some (task n g x)
unfolding whose_turn
names_other run n g x ts a h e = rw (h, head_or_plain x a h, no_other_turn (ltb run 4) (x ∷ []) ts e)
  where
    no_other_turn :
        (few : Bool) (older : List Attribute) (ts : List Task) → few && any head_task ts ≡ false
        → any enabled_head (settle_from older ts) && (few || false) ≡ false
    no_other_turn true older ts e = rw (none_enabled older ts e)
    no_other_turn false older ts e = and_off (any enabled_head (settle_from older ts))

first_head :
    (older : List Attribute) (pre : List Task) (n g : ℕ) (post : List Task) → any head_task pre ≡ false
    → first enabled_head (settle_from older (pre ++ task n g HeadOfQueue ∷ post)) ≡ Some (task n g HeadOfQueue)
first_head older [] n g post e = rw (head_free older)
first_head older (t ∷ ts) n g post e =
    let o = or-false (head_task t) (any head_task ts) e in
    rw o.0 (first_head (t.attribute ∷ older) ts n g post o.1)

-- before that the oldest HEAD OF QUEUE one
pub names_first :
    (run : ℕ) (pre : List Task) (n g : ℕ) (post : List Task) → run < 4 → any head_task pre ≡ false
    → whose_turn None run (settle_from [] (pre ++ task n g HeadOfQueue ∷ post)) ≡ Some (task n g HeadOfQueue)
unfolding whose_turn
names_first run pre n g post l e =
    let f = first_head [] pre n g post e in
    rw (first_any enabled_head enabled_head _ _ f refl, lt-ltb run 4 l) f

-- Who stays --------------------------------------------------------------------------------------------------------------------------------

kept_everyone : (ts : List Task) → kept (map (fate_of Nobody) ts) ts ≡ ts
kept_everyone [] = refl
kept_everyone (t ∷ ts) = rw (kept_everyone ts)

kept_all : (n g st : ℕ) (ts : List Task) → any (same n g) ts ≡ false → kept (map (fate_of (OneTask n g st)) ts) ts ≡ ts
kept_all n g st [] e = refl
kept_all n g st (t ∷ ts) e = let o = or-false (same n g t) (any (same n g) ts) e in rw (o.0, kept_all n g st ts o.1)

-- all but the one that ends
kept_others :
    (st : ℕ) (pre : List Task) (u : Task) (post : List Task) → distinct (pre ++ u ∷ post) ≡ true
    → kept (map (fate_of (OneTask u.nexus u.tag st)) (pre ++ u ∷ post)) (pre ++ u ∷ post) ≡ pre ++ post
kept_others st [] u post d =
    let o : (not (any (same u.nexus u.tag) post) ≡ true) × (distinct post ≡ true) = and-true _ _ d in
    rw (eq-eqb u.nexus u.nexus refl, eq-eqb u.tag u.tag refl) (kept_all u.nexus u.tag st post (not-true _ o.0))
kept_others st (t ∷ ts) u post d =
    let o : (not (any (same t.nexus t.tag) (ts ++ u ∷ post)) ≡ true) × (distinct (ts ++ u ∷ post) ≡ true) = and-true _ _ d in
    let f : (same t.nexus t.tag u ≡ false) × (any (same t.nexus t.tag) post ≡ false) =
    or-false _ _ (any_suffix (same t.nexus t.tag) ts (u ∷ post) (not-true _ o.0))
    in
    rw (eqb_sym t.nexus u.nexus, eqb_sym t.tag u.tag, f.0, kept_others st ts u post o.1)

settle_unstated : (older : List Attribute) (ts : List Task) → settle_from older (map unstated ts) ≡ settle_from older ts
settle_unstated older [] = refl
settle_unstated older (t ∷ ts) = rw (settle_unstated (t.attribute ∷ older) ts)

-- what looks at no state can be done before the tasks are settled
settle_kept :
    (fate : Task → Fate) (ts us : List Task) → ((t : Task) (st : TaskState) → fate (with_state t st) ≡ fate t)
    → settle_from [] (kept (map fate (settle_from [] ts)) (settle_from [] ts) ++ us) ≡ settle_from [] (kept (map fate ts) ts ++ us)
settle_kept fate ts us blind =
    rw (
      ← (settle_unstated [] (kept (map fate (settle_from [] ts)) (settle_from [] ts) ++ us)),
      ← (settle_unstated [] (kept (map fate ts) ts ++ us)),
      map-append unstated (kept (map fate (settle_from [] ts)) (settle_from [] ts)) us,
      map-append unstated (kept (map fate ts) ts) us,
      map_kept unstated (map fate (settle_from [] ts)) (settle_from [] ts),
      map_kept unstated (map fate ts) ts,
      map_restate fate blind None None ts,
      map_restate unstated (λ t st. refl) None None ts,
    )

-- A command comes in -----------------------------------------------------------------------------------------------------------------------

module _ (p : Policy) (run : ℕ) (ts : List Task) (n g : ℕ) (x : Attribute) where
  abbrev entry : Entry
  entry = record { nexus = n; asked = Some x; naca = false; exempt = true; tag = g }

  pub comes_by :
      ltb n nexuses ≡ true → is_aca x ≡ false → any (same n g) ts ≡ false → length ts < places
      → ruling (table p run ts) (exempt_command n g x) ≡ Changes Done (accepting (table p run ts).header entry)
  unfolding ruling rule_for enter
  comes_by l a f m =
      rw (
        l,
        any_restate (same n g) (λ t st. refl) None None ts,
        f,
        a,
        lt-leb places (length (settle_from [] ts)) (omega (arith, length_restate None None ts)),
      )

  pub table_comes :
      ruled (table p run ts) (Changes Done (accepting (table p run ts).header entry)) ≡ table p run (ts ++ task n g x ∷ [])
  unfolding new_task
  table_comes = rw (settle_kept (fate_of Nobody) ts (task n g x ∷ []) (λ t st. refl), kept_everyone ts)

-- The named task ends ----------------------------------------------------------------------------------------------------------------------

module _
    (p : Policy) (run : ℕ) (pre : List Task) (u : Task) (post : List Task) (apart : distinct (settle_from [] (pre ++ u ∷ post)) ≡ true) where
  pub goes_by :
      whose_turn None run (settle_from [] (pre ++ u ∷ post)) ≡ Some (with_state u Enabled) → ltb u.nexus nexuses ≡ true
      → ruling (table p run (pre ++ u ∷ post)) (Completion u.nexus u.tag Good)
      ≡ Changes Done (finish (table p run (pre ++ u ∷ post)).header Good (with_state u Enabled) true)
  unfolding ruling rule_for complete
  goes_by m l =
      rw (
        l,
        named_found None run u.nexus u.tag (settle_from [] (pre ++ u ∷ post)) (with_state u Enabled) apart m
            (rw (eq-eqb u.nexus u.nexus refl, eq-eqb u.tag u.tag refl)),
        m,
        eq-eqb u.nexus u.nexus refl,
        eq-eqb u.tag u.tag refl,
      )

  pub table_goes :
      ruled (table p run (pre ++ u ∷ post))
      (Changes Done (finish (table p run (pre ++ u ∷ post)).header Good (with_state u Enabled) true))
      ≡ table p (run_after u.attribute run) (pre ++ post)
  table_goes =
      rw (
        settle_kept (fate_of (OneTask u.nexus u.tag 0)) (pre ++ u ∷ post) [] (λ t st. refl),
        kept_others 0 pre u post (sym (distinct_restate None None (pre ++ u ∷ post)) ∙ apart),
        append-nil (pre ++ post),
      )
