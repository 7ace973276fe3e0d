-- Each accepted command is at every moment either in the table or ended, and it ends once.
use Prim.Native.Nat.{ℕ, zero, suc, ◌+◌, ◌<◌}
use mathlib.Core.Path.{◌≡◌, refl, ap, sym, ◌∙◌}
use mathlib.Core.List.{List, [], ◌∷◌, ◌++◌, map, append_assoc, append-nil}
use mathlib.Core.Logic.{◌⊎◌, inl, inr}
use native.Mathlib.Omega.{arith}
use lib.Dec.{eqb, ltb}
use lib.ListN.{length, length-append}
use borrow.Author.Tests.{lt-ltb, le-ltb}
use Rattle.laws.specs.Lists.{one_if, count}
use Rattle.laws.proofs.Bools.{one_below_suc}
use Rattle.laws.proofs.Lists.{count_append}
use Rattle.rules.specs.Types.{Task, Event, Policy, Fate, Ruling, Keeps, Changes}
use Rattle.rules.specs.Rulings.{fresh, kept, lost, fate_of, newcomers, fates_of}
use Rattle.rules.specs.Rules.{ruling}
use Rattle.rules.proofs.FreshSet.{fresh_tasks}
use Rattle.rules.proofs.Fates.{count_split, length_kept, length_split}
use Rattle.rules.proofs.Distinct.{length_restate}
use Rattle.history.specs.History.{Past, begin, serials_from, advance_by, advance, play, after, in_table, has_ended}

length_serials : (n : ℕ) (ts : List Task) → length (serials_from n ts) ≡ length ts
length_serials n [] = refl
length_serials n (t ∷ ts) = ap suc (length_serials (suc n) ts)

count_serials :
    (k n : ℕ) (ts : List Task) → count (eqb k) (serials_from n ts) + one_if (ltb k n) ≡ one_if (ltb k (n + length ts))
count_serials k n [] = rw (let z : n + 0 ≡ n = omega arith in z) (omega arith)
count_serials k n (t ∷ ts) =
    rw (let z : n + suc (length ts) ≡ suc n + length ts = omega arith in z)
    (omega (arith, count_serials k (suc n) ts, one_below_suc k n))

pub record Conserved (h : Past) : Type 0 where
  -- a serial number for each task of the table
  pub aligned : length h.present ≡ length h.state.tasks
  -- in the table or ended: once, for those accepted
  pub once : (k : ℕ) → in_table h k + has_ended h k ≡ one_if (ltb k (length h.roll))

once_by :
    (h : Past) (fs : List Fate) (js : List Task) → Conserved h → (k : ℕ)
    → count (eqb k) (kept fs h.present ++ serials_from (length h.roll) js) + count (eqb k) (h.departed ++ lost fs h.present)
    ≡ one_if (ltb k (length (h.roll ++ js)))
once_by h fs js i k =
    rw (length-append h.roll js)
    (simp count_append (omega (arith, count_split (eqb k) fs h.present, count_serials k (length h.roll) js, i.once k)))

conserved_by : (h : Past) (r : Ruling) → Conserved h → Conserved (advance_by h r)
conserved_by h (Keeps a) i =
    record { aligned = simp length-append (omega (arith, i.aligned)); once = once_by h [] [] i }
conserved_by h (Changes a c) i =
    record {
      aligned =
          simp (length_restate, length-append, length_serials)
          (omega (arith, length_kept (map (fate_of c.sweep) h.state.tasks) h.present h.state.tasks i.aligned));
      once = once_by h (map (fate_of c.sweep) h.state.tasks) (newcomers c.joins) i;
    }

pub conserved_advance : (h : Past) (e : Event) → Conserved h → Conserved (advance h e)
unfolding advance
conserved_advance h e i = conserved_by h (ruling h.state e) i

pub conserved_play : (h : Past) (es : List Event) → Conserved h → Conserved (play h es)
conserved_play h [] i = i
conserved_play h (e ∷ es) i = conserved_play (advance h e) es (conserved_advance h e i)

conserved_fresh : (p : Policy) → Conserved (begin (fresh p))
conserved_fresh p = record { aligned = ap length (sym (fresh_tasks p)); once = λ k. rw (le-ltb k 0 (omega arith)) refl }

pub conserved : (p : Policy) (es : List Event) → Conserved (after p es)
conserved p es = conserved_play (begin (fresh p)) es (conserved_fresh p)

-- each accepted command is in the table and has not ended, or is not in the table and has ended, once
pub exactly_one :
    (p : Policy) (es : List Event) (k : ℕ) → k < length (after p es).roll
    → ((in_table (after p es) k ≡ 1) × (has_ended (after p es) k ≡ 0))
    ⊎ ((in_table (after p es) k ≡ 0) × (has_ended (after p es) k ≡ 1))
exactly_one p es k l =
    go (in_table (after p es) k) (has_ended (after p es) k)
    (rw (lt-ltb k (length (after p es).roll) l) at ((conserved p es).once k))
  where
    go : (a b : ℕ) → a + b ≡ 1 → ((a ≡ 1) × (b ≡ 0)) ⊎ ((a ≡ 0) × (b ≡ 1))
    go zero b e = inr (omega arith)
    go (suc a) b e = inl (omega arith)

-- an end is never taken back
pub ended_grows : (h : Past) (es : List Event) → (more : List ℕ) × ((play h es).departed ≡ h.departed ++ more)
unfolding advance
ended_grows h [] = ([], sym (append-nil h.departed))
ended_grows h (e ∷ es) =
    let r = ended_grows (advance h e) es in
    let l = lost (fates_of h.state (ruling h.state e)) h.present in
    (l ++ r.0, r.1 ∙ append_assoc h.departed l r.0)

total_play :
    (h : Past) (es : List Event) → length h.roll ≡ length h.present + length h.departed
    → length (play h es).roll ≡ length (play h es).present + length (play h es).departed
unfolding advance
total_play h [] e = e
total_play h (x ∷ xs) e =
    total_play (advance h x) xs
    (simp (length-append, length_serials)
    (omega (arith, length_split (fates_of h.state (ruling h.state x)) h.present, e)))

-- accepted is in the table and ended
pub total :
    (p : Policy) (es : List Event)
    → length (after p es).roll ≡ length (after p es).state.tasks + length (after p es).departed
total p es = omega (arith, total_play (begin (fresh p)) es refl, (conserved p es).aligned)
