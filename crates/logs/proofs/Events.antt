-- The events of a log, cut anywhere.
use Rattle.std.specs.Prelude.{None}
use Prim.Native.Nat.{ℕ, zero, suc, ◌+◌, ◌*◌, ◌<◌, ◌≤◌}
use native.Mathlib.Omega.{arith}
use mathlib.Core.Path.{◌≡◌, refl, ◌∙◌, ap, sym}
use mathlib.Core.List.{List, [], ◌++◌, append_assoc, append-nil}
use lib.Dec.{eqb}
use lib.ListN.{length, take, drop, length-append, length-take, length-drop}
use lib.Seq.{drop-drop, take-append-le, drop-append-le}
use borrow.Author.Tests.{ne_eqb, eqb-true, eqb-false}
use Rattle.laws.proofs.Bools.{split}
use Rattle.rules.specs.Types.{Event}
use Rattle.records.specs.Records.{event_size}
use Rattle.records.specs.Events.{event_of, pieces}
use Rattle.demands.specs.Calls.{read_in}
use Rattle.tallies.specs.Tally.{events_from, events_of}
use Rattle.logs.specs.SoFar.{wholes, rest}

short_event : (e : List ℕ) → length e < event_size → event_of e ≡ None
unfolding event_of
short_event e h = rw (ne_eqb (length e) event_size (λ q. omega arith)) refl

pub events_add : (a b : ℕ) (l : List ℕ) → events_from (a + b) l ≡ events_from a l ++ events_from b (drop (event_size * a) l)
unfolding events_from
events_add zero b l = let z : 0 + b ≡ b = omega arith in rw z refl
events_add (suc a) b l =
    let z : suc a + b ≡ suc (a + b) = omega arith in
    let m : event_size * suc a ≡ event_size + event_size * a = omega arith in
    rw (z, m, ← drop-drop (event_size * a) event_size l)
    (ap (λ (es : List Event). read_in (event_of (take event_size l)) ++ es) (events_add a b (drop event_size l))
    ∙ sym (append_assoc (read_in (event_of (take event_size l))) (events_from a (drop event_size l)) (events_from b (drop (event_size * a) (drop event_size l)))))

-- whole records are the same, whatever comes behind them
events_front : (n : ℕ) (l m : List ℕ) → event_size * n ≤ length l → events_from n (l ++ m) ≡ events_from n l
unfolding events_from
events_front zero l m h = refl
events_front (suc n) l m h =
    rw (take-append-le event_size l m (omega arith), drop-append-le event_size l m (omega arith))
    (ap (λ (es : List Event). read_in (event_of (take event_size l)) ++ es) (events_front n (drop event_size l) m (omega (arith, length-drop event_size l))))

none_behind : (l : List ℕ) → length l < event_size → events_from 1 l ≡ []
unfolding events_from
none_behind l h = rw (short_event (take event_size l) (omega (arith, length-take event_size l))) refl

-- a short last piece adds nothing
events_wholes : (l : List ℕ) → events_of l ≡ events_from (wholes l) l
events_wholes l =
    split (eqb (pieces (length l)) (wholes l)) (λ y. rw (eqb-true (pieces (length l)) (wholes l) y) refl)
    (λ y.
    let other : (pieces (length l) ≡ wholes l → ⊥) = eqb-false (pieces (length l)) (wholes l) y in
    let k : pieces (length l) ≡ wholes l + 1 = omega (arith, other) in
    rw k (events_add (wholes l) 1 l ∙ rw (none_behind (rest l) (omega (arith, length-drop (event_size * wholes l) l))) (append-nil (events_from (wholes l) l))))

-- what is carried on, and what comes behind it, are the records that follow
pub events_onward : (l s : List ℕ) → events_of (l ++ s) ≡ events_of l ++ events_from (wholes (rest l ++ s)) (rest l ++ s)
events_onward l s =
    let m = length-append l s in
    let r = length-append (rest l) s in
    let d = length-drop (event_size * wholes l) l in
    let k : wholes (l ++ s) ≡ wholes l + wholes (rest l ++ s) = omega (arith, m, r, d) in
    events_wholes (l ++ s)
    ∙ rw (k, events_add (wholes l) (wholes (rest l ++ s)) (l ++ s), events_front (wholes l) l s (omega arith), drop-append-le (event_size * wholes l) l s (omega arith))
    (ap (λ (es : List Event). es ++ events_from (wholes (rest l ++ s)) (rest l ++ s)) (sym (events_wholes l)))

pub rest_onward : (l s : List ℕ) → rest (l ++ s) ≡ rest (rest l ++ s)
rest_onward l s =
    let m = length-append l s in
    let r = length-append (rest l) s in
    let d = length-drop (event_size * wholes l) l in
    let k : event_size * wholes (l ++ s) ≡ event_size * wholes l + event_size * wholes (rest l ++ s) = omega (arith, m, r, d) in
    rw (k, ← drop-drop (event_size * wholes (rest l ++ s)) (event_size * wholes l) (l ++ s), drop-append-le (event_size * wholes l) l s (omega arith)) refl
