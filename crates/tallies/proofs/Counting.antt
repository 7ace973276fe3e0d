-- The counters' own laws: lengths, and the loops' steps.
use Prim.Native.Nat.{ℕ, suc, ◌+◌, ◌<◌, ◌≤◌}
use native.Mathlib.Omega.{arith}
use mathlib.Core.Path.{◌≡◌, refl, ◌∙◌, ap, sym}
use mathlib.Core.List.{List, ◌++◌, append-nil}
use lib.ListN.{length, get_or, take, drop, set, length-set, get_or-append, drop_of_length-le}
use lib.Seq.{drop_at, drop-cons, take-suc-set, drop-set-lt, append_snoc, take_all}
use Rattle.octets.specs.Sizes.{status_offset}
use Rattle.records.specs.Records.{ended_size}
use Rattle.numbers.specs.declared.Answered.{Answered}
use Rattle.tallies.specs.Counters.{once_more, count_ends, count_entry, count_accepted, count_left, count_largest, count_event, both_at, add_counters}

pub length_once_more : (k : ℕ) (c : List ℕ) → length (once_more k c) ≡ length c
unfolding once_more
length_once_more k c = length-set c k _

-- a loop's turn: the next record, and those behind it
pub count_ends_step : (n m : ℕ) (l r rest c c' : List ℕ) → m + 1 ≡ n → l ≡ r ++ rest → length r ≡ ended_size → c' ≡ once_more (get_or r status_offset 0) c
    → count_ends m rest c' ≡ count_ends n l c
unfolding count_ends
count_ends_step n m l r rest c c' k e h f =
    let s : n ≡ suc m = omega arith in
    rw (s, e, f, drop_at r rest ended_size h, get_or-append r rest 0 status_offset (omega arith)) refl

pub count_ends_done : (n : ℕ) (l c : List ℕ) → n ≡ 0 → count_ends n l c ≡ c
unfolding count_ends
count_ends_done n l c e = rw e refl

pub event_counted :
    (c : List ℕ) {c₁ c₂ c₃ c₄ c₅ : List ℕ} (r : List ℕ) (kind n : ℕ) (a : Answered) → c₁ ≡ count_ends a.ended r c → c₂ ≡ count_entry a.answer a.status c₁
    → c₃ ≡ count_accepted kind a.answer c₂ → c₄ ≡ count_left n c₃ → c₅ ≡ count_largest c₄ → c₅ ≡ count_event a kind r n c
unfolding count_event
event_counted c r kind n a e f g h k =
    k ∙ ap count_largest (h ∙ ap (count_left n) (g ∙ ap (count_accepted kind a.answer) (f ∙ ap (count_entry a.answer a.status) e)))

-- Logs together ----------------------------------------------------------------------------------------------------------------------------

pub add_step : (i v : ℕ) (a b : List ℕ) → i < length a → i < length b → v ≡ both_at i (get_or a i 0) (get_or b i 0)
    → take i a ++ add_counters i (drop i a) (drop i b) ≡ take (i + 1) (set a i v) ++ add_counters (i + 1) (drop (i + 1) (set a i v)) (drop (i + 1) b)
unfolding add_counters
add_step i v a b h k e =
    let s : i + 1 ≡ suc i = omega arith in
    rw (s, drop-cons a i 0 h, drop-cons b i 0 k, take-suc-set a i v h, drop-set-lt (suc i) a i v (omega arith), e)
    (sym (append_snoc (take i a) (both_at i (get_or a i 0) (get_or b i 0)) (add_counters (suc i) (drop (suc i) a) (drop (suc i) b))))

pub add_done : (i : ℕ) (a b : List ℕ) → length a ≤ i → take i a ++ add_counters i (drop i a) (drop i b) ≡ a
unfolding add_counters
add_done i a b h = rw (drop_of_length-le a h) (append-nil (take i a) ∙ take_all i a h)
