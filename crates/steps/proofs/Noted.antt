-- Who is told, done to the table of a state.
use Prim.Native.Nat.{ℕ, zero, suc, ◌+◌, ◌<◌}
use mathlib.Core.Bool.{Bool, true, false, cond, ◌&&◌, not}
use mathlib.Core.Path.{◌≡◌, refl, ap, sym, subst, ◌∙◌}
use mathlib.Core.List.{List, [], ◌∷◌, ◌++◌, map}
use native.Mathlib.Omega.{arith}
use native.Mathlib.Numerals.{add-one}
use lib.Dec.{eqb}
use lib.ListN.{length, get_or, set}
use borrow.Author.Tests.{eq-eqb, ne_eqb}
use Rattle.laws.specs.Lists.{any}
use Rattle.laws.specs.RecordsInLists.{each_record}
use Rattle.octets.specs.Sizes.{nexus_size}
use Rattle.rules.specs.Tasks.{nexuses, of_nexus}
use Rattle.rules.specs.Bits.{no_pending, without, after_power_on, after_hard_reset, after_unit_reset, after_nexus_loss, after_cleared}
use Rattle.rules.specs.Rulings.{State, tell_losers_from, noted}
use Rattle.records.specs.Records.{header_bytes, nexus_bytes}
use Rattle.records.specs.Tables.{nexus_records, task_records, table_with}
use Rattle.records.proofs.Values.{pending_back}
use Rattle.rules.specs.Types.{Task, Pending, Bit, Notice, Quiet, Reported, OthersLost, ReportedAndOthersLost, NexusLost, UnitWasReset, HardWasReset, PowerCameOn}
use Rattle.steps.specs.Steps.{noted_one, noted_record, next_place, noted_bytes}
use Rattle.steps.proofs.StepTables.{with_pending}

-- nexus i and above
noted_from : Notice → List Task → ℕ → List Pending → List Pending
noted_from k ls i [] = []
noted_from k ls i (p ∷ ps) = noted_one k i (any (of_nexus i) ls) p ∷ noted_from k ls (suc i) ps

noted_written :
    (cs : ℕ → ℕ) (k : Notice) (ls : List Task) (i : ℕ) (ps : List Pending) (rest : List ℕ)
    → each_record nexus_size (noted_record k ls) next_place i (length ps) (nexus_records cs i ps ++ rest) ≡ nexus_records cs i (noted_from k ls i ps) ++ rest
unfolding each_record nexus_records noted_from
noted_written cs k ls i [] rest = refl
noted_written cs k ls i (p ∷ ps) rest =
    rw (pending_back p, add-one)
    (ap (λ (z : List ℕ). nexus_bytes i (noted_one k i (any (of_nexus i) ls) p) (cs i) ++ z) (noted_written cs k ls (suc i) ps rest))

-- one nexus alone
one_at : (Pending → Pending) → ℕ → ℕ → List Pending → List Pending
one_at f n i [] = []
one_at f n i (p ∷ ps) = cond (eqb i n) (f p) p ∷ one_at f n (suc i) ps

one_past : (f : Pending → Pending) (n i : ℕ) (ps : List Pending) → n < i → one_at f n i ps ≡ ps
unfolding one_at
one_past f n i [] h = refl
one_past f n i (p ∷ ps) h = rw (ne_eqb i n (λ e. omega arith)) (ap (λ (l : List Pending). p ∷ l) (one_past f n (suc i) ps (omega arith)))

one_set : (f : Pending → Pending) (i m : ℕ) (ps : List Pending) → one_at f (i + m) i ps ≡ set ps m (f (get_or ps m no_pending))
unfolding one_at
one_set f i m [] = refl
one_set f i zero (p ∷ ps) =
    rw (eq-eqb i (i + 0) (omega arith)) (ap (λ (l : List Pending). f p ∷ l) (one_past f (i + 0) (suc i) ps (omega arith)))
one_set f i (suc m) (p ∷ ps) =
    let z : i + suc m ≡ suc i + m = omega arith in
    subst (λ (n : ℕ). one_at f n i (p ∷ ps) ≡ p ∷ set ps m (f (get_or ps m no_pending))) (sym z)
    (rw (ne_eqb i (suc i + m) (λ e. omega arith)) (ap (λ (l : List Pending). p ∷ l) (one_set f (suc i) m ps)))

from_one : (f : Pending → Pending) (k : Notice) (n : ℕ) (ls : List Task) (i : ℕ) (ps : List Pending)
    → ((i : ℕ) (b : Bool) (p : Pending) → noted_one k i b p ≡ cond (eqb i n) (f p) p) → noted_from k ls i ps ≡ one_at f n i ps
unfolding noted_from one_at
from_one f k n ls i [] h = refl
from_one f k n ls i (p ∷ ps) h = rw (h i (any (of_nexus i) ls) p, from_one f k n ls (suc i) ps h)

from_all : (f : Pending → Pending) (k : Notice) (ls : List Task) (i : ℕ) (ps : List Pending)
    → ((i : ℕ) (b : Bool) (p : Pending) → noted_one k i b p ≡ f p) → noted_from k ls i ps ≡ map f ps
unfolding noted_from
from_all f k ls i [] h = refl
from_all f k ls i (p ∷ ps) h = rw (h i (any (of_nexus i) ls) p, from_all f k ls (suc i) ps h)

from_none : (k : Notice) (ls : List Task) (i : ℕ) (ps : List Pending)
    → ((i : ℕ) (b : Bool) (p : Pending) → noted_one k i b p ≡ p) → noted_from k ls i ps ≡ ps
unfolding noted_from
from_none k ls i [] h = refl
from_none k ls i (p ∷ ps) h = rw (h i (any (of_nexus i) ls) p, from_none k ls (suc i) ps h)

-- one nexus, and then those that lost tasks
from_both : (b : Bit) (n : ℕ) (ls : List Task) (i : ℕ) (ps : List Pending)
    → noted_from (ReportedAndOthersLost n b) ls i ps ≡ tell_losers_from i n ls (one_at (without b) n i ps)
unfolding noted_from one_at
from_both b n ls i [] = refl
from_both b n ls i (p ∷ ps) = rw (go (eqb i n), from_both b n ls (suc i) ps)
  where
    go :
        (own : Bool)
        → cond own (without b p) (cond (any (of_nexus i) ls) (after_cleared p) p)
        ≡ cond (not own && any (of_nexus i) ls) (after_cleared (cond own (without b p) p)) (cond own (without b p) p)
    go true = refl
    go false = refl

from_losers : (n : ℕ) (ls : List Task) (i : ℕ) (ps : List Pending) → noted_from (OthersLost n) ls i ps ≡ tell_losers_from i n ls ps
unfolding noted_from
from_losers n ls i [] = refl
from_losers n ls i (p ∷ ps) =
    ap (λ (l : List Pending). cond (not (eqb i n) && any (of_nexus i) ls) (after_cleared p) p ∷ l) (from_losers n ls (suc i) ps)

one_noted : (f : Pending → Pending) (n : ℕ) (ps : List Pending) → one_at f n 0 ps ≡ set ps n (f (get_or ps n no_pending))
one_noted f n ps = rw (let z : 0 + n ≡ n = omega arith in z) at (one_set f 0 n ps)

noted_is : (k : Notice) (ls : List Task) (ps : List Pending) → noted_from k ls 0 ps ≡ noted k ls ps
noted_is Quiet ls ps = from_none Quiet ls 0 ps (λ i b p. refl)
noted_is (Reported n b) ls ps = from_one (without b) (Reported n b) n ls 0 ps (λ i l p. refl) ∙ one_noted (without b) n ps
noted_is (OthersLost n) ls ps = from_losers n ls 0 ps
noted_is (ReportedAndOthersLost n b) ls ps = from_both b n ls 0 ps ∙ ap (tell_losers_from 0 n ls) (one_noted (without b) n ps)
noted_is (NexusLost n) ls ps = from_one after_nexus_loss (NexusLost n) n ls 0 ps (λ i l p. refl) ∙ one_noted after_nexus_loss n ps
noted_is UnitWasReset ls ps = from_all after_unit_reset UnitWasReset ls 0 ps (λ i b p. refl)
noted_is HardWasReset ls ps = from_all after_hard_reset HardWasReset ls 0 ps (λ i b p. refl)
noted_is PowerCameOn ls ps = from_all after_power_on PowerCameOn ls 0 ps (λ i b p. refl)

pub noted_table :
    (cs : ℕ → ℕ) (s : State) (k : Notice) (ls : List Task) → length s.pending ≡ nexuses
    → noted_bytes k ls (table_with cs s) ≡ table_with cs (with_pending s (noted k ls s.pending))
unfolding noted_bytes table_with
noted_table cs s k ls eight =
    ap (λ (l : List ℕ). header_bytes s.header ++ l)
    (ap (λ (n : ℕ). each_record nexus_size (noted_record k ls) next_place 0 n (nexus_records cs 0 s.pending ++ task_records s.tasks)) (sym eight)
    ∙ noted_written cs k ls 0 s.pending (task_records s.tasks)
    ∙ ap (λ (ps : List Pending). nexus_records cs 0 ps ++ task_records s.tasks) (noted_is k ls s.pending))
