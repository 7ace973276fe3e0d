-- While no ACA is in effect, a table with tasks has a turn: somebody is named, and the completion of that task is answered 0.
use Rattle.std.specs.Prelude.{Some}
use Prim.Native.Nat.{ℕ, ◌≤◌}
use mathlib.Core.Path.{◌≡◌, refl, ap, ◌∙◌}
use mathlib.Core.Bool.{Bool, true, ◌&&◌}
use mathlib.Core.List.{List}
use lib.ListN.{get_or, replicate, length-replicate}
use borrow.Author.Tests.{eq-eqb}
use Rattle.octets.specs.Sizes.{aca_offset}
use Rattle.rules.specs.Types.{Finish, Completion}
use Rattle.records.specs.Numbers.{policy_from}
use Rattle.records.specs.Tables.{GoodTable, report_size, count_in}
use Rattle.records.specs.Events.{event_bytes}
use Rattle.records.proofs.EventsSay.{event_bytes_back}
use Rattle.operations.specs.Operations.{named}
use Rattle.numbers.specs.Boundary.{turn_for}
use Rattle.demands.specs.Calls.{table_by, opened}
use Rattle.demands.specs.Seen.{kind_of, is_named_by, is_turn_by}
use Rattle.demands.specs.WorstCalls.{completion_of}
use Rattle.demands.specs.Demands.{number, TurnsToHave}
use Rattle.demands.proofs.Reading.{event_reads}
use Rattle.demands.proofs.Followed.{started_opened, demand2}
use Rattle.demands.proofs.Overtaking.{somebody_is_named, named_can_complete}

four_tests : {a b c d : Bool} → a ≡ true → b ≡ true → c ≡ true → d ≡ true → a && b && c && d ≡ true
four_tests p q r s = rw (p, q, r, s)

-- on every good table, reached or not
pub has_turn :
    (t : List ℕ) (f : Finish) → GoodTable t → get_or t aca_offset 0 ≡ 0 → 1 ≤ count_in t → is_turn_by t (completion_of (turn_for (named t)) f) ≡ true
unfolding is_turn_by
has_turn t f good z n =
    let u = turn_for (named t) in
    let e = Completion u.nexus u.tag f in
    let found = somebody_is_named t good z n in
    let reads = event_reads (event_bytes e) (Some e) (event_bytes_back e) in
    let done = named_can_complete t good (replicate report_size 0) f (length-replicate {A = ℕ} report_size 0) found in
    let itself : is_named_by u (record { nexus = u.nexus; tag = u.tag }) ≡ true =
    rw (found, eq-eqb u.nexus u.nexus refl, eq-eqb u.tag u.tag refl)
    in
    four_tests (eq-eqb (get_or t aca_offset 0) 0 z) (eq-eqb (kind_of (event_bytes e)) 2 reads.0)
    (ap (is_named_by u) reads.1 ∙ itself)
    (eq-eqb (number t (replicate report_size 0) (event_bytes e)) 0 done)

pub turns_to_have : TurnsToHave
turns_to_have t c ms f q =
    rw (started_opened t c q) (has_turn (table_by (opened (policy_from c)) ms) f (demand2.well (policy_from c) ms))
