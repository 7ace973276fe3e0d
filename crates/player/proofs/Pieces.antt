-- Event bytes cut in pieces.
use Prim.Native.Nat.{ℕ, suc, ◌+◌, ◌<◌, ◌≤◌, min}
use native.Mathlib.Omega.{arith}
use borrow.Author.Tests.{ltb-true, ltb-false}
use lib.Dec.{ltb}
use Rattle.laws.proofs.Bools.{split}
use mathlib.Core.Path.{◌≡◌, refl, ◌∙◌, ap, sym}
use mathlib.Core.List.{List, [], ◌++◌, append_assoc, append-nil}
use lib.ListN.{length, take, drop, length-append, drop_of_length-le}
use lib.Seq.{take_all, take_at, drop_at}
use Rattle.std.proofs.lemmas.List.{nil_from_length}
use Rattle.io.proofs.Counting.{prefix_len_of_le}
use Rattle.records.specs.Records.{event_size}
use Rattle.records.specs.Events.{pieces}
use Rattle.operations.specs.Operations.{outcome}
use Rattle.numbers.specs.Boundary.{answered}
use Rattle.lines.specs.Lines.{line}
use Rattle.player.specs.Played.{Run, OnePlayed, PlayedAs, behind, played}

both_behind : (x y : List ℕ) (p : Run) → behind (x ++ y) p ≡ behind x (behind y p)
both_behind x y p = ap (λ (z : List ℕ). record { lines = z; table = p.table; report = p.report }) (append_assoc x y p.lines)

-- before the first piece
pub begun : {l : List ℕ} (es t r : List ℕ) → l ≡ es → behind [] (played (pieces (length l)) t r l) ≡ played (pieces (length es)) t r es
begun es t r e = rw e

-- a piece is a whole record, or all that is left
module _ (es e es' : List ℕ) (parts : es ≡ e ++ es') (size : length e ≡ min event_size (length es)) (some : 0 < length es) where
  long : length es ≡ length e + length es'
  long = ap length parts ∙ length-append e es'

  first : (take event_size es ≡ e) × (drop event_size es ≡ es')
  first =
      split (ltb (length es) event_size)
      (λ y.
      let short = ltb-true (length es) event_size y in
      let none : es' ≡ [] = nil_from_length es' (omega (arith, long, size, short)) in
      let all : es ≡ e = rw none at parts ∙ append-nil e in
      (take_all event_size es (omega (arith, short)) ∙ all, drop_of_length-le es {i = event_size} (omega (arith, short)) ∙ sym none))
      (λ y.
      let whole : length e ≡ event_size = omega (arith, size, ltb-false (length es) event_size y) in
      (ap (take event_size) parts ∙ take_at e es' event_size whole, ap (drop event_size) parts ∙ drop_at e es' event_size whole))

  pub one_less : pieces (length es) ≡ suc (pieces (length es'))
  one_less = omega (arith, long, size, some)

  next_piece : (t r : List ℕ) → played (pieces (length es)) t r es
      ≡ behind (line (answered (outcome t r e))) (played (pieces (length es')) (outcome t r e).table (outcome t r e).report es')
  unfolding played
  next_piece t r = rw (one_less, first.0, first.1) refl

  -- a loop's turn
  pub onward : (t r : List ℕ) {t' r' o o' : List ℕ} {at end : ℕ} {whole : Run} → OnePlayed (outcome t r e) o at t' r' o' end
      → behind (take at o) (played (pieces (length es)) t r es) ≡ whole → behind (take end o') (played (pieces (length es')) t' r' es') ≡ whole
  onward t r {t'} {r'} {o} {o'} {at} {end} {whole} one before =
      rw (one.table, one.report, one.text.text)
      (both_behind (take at o) (line (answered (outcome t r e))) (played (pieces (length es')) (outcome t r e).table (outcome t r e).report es')
      ∙ ap (behind (take at o)) (sym (next_piece t r)) ∙ before)

-- and its end; b is the buffer as the writer left it
pub ended : {t r o b : List ℕ} {at : ℕ} {whole : Run} (es : List ℕ) → behind (take at o) (played (pieces (length es)) t r es) ≡ whole → length es ≡ 0
    → at ≤ length o → b ≡ o → PlayedAs whole t r b at
unfolding played
ended {t} {r} {o} {b} {at} {whole} es all none within same =
    let over : behind (take at o) (record { lines = []; table = t; report = r }) ≡ whole = rw (ap pieces none) at all in
    rw same
    (record {
      lines = sym (append-nil (take at o)) ∙ ap (λ (p : Run). p.lines) over;
      table = ap (λ (p : Run). p.table) over;
      report = ap (λ (p : Run). p.report) over;
      within = prefix_len_of_le at o within;
    })
