-- Parts of a block put one behind the other.
use Prim.Native.Nat.{ℕ, suc, ◌+◌, ◌*◌, ◌<◌, ◌≤◌}
use native.Mathlib.Nat.{add-zero, add-suc, suc-add, suc-mul}
use native.Mathlib.Numerals.{add-one}
use native.Mathlib.Omega.{arith}
use mathlib.Core.Path.{◌≡◌, refl, sym, ap}
use mathlib.Core.List.{List, [], ◌∷◌, ◌++◌, append_assoc, append-nil}
use borrow.Author.Tests.{ne_eqb}
use lib.ListN.{length, get_or, take, length-take}
use lib.Seq.{take-suc, length-take-le}
use Rattle.io.specs.Counts.{IsPrefixLen}
use Rattle.io.proofs.Counting.{prefix_len_of_le}
use Rattle.lines.specs.declared.Writer.{Writer}
use Rattle.lines.specs.Lines.{hex, Puts}
use Rattle.lines.proofs.PutBytes.{put_both}
use Rattle.tallies.specs.Tally.{Tally}
use Rattle.blocks.specs.Block.{figure_line, status_lines, accepted_word, ends_word, entry_word, largest_word, left_word, figures}

pub put_none : (w : Writer) → Puts w w []
put_none w = record { written = record { long = refl; ends = omega arith; text = sym (append-nil (take w.at w.buffer.now)) }; same = refl }

-- RULES 24.9: one status, counted or not
pub counted : (w : List ℕ) (s n : ℕ) → 0 < n → figure_line (w ++ hex s) n ≡ status_lines w s (n ∷ [])
unfolding status_lines
counted w s n some = rw (ne_eqb n 0 (λ e. omega arith)) (sym (append-nil (figure_line (w ++ hex s) n)))

pub not_counted : (w : List ℕ) (s n : ℕ) → n ≤ 0 → [] ≡ status_lines w s (n ∷ [])
unfolding status_lines
not_counted w s n none = let e : n ≡ 0 = omega arith in rw e

-- RULES 24.9: the statuses of a list, and those behind it
statuses_behind : (w : List ℕ) (s : ℕ) (ns ms : List ℕ) → status_lines w s (ns ++ ms) ≡ status_lines w s ns ++ status_lines w (s + length ns) ms
unfolding status_lines
statuses_behind w s [] ms = rw add-zero
statuses_behind w s (n ∷ ns) ms = rw (statuses_behind w (suc s) ns ms, append_assoc, add-suc, suc-add)

-- a loop over counts
pub statuses_begun : (w : Writer) (word counts : List ℕ) → Puts w w (status_lines word 0 (take 0 counts))
unfolding status_lines
statuses_begun w word counts = put_none w

pub statuses_step : {a b c : Writer} (word counts : List ℕ) (s : ℕ) → s < length counts → Puts a b (status_lines word 0 (take s counts))
    → Puts b c (status_lines word s (get_or counts s 0 ∷ [])) → Puts a c (status_lines word 0 (take (s + 1) counts))
statuses_step word counts s inside before one =
    let e : 0 + length (take s counts) ≡ s = omega (arith, length-take-le s counts (omega arith)) in
    rw (add-one, take-suc counts s 0 inside, statuses_behind word 0 (take s counts) (get_or counts s 0 ∷ []), e) (put_both before one)

-- the room of one line more
pub room_more : (s m : ℕ) → (s + 1) * m ≡ s * m + m
room_more s m = rw (add-one, suc-mul)

-- RULES 24.9: the lines of a block in their order
pub put_figures : {w₀ w₁ w₂ w₃ w₄ w₅ : Writer} (t : Tally) → Puts w₀ w₁ (figure_line accepted_word t.accepted) → Puts w₁ w₂ (status_lines ends_word 0 t.ends)
    → Puts w₂ w₃ (status_lines entry_word 0 t.entry) → Puts w₃ w₄ (figure_line largest_word t.largest) → Puts w₄ w₅ (figure_line left_word t.left)
    → Puts w₀ w₅ (figures t)
unfolding figures
put_figures t accepted ends entry largest left = put_both accepted (put_both ends (put_both entry (put_both largest left)))

-- what was put from the start on; b is the buffer as the writer left it
pub put_whole : {w w' : Writer} {x b : List ℕ} → Puts w w' x → w.at ≡ 0 → b ≡ w'.buffer.now → (take w'.at b ≡ x) × IsPrefixLen w'.at b
put_whole {w} {w'} p start same =
    let text = rw start at p.written.text in
    rw same (text, prefix_len_of_le w'.at w'.buffer.now (omega (arith, p.written.ends, start, length-take w'.at w'.buffer.now, ap length text)))
