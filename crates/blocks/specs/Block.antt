-- RULES 24.9 and 24.10: a block of totals as bytes.
--
--   numeral n            := n in decimal, without leading zeros
--   figure_line w n       := a line of w, a space and n
--   status_lines w s ns   := a line of w, the status byte and n for each n of ns that is not 0; the first n is that of the status s
--   figures t            := the lines below a heading
--   name_line w name      := a line of w, a space and the name
--   log_block name t, all_block t, unreadable name := what stands for a log, for all of them, for one that cannot be read
use Rattle.std.specs.Prelude.{ℕ, zero, suc, ◌/◌, ◌%◌, cond, List, [], ◌∷◌, ◌++◌, eqb, ltb}
use Rattle.lines.specs.Lines.{digit, hex}
use Rattle.tallies.specs.Tally.{Tally}

-- RULES 24.9: decimal without leading zeros; 20 digits hold every number below 2^64
unfoldable pub numeral_in : ℕ → ℕ → List ℕ
numeral_in zero n = []
numeral_in (suc k) n = cond (ltb n 10) [] (numeral_in k (n / 10)) ++ (digit (n % 10) ∷ [])

abbrev pub numeral : ℕ → List ℕ
numeral n = numeral_in 20 n

-- RULES 24.9: a line of figures
unfoldable pub figure_line : List ℕ → ℕ → List ℕ
figure_line w n = w ++ (32 ∷ (numeral n ++ (10 ∷ [])))

-- RULES 24.9: statuses in rising order, those with no count left out
unfoldable pub status_lines : List ℕ → ℕ → List ℕ → List ℕ
status_lines w s [] = []
status_lines w s (n ∷ ns) = cond (eqb n 0) [] (figure_line (w ++ hex s) n) ++ status_lines w (suc s) ns

-- RULES 24.9: accepted, ends, entry, largest, left
abbrev pub accepted_word : List ℕ
accepted_word = 97 ∷ 99 ∷ 99 ∷ 101 ∷ 112 ∷ 116 ∷ 101 ∷ 100 ∷ []

abbrev pub ends_word : List ℕ
ends_word = 101 ∷ 110 ∷ 100 ∷ 115 ∷ []

abbrev pub entry_word : List ℕ
entry_word = 101 ∷ 110 ∷ 116 ∷ 114 ∷ 121 ∷ []

abbrev pub largest_word : List ℕ
largest_word = 108 ∷ 97 ∷ 114 ∷ 103 ∷ 101 ∷ 115 ∷ 116 ∷ []

abbrev pub left_word : List ℕ
left_word = 108 ∷ 101 ∷ 102 ∷ 116 ∷ []

-- RULES 24.9: in this order
unfoldable pub figures : Tally → List ℕ
figures t =
    figure_line accepted_word t.accepted
    ++ (status_lines ends_word 0 t.ends
    ++ (status_lines entry_word 0 t.entry ++ (figure_line largest_word t.largest ++ figure_line left_word t.left)))

-- RULES 24.9: log, and RULES 24.10: all, unreadable
abbrev pub log_word : List ℕ
log_word = 108 ∷ 111 ∷ 103 ∷ []

abbrev pub all_word : List ℕ
all_word = 97 ∷ 108 ∷ 108 ∷ []

abbrev pub unreadable_word : List ℕ
unreadable_word = 117 ∷ 110 ∷ 114 ∷ 101 ∷ 97 ∷ 100 ∷ 97 ∷ 98 ∷ 108 ∷ 101 ∷ []

-- RULES 24.9: the name as given
abbrev pub name_line : List ℕ → List ℕ → List ℕ
name_line w name = w ++ (32 ∷ (name ++ (10 ∷ [])))

-- RULES 24.9
unfoldable pub log_block : List ℕ → Tally → List ℕ
log_block name t = name_line log_word name ++ figures t

-- RULES 24.10
unfoldable pub all_block : Tally → List ℕ
all_block t = (all_word ++ (10 ∷ [])) ++ figures t

-- RULES 24.10
abbrev pub unreadable : List ℕ → List ℕ
unreadable name = name_line unreadable_word name
