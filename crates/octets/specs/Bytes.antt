-- RULES 14.1, 14.4, 14.5 and 15.1: numbers in bytes, and the mark of a record.
--
--   flag b        := a bit as a byte
--   bit_of n d     := the bit of weight d in n
--   big_endian n f := the number whose n bytes are f 0, f 1, .., big-endian
--   bytes_of n g l := the n bytes of the number g, big-endian, and behind them l
--   tag_in r       := the tag of a task, ended or event record
--   tag_bytes g    := the bytes of a tag, which end such a record
--   is_mark a b m  := the first two bytes of a record are 54h and the mark m
--   marked r m    := the record opens with them
use Rattle.std.specs.Prelude.{ℕ, zero, suc, ◌+◌, ◌*◌, ◌/◌, ◌%◌, Bool, true, false, ◌&&◌, List, [], ◌∷◌, eqb, get_or}
use Rattle.octets.specs.Sizes.{tag_offset, tag_size}

-- RULES 14.4 and 14.5: a bit, and a bit of a byte
abbrev pub flag : Bool → ℕ
flag true = 1
flag false = 0

abbrev pub bit_of : ℕ → ℕ → Bool
bit_of n d = eqb (n / d % 2) 1

-- RULES 14.1: the first byte is the highest. How many bytes a tag has stands in Sizes alone; for two, proofs/PrintedSizes writes both out.
abbrev pub big_endian : ℕ → (ℕ → ℕ) → ℕ
big_endian zero f = 0
big_endian (suc zero) f = f 0
big_endian (suc (suc n)) f = big_endian (suc n) f * 256 + f (suc n)

-- RULES 14.1: the highest takes all that is left
abbrev pub bytes_of : ℕ → ℕ → List ℕ → List ℕ
bytes_of zero g rest = rest
bytes_of (suc zero) g rest = g ∷ rest
bytes_of (suc (suc n)) g rest = bytes_of (suc n) (g / 256) (g % 256 ∷ rest)

-- RULES 13.1 and 14.1: the tag that ends a record
abbrev pub tag_in : List ℕ → ℕ
tag_in r = big_endian tag_size (λ i. get_or r (tag_offset + i) 0)

abbrev pub tag_bytes : ℕ → List ℕ
tag_bytes g = bytes_of tag_size g []

-- RULES 15.1: the mark
abbrev pub is_mark : ℕ → ℕ → ℕ → Bool
is_mark a b m = eqb a 0x54 && eqb b m

abbrev pub marked : List ℕ → ℕ → Bool
marked r m = is_mark (get_or r 0 0) (get_or r 1 0) m
