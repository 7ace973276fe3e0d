-- Believed by nobody: code's own way of walking, proved equal to what the rules say (docs/TRUST.md).
-- A record as one number, for a test that compares it at once.
--
--   half_of a b c d     := four bytes as a number, the first the lowest
--   FourBytes a b c d  := they are bytes
--   IsWord r w         := w is the number of the eight bytes of r
use Rattle.std.specs.Prelude.{ℕ, ◌+◌, ◌*◌, ◌<◌, ◌≡◌, List, length, get_or}
use Rattle.octets.specs.Sizes.{untagged_size}

abbrev pub half_of : ℕ → ℕ → ℕ → ℕ → ℕ
half_of a b c d = a + b * 0x100 + c * 0x10000 + d * 0x1000000

pub record FourBytes (a b c d : ℕ) : Type 0 where
  pub first : a < 256
  pub second : b < 256
  pub third : c < 256
  pub fourth : d < 256

pub record IsWord (r : List ℕ) (w : ℕ) : Type 0 where
  pub eight : length r ≡ untagged_size
  pub value : w
      ≡ half_of (get_or r 0 0) (get_or r 1 0) (get_or r 2 0) (get_or r 3 0)
      + half_of (get_or r 4 0) (get_or r 5 0) (get_or r 6 0) (get_or r 7 0) * 0x100000000
  pub low : FourBytes (get_or r 0 0) (get_or r 1 0) (get_or r 2 0) (get_or r 3 0)
  pub high : FourBytes (get_or r 4 0) (get_or r 5 0) (get_or r 6 0) (get_or r 7 0)
