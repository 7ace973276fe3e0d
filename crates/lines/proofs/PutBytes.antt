-- Bytes put one behind the other.
use Prim.Native.Nat.{ℕ, ◌<◌, ◌≤◌, ◌/◌, ◌%◌}
use native.Mathlib.Omega.{arith}
use mathlib.Core.Path.{◌≡◌, ◌∙◌}
use mathlib.Core.List.{List, [], ◌∷◌, ◌++◌, append_assoc}
use mathlib.Core.Logic.{◌⊎◌, inl, inr}
use borrow.Author.Tests.{lt-ltb, le-ltb}
use lib.ListN.{take, length-append}
use Rattle.numbers.specs.declared.Answered.{Answered}
use Rattle.lines.specs.declared.Writer.{Writer}
use Rattle.lines.specs.Lines.{digit, units, decimal, hex, line, Puts}

pub put_both : {a b c : Writer} {x y : List ℕ} → Puts a b x → Puts b c y → Puts a c (x ++ y)
put_both {a} {b} {c} {x} {y} v w =
    record {
      written =
          record {
            long = w.written.long ∙ v.written.long;
            ends = rw (length-append x y) (omega (arith, v.written.ends, w.written.ends));
            text = w.written.text ∙ rw v.written.text (append_assoc (take a.at a.buffer.now) x y);
          };
      same = w.same ∙ v.same;
    }

-- decimals, of one digit and of more; the hundreds are put only where there are any
pub put_digit : {w w' : Writer} (n : ℕ) → n < 10 → Puts w w' (digit n ∷ []) → Puts w w' (decimal n)
unfolding decimal
put_digit n h p = let e : n % 10 ≡ n = omega arith in rw (lt-ltb n 10 h, e) p

pub put_digits : {w₀ w₁ w₂ w₃ : Writer} (n : ℕ) → 10 ≤ n → ((100 ≤ n) × Puts w₀ w₁ (digit (n / 100) ∷ [])) ⊎ ((n < 100) × (w₀ ≡ w₁))
    → Puts w₁ w₂ (digit (n / 10 % 10) ∷ []) → Puts w₂ w₃ (units n) → Puts w₀ w₃ (decimal n)
unfolding decimal
put_digits n h (inl p) t u = rw (le-ltb n 10 h, le-ltb n 100 p.0) (put_both (put_both p.1 t) u)
put_digits n h (inr p) t u = rw (le-ltb n 10 h, lt-ltb n 100 p.0, p.1) (put_both t u)

in_order : (a : Answered)
    → (((((((decimal a.answer ++ hex a.status) ++ hex a.key) ++ hex a.code) ++ hex a.qualifier) ++ (32 ∷ [])) ++ decimal a.ended) ++ (10 ∷ []))
    ≡ line a
unfolding line
in_order a = simp append_assoc

pub put_all : {w₀ w₁ w₂ w₃ w₄ w₅ w₆ w₇ w₈ : Writer} (a : Answered) → Puts w₀ w₁ (decimal a.answer) → Puts w₁ w₂ (hex a.status) → Puts w₂ w₃ (hex a.key)
    → Puts w₃ w₄ (hex a.code) → Puts w₄ w₅ (hex a.qualifier) → Puts w₅ w₆ (32 ∷ []) → Puts w₆ w₇ (decimal a.ended) → Puts w₇ w₈ (10 ∷ []) → Puts w₀ w₈ (line a)
put_all a p₁ p₂ p₃ p₄ p₅ p₆ p₇ p₈ =
    rw (← in_order a) (put_both (put_both (put_both (put_both (put_both (put_both (put_both p₁ p₂) p₃) p₄) p₅) p₆) p₇) p₈)
